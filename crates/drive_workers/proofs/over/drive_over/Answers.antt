use Rattle.std.proofs.Common.{◌∙◌, ap, subst}
use Rattle.outside_io.specs.Causes.{Rose}
use Rattle.drive_workers.proofs.Driving.{driven}
use Rattle.drive_workers.proofs.over.drive_over.Goals as goal

pub returns-in-Ok-run_drive-clause-driven : goal.returns-in-Ok-run_drive-clause-driven
returns-in-Ok-run_drive-clause-driven g c =
    driven g.N.End.Link.named g.N.End.Link.faults g.N.End.Link.received g.Q.Receipt.Receipt.stamped c.args.coordinator c.in-Ok-run_drive.coordinator c.in-Ok-run_drive.journal.items c.in-Ok-run_drive._reports.items c.in-Ok-run_drive.kept.items
    (g.N.Net.broken c.args.host.now.net) (g.N.Net.broken c.take_back.new.net)
    c.a_lost_session_is_last.ensures c.requires.losses c.in-Ok-run_drive.ensures.journal c.in-Ok-run_drive.ensures.writable c.in-Ok-run_drive.ensures.over
    (λ e i f. subst (λ n. Rose n (g.N.Net.broken c.take_back.new.net)) (ap g.N.Net.broken c.run_drive.ensures.net ∙ c.in-Ok-meet_ends.ensures.broken) (c.take_back.ensures.broken e i f))
