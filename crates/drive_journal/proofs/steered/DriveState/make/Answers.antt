use Rattle.std.proofs.Common.{rules, ◌≡◌, ◌∙◌, ap, length, replicate}
use Rattle.update_coordinator.specs.Controls.{Control}
use Rattle.drive_journal.proofs.Growing.{begins-held}
use Rattle.drive_journal.proofs.steered.DriveState.make.Goals as goal

pub invariant_of-result : goal.invariant_of-result
invariant_of-result g c =
    let none : c.in_ok-told.told.items ≡ replicate c.switch_count-count.result 0 = search rules in
    begins-held g.E.Link.named g.E.Link.faults g.E.Link.received g.Q.Receipt.stamped g.L.DriveName.start c.args.coordinator c.new.result.items c.new-2.result.items c.new-3.result.items c.in_ok-told.told.items c.switch_count-count.result
    c.requires.start c.requires.runs c.requires.losses c.new.ensures.items c.new-2.ensures.items c.new-3.ensures.items none
    (c.switch_count-count.ensures ∙ ap (λ (x : Control). length x.peers) c.requires.start)
