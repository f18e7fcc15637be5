use Rattle.std.proofs.Common.{◌∙◌}
use Rattle.drive_journal.proofs.Echoing.{none-held}
use Rattle.drive_journal.proofs.drive.Drive.new.Goals as goal

pub invariant_of-result : goal.invariant_of-result
invariant_of-result g c =
    let h = none-held c.switch_count-count.result _ c.in_ok-echoes.ensures in
    (h.0, h.1 ∙ c.switch_count-count.ensures.start)
