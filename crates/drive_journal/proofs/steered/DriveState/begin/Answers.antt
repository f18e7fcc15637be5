use Rattle.std.proofs.Common.{rules, [], refl}
use Rattle.drive_journal.specs.declared.steering.Steering.TheVariants as steering
use Rattle.drive_journal.specs.Steering.{Steers}
use Rattle.drive_journal.proofs.Counting.{counts-other}
use Rattle.drive_journal.proofs.Growing.{goes-held, no-report, begins-on}
use Rattle.drive_journal.proofs.steered.DriveState.begin.Goals as goal

pub invariant_of-self-2 : goal.invariant_of-self-2
invariant_of-self-2 g c =
    let s : Steers c.self.inside.coordinator steering.Begin c.begin.new.self = search rules in
    goes-held g.E.Link.named g.E.Link.faults g.E.Link.received g.Q.Receipt.stamped g.L.DriveName.start c.self.inside.coordinator c.begin.new.self c.self.inside.journal.items c.reserve.new.self.items c.push_reserved.new.self.items
    c.self.inside.receipts.items c.self.inside.receipts.items c.self.inside.ends.items c.self.inside.told.items c.self.inside.told.items steering.Begin
    c.self.invariant c.reserve.ensures.items c.push_reserved.ensures.items (no-report g.Q.Receipt.stamped c.self.inside.receipts.items [] refl)
    s (begins-on c.self.inside.coordinator c.begin.new.self s)
    (counts-other c.self.inside.journal.items c.self.inside.told.items steering.Begin c.self.invariant.1 (λ s. refl)) refl tt
