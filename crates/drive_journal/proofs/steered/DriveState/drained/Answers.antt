use Rattle.std.proofs.Common.{rules, ◌≡◌, refl}
use Rattle.drive_journal.specs.declared.steering.Steering.TheVariants as steering
use Rattle.drive_journal.specs.Steering.{Steers}
use Rattle.drive_journal.proofs.Counting.{counts-other}
use Rattle.drive_journal.proofs.Growing.{same-held, goes-held, one-report, drains-on}
use Rattle.drive_journal.proofs.steered.DriveState.drained.Goals as goal

pub invariant_of-self-in_default-drained : goal.invariant_of-self-in_default-drained
invariant_of-self-in_default-drained g c =
    let same : c.drained.new.self ≡ c.self.inside.coordinator = search rules in
    same-held g.E.Link.named g.E.Link.faults g.E.Link.received g.Q.Receipt.stamped g.L.DriveName.start c.self.inside.coordinator c.drained.new.self c.self.inside.journal.items c.reserve.new.self.items
    c.self.inside.receipts.items c.reserve-2.new.self.items c.self.inside.ends.items c.self.inside.ends.items c.self.inside.told.items
    c.self.invariant same c.reserve.ensures.items c.reserve-2.ensures.items refl

pub invariant_of-self-2 : goal.invariant_of-self-2
invariant_of-self-2 g c =
    let s : Steers c.self.inside.coordinator (steering.Drained c.stamp-stamp.result) c.drained.new.self = search rules in
    goes-held g.E.Link.named g.E.Link.faults g.E.Link.received g.Q.Receipt.stamped g.L.DriveName.start c.self.inside.coordinator c.drained.new.self c.self.inside.journal.items c.reserve.new.self.items c.push_reserved.new.self.items
    c.self.inside.receipts.items c.push_reserved-2.new.self.items c.self.inside.ends.items c.self.inside.told.items c.self.inside.told.items (steering.Drained c.stamp-stamp.result)
    c.self.invariant c.reserve.ensures.items c.push_reserved.ensures.items
    (rw c.stamp-stamp.ensures (one-report g.Q.Receipt.stamped c.self.inside.receipts.items c.reserve-2.new.self.items c.push_reserved-2.new.self.items c.args.receipt c.reserve-2.ensures.items c.push_reserved-2.ensures.items))
    s (drains-on c.self.inside.coordinator c.stamp-stamp.result c.drained.new.self s)
    (counts-other c.self.inside.journal.items c.self.inside.told.items (steering.Drained c.stamp-stamp.result) c.self.invariant.1 (λ s. refl)) refl tt
