use Rattle.std.proofs.Common.{rules, [], refl}
use Rattle.openflow_wire.specs.Writing.{Fits}
use Rattle.drive_journal.specs.declared.steering.Steering.TheVariants as steering
use Rattle.drive_journal.specs.Steering.{Steers}
use Rattle.drive_journal.proofs.Counting.{counts-other}
use Rattle.drive_journal.proofs.Growing.{goes-held, no-report, sends-on}
use Rattle.drive_journal.proofs.steered.DriveState.send.Goals as goal

pub invariant_of-self-2 : goal.invariant_of-self-2
invariant_of-self-2 g c =
    let s : Steers c.self.inside.coordinator (steering.Send c.args.place c.in-Ok-Some.message) c.next_out.new.self = search rules in
    let fits : Fits c.in-Ok-Some.message = search rules in
    goes-held g.E.Link.named g.E.Link.faults g.E.Link.received g.Q.Receipt.stamped g.L.DriveName.start c.self.inside.coordinator c.next_out.new.self c.self.inside.journal.items c.reserve.new.self.items c.push_reserved.new.self.items
    c.self.inside.receipts.items c.self.inside.receipts.items c.self.inside.ends.items c.self.inside.told.items c.self.inside.told.items (steering.Send c.args.place c.in-Ok-Some.message)
    c.self.invariant c.reserve.ensures.items c.push_reserved.ensures.items (no-report g.Q.Receipt.stamped c.self.inside.receipts.items [] refl)
    s (sends-on c.self.inside.coordinator c.args.place c.in-Ok-Some.message c.next_out.new.self s)
    (counts-other c.self.inside.journal.items c.self.inside.told.items (steering.Send c.args.place c.in-Ok-Some.message) c.self.invariant.1 (λ s. refl)) refl fits
