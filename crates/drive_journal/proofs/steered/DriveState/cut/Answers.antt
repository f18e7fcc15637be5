use Rattle.std.proofs.Common.{rules, ◌≡◌, ◌≢◌, None, [], ◌++◌, ◌∷◌}
use Rattle.drive_journal.specs.Journals.{AreCounts, stamps_in}
use Rattle.drive_journal.specs.Steering.{Steers}
use Rattle.drive_journal.proofs.Losing.{halts-by}
use Rattle.drive_journal.proofs.Growing.{goes-held, halts-held, no-report, among-plain, counts-from}
use Rattle.drive_journal.proofs.steered.DriveState.cut.Goals as goal

pub invariant_of-self-then-is_none : goal.invariant_of-self-then-is_none
invariant_of-self-then-is_none g c =
    let s : Steers c.self.inside.coordinator c.args.event c.take_in.new.coordinator = search rules in
    let on : c.take_in.new.coordinator.halt ≡ None = search rules in
    let plain : stamps_in c.args.event ≡ [] = among-plain _ c.args.event c.requires.place in
    let told : AreCounts (c.self.inside.journal.items ++ c.args.event ∷ []) c.count_told.new.told.items = counts-from c.self.inside.journal.items c.reserve.new.self.items c.args.event c.count_told.new.told.items c.reserve.ensures.items c.count_told.ensures.counts in
    goes-held g.E.Link.named g.E.Link.faults g.E.Link.received g.Q.Receipt.stamped g.L.DriveName.start c.self.inside.coordinator c.take_in.new.coordinator c.self.inside.journal.items c.reserve.new.self.items c.push_reserved.new.self.items
    c.self.inside.receipts.items c.self.inside.receipts.items c.reserve-2.new.self.items c.self.inside.told.items c.count_told.new.told.items c.args.event
    (rw c.reserve-2.ensures.items c.self.invariant) c.reserve.ensures.items c.push_reserved.ensures.items (no-report g.Q.Receipt.stamped c.self.inside.receipts.items (stamps_in c.args.event) plain)
    s on told c.count_told.ensures.len c.requires.fits

pub invariant_of-self-2 : goal.invariant_of-self-2
invariant_of-self-2 g c =
    let s : Steers c.self.inside.coordinator c.args.event c.take_in.new.coordinator = search rules in
    let off : c.take_in.new.coordinator.halt ≢ None = search rules in
    let plain : stamps_in c.args.event ≡ [] = among-plain _ c.args.event c.requires.place in
    let told : AreCounts (c.self.inside.journal.items ++ c.args.event ∷ []) c.count_told.new.told.items = counts-from c.self.inside.journal.items c.reserve.new.self.items c.args.event c.count_told.new.told.items c.reserve.ensures.items c.count_told.ensures.counts in
    halts-held g.E.Link.named g.E.Link.faults g.E.Link.received g.Q.Receipt.stamped g.L.DriveName.start c.self.inside.coordinator c.take_in.new.coordinator c.self.inside.journal.items c.reserve.new.self.items c.push_reserved.new.self.items
    c.self.inside.receipts.items c.self.inside.ends.items c.reserve-2.new.self.items c.push_reserved-2.new.self.items c.self.inside.told.items c.count_told.new.told.items c.args.event c.args.end
    c.self.invariant c.reserve.ensures.items c.push_reserved.ensures.items c.reserve-2.ensures.items c.push_reserved-2.ensures.items plain
    s off (rw (← c.self.view_is) at c.requires.met) told c.count_told.ensures.len c.requires.fits

pub returns-then-is_none-clause-halts : goal.returns-then-is_none-clause-halts
returns-then-is_none-clause-halts g c = λ h.
    let s : Steers c.self.inside.coordinator c.args.event c.take_in.new.coordinator = search rules in
    let on : c.take_in.new.coordinator.halt ≡ None = search rules in
    absurd (halts-by c.self.inside.coordinator c.args.event c.take_in.new.coordinator c.self.invariant.5 s h on)
