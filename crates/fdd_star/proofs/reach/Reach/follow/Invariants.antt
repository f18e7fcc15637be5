use Rattle.std.proofs.Common.{ℕ, List, take}
use Rattle.nk_values.specs.declared.packet.Packet.{Packet}
use Rattle.fdd_nodes.specs.Trees.{apply}
use Rattle.fdd_star.specs.declared.keys.Key.{Key}
use Rattle.fdd_star.specs.Asks.{AreApart, IsVisitAt}
use Rattle.fdd_star.specs.Reaches.{AsksAll, IsNumbered}
use Rattle.fdd_star.proofs.GrowLaws.{AddsSuccessors}
use Rattle.fdd_store.specs.Stores.{Kept}
use Rattle.fdd_star.proofs.reach.Reach.follow.Given as goal

abbrev pub invariant-loop-next : goal.invariant-loop-next
invariant-loop-next l =
    ((keys : List Key) (k : Kept) (d : ℕ) (c : Packet) → AreApart keys → IsNumbered keys d c l.fn.self → IsVisitAt k keys d (apply l.copy c) l.visit →
    AddsSuccessors keys d c l.copy (take l.next-index l.visit.successors.items) l.fn.self l.self) × AsksAll l.visit.asked.items l.fn.self l.self
