use Rattle.std.proofs.Common.{◌≡◌, take, map}
use Rattle.nk_values.specs.Members.{IsIn}
use Rattle.fdd_nodes.specs.Trees.{apply}
use Rattle.fdd_star.specs.declared.visits.Successor.{Successor}
use Rattle.fdd_star.specs.Asks.{AreVisits, IsNumberOf, KeepsNumbers, copy_of, numbered}
use Rattle.fdd_store.specs.Stores.{Kept}
use Rattle.fdd_star.proofs.visits.Visits.visit.Given as goal

abbrev pub invariant-loop-copy : goal.invariant-loop-copy
invariant-loop-copy l = ((k : Kept) → AreVisits k l.fn.self → AreVisits k l.self) × KeepsNumbers l.fn.self l.self × (map copy_of l.successors.items ≡ take l.copy-index l.copy-items)
    × ((s : Successor) → IsIn l.successors.items s → IsNumberOf (numbered l.self) l.diagram (apply s.copy l.here) s.number)
