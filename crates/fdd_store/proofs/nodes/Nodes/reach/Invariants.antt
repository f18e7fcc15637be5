use Rattle.std.proofs.Common.{◌≤◌, length}
use Rattle.fdd_store.specs.NodeLists.{AreNodes}
use Rattle.fdd_store.specs.Stores.{Kept}
use Rattle.fdd_store.proofs.nodes.Nodes.reach.Given as goal

abbrev pub invariant-loop : goal.invariant-loop
invariant-loop l = ((k : Kept) → AreNodes k l.fn.self → AreNodes k l.self) × (l.counter ≤ length l.self.made.items)
