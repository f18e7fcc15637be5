use Rattle.std.proofs.Common.{◌≤◌, length}
use Rattle.fdd_store.specs.Stores.{Kept}
use Rattle.fdd_split.specs.Memos.{AreKept}
use Rattle.fdd_split.proofs.memo.Memo.reach.Given as goal

abbrev pub invariant-loop : goal.invariant-loop
invariant-loop l = ((k : Kept) → AreKept k l.fn.self → AreKept k l.self) × (l.counter ≤ length l.self.plain.items)
