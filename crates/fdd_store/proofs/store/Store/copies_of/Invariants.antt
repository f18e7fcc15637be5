use Rattle.std.proofs.Common.{take}
use Rattle.fdd_store.specs.Looks.{AreCopiesOf}
use Rattle.fdd_store.proofs.store.Store.copies_of.Given as goal

abbrev pub invariant-loop-leaf : goal.invariant-loop-leaf
invariant-loop-leaf l = AreCopiesOf l.self (take l.leaf-index l.leaves) l.all.items
