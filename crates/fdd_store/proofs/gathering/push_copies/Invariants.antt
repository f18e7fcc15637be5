use Rattle.std.proofs.Common.{◌≡◌, ◌++◌, take}
use Rattle.fdd_store.proofs.gathering.push_copies.Given as goal

abbrev pub invariant-loop-c : goal.invariant-loop-c
invariant-loop-c l = l.all.items ≡ l.initial.all.items ++ take l.c-index l.copies
