use Rattle.std.proofs.Common.{◌≡◌, map, take}
use Rattle.nk_syntax.specs.Views.{guard_of}
use Rattle.fdd_compile.specs.Sums.{guards_of_tests}
use Rattle.fdd_compile.proofs.fronts.put_tests.Given as goal

abbrev pub invariant-loop-pred : goal.invariant-loop-pred
invariant-loop-pred l = (l.count ≡ l.pred-index) × (map guard_of (take l.pred-index l.preds) ≡ guards_of_tests l.tests.items)
