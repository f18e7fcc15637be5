use Rattle.std.proofs.Common.{◌≡◌, map, take}
use Rattle.nk_syntax.specs.Views.{term_of}
use Rattle.fdd_compile.specs.Sums.{tests_of}
use Rattle.fdd_compile.proofs.fronts.put_front.Given as goal

abbrev pub invariant-loop-pol : goal.invariant-loop-pol
invariant-loop-pol l = (l.count ≡ l.pol-index) × (map term_of (take l.pol-index l.pols) ≡ tests_of l.tests.items)
