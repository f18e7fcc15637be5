use Rattle.std.proofs.Common.{◌≡◌, ◌+◌, ℕ, Bool, drop}
use Rattle.std.specs.List.{prefix_len}
use Rattle.netkat_parser.specs.Signs.{DecidesAs}
use Rattle.netkat_parser.proofs.run.run_len.Given as goal

abbrev pub invariant-loop-i : goal.invariant-loop-i
invariant-loop-i g l = (test : ℕ → Bool) → DecidesAs (goal.F-post g l.is_in) test → prefix_len test l.text ≡ l.i + prefix_len test (drop l.i l.text)
