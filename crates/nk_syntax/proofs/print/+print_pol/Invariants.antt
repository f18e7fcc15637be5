use Rattle.std.proofs.Common.{◌≡◌, ◌++◌, map, drop, string_bytes}
use Rattle.nk_syntax.specs.Views.{term_of, term_row}
use Rattle.nk_syntax.specs.Prints.{more_terms}
use Rattle.nk_syntax.proofs.print.+print_pol.Given as goal

abbrev pub invariant-print_pols-loop-pol : goal.invariant-print_pols-loop-pol
invariant-print_pols-loop-pol l =
    string_bytes l.out ++ more_terms l.between (term_row (map term_of (drop l.pol-index l.more))) ≡ string_bytes l.initial.out ++ more_terms l.between (term_row (map term_of l.more))
