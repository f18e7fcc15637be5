use Rattle.std.proofs.Common.{◌≡◌, ◌++◌, ◌-◌, ◌==◌, map, not}
use Rattle.std.specs.Prelude.{filter}
use Rattle.nk_syntax.specs.Views.{term_of}
use Rattle.workload_laws.specs.Workload.{hop, numbers}
use Rattle.workload_gen.proofs.policies.add_hops.Given as goal

abbrev pub invariant-loop-destination : goal.invariant-loop-destination
invariant-loop-destination l =
    map term_of l.items.items ≡ map term_of l.fn.items.items ++ map (hop l.switch) (filter (λ e. not (e == l.blocked)) (numbers 1 (l.destination - 1)))
