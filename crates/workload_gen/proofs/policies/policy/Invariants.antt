use Rattle.std.proofs.Common.{◌≡◌, ◌-◌, map}
use Rattle.std.specs.List.{flat_map}
use Rattle.nk_syntax.specs.Views.{term_of}
use Rattle.workload_laws.specs.Workload.{hops_at, numbers}
use Rattle.workload_gen.proofs.policies.policy.Given as goal

abbrev pub invariant-loop-switch : goal.invariant-loop-switch
invariant-loop-switch l = map term_of l.items.items ≡ flat_map (hops_at l.switches l.blocked) (numbers 1 (l.switch - 1))
