use Rattle.std.proofs.Common.{◌≡◌, ◌-◌, ℕ, List, ap, ◌∙◌, arith}
use Rattle.std.specs.List.{flat_map}
use Rattle.nk_syntax.specs.Terms.{Term, Sum}
use Rattle.nk_syntax.specs.Views.{term_row}
use Rattle.topology_model.proofs.Rows.{sum_of-row}
use Rattle.workload_laws.specs.Workload.{hops_at, numbers}
use Rattle.workload_gen.proofs.Building.{switches-up}
use Rattle.workload_gen.proofs.policies.policy.Goals as goal

pub loop-switch-preserved : goal.loop-switch-preserved
loop-switch-preserved c = switches-up c.args.switches c.args.blocked c.loop-switch.switch _ _ c.loop-switch.auto.switch c.loop-switch.invariant c.in_ok-add_hops.ensures

pub returns : goal.returns
returns c =
    let last : c.loop-switch.switch - 1 ≡ c.args.switches = omega (arith, c.loop-switch-test.false, c.loop-switch.auto.switch-end) in
    sum_of-row c.loop-switch.items ∙ ap (λ (ts : List Term). Sum (term_row ts)) (c.loop-switch.invariant ∙ ap (λ (n : ℕ). flat_map (hops_at c.args.switches c.args.blocked) (numbers 1 n)) last)
