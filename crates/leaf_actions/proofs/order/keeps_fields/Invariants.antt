use Rattle.std.proofs.Common.{◌≡◌, drop}
use Rattle.leaf_actions.specs.Chains.{keeps_fields}
use Rattle.leaf_actions.proofs.order.keeps_fields.Given as goal

abbrev pub invariant-loop-f : goal.invariant-loop-f
invariant-loop-f l = keeps_fields l.known l.next (drop l.f-index l.fields) ≡ keeps_fields l.known l.next l.fields
