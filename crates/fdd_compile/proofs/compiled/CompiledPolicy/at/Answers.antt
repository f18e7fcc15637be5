use Rattle.fdd_nodes.proofs.MakesLaws.{if_ok}
use Rattle.fdd_compile.proofs.compiled.CompiledPolicy.at.Goals as goal

pub returns : goal.returns
returns c = if_ok c.cofactor-2.result _ _ c.cofactor-2.ensures (λ r h. record {
  switch = c.literal.result;
  port = c.literal-2.result;
  at_switch = _;
  switch_field = c.literal.ensures.field;
  switch_value = c.literal.ensures.value;
  port_field = c.literal-2.ensures.field;
  port_value = c.literal-2.ensures.value;
  first = c.in_ok-at_switch.ensures;
  second = h;
})
