use Rattle.std.proofs.Common.{sym, subst}
use Rattle.nk_values.specs.declared.packet.Packet.{Packet}
use Rattle.fdd_nodes.specs.Cells.{IsValid}
use Rattle.leaf_actions.proofs.Fixed.{fixed_valid}
use Rattle.table_tests.proofs.actions.made.Goals as goal

pub actions-requires-clause-valid : goal.actions-requires-clause-valid
actions-requires-clause-valid c = subst (λ (x : Packet). IsValid x) (sym c.cell.ensures) (fixed_valid c.in-Some-Some-Some.path)
