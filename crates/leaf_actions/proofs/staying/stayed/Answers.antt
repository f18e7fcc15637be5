use Rattle.std.proofs.Common.{sym, subst}
use Rattle.nk_values.specs.declared.packet.Packet.{Packet}
use Rattle.fdd_nodes.specs.Cells.{IsValid}
use Rattle.fdd_nodes.specs.Trees.{apply}
use Rattle.leaf_actions.proofs.Fixed.{valid_apply}
use Rattle.leaf_actions.proofs.staying.stayed.Goals as goal

pub push_changes-requires-clause-valid : goal.push_changes-requires-clause-valid
push_changes-requires-clause-valid c =
    subst (λ (x : Packet). IsValid x) (sym c.apply-next.ensures)
    (subst (λ (x : Packet). IsValid (apply c.copy-item.result x)) (sym c.generic-in-loop-copy.ensures) (valid_apply c.copy-item.result c.args.cell.now c.requires.valid))
