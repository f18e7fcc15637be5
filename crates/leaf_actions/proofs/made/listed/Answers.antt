use Rattle.std.proofs.Common.{sym, subst}
use Rattle.nk_values.specs.declared.packet.Packet.{Packet}
use Rattle.fdd_nodes.specs.Cells.{IsValid}
use Rattle.fdd_nodes.specs.Trees.{apply}
use Rattle.leaf_actions.proofs.Fixed.{valid_apply}
use Rattle.leaf_actions.proofs.made.listed.Goals as goal

pub push_changes-requires-clause-valid : goal.push_changes-requires-clause-valid
push_changes-requires-clause-valid c =
    subst (λ (x : Packet). IsValid x) (sym c.apply-next.ensures)
    (subst (λ (x : Packet). IsValid (apply c.route-item.result.copy x)) (sym c.generic-in-loop-route.ensures) (valid_apply c.route-item.result.copy c.args.cell.now c.requires.valid))
