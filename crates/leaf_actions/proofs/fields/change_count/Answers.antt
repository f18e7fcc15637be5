use Rattle.std.proofs.Common.{List, subst}
use Rattle.nk_values.specs.declared.lit.Lit.{Lit}
use Rattle.leaf_actions.specs.Moves.{Moves}
use Rattle.leaf_actions.proofs.Moved.{no_change}
use Rattle.leaf_actions.proofs.fields.change_count.Goals as goal

pub returns-then-moves : goal.returns-then-moves
returns-then-moves c = no_change c.args.cell.now c.args.copy.now (subst (λ (ls : List Lit). Moves ls) c.lits.ensures.list (c.moves.ensures.0 c.if-moves.true))
