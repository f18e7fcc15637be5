use Rattle.std.proofs.Common.{List, [], ◌∷◌, sym, subst, ap, ◌∙◌}
use Rattle.nk_values.specs.declared.lit.Lit.{Lit}
use Rattle.fdd_nodes.specs.Trees.{Leaf}
use Rattle.fdd_store.specs.Operations.{OneOf}
use Rattle.fdd_store.proofs.PlainLaws.{one_of}
use Rattle.fdd_ops.proofs.ops.one.Goals as goal

pub returns : goal.returns
returns c = subst OneOf (sym (c.new.ensures ∙ ap Leaf (c.in_ok-leaf.ensures ∙ ap (λ (x : List Lit). x ∷ []) c.in_ok-none.ensures))) one_of
