use Rattle.std.proofs.Common.{List, [], ◌∷◌, ◌++◌, take, sym, subst, ap, ◌∙◌}
use Rattle.std.proofs.lemmas.List.{take_more}
use Rattle.nk_values.specs.declared.lit.Lit.{Lit}
use Rattle.nk_values.specs.Members.{IsIn}
use Rattle.fdd_nodes.specs.Copies.{IsCopy}
use Rattle.fdd_store.proofs.StoreLaws.{all_more}
use Rattle.fdd_store.proofs.copies.SharedCopies.all_kept.Goals as goal

pub loop-c-preserved : goal.loop-c-preserved
loop-c-preserved c =
    let more = take_more c.args.copies.now c.loop-c.c-index c.c-item.result c.loop-c-test.true ∙ ap (λ (x : List Lit). take c.loop-c.c-index c.args.copies.now ++ x ∷ []) (sym c.c-item.is) in (
      c.in_ok-push.ensures.items ∙ (λ i. c.loop-c.invariant.0 i ++ c.in_ok-kept.ensures.same i ∷ []) ∙ sym more,
      subst (λ (ys : List (List Lit)). (x : List Lit) → IsIn ys x → IsCopy x) (sym more) (all_more IsCopy _ _ c.loop-c.invariant.1 c.in_ok-kept.ensures.copy),
    )
