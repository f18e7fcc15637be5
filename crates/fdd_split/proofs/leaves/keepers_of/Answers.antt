use Rattle.std.proofs.Common.{rules, ◌≡◌, List, take, [], ◌∷◌, ◌++◌, sym, subst}
use Rattle.nk_values.specs.declared.lit.Lit.{Lit}
use Rattle.fdd_split.specs.Threats.{KeepsField}
use Rattle.fdd_split.proofs.FieldLaws.{AreKeepers, next_taken, keeper_added, keeper_left}
use Rattle.fdd_split.proofs.leaves.keepers_of.Goals as goal
use Rattle.fdd_split.proofs.leaves.keepers_of.Goals.{then-is_none+in_ok-copy+in_ok-push, else-is_none}

pub loop-c-preserved : goal.loop-c-preserved
loop-c-preserved c =
    let more = next_taken _ _ _ c.loop-c-test.true c.c-item.is in
    subst (λ (ys : List (List Lit)). AreKeepers ys c.if-is_none.keepers.items c.args.field) (sym more)
    (elim c.if-is_none.branch [
      | then-is_none+in_ok-copy+in_ok-push w ↦
          let keeps : KeepsField c.lits.result.now c.args.field = search rules in
          let e : c.if-is_none.keepers.items ≡ c.loop-c.keepers.items ++ c.c-item.result ∷ [] = search rules in
          subst (λ (ys : List (List Lit)). AreKeepers (take c.loop-c.c-index c.args.copies.now ++ c.c-item.result ∷ []) ys c.args.field) (sym e)
          (keeper_added _ _ _ _ (subst (λ (z : List Lit). KeepsField z c.args.field) c.lits.ensures.list keeps) c.loop-c.invariant)
      | else-is_none w ↦
          let e : c.if-is_none.keepers.items ≡ c.loop-c.keepers.items = λ i. (w.keepers-is i).items in
          let sets : ¬ KeepsField c.lits.result.now c.args.field = search rules in
          subst (λ (ys : List (List Lit)). AreKeepers (take c.loop-c.c-index c.args.copies.now ++ c.c-item.result ∷ []) ys c.args.field) (sym e)
          (keeper_left _ _ _ _ (λ k. sets (subst (λ (z : List Lit). KeepsField z c.args.field) (sym c.lits.ensures.list) k)) c.loop-c.invariant)
    ])
