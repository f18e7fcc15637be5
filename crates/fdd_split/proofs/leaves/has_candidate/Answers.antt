use Rattle.std.proofs.Common.{rules, ◌≡◌, List, sym, ◌∙◌, subst}
use Rattle.nk_values.specs.declared.lit.Lit.{Lit}
use Rattle.nk_values.specs.Lits.{lit_field}
use Rattle.nk_values.specs.Members.{IsIn}
use Rattle.fdd_store.proofs.StoreLaws.{all_more}
use Rattle.fdd_split.specs.Pairs.{IsCandidate}
use Rattle.fdd_split.specs.Threats.{KeepsField}
use Rattle.fdd_split.proofs.FieldLaws.{next_taken, denied, one_set}
use Rattle.fdd_split.proofs.leaves.has_candidate.Goals as goal
use Rattle.fdd_split.proofs.leaves.has_candidate.Goals.{in-Some+else-is_candidate, in_default}

pub loop-c-preserved : goal.loop-c-preserved
loop-c-preserved c =
    subst (λ (ys : List (List Lit)). (d : List Lit) → IsIn ys d → (x : Lit) → IsIn d x → lit_field x ≡ c.args.field → ¬ IsCandidate c.args.bars.now x c.args.found)
    (sym (next_taken _ _ _ c.loop-c-test.true c.c-item.is))
    (all_more (λ d. (x : Lit) → IsIn d x → lit_field x ≡ c.args.field → ¬ IsCandidate c.args.bars.now x c.args.found) _ _ c.loop-c.invariant
    (λ x i e b. elim c.match-literal_of.branch [
      | in-Some+else-is_candidate w ↦
          let l = w.in-Some.ensures.some in
          let same = one_set c.c-item.result 0 x w.in-Some.l c.lits.ensures.copy i (subst (λ (z : List Lit). IsIn z w.in-Some.l) c.lits.ensures.list l.0) (e ∙ sym l.1) in
          denied _ w.is_candidate.ensures.1 w.if-is_candidate.false (subst (λ (y : Lit). IsCandidate c.args.bars.now y c.args.found) same b)
      | in_default w ↦
          let keeps : KeepsField c.lits.result.now c.args.field = search rules in
          keeps x (subst (λ (z : List Lit). IsIn z x) (sym c.lits.ensures.list) i) e
    ]))
