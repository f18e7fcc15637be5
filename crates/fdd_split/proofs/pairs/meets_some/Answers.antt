use Rattle.std.proofs.Common.{◌≡◌, List, inl, inr, sym, ◌∙◌, subst}
use Rattle.nk_values.specs.declared.lit.Lit.{Lit}
use Rattle.nk_values.specs.Members.{IsIn}
use Rattle.fdd_store.proofs.StoreLaws.{all_more}
use Rattle.fdd_nodes.specs.Copies.{IsCopyFrom}
use Rattle.fdd_split.specs.declared.pairs.Meeting.{Meeting}
use Rattle.fdd_split.specs.Pairs.{Meets, IsMeeting}
use Rattle.fdd_split.proofs.FieldLaws.{next_taken, taken_in}
use Rattle.fdd_split.proofs.pairs.meets_some.Goals as goal

pub returns-in-Where-clause-some : goal.returns-in-Where-clause-some
returns-in-Where-clause-some c = λ z. record {
  other = c.d-item.result;
  among = taken_in _ _ _ c.loop-d-test.true c.d-item.is;
  meets = subst (λ (d : List Lit). Meets c.args.bars.now c.args.c.now d) c.lits.ensures.list (c.in-Where.ensures 0 0 c.requires (subst (λ (d : List Lit). IsCopyFrom 0 d) (sym c.lits.ensures.list) c.lits.ensures.copy)).meets;
}

pub loop-d-preserved : goal.loop-d-preserved
loop-d-preserved c =
    subst (λ (ys : List (List Lit)). (d : List Lit) → IsIn ys d → Meets c.args.bars.now c.args.c.now d → c.args.c.now ≡ d)
    (sym (next_taken _ _ _ c.loop-d-test.true c.d-item.is))
    (all_more (λ d. Meets c.args.bars.now c.args.c.now d → c.args.c.now ≡ d) _ _ c.loop-d.invariant (λ m.
    let told = c.meet.ensures 0 0 c.requires (subst (λ (d : List Lit). IsCopyFrom 0 d) (sym c.lits.ensures.list) c.lits.ensures.copy) in
    let meets = subst (λ (d : List Lit). Meets c.args.bars.now c.args.c.now d) (sym c.lits.ensures.list) m in
    elim c.in-Never.is [
      | inl e ↦ absurd (subst (λ (r : Meeting). IsMeeting c.args.bars.now c.args.c.now c.lits.result.now r) e told meets)
      | inr e ↦ subst (λ (r : Meeting). IsMeeting c.args.bars.now c.args.c.now c.lits.result.now r) e told ∙ c.lits.ensures.list
    ]))
