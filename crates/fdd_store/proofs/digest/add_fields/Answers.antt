use Rattle.std.proofs.Common.{◌≡◌, List, [], ◌∷◌, ◌++◌, take, true, inl, inr, refl, ap, sym, ◌∙◌, subst}
use Rattle.std.proofs.lemmas.List.{take_more, take_all}
use Rattle.nk_values.specs.declared.field.Field.{Field}
use Rattle.nk_values.specs.declared.lit.Lit.{Lit}
use Rattle.nk_values.specs.Lits.{lit_field}
use Rattle.nk_values.specs.Members.{IsIn}
use Rattle.nk_values.proofs.MemberLaws.{in-left, in-right}
use Rattle.fdd_store.specs.Sets.{has}
use Rattle.fdd_store.proofs.StoreLaws.{all_more}
use Rattle.fdd_store.proofs.digest.add_fields.Goals as goal

pub loop-l-init : goal.loop-l-init
loop-l-init c = ((λ m k. absurd k), (λ m k. k), λ f k. inl k)

pub loop-l-preserved : goal.loop-l-preserved
loop-l-preserved c =
    let more = take_more c.args.lits.now c.loop-l.l-index c.l-item.result c.loop-l-test.true ∙ ap (λ (x : Lit). take c.loop-l.l-index c.args.lits.now ++ x ∷ []) (sym c.l-item.is) in (
      subst (λ (ys : List Lit). (m : Lit) → IsIn ys m → has c.add.new.self (lit_field m) ≡ true) (sym more)
          (all_more (λ m. has c.add.new.self (lit_field m) ≡ true) _ _ (λ m k. c.add.ensures.kept (lit_field m) (c.loop-l.invariant.0 m k))
          (subst (λ (f : Field). has c.add.new.self f ≡ true) c.field.ensures c.add.ensures.has_it)),
      (λ m k. c.add.ensures.kept (lit_field m) (c.loop-l.invariant.1 m k)),
      λ f k. elim (c.add.ensures.only f k) [
        | inl e ↦ inr (record {
          lit = c.l-item.result;
          among = subst (λ (ys : List Lit). IsIn ys c.l-item.result) (sym more) (in-right (take c.loop-l.l-index c.args.lits.now) _ _ (inl refl));
          field = sym c.field.ensures ∙ sym e;
        })
        | inr o ↦ elim (c.loop-l.invariant.2 f o) [
          | inl x ↦ inl x
          | inr x ↦ inr (record { lit = x.lit; among = subst (λ (ys : List Lit). IsIn ys x.lit) (sym more) (in-left _ _ _ x.among); field = x.field })
        ]
      ],
    )

pub returns-clause-has : goal.returns-clause-has
returns-clause-has c = λ m k. c.loop-l.invariant.0 m (subst (λ (ys : List Lit). IsIn ys m) (sym (take_all _ _ c.loop-l-test.false)) k)

pub returns-clause-kept : goal.returns-clause-kept
returns-clause-kept c = c.loop-l.invariant.1

pub returns-clause-only : goal.returns-clause-only
returns-clause-only c = λ f k. elim (c.loop-l.invariant.2 f k) [
  | inl x ↦ inl x
  | inr x ↦ inr (record { lit = x.lit; among = subst (λ (ys : List Lit). IsIn ys x.lit) (take_all _ _ c.loop-l-test.false) x.among; field = x.field })
]
