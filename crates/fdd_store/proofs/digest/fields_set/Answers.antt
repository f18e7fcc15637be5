use Rattle.std.proofs.Common.{◌≡◌, List, [], ◌∷◌, ◌++◌, take, true, ap, sym, ◌∙◌, subst, inl, inr, refl}
use Rattle.std.proofs.lemmas.List.{take_more, take_all}
use Rattle.nk_values.specs.declared.lit.Lit.{Lit}
use Rattle.nk_values.specs.Lits.{lit_field}
use Rattle.nk_values.specs.Members.{IsIn}
use Rattle.std.proofs.lemmas.Bool.{false≢true}
use Rattle.nk_values.proofs.MemberLaws.{in-left, in-right}
use Rattle.fdd_nodes.specs.Trees.{Leaf, IsSetBy}
use Rattle.fdd_store.specs.Digests.{SetsField}
use Rattle.fdd_store.specs.Sets.{has}
use Rattle.fdd_store.proofs.StoreLaws.{all_more}
use Rattle.fdd_store.proofs.digest.fields_set.Goals as goal

-- the copy that sets a literal
setter : (cs : List (List Lit)) (m : Lit) → IsSetBy cs m → (x : List Lit) × IsIn cs x × IsIn x m
setter [] m h = absurd h
setter (c ∷ cs) m (inl h) = (c, inl refl, h)
setter (c ∷ cs) m (inr h) = let r = setter cs m h in (r.0, inr r.1, r.2)

-- a literal of a copy among some is set by them
set_among : (cs : List (List Lit)) (x : List Lit) (m : Lit) → IsIn cs x → IsIn x m → IsSetBy cs m
set_among [] x m h k = absurd h
set_among (c ∷ cs) x m (inl e) k = inl (subst (λ (y : List Lit). IsIn y m) (sym e) k)
set_among (c ∷ cs) x m (inr h) k = inr (set_among cs x m h k)

more_set : (cs ds es : List (List Lit)) (m : Lit) → es ≡ cs ++ ds → IsSetBy cs m → IsSetBy es m
more_set cs ds es m e h = let r = setter cs m h in set_among es r.0 m (subst (λ (ys : List (List Lit)). IsIn ys r.0) (sym e) (in-left cs ds r.0 r.1)) r.2

pub loop-c-init : goal.loop-c-init
loop-c-init c = ((λ x k. absurd k), λ f k. absurd (false≢true (sym (c.none-all.ensures f) ∙ k)))

pub loop-c-preserved : goal.loop-c-preserved
loop-c-preserved c =
    let more = take_more c.args.copies.now c.loop-c.c-index c.c-item.result c.loop-c-test.true ∙ ap (λ (x : List Lit). take c.loop-c.c-index c.args.copies.now ++ x ∷ []) (sym c.c-item.is) in (
      subst (λ (ys : List (List Lit)). (x : List Lit) → IsIn ys x → (m : Lit) → IsIn x m → has c.add_fields.new.all (lit_field m) ≡ true) (sym more)
          (all_more (λ x. (m : Lit) → IsIn x m → has c.add_fields.new.all (lit_field m) ≡ true) _ _ (λ x k m w. c.add_fields.ensures.kept m (c.loop-c.invariant.0 x k m w))
          (λ m w. c.add_fields.ensures.has m (subst (λ (x : List Lit). IsIn x m) (sym c.lits.ensures.list) w))),
      λ f k. elim (c.add_fields.ensures.only f k) [
        | inl o ↦
            let s = c.loop-c.invariant.1 f o in
            record { lit = s.lit; assigned = more_set (take c.loop-c.c-index c.args.copies.now) _ _ s.lit more s.assigned; field = s.field }
        | inr x ↦ record {
          lit = x.lit;
          assigned = set_among _ c.c-item.result x.lit
              (subst (λ (ys : List (List Lit)). IsIn ys c.c-item.result) (sym more) (in-right (take c.loop-c.c-index c.args.copies.now) _ _ (inl refl)))
              (subst (λ (y : List Lit). IsIn y x.lit) c.lits.ensures.list x.among);
          field = x.field;
        }
      ],
    )

pub returns : goal.returns
returns c = record {
  each = λ m k.
      let r = setter c.args.copies.now m k in
      c.loop-c.invariant.0 r.0 (subst (λ (ys : List (List Lit)). IsIn ys r.0) (sym (take_all _ _ c.loop-c-test.false)) r.1) m r.2;
  only = λ f k. subst (λ (ys : List (List Lit)). SetsField (Leaf ys) f) (take_all _ _ c.loop-c-test.false) (c.loop-c.invariant.1 f k);
}
