use Rattle.std.proofs.Common.{◌≡◌, ◌<◌, arith, ◌∙◌, refl, sym, [], ◌∷◌}
use Rattle.std.proofs.lemmas.Bool.{false≢true}
use Rattle.std.specs.Cmp.Lexicographic.{pointwise_decides}
use Rattle.nk_values.specs.Lits.{lit_field}
use Rattle.nk_values.specs.Ranges.{place}
use Rattle.nk_values.proofs.LitLaws.{lit_eq-Decides}
use Rattle.fdd_nodes.proofs.AfterLaws.{rests, ended, none_step, not_empty, one_first, put_first, some_first, first_step, same_step, later_step}
use Rattle.fdd_nodes.proofs.assignments.following.+sequence.Goals as goal

pub returns-in_default : goal.returns-in_default
returns-in_default t c =
    let e = ended c.args.lits.now _ c.in_default.ensures.cases in
    let same = pointwise_decides lit_eq-Decides c.args.all.now c.args.lits.now in
    ((λ h. same.0 (sym c.eq.ensures ∙ h) ∙ e), λ h. c.eq.ensures ∙ same.1 (h ∙ sym e))

pub returns-in_default-split_first : goal.returns-in_default-split_first
returns-in_default-split_first t c =
    let e = none_step _ _ c.in_default-split_first.ensures.cases c.requires.later in
    let same = pointwise_decides lit_eq-Decides c.args.all.now c.args.later.now in
    ((λ h. same.0 (sym c.eq-in_default-split_first.ensures ∙ h) ∙ e), λ h. c.eq-in_default-split_first.ensures ∙ same.1 (h ∙ sym e))

pub is_after-requires : goal.is_after-requires
is_after-requires t c = (let a = c.in-Some-split_first-2.ensures.cases.1 in omega (arith, a), ((rests _ _ _ _ _ _ c.in-Some-split_first.ensures.cases.0 c.in-Some.ensures.cases.0 c.requires.lits c.requires.later).0, c.requires.later))

pub is_after-requires-then-eq-2 : goal.is_after-requires-then-eq-2
is_after-requires-then-eq-2 t c = (let a = c.in-Some-split_first-2.ensures.cases.1 in omega (arith, a), rests _ _ _ _ _ _ c.in-Some-split_first.ensures.cases.0 c.in-Some.ensures.cases.0 c.requires.lits c.requires.later)

pub is_after-requires-then-eq-3 : goal.is_after-requires-then-eq-3
is_after-requires-then-eq-3 t c = (let a = c.in-Some-split_first-2.ensures.cases.1 in omega (arith, a), (c.requires.lits, (rests _ _ _ _ _ _ c.in-Some-split_first.ensures.cases.0 c.in-Some.ensures.cases.0 c.requires.lits c.requires.later).1))

pub returns-in_default-split_first-2 : goal.returns-in_default-split_first-2
returns-in_default-split_first-2 t c =
    let w = some_first _ _ _ _ _ _ c.in-Some-split_first.ensures.cases.0 c.in-Some.ensures.cases.0 c.requires.lits c.requires.later in
    ((λ h. absurd (false≢true h)), λ h. absurd (not_empty _ _ _ c.in_default-split_first-2.ensures.cases (h ∙ w.2)))

pub returns-then-eq : goal.returns-then-eq
returns-then-eq t c =
    let n : place (lit_field c.in-Some-split_first.m.now) < place (lit_field c.in-Some.l.now) = grind (arith, c.if-other-place.true, c.field.ensures, c.place-place.ensures, c.field-2.ensures, c.place-other.ensures) in
    let w = sym (first_step _ _ _ _ _ _ c.in-Some-split_first.ensures.cases.0 c.in-Some.ensures.cases.0 c.requires.lits c.requires.later n [] (c.in-Some-split_first.m.now ∷ []) _ refl refl) in
    let x = (lit_eq-Decides c.in-Some-split_first-2.n.now c.in-Some-split_first.m.now).0 (sym c.eq-then-other-place.ensures ∙ c.if-eq.true) in
    ((λ h. put_first _ _ _ _ _ c.in-Some-split_first-2.ensures.cases.0 x (c.is_after.ensures.0 h) ∙ sym w), λ h. c.is_after.ensures.1 (one_first _ _ _ _ _ c.in-Some-split_first-2.ensures.cases.0 (h ∙ w)).1)

pub returns-else-eq : goal.returns-else-eq
returns-else-eq t c =
    let n : place (lit_field c.in-Some-split_first.m.now) < place (lit_field c.in-Some.l.now) = grind (arith, c.if-other-place.true, c.field.ensures, c.place-place.ensures, c.field-2.ensures, c.place-other.ensures) in
    let w = sym (first_step _ _ _ _ _ _ c.in-Some-split_first.ensures.cases.0 c.in-Some.ensures.cases.0 c.requires.lits c.requires.later n [] (c.in-Some-split_first.m.now ∷ []) _ refl refl) in
    ((λ h. absurd (false≢true (sym c.if-eq.false ∙ h))), λ h. c.eq-then-other-place.ensures ∙ (lit_eq-Decides c.in-Some-split_first-2.n.now c.in-Some-split_first.m.now).1 (one_first _ _ _ _ _ c.in-Some-split_first-2.ensures.cases.0 (h ∙ w)).0)

pub returns-then-eq-2 : goal.returns-then-eq-2
returns-then-eq-2 t c =
    let n : place (lit_field c.in-Some-split_first.m.now) ≡ place (lit_field c.in-Some.l.now) = grind (arith, c.if-other-place-2.true, c.field.ensures, c.place-place.ensures, c.field-2.ensures, c.place-other.ensures) in
    let w = sym (same_step _ _ _ _ _ _ c.in-Some-split_first.ensures.cases.0 c.in-Some.ensures.cases.0 c.requires.lits c.requires.later n [] (c.in-Some.l.now ∷ []) _ refl refl) in
    let x = (lit_eq-Decides c.in-Some-split_first-2.n.now c.in-Some.l.now).0 (sym c.eq-then-other-place-2.ensures ∙ c.if-eq-2.true) in
    ((λ h. put_first _ _ _ _ _ c.in-Some-split_first-2.ensures.cases.0 x (c.is_after-then-eq-2.ensures.0 h) ∙ sym w), λ h. c.is_after-then-eq-2.ensures.1 (one_first _ _ _ _ _ c.in-Some-split_first-2.ensures.cases.0 (h ∙ w)).1)

pub returns-else-eq-2 : goal.returns-else-eq-2
returns-else-eq-2 t c =
    let n : place (lit_field c.in-Some-split_first.m.now) ≡ place (lit_field c.in-Some.l.now) = grind (arith, c.if-other-place-2.true, c.field.ensures, c.place-place.ensures, c.field-2.ensures, c.place-other.ensures) in
    let w = sym (same_step _ _ _ _ _ _ c.in-Some-split_first.ensures.cases.0 c.in-Some.ensures.cases.0 c.requires.lits c.requires.later n [] (c.in-Some.l.now ∷ []) _ refl refl) in
    ((λ h. absurd (false≢true (sym c.if-eq-2.false ∙ h))), λ h. c.eq-then-other-place-2.ensures ∙ (lit_eq-Decides c.in-Some-split_first-2.n.now c.in-Some.l.now).1 (one_first _ _ _ _ _ c.in-Some-split_first-2.ensures.cases.0 (h ∙ w)).0)

pub returns-then-eq-3 : goal.returns-then-eq-3
returns-then-eq-3 t c =
    let n : place (lit_field c.in-Some.l.now) < place (lit_field c.in-Some-split_first.m.now) = grind (arith, c.if-other-place.false, c.if-other-place-2.false, c.field.ensures, c.place-place.ensures, c.field-2.ensures, c.place-other.ensures) in
    let w = sym (later_step _ _ _ _ _ _ c.in-Some-split_first.ensures.cases.0 c.in-Some.ensures.cases.0 c.requires.lits c.requires.later n [] (c.in-Some.l.now ∷ []) _ refl refl) in
    let x = (lit_eq-Decides c.in-Some-split_first-2.n.now c.in-Some.l.now).0 (sym c.eq-else-other-place-2.ensures ∙ c.if-eq-3.true) in
    ((λ h. put_first _ _ _ _ _ c.in-Some-split_first-2.ensures.cases.0 x (c.is_after-then-eq-3.ensures.0 h) ∙ sym w), λ h. c.is_after-then-eq-3.ensures.1 (one_first _ _ _ _ _ c.in-Some-split_first-2.ensures.cases.0 (h ∙ w)).1)

pub returns-else-eq-3 : goal.returns-else-eq-3
returns-else-eq-3 t c =
    let n : place (lit_field c.in-Some.l.now) < place (lit_field c.in-Some-split_first.m.now) = grind (arith, c.if-other-place.false, c.if-other-place-2.false, c.field.ensures, c.place-place.ensures, c.field-2.ensures, c.place-other.ensures) in
    let w = sym (later_step _ _ _ _ _ _ c.in-Some-split_first.ensures.cases.0 c.in-Some.ensures.cases.0 c.requires.lits c.requires.later n [] (c.in-Some.l.now ∷ []) _ refl refl) in
    ((λ h. absurd (false≢true (sym c.if-eq-3.false ∙ h))), λ h. c.eq-else-other-place-2.ensures ∙ (lit_eq-Decides c.in-Some-split_first-2.n.now c.in-Some.l.now).1 (one_first _ _ _ _ _ c.in-Some-split_first-2.ensures.cases.0 (h ∙ w)).0)
