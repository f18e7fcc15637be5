use Rattle.std.proofs.Common.{◌≡◌, ◌<◌, sym, ◌∙◌, arith}
use Rattle.nk_values.specs.Lits.{lit_field}
use Rattle.nk_values.specs.Ranges.{place}
use Rattle.fdd_split.proofs.pairs.+meet.Goals as goal
use Rattle.fdd_split.proofs.WalkLaws.{headed, is_empty, behind_none, behind_more, alone_left, alone_right, both_walked, clash_walked}

pub returns-in-len1-up-d : goal.returns-in-len1-up-d
returns-in-len1-up-d t c = λ i j oc od.
    alone_right _ _ _ _ _ i j _ _ (headed _ _ c.in-len1-up-d.len_at_least c.m-item.is) c.meet.ensures c.alone.ensures (behind_none _ i _ (is_empty _ c.in-empty.len_below) oc) od

pub returns-in-empty-d-2 : goal.returns-in-empty-d-2
returns-in-empty-d-2 t c = λ i j oc od.
    alone_left _ _ _ _ _ i j _ _ (headed _ _ c.in-len1-up.len_at_least c.l-item.is) c.meet-in-empty-d-2.ensures c.alone-in-empty-d-2.ensures
    (behind_none _ j _ (is_empty _ c.in-empty-d-2.len_below) od) oc

pub returns-then-place : goal.returns-then-place
returns-then-place t c = λ i j oc od.
    let h : place (lit_field c.l-item.result) < place (lit_field c.m-item-in-len1-up.result) = grind (arith, c.if-place.true, c.field.ensures, c.place.ensures, c.field-in-len1-up-d-2.ensures, c.place-in-len1-up-d-2.ensures) in
    alone_left _ _ _ _ _ i j _ _ (headed _ _ c.in-len1-up.len_at_least c.l-item.is) c.meet-then-place.ensures c.alone-then-place.ensures
    (behind_more c.l-item.result _ _ j _ (headed _ _ c.in-len1-up-d-2.len_at_least c.m-item-in-len1-up.is) h od) oc

pub returns-then-place-2 : goal.returns-then-place-2
returns-then-place-2 t c = λ i j oc od.
    let h : place (lit_field c.m-item-in-len1-up.result) < place (lit_field c.l-item.result) = grind (arith, c.if-place-2.true, c.field-else-place.ensures, c.place-else-place.ensures, c.field-else-place-2.ensures, c.place-else-place-2.ensures) in
    alone_right _ _ _ _ _ i j _ _ (headed _ _ c.in-len1-up-d-2.len_at_least c.m-item-in-len1-up.is) c.meet-then-place-2.ensures c.alone-then-place-2.ensures
    (behind_more c.m-item-in-len1-up.result _ _ i _ (headed _ _ c.in-len1-up.len_at_least c.l-item.is) h oc) od

pub returns-then-value : goal.returns-then-value
returns-then-value t c = λ i j oc od.
    let p : place (lit_field c.l-item.result) ≡ place (lit_field c.m-item-in-len1-up.result) = grind (arith, c.if-place.false, c.field.ensures, c.place.ensures, c.field-in-len1-up-d-2.ensures, c.place-in-len1-up-d-2.ensures, c.if-place-2.false, c.field-else-place.ensures, c.place-else-place.ensures, c.field-else-place-2.ensures, c.place-else-place-2.ensures) in
    both_walked _ _ _ _ _ _ _ i j _ (headed _ _ c.in-len1-up.len_at_least c.l-item.is) (headed _ _ c.in-len1-up-d-2.len_at_least c.m-item-in-len1-up.is) p (sym c.value.ensures ∙ c.if-value.true ∙ c.value-else-place-2.ensures) c.meet-then-value.ensures oc od

pub returns-else-value : goal.returns-else-value
returns-else-value t c = λ i j oc od.
    let p : place (lit_field c.l-item.result) ≡ place (lit_field c.m-item-in-len1-up.result) = grind (arith, c.if-place.false, c.field.ensures, c.place.ensures, c.field-in-len1-up-d-2.ensures, c.place-in-len1-up-d-2.ensures, c.if-place-2.false, c.field-else-place.ensures, c.place-else-place.ensures, c.field-else-place-2.ensures, c.place-else-place-2.ensures) in
    clash_walked _ _ _ _ _ _ _ i j (headed _ _ c.in-len1-up.len_at_least c.l-item.is) (headed _ _ c.in-len1-up-d-2.len_at_least c.m-item-in-len1-up.is) p (λ v. c.if-value.false (c.value.ensures ∙ v ∙ sym c.value-else-place-2.ensures)) oc od
