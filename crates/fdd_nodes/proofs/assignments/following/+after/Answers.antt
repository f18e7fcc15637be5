use Rattle.std.proofs.Common.{◌≡◌, ◌<◌, arith, ◌∙◌, ap, ◌++◌}
use Rattle.nk_values.specs.Lits.{lit_field}
use Rattle.nk_values.specs.Ranges.{place}
use Rattle.fdd_nodes.proofs.AfterLaws.{rests, none_step, first_step, same_step, later_step, on_ok}
use Rattle.fdd_nodes.proofs.assignments.following.+after.Goals as goal

pub returns-in_default-split_first : goal.returns-in_default-split_first
returns-in_default-split_first t c = on_ok c.push_all-in_default-split_first.result (λ h. h ∙ ap (λ z. c.args.out.now.items ++ z) (none_step _ _ c.in_default-split_first.ensures.cases c.requires.later)) c.push_all-in_default-split_first.ensures

pub push_after-requires : goal.push_after-requires
push_after-requires t c = (let a = c.in-Some-split_first.ensures.cases.1 in let b = c.in-Some.ensures.cases.1 in omega (arith, a, b), ((rests _ _ _ _ _ _ c.in-Some-split_first.ensures.cases.0 c.in-Some.ensures.cases.0 c.requires.lits c.requires.later).0, c.requires.later))

pub push_after-requires-then-other-place-2 : goal.push_after-requires-then-other-place-2
push_after-requires-then-other-place-2 t c = (let a = c.in-Some-split_first.ensures.cases.1 in let b = c.in-Some.ensures.cases.1 in omega (arith, a, b), rests _ _ _ _ _ _ c.in-Some-split_first.ensures.cases.0 c.in-Some.ensures.cases.0 c.requires.lits c.requires.later)

pub push_after-requires-else-other-place-2 : goal.push_after-requires-else-other-place-2
push_after-requires-else-other-place-2 t c = (let a = c.in-Some-split_first.ensures.cases.1 in let b = c.in-Some.ensures.cases.1 in omega (arith, a, b), (c.requires.lits, (rests _ _ _ _ _ _ c.in-Some-split_first.ensures.cases.0 c.in-Some.ensures.cases.0 c.requires.lits c.requires.later).1))

pub returns-in_ok-push : goal.returns-in_ok-push
returns-in_ok-push t c =
    let n : place (lit_field c.in-Some-split_first.m.now) < place (lit_field c.in-Some.l.now) = grind (arith, c.if-other-place.true, c.field.ensures, c.place-place.ensures, c.field-2.ensures, c.place-other.ensures) in
    on_ok c.push_after.result (first_step _ _ _ _ _ _ c.in-Some-split_first.ensures.cases.0 c.in-Some.ensures.cases.0 c.requires.lits c.requires.later n _ _ _ c.in_ok-push.ensures.ok) c.push_after.ensures

pub returns-then-other-place-2 : goal.returns-then-other-place-2
returns-then-other-place-2 t c =
    let n : place (lit_field c.in-Some-split_first.m.now) ≡ place (lit_field c.in-Some.l.now) = grind (arith, c.if-other-place-2.true, c.field.ensures, c.place-place.ensures, c.field-2.ensures, c.place-other.ensures) in
    on_ok c.push_after-then-other-place-2.result (same_step _ _ _ _ _ _ c.in-Some-split_first.ensures.cases.0 c.in-Some.ensures.cases.0 c.requires.lits c.requires.later n _ _ _ c.in_ok-push-2.ensures.ok) c.push_after-then-other-place-2.ensures

pub returns-else-other-place-2 : goal.returns-else-other-place-2
returns-else-other-place-2 t c =
    let n : place (lit_field c.in-Some.l.now) < place (lit_field c.in-Some-split_first.m.now) = grind (arith, c.if-other-place.false, c.if-other-place-2.false, c.field.ensures, c.place-place.ensures, c.field-2.ensures, c.place-other.ensures) in
    on_ok c.push_after-else-other-place-2.result (later_step _ _ _ _ _ _ c.in-Some-split_first.ensures.cases.0 c.in-Some.ensures.cases.0 c.requires.lits c.requires.later n _ _ _ c.in_ok-push-2.ensures.ok) c.push_after-else-other-place-2.ensures
