use Rattle.std.proofs.Common.{◌≡◌, ◌<◌, arith, sym}
use Rattle.nk_values.specs.Lits.{lit_field}
use Rattle.nk_values.specs.Ranges.{place}
use Rattle.fdd_nodes.proofs.AfterLaws.{rests, none_step, later_covers, same_covers}
use Rattle.fdd_nodes.proofs.covering.+covers.Goals as goal

pub returns-in_default : goal.returns-in_default
returns-in_default t c = λ y. sym (none_step _ _ c.in_default.ensures.cases c.requires.later)

pub covers-requires : goal.covers-requires
covers-requires t c =
    (let b = c.in-Some-split_first.ensures.cases.1 in omega (arith, b), ((rests _ _ _ _ _ _ c.in-Some.ensures.cases.0 c.in-Some-split_first.ensures.cases.0 c.requires.lits c.requires.later).1, c.requires.lits))

pub covers-requires-then-place-other-2 : goal.covers-requires-then-place-other-2
covers-requires-then-place-other-2 t c =
    let both = rests _ _ _ _ _ _ c.in-Some.ensures.cases.0 c.in-Some-split_first.ensures.cases.0 c.requires.lits c.requires.later in
    (let a = c.in-Some.ensures.cases.1 in let b = c.in-Some-split_first.ensures.cases.1 in omega (arith, a, b), (both.1, both.0))

pub returns-then-place-other : goal.returns-then-place-other
returns-then-place-other t c =
    let n : place (lit_field c.in-Some-split_first.l.now) < place (lit_field c.in-Some.m.now) = grind (arith, c.if-place-other.true, c.field.ensures, c.place-place.ensures, c.field-2.ensures, c.place-other.ensures) in
    λ y. later_covers _ _ _ _ _ _ c.in-Some.ensures.cases.0 c.in-Some-split_first.ensures.cases.0 c.requires.lits c.requires.later n (c.covers.ensures y)

pub returns-then-place-other-2 : goal.returns-then-place-other-2
returns-then-place-other-2 t c =
    let n : place (lit_field c.in-Some.m.now) ≡ place (lit_field c.in-Some-split_first.l.now) = grind (arith, c.if-place-other-2.true, c.field.ensures, c.place-place.ensures, c.field-2.ensures, c.place-other.ensures) in
    λ y. same_covers _ _ _ _ _ _ c.in-Some.ensures.cases.0 c.in-Some-split_first.ensures.cases.0 c.requires.lits c.requires.later n (c.covers-then-place-other-2.ensures y)
