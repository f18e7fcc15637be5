use Rattle.std.proofs.Common.{Option, Some, None, MatchOption, refl, subst, arith}
use Rattle.nk_values.specs.declared.packet.Packet.{Packet}
use Rattle.fdd_nodes.specs.Cells.{Alike, Parts}
use Rattle.fdd_nodes.specs.Trees.{tree}
use Rattle.fdd_nodes.proofs.CellLaws.{alike_split, alike_then, alike_else, parts_then, parts_else, parts_fixed_then, parts_fixed_else}
use Rattle.fdd_nodes.proofs.SplitLaws.{splits_of, sizes_fall}
use Rattle.fdd_nodes.proofs.apart.+parting.Goals as goal

cases : {X : Type 0} (r : Option X) (P P' : Type 0) (Q Q' : X → Type 0) → MatchOption r P Q → (P → P') → ((x : X) → Q x → Q' x) → MatchOption r P' Q'
cases None P P' Q Q' h f g = f h
cases (Some x) P P' Q Q' h f g = g x h

pub parting-requires : goal.parting-requires
parting-requires t c =
    (omega (arith, sizes_fall _ _ _ _ _ _ c.in-Some.ensures.one c.then_of.ensures.within c.then_of-in-Unset.ensures.within c.then_of.ensures.smaller c.then_of-in-Unset.ensures.smaller), tt)

pub parting-requires-in-None : goal.parting-requires-in-None
parting-requires-in-None t c =
    (omega (arith, sizes_fall _ _ _ _ _ _ c.in-Some.ensures.one c.else_of.ensures.within c.else_of-in-None.ensures.within c.else_of.ensures.smaller c.else_of-in-None.ensures.smaller), tt)

pub parting-requires-in-Yes : goal.parting-requires-in-Yes
parting-requires-in-Yes t c =
    (omega (arith, sizes_fall _ _ _ _ _ _ c.in-Some.ensures.one c.then_of-in-Yes.ensures.within c.then_of-in-Yes-2.ensures.within c.then_of-in-Yes.ensures.smaller c.then_of-in-Yes-2.ensures.smaller), tt)

pub parting-requires-in-No : goal.parting-requires-in-No
parting-requires-in-No t c =
    (omega (arith, sizes_fall _ _ _ _ _ _ c.in-Some.ensures.one c.else_of-in-No.ensures.within c.else_of-in-No-2.ensures.within c.else_of-in-No.ensures.smaller c.else_of-in-No-2.ensures.smaller), tt)

pub returns-in-Some-parting : goal.returns-in-Some-parting
returns-in-Some-parting t c =
    let first = c.in-Some.ensures in
    parts_then c.args.cell.now c.in-Some.l _ _ _ _ _ _ _
    (splits_of _ _ _ _ first.from_a c.then_of.ensures.part refl)
    (splits_of _ _ _ _ first.from_b c.then_of-in-Unset.ensures.part refl)
    first c.in-Unset.ensures
    (subst (λ (x : Packet). Parts x (tree c.then_of.result.now) (tree c.then_of-in-Unset.result.now) c.in-Some-parting.inner) c.with.ensures c.in-Some-parting.ensures)

pub returns-in-None : goal.returns-in-None
returns-in-None t c =
    let first = c.in-Some.ensures in
    let sa = splits_of _ _ _ _ first.from_a c.then_of.ensures.part c.else_of.ensures.part in
    let sb = splits_of _ _ _ _ first.from_b c.then_of-in-Unset.ensures.part c.else_of-in-None.ensures.part in
    let inner = subst (λ (x : Packet). Alike x (tree c.then_of.result.now) (tree c.then_of-in-Unset.result.now)) c.with.ensures c.in-None.ensures in
    cases c.parting-in-None.result _ _ _ _ c.parting-in-None.ensures
    (λ h. alike_split _ _ _ _ _ _ _ _ sa sb inner h)
    (λ q h. parts_else _ _ _ _ _ _ _ _ q sa sb first c.in-Unset.ensures h)

pub returns-in-Yes : goal.returns-in-Yes
returns-in-Yes t c =
    let first = c.in-Some.ensures in
    let sa = splits_of _ _ _ _ first.from_a c.then_of-in-Yes.ensures.part refl in
    let sb = splits_of _ _ _ _ first.from_b c.then_of-in-Yes-2.ensures.part refl in
    cases c.parting-in-Yes.result _ _ _ _ c.parting-in-Yes.ensures
    (λ h. alike_then _ _ _ _ _ _ _ _ sa sb c.in-Yes.ensures h)
    (λ q h. parts_fixed_then _ _ _ _ _ _ _ _ q sa sb first c.in-Yes.ensures h)

pub returns-in-No : goal.returns-in-No
returns-in-No t c =
    let first = c.in-Some.ensures in
    let sa = splits_of _ _ _ _ first.from_a refl c.else_of-in-No.ensures.part in
    let sb = splits_of _ _ _ _ first.from_b refl c.else_of-in-No-2.ensures.part in
    cases c.parting-in-No.result _ _ _ _ c.parting-in-No.ensures
    (λ h. alike_else _ _ _ _ _ _ _ _ sa sb c.in-No.ensures h)
    (λ q h. parts_fixed_else _ _ _ _ _ _ _ _ q sa sb first c.in-No.ensures h)
