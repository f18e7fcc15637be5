use Rattle.std.proofs.Common.{arith, sym, ap, ◌∙◌, subst, List}
use Rattle.std.proofs.lemmas.Bool.{eqb-true}
use Rattle.nk_values.specs.declared.packet.Packet.{Packet}
use Rattle.fdd_nodes.specs.Names.{IsFew}
use Rattle.fdd_nodes.specs.declared.cell.Knowledge.TheVariants.{No, Yes}
use Rattle.fdd_store.specs.Stores.{tree_at}
use Rattle.fdd_store.proofs.ForkLaws.{fall_then, fall_else, level}
use Rattle.fdd_store.proofs.StoreLaws.{grows_on, has_grown, tree_grown}
use Rattle.fdd_star.specs.Narrow.{AreBut, IsOn}
use Rattle.fdd_star.proofs.FoundLaws.{stays, stayed}
use Rattle.fdd_star.proofs.NarrowLaws.{at_on, few_on, none_in, ok_on, on_both, on_else, on_itself, on_then}
use Rattle.fdd_star.proofs.FieldLaws.{few_then, few_else}
use Rattle.fdd_star.proofs.narrow.+on_cells.Goals as goal

pub on_cells-returns-then-is_empty-clause-on : goal.on_cells-returns-then-is_empty-clause-on
on_cells-returns-then-is_empty-clause-on t c = record { has = c.requires.has; is = on_itself _ _ }

pub on_cells-on_sides-requires : goal.on_cells-on_sides-requires
on_cells-on_sides-requires t c =
    let there = subst (λ (cs : List Packet). AreBut c.args.cells.now c.in-Fork.l No cs) (sym c.deref.ensures.value) c.in_ok-there-in-Fork.ensures in
    let away = subst (λ (cs : List Packet). AreBut c.args.cells.now c.in-Fork.l Yes cs) (sym c.deref-in-Fork.ensures.value) c.in_ok-away-in-Fork.ensures in
    (omega arith, (c.in-Fork.ensures.look, (c.requires.has, (c.in-Fork.ensures.made, (c.requires.few, (there, away))))))

pub on_cells-returns-in-Leaf-clause-on : goal.on_cells-returns-in-Leaf-clause-on
on_cells-returns-in-Leaf-clause-on t c = record { has = c.requires.has; is = on_itself _ _ }

pub on_cells-returns-in_ok-away-in-Fork-clause-grows : goal.on_cells-returns-in_ok-away-in-Fork-clause-grows
on_cells-returns-in_ok-away-in-Fork-clause-grows t c = c.on_sides.ensures.grows

pub on_cells-returns-in_ok-away-in-Fork-clause-on : goal.on_cells-returns-in_ok-away-in-Fork-clause-on
on_cells-returns-in_ok-away-in-Fork-clause-on t c = c.on_sides.ensures.on

pub on_sides-returns-then-away-cells-clause-on : goal.on_sides-returns-then-away-cells-clause-on
on_sides-returns-then-away-cells-clause-on t c = record { has = c.requires.has; is = on_itself _ _ }

pub on_sides-on_cells-requires : goal.on_sides-on_cells-requires
on_sides-on_cells-requires t c =
    let f = c.requires.fork in
    (let w = fall_then _ c.args.split.lit _ _ _ _ f c.requires.made in omega (arith, w), (f.has_then, few_then c.args.split.lit (tree_at c.args.store.now c.args.yes) (tree_at c.args.store.now c.args.no) (subst IsFew f.is c.requires.few)))

pub on_sides-returns-then-is_empty-clause-on : goal.on_sides-returns-then-is_empty-clause-on
on_sides-returns-then-is_empty-clause-on t c =
    let none = none_in _ (let e = eqb-true _ _ (sym c.is_empty.ensures ∙ c.if-is_empty.true) in omega (arith, e)) in
    ok_on c.on_cells.result _ _ (at_on _ _ _ (λ r h. on_then _ _ _ c.args.split.lit _ _ _ c.requires.fork.is c.requires.there c.requires.away r none h)) c.on_cells.ensures.on

pub on_sides-on_cells-requires-then-is_empty-2 : goal.on_sides-on_cells-requires-then-is_empty-2
on_sides-on_cells-requires-then-is_empty-2 t c =
    let f = c.requires.fork in
    (let w = fall_else _ c.args.split.lit _ _ _ _ f c.requires.made in omega (arith, w), (f.has_else, few_else c.args.split.lit (tree_at c.args.store.now c.args.yes) (tree_at c.args.store.now c.args.no) (subst IsFew f.is c.requires.few)))

pub on_sides-returns-then-is_empty-2-clause-on : goal.on_sides-returns-then-is_empty-2-clause-on
on_sides-returns-then-is_empty-2-clause-on t c =
    let none = none_in _ (let e = eqb-true _ _ (sym c.is_empty-2.ensures ∙ c.if-is_empty-2.true) in omega (arith, e)) in
    ok_on c.on_cells-then-is_empty-2.result _ _ (at_on _ _ _ (λ r h. on_else _ _ _ c.args.split.lit _ _ _ c.requires.fork.is c.requires.there c.requires.away r none h)) c.on_cells-then-is_empty-2.ensures.on

pub on_sides-on_cells-requires-2 : goal.on_sides-on_cells-requires-2
on_sides-on_cells-requires-2 t c =
    let f = c.requires.fork in
    (let w = fall_then _ c.args.split.lit _ _ _ _ f c.requires.made in omega (arith, w), (f.has_then, few_then c.args.split.lit (tree_at c.args.store.now c.args.yes) (tree_at c.args.store.now c.args.no) (subst IsFew f.is c.requires.few)))

pub on_sides-on_cells-requires-3 : goal.on_sides-on_cells-requires-3
on_sides-on_cells-requires-3 t c =
    let f = c.requires.fork in
    let g = c.in_ok-part.ensures.grows in
    let e = tree_grown _ _ _ g f.has_else in
    let few = few_else c.args.split.lit (tree_at c.args.store.now c.args.yes) (tree_at c.args.store.now c.args.no) (subst IsFew f.is c.requires.few) in
    (let w = fall_else _ c.args.split.lit _ _ _ _ f c.requires.made in omega (arith, w, ap level e), (has_grown _ _ _ g f.has_else, subst IsFew (sym e) few))

pub on_sides-returns-in_err-rest-clause-grows : goal.on_sides-returns-in_err-rest-clause-grows
on_sides-returns-in_err-rest-clause-grows t c = grows_on _ _ _ c.in_ok-part.ensures.grows c.in_err-rest.ensures.grows

pub on_sides-choice-requires-clause-has_a : goal.on_sides-choice-requires-clause-has_a
on_sides-choice-requires-clause-has_a t c = has_grown _ _ _ c.in_ok-rest.ensures.grows c.in_ok-part.ensures.on.has

pub on_sides-choice-requires-clause-has_b : goal.on_sides-choice-requires-clause-has_b
on_sides-choice-requires-clause-has_b t c = c.in_ok-rest.ensures.on.has

pub on_sides-choice-requires-clause-few : goal.on_sides-choice-requires-clause-few
on_sides-choice-requires-clause-few t c =
    few_on _ _ c.args.split.lit _ _ _ _ (subst IsFew c.requires.fork.is c.requires.few)
    (stays (IsOn c.args.split.there.now (tree_at c.args.store.now c.args.yes)) _ _ _ c.in_ok-rest.ensures.grows c.in_ok-part.ensures.on.has c.in_ok-part.ensures.on.is)
    (stayed (λ x. IsOn c.args.split.away.now x (tree_at c.on_cells-3.new.store c.in_ok-rest.rest)) _ _ _ c.in_ok-part.ensures.grows c.requires.fork.has_else c.in_ok-rest.ensures.on.is)

pub on_sides-returns-clause-grows : goal.on_sides-returns-clause-grows
on_sides-returns-clause-grows t c = grows_on _ _ _ (grows_on _ _ _ c.in_ok-part.ensures.grows c.in_ok-rest.ensures.grows) c.choice.ensures.grows

pub on_sides-returns-clause-on : goal.on_sides-returns-clause-on
on_sides-returns-clause-on t c =
    let f = c.requires.fork in
    let k = c.args.store.now in
    let n = c.on_cells-3.new.store in
    let part = stays (IsOn c.args.split.there.now (tree_at k c.args.yes)) _ _ _ c.in_ok-rest.ensures.grows c.in_ok-part.ensures.on.has c.in_ok-part.ensures.on.is in
    let rest = stayed (λ x. IsOn c.args.split.away.now x (tree_at n c.in_ok-rest.rest)) _ _ _ c.in_ok-part.ensures.grows f.has_else c.in_ok-rest.ensures.on.is in
    ok_on c.choice.result _ _ (λ r h. record { has = h.has; is = on_both _ _ _ c.args.split.lit _ _ _ f.is c.requires.there c.requires.away _ _ _ part rest h.is }) c.choice.ensures.place
