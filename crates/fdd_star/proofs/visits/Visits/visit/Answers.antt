use Rattle.std.proofs.Common.{List, [], ◌∷◌, ◌++◌, ap, map, sym, take, ◌∙◌, subst}
use Rattle.std.proofs.lemmas.List.{take_more}
use Rattle.nk_values.specs.declared.lit.Lit.{Lit}
use Rattle.nk_values.specs.declared.packet.Packet.{Packet}
use Rattle.fdd_nodes.specs.Trees.{apply}
use Rattle.fdd_star.specs.Asks.{IsNumberOf, copy_of, numbered}
use Rattle.fdd_star.proofs.NumberLaws.{keeps_on, map_end, number_kept, successors_next}
use Rattle.fdd_star.proofs.visits.Visits.visit.Goals as goal

pub loop-copy-preserved : goal.loop-copy-preserved
loop-copy-preserved c =
    let items = c.copies-copy-items.result.now in
    let i = c.loop-copy.copy-index in
    let taken = take_more items i c.copy-item.result c.loop-copy-test.true ∙ ap (λ (x : List Lit). take i items ++ x ∷ []) (sym c.copy-item.is) in
    let on = c.in_ok-number.ensures.keeps in
    let made = c.after.ensures.made ∙ ap (λ (x : List Lit). apply x c.args.here.now) (sym c.in_ok-copy.ensures) in (
      (λ k h. c.in_ok-number.ensures.visits k (c.loop-copy.invariant.0 k h)),
      keeps_on c.args.self.now c.loop-copy.self c.number.new.self c.loop-copy.invariant.1 on,
      ap (map copy_of) c.in_ok-push.ensures.items ∙ map_end _ _ ∙ ap (λ (xs : List (List Lit)). xs ++ c.in_ok-copy.copy ∷ []) c.loop-copy.invariant.2 ∙ ap (λ (x : List Lit). take i items ++ x ∷ []) c.in_ok-copy.ensures ∙ sym taken,
      successors_next _ _ _ _ _ _ c.in_ok-push.ensures.items (λ s w. number_kept c.loop-copy.self c.number.new.self _ _ _ on (c.loop-copy.invariant.3 s w)) (subst (λ (z : Packet). IsNumberOf (numbered c.number.new.self) c.args.diagram z c.in_ok-number.number) made c.in_ok-number.ensures.number),
    )
