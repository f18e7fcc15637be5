use Rattle.std.proofs.Common.{sym, ◌∙◌, subst, ap, List, [], ◌∷◌, ◌++◌, ◌<◌, ◌≤◌, get_or, length, map, take}
use Rattle.std.proofs.lemmas.List.{take_more, take_all}
use Rattle.nk_values.specs.declared.lit.Lit.{Lit}
use Rattle.fdd_star.specs.declared.visits.Successor.{Successor}
use Rattle.fdd_star.specs.Asks.{copy_of}
use Rattle.fdd_star.proofs.GrowLaws.{Adds, AddsSuccessors, adds_more, asks_kept, asks_visit, grows_one}
use Rattle.fdd_star.proofs.NumberLaws.{item_in}
use Rattle.fdd_star.proofs.reach.Reach.follow.Goals as goal

pub loop-next-preserved : goal.loop-next-preserved
loop-next-preserved c =
    let items = c.args.visit.now.successors.items in
    let i = c.loop-next.next-index in
    let same = c.deref-next-items.ensures.value in
    let within = subst (λ (ss : List Successor). i < length ss) same c.loop-next-test.true in
    let at = c.next-item.is ∙ ap (λ (ss : List Successor). get_or ss i c.next-item.result) same in
    let taken = take_more items i c.next-item.result within ∙ ap (λ (x : Successor). take i items ++ x ∷ []) (sym at) in (
      (λ keys k d p apart numbered visit.
          subst (λ (ss : List Successor). AddsSuccessors keys d p c.args.copy.now ss c.args.self.now c.add.new.self) (sym taken)
          (adds_more keys d p c.args.copy.now (take i items) c.next-item.result c.args.self.now c.loop-next.self c.add.new.self apart (visit.numbers c.next-item.result (item_in items i c.next-item.result within at)) (c.loop-next.invariant.0 keys k d p apart numbered visit) c.in_ok-add.ensures)),
      asks_kept _ _ _ _ c.loop-next.invariant.1 c.in_ok-add.ensures.asked,
    )

pub returns : goal.returns
returns c = λ keys k d p apart numbered visit.
    let within = subst (λ (ss : List Successor). length ss ≤ c.loop-next.next-index) c.deref-next-items.ensures.value c.loop-next-test.false in
    let all = ap (map copy_of) (take_all c.loop-next.next-index c.args.visit.now.successors.items within) ∙ visit.copies in
    let added = c.loop-next.invariant.0 keys k d p apart numbered visit in (
      added.0,
      grows_one _ _ _ _ _ (subst (λ (ds : List (List Lit)). Adds p c.args.copy.now ds c.args.self.now c.loop-next.self) all added.1) (asks_visit _ _ _ _ _ visit.asked c.loop-next.invariant.1),
    )
