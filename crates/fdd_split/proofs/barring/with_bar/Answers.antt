use Rattle.std.proofs.Common.{rules, ◌≡◌, List, [], ◌∷◌, ◌++◌, take, ap, sym, ◌∙◌, subst}
use Rattle.std.proofs.lemmas.List.{take_more, take_all}
use Rattle.fdd_split.specs.declared.bars.Bar.{Bar}
use Rattle.fdd_split.specs.Bars.{AddsBar}
use Rattle.fdd_split.proofs.BarLaws.{Omits, omits_one, omits_more, adds_last}
use Rattle.fdd_split.proofs.barring.with_bar.Goals as goal
use Rattle.fdd_split.proofs.barring.with_bar.Goals.{then-not-covers+in_ok-push, else-not-covers}

pub loop-b-preserved : goal.loop-b-preserved
loop-b-preserved c =
    let more = take_more c.args.bars.now c.loop-b.b-index c.b-item.result c.loop-b-test.true ∙ ap (λ (x : Bar). take c.loop-b.b-index c.args.bars.now ++ x ∷ []) (sym c.b-item.is) in
    subst (λ (ys : List Bar). Omits ys c.if-not-covers.all.items c.args.bar) (sym more) (elim c.if-not-covers.branch [
      | then-not-covers+in_ok-push w ↦
          let e : c.if-not-covers.all.items ≡ c.loop-b.all.items ++ c.b-item.result ∷ [] = (λ i. (w.all-is i).items) ∙ w.in_ok-push.ensures.items in
          subst (λ (ys : List Bar). Omits (take c.loop-b.b-index c.args.bars.now ++ c.b-item.result ∷ []) ys c.args.bar) (sym e) (omits_more _ _ _ _ c.loop-b.invariant)
      | else-not-covers w ↦
          let e : c.if-not-covers.all.items ≡ c.loop-b.all.items = λ i. (w.all-is i).items in
          subst (λ (ys : List Bar). Omits (take c.loop-b.b-index c.args.bars.now ++ c.b-item.result ∷ []) ys c.args.bar) (sym e)
          (omits_one _ _ _ _ c.loop-b.invariant (w.if-not-covers.ensures (search rules)))
    ])

pub returns : goal.returns
returns c = subst (λ (ys : List Bar). AddsBar c.args.bars.now ys c.args.bar) (sym c.in_ok-push-2.ensures.items)
    (adds_last _ _ _ (subst (λ (ys : List Bar). Omits ys c.loop-b.all.items c.args.bar) (take_all _ _ c.loop-b-test.false) c.loop-b.invariant))
