use Rattle.std.proofs.Common.{◌≡◌, List, Vec, Global, ◌∷◌, ◌++◌, [], ◌∙◌, ap, subst, sym, drop, ◌+◌}
use Rattle.nk_values.specs.declared.row.Row.{Row}
use Rattle.switch_model.proofs.StatsLaws.{GoesOn, step-picked, step-past, step-ended}
use Rattle.switch_model.proofs.stats.rows_meant.Goals.{then-is_meant+in_ok-copy+in_ok-push, else-is_meant}
use Rattle.switch_model.proofs.stats.rows_meant.Goals as goal

pub loop-row-preserved : goal.loop-row-preserved
loop-row-preserved c =
    let change = c.args.change.now in
    let rows = c.args.rows.now in
    let row = c.row-item.result in
    let all = c.if-is_meant.meant.items in
    elim c.if-is_meant.branch [
      | then-is_meant+in_ok-copy+in_ok-push w ↦ (let is : all ≡ c.loop-row.meant.items ++ row ∷ [] =
          ap (λ (v : Vec Row Global). v.items) w.meant-is ∙ w.in_ok-push.ensures.items ∙ ap (λ (r : Row). c.loop-row.meant.items ++ r ∷ []) w.in_ok-copy.ensures in
          subst (λ (found : List Row). GoesOn change rows (drop (c.loop-row.row-index + 1) rows) found) (sym is)
          (step-picked change rows c.loop-row.meant.items c.loop-row.row-index row c.loop-row-test.true c.row-item.is (c.is_meant.ensures.0 w.if-is_meant.true) c.loop-row.invariant))
      | else-is_meant w ↦ (let is : all ≡ c.loop-row.meant.items = ap (λ (v : Vec Row Global). v.items) w.meant-is in
          subst (λ (found : List Row). GoesOn change rows (drop (c.loop-row.row-index + 1) rows) found) (sym is)
          (step-past change rows c.loop-row.meant.items c.loop-row.row-index row c.loop-row-test.true c.row-item.is
          (λ m. let e = sym (c.is_meant.ensures.1 m) ∙ w.if-is_meant.false in absurd cc) c.loop-row.invariant))
    ]

pub returns : goal.returns
returns c = step-ended c.args.change.now c.args.rows.now c.loop-row.meant.items c.loop-row.row-index c.loop-row-test.false c.loop-row.invariant
