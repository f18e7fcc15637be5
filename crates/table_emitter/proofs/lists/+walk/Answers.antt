use Rattle.std.proofs.Common.{◌≡◌, ◌≤◌, ◌<◌, ap, sym, ◌∙◌, subst, rules, arith, List, [], ◌∷◌}
use Rattle.std.specs.declared.alloc.Global.{Global}
use Rattle.std.specs.declared.vec.Vec.{Vec}
use Rattle.nk_values.specs.declared.packet.Packet.{Packet}
use Rattle.nk_values.specs.declared.row.Row.{Row}
use Rattle.fdd_nodes.specs.Cells.{IsValid}
use Rattle.fdd_nodes.specs.Trees.{tree}
use Rattle.leaf_actions.proofs.Fixed.{valid_apply}
use Rattle.table_emitter.specs.FrameKinds.{is_void}
use Rattle.table_emitter.proofs.Depths.{tests_in}
use Rattle.table_emitter.proofs.Listed.{made_then, made_else, leaf_made}
use Rattle.table_emitter.proofs.Passed.{passed}
use Rattle.table_emitter.proofs.Walking.{IsWalked, walk_on, walk_over, true_bars, last_rows, last_bars}
use Rattle.table_emitter.proofs.lists.+walk.Goals as goal
use Rattle.table_emitter.proofs.lists.+walk.Goals.{then-not-is_void+in_ok-walk-in-Test, else-not-is_void}

pub returns-in-Leaf-clause-rows : goal.returns-in-Leaf-clause-rows
returns-in-Leaf-clause-rows t c =
    let at = passed c.args.listing.now.view.now c.args.listing.now.top c.args.cell.now c.args.kinds c.loop-node.known (tree c.args.part.now) (tree c.loop-node.node.now) (tree c.past_barred-node.result.now) c.args.rows.now.items c.loop-node.rows.items c.past_barred-node.ensures c.loop-node.invariant.walked c.loop-node.invariant.made in
    last_rows c.args.listing.now.view.now c.args.listing.now.top c.args.cell.now c.args.kinds _ _ _ _ _ _ _ _ (ap tree c.in-Leaf.is) at.walked c.list_leaf.ensures.rows

pub returns-in-Leaf-clause-bars : goal.returns-in-Leaf-clause-bars
returns-in-Leaf-clause-bars t c =
    let at = passed c.args.listing.now.view.now c.args.listing.now.top c.args.cell.now c.args.kinds c.loop-node.known (tree c.args.part.now) (tree c.loop-node.node.now) (tree c.past_barred-node.result.now) c.args.rows.now.items c.loop-node.rows.items c.past_barred-node.ensures c.loop-node.invariant.walked c.loop-node.invariant.made in
    last_bars c.args.listing.now.view.now c.args.listing.now.top c.args.cell.now c.args.kinds _ _ _ _ _ _ _ (ap tree c.in-Leaf.is) at.walked c.list_leaf.ensures.bars

pub walk-requires : goal.walk-requires
walk-requires t c =
    let at = passed c.args.listing.now.view.now c.args.listing.now.top c.args.cell.now c.args.kinds c.loop-node.known (tree c.args.part.now) (tree c.loop-node.node.now) (tree c.past_barred-node.result.now) c.args.rows.now.items c.loop-node.rows.items c.past_barred-node.ensures c.loop-node.invariant.walked c.loop-node.invariant.made in (
      let m : tests_in (tree c.args.part.now) ≡ t = c.decreases in
          let n : tests_in (tree c.loop-node.node.now) ≤ tests_in (tree c.args.part.now) = c.loop-node.invariant.smaller in
          let s = ap tests_in (ap tree c.in-Test.is) in
          let d = ap tests_in (ap tree c.deref.ensures) in
          let f : tests_in (tree c.deref.result.now) < t = omega (arith, m, n, s, d) in
          f,
      (
        made_then _ _ _ _ _ (ap tree c.in-Test.is) (ap tree c.deref.ensures) at.made,
        (
          subst (λ (x : Packet). IsValid x) (sym c.with.ensures) (valid_apply (c.in-Test.l ∷ []) c.args.cell.now c.requires.valid),
          (
            c.requires.stamp,
            (
              c.requires.top,
              at.walked.few,
            ),
          ),
        ),
      ),
    )

pub returns-in_err-walk-in-Test-clause-bars : goal.returns-in_err-walk-in-Test-clause-bars
returns-in_err-walk-in-Test-clause-bars t c =
    let at = passed c.args.listing.now.view.now c.args.listing.now.top c.args.cell.now c.args.kinds c.loop-node.known (tree c.args.part.now) (tree c.loop-node.node.now) (tree c.past_barred-node.result.now) c.args.rows.now.items c.loop-node.rows.items c.past_barred-node.ensures c.loop-node.invariant.walked c.loop-node.invariant.made in
    let b = true_bars c.args.listing.now.view.now c.args.listing.now.top c.args.cell.now c.with.result c.args.kinds c.loop-node.known c.after_true-within.result (tree c.args.part.now) (tree c.past_barred-node.result.now) (tree c.deref.result.now) _ _ c.in-Test.l c.args.rows.now.items c.loop-node.rows.items c.in_err-walk-in-Test.field-0.0
    (ap tree c.in-Test.is) (ap tree c.deref.ensures) c.with.ensures c.after_true-within.ensures at.walked c.in_err-walk-in-Test.ensures.bars in
    search (rules, b)

pub loop-node-preserved : goal.loop-node-preserved
loop-node-preserved t c =
    let at = passed c.args.listing.now.view.now c.args.listing.now.top c.args.cell.now c.args.kinds c.loop-node.known (tree c.args.part.now) (tree c.loop-node.node.now) (tree c.past_barred-node.result.now) c.args.rows.now.items c.loop-node.rows.items c.past_barred-node.ensures c.loop-node.invariant.walked c.loop-node.invariant.made in
    let few = at.fewer in
    let n : tests_in (tree c.loop-node.node.now) ≤ tests_in (tree c.args.part.now) = c.loop-node.invariant.smaller in
    let s = ap tests_in (ap tree c.in-Test.is) in
    let d = ap tests_in (ap tree c.deref-node.ensures) in
    record {
      walked = elim c.if-not-is_void.branch [
        | then-not-is_void+in_ok-walk-in-Test w ↦
            subst (λ (rows : List Row). IsWalked c.args.listing.now.view.now c.args.listing.now.top c.args.cell.now c.args.kinds c.after_false-known.result (tree c.args.part.now) (tree c.deref-node.result.now) c.args.rows.now.items rows) (sym (ap (λ (v : Vec Row Global). v.items) w.rows-is))
            (walk_on c.args.listing.now.view.now c.args.listing.now.top c.args.cell.now w.with.result c.args.kinds c.loop-node.known c.after_true-within.result c.after_false-known.result _ _ _ _ _ _ c.in-Test.l _ _ _ (ap tree c.in-Test.is) (ap tree w.deref.ensures)
            (ap tree c.deref-node.ensures) w.with.ensures c.after_true-within.ensures c.after_false-known.ensures at.walked w.in_ok-walk-in-Test.ensures.few w.in_ok-walk-in-Test.ensures.rows)
        | else-not-is_void w ↦
            subst (λ (rows : List Row). IsWalked c.args.listing.now.view.now c.args.listing.now.top c.args.cell.now c.args.kinds c.after_false-known.result (tree c.args.part.now) (tree c.deref-node.result.now) c.args.rows.now.items rows) (sym (ap (λ (v : Vec Row Global). v.items) w.rows-is))
            (walk_over c.args.listing.now.view.now c.args.listing.now.top c.args.cell.now c.args.kinds c.loop-node.known c.after_false-known.result _ _ _ _ _ c.in-Test.l _ _ (ap tree c.in-Test.is) (ap tree c.deref-node.ensures)
            (sym (ap is_void c.after_true-within.ensures) ∙ sym c.is_void.ensures ∙ w.if-not-is_void.false) c.after_false-known.ensures at.walked)
      ];
      made = made_else _ _ _ _ _ (ap tree c.in-Test.is) (ap tree c.deref-node.ensures) at.made;
      smaller = omega (arith, n, few, s, d);
    }

pub list_leaf-requires-clause-made : goal.list_leaf-requires-clause-made
list_leaf-requires-clause-made t c =
    let at = passed c.args.listing.now.view.now c.args.listing.now.top c.args.cell.now c.args.kinds c.loop-node.known (tree c.args.part.now) (tree c.loop-node.node.now) (tree c.past_barred-node.result.now) c.args.rows.now.items c.loop-node.rows.items c.past_barred-node.ensures c.loop-node.invariant.walked c.loop-node.invariant.made in
    leaf_made _ _ (ap tree c.in-Leaf.is) at.made

pub loop-node-smaller : goal.loop-node-smaller
loop-node-smaller t c =
    let at = passed c.args.listing.now.view.now c.args.listing.now.top c.args.cell.now c.args.kinds c.loop-node.known (tree c.args.part.now) (tree c.loop-node.node.now) (tree c.past_barred-node.result.now) c.args.rows.now.items c.loop-node.rows.items c.past_barred-node.ensures c.loop-node.invariant.walked c.loop-node.invariant.made in
    let few = at.fewer in
    let s = ap tests_in (ap tree c.in-Test.is) in
    let d = ap tests_in (ap tree c.deref-node.ensures) in
    omega (arith, few, s, d)
