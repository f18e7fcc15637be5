use Rattle.std.proofs.Common.{sym, ap, ◌∙◌, subst, List, [], ◌∷◌, ◌++◌, take}
use Rattle.std.proofs.lemmas.List.{take_more, take_all}
use Rattle.nk_values.specs.declared.packet.Packet.{Packet}
use Rattle.fdd_star.specs.Narrow.{AreBut}
use Rattle.fdd_star.proofs.NarrowLaws.{but_known, but_more, but_none}
use Rattle.fdd_star.proofs.narrow.cells_but.Goals as goal
use Rattle.fdd_star.proofs.narrow.cells_but.Goals.{then-ne+in_ok-push, else-ne}

pub loop-cell-init : goal.loop-cell-init
loop-cell-init c = but_none _ _ _

pub loop-cell-preserved : goal.loop-cell-preserved
loop-cell-preserved c =
    let i = c.loop-cell.cell-index in
    let taken = take_more c.args.cells.now i c.cell-item.result c.loop-cell-test.true ∙ ap (λ (d : Packet). take i c.args.cells.now ++ d ∷ []) (sym c.cell-item.is) in
    subst (λ (cs : List Packet). AreBut cs c.args.l.now c.args.known c.if-ne.left.items) (sym taken) (elim c.if-ne.branch [
      | then-ne+in_ok-push w ↦ but_more _ _ _ _ _ _ c.knows.ensures c.loop-cell.invariant _ (ap (λ v. v.items) w.left-is ∙ w.in_ok-push.ensures.items)
      | else-ne w ↦ subst (AreBut _ _ _) (sym (ap (λ v. v.items) w.left-is)) (but_known _ _ _ _ _ _ c.knows.ensures c.loop-cell.invariant (sym c.ne.ensures ∙ w.if-ne.false))
    ])

pub returns : goal.returns
returns c = subst (λ (cs : List Packet). AreBut cs c.args.l.now c.args.known c.loop-cell.left.items) (take_all c.loop-cell.cell-index c.args.cells.now c.loop-cell-test.false) c.loop-cell.invariant
