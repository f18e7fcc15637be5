use Rattle.std.proofs.Common.{◌∙◌, sym, ap, below_more}
use Rattle.topology_model.specs.Lines.{with_line}
use Rattle.topology_model.specs.Layouts.{Layout}
use Rattle.topology_model.proofs.Growth.{found, layout_next, fault_next, line_cause}
use Rattle.topology_model.proofs.topology.building.draft_of.Goals as goal

pub returns-in-Err-clause-cause : goal.returns-in-Err-clause-cause
returns-in-Err-clause-cause c =
    let l = c.index-lines-place.result in
    rw c.at.ensures (line_cause c.args.lines.now c.loop-place.place c.loop-place.draft l c.in-Err.error (found c.args.lines.now c.loop-place.place l c.loop-place-test.true c.index-lines-place.is) c.loop-place.invariant.0
    c.loop-place.invariant.1 c.in-Err.ensures.cause)

pub loop-place-preserved : goal.loop-place-preserved
loop-place-preserved c =
    let l = c.index-lines-place.result in
    let i = c.loop-place.place in
    let at = found c.args.lines.now i l c.loop-place-test.true c.index-lines-place.is in (
      c.in_default.ensures.line ∙ ap (λ (t : Layout). with_line t l) c.loop-place.invariant.0 ∙ sym (layout_next c.args.lines.now i l at),
      below_more _ _ c.loop-place.invariant.1 (fault_next c.args.lines.now i c.loop-place.draft l at c.loop-place.invariant.0 ∙ c.in_default.ensures.faultless),
    )
