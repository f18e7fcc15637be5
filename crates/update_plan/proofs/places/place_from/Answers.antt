use Rattle.std.proofs.Common.{◌∙◌, slice_get, sym, arith}
use Rattle.update_plan.specs.Reading.{share_at}
use Rattle.update_plan.proofs.Cursors.{at_end, at_last, past, none_by}
use Rattle.update_plan.proofs.places.place_from.Goals as goal

pub loop-port-preserved : goal.loop-port-preserved
loop-port-preserved c =
    let none = none_by (λ r. r.now) c.row_at.result (slice_get (share_at c.args.share c.args.adds c.args.rows.now.band c.args.switch.sw (slice_get c.args.rows.now.ports c.loop-port.port)) c.loop-port.row) c.row_at.ensures.row (sym c.is_some.ensures ∙ c.if-is_some.false) in
    sym (at_end c.args.share c.args.adds c.args.rows.now.band c.args.switch.sw c.args.rows.now.ports c.loop-port.port c.loop-port.row (past c.args.share c.args.adds c.args.rows.now.band c.args.switch.sw c.args.rows.now.ports c.loop-port.port c.loop-port.row none)) ∙ c.loop-port.invariant

pub returns-clause-none : goal.returns-clause-none
returns-clause-none c = sym c.loop-port.invariant ∙ at_last c.args.share c.args.adds c.args.rows.now.band c.args.switch.sw c.args.rows.now.ports c.args.switch.span c.loop-port.port c.loop-port.row c.requires (omega (arith, c.loop-port-test.false))
