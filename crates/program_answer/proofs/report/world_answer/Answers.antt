use Rattle.std.proofs.Common.{◌≡◌, ◌∙◌, true, false, is_some, sym, ap}
use Rattle.program_answer.specs.Statuses.{report_status}
use Rattle.program_answer.proofs.Stopping.{mapped_some}
use Rattle.program_answer.proofs.report.world_answer.Goals as goal

pub returns-then-is_some : goal.returns-then-is_some
returns-then-is_some c =
    let stands : is_some c.args.world.now.fleet.control.halt ≡ true = mapped_some _ c.halt.result _ (c.halt.ensures ∙ (λ i. (c.coordinator.ensures i).halt)) ∙ sym c.is_some.ensures ∙ c.if-is_some.true in
    record { status = ap report_status (sym stands); report = c.in_ok-text.ensures }

pub returns-else-is_some : goal.returns-else-is_some
returns-else-is_some c =
    let goes : is_some c.args.world.now.fleet.control.halt ≡ false = mapped_some _ c.halt.result _ (c.halt.ensures ∙ (λ i. (c.coordinator.ensures i).halt)) ∙ sym c.is_some.ensures ∙ c.if-is_some.false in
    record { status = ap report_status (sym goes); report = c.in_ok-text.ensures }
