use Rattle.std.proofs.Common.{sym, ◌∙◌}
use Rattle.world_journal.proofs.Giving.{goes-on}
use Rattle.world_journal.proofs.calls.sends.work_at.Goals as goal

pub returns-clause-answer : goal.returns-clause-answer
returns-clause-answer g c = goes-on _ c.args.side c.args.s _ _ _ (sym c.waits.ensures ∙ c.if-waits.false) c.go_on.ensures.answer
