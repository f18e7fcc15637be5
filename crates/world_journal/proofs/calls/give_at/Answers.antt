use Rattle.std.proofs.Common.{sym, ◌∙◌}
use Rattle.world_journal.proofs.Giving.{true-false, works-fresh, works-on}
use Rattle.world_journal.proofs.calls.give_at.Goals as goal

pub returns-in-None-clause-answer : goal.returns-in-None-clause-answer
returns-in-None-clause-answer g c = works-on _ c.args.side c.args.s _ _ _ _ c.in-None.ensures.none (λ h. true-false (sym (c.stops.ensures.1 h) ∙ c.if-stops.false)) (sym c.in-None.ensures.end) c.work_at.ensures.answer

pub returns-in-None-clause-named : goal.returns-in-None-clause-named
returns-in-None-clause-named g c = works-fresh c.args.seat.now.worker c.args.side c.args.s c.take_end.new.self c.work_at.new.run _ c.work_at.result c.work_at.ensures.answer

pub returns-in-None-clause-fresh : goal.returns-in-None-clause-fresh
returns-in-None-clause-fresh g c = works-fresh c.args.seat.now.worker c.args.side c.args.s c.take_end.new.self c.work_at.new.run _ c.work_at.result c.work_at.ensures.answer
