use Rattle.world_journal.proofs.run.Run.give.Goals as goal

pub returns-clause-answer : goal.returns-clause-answer
returns-clause-answer g c = rw (c.at-side.ensures.side, c.at-side.ensures.place) at c.give_at.ensures.answer
