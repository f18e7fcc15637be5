use Rattle.world_journal.specs.Journals.{switches}
use Rattle.world_journal.proofs.Giving.{loses-present}
use Rattle.world_journal.proofs.run.Run.lost.Goals as goal

pub returns-then-is_present-clause-answer : goal.returns-then-is_present-clause-answer
returns-then-is_present-clause-answer g c =
    rw (c.at-side.ensures.place, c.name.ensures) at
    (loses-present (switches g.L.RunName.start) c.name.result c.args.seat.now.worker c.at-side.result.1 c.args.end c.args.self.now c.lose_at.new.run c.lose_at.result (c.is_present.ensures.0 c.if-is_present.true) c.lose_at.ensures.answer)
