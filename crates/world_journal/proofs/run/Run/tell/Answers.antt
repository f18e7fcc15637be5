use Rattle.world_journal.specs.Journals.{switches}
use Rattle.world_journal.proofs.Giving.{tells-present}
use Rattle.world_journal.proofs.run.Run.tell.Goals as goal

pub returns-then-is_present-clause-answer : goal.returns-then-is_present-clause-answer
returns-then-is_present-clause-answer g c =
    rw (c.at-side.ensures.side, c.at-side.ensures.place, c.name.ensures) at
    (tells-present (switches g.L.RunName.start) c.name.result c.args.seat.now.worker c.at-side.result.0 c.at-side.result.1 c.args.bytes.now c.args.k c.args.end c.args.self.now c.tell_at.new.run c.tell_at.result (c.is_present.ensures.0 c.if-is_present.true) c.tell_at.ensures.answer)
