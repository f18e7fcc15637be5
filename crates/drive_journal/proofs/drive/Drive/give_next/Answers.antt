use Rattle.std.proofs.Common.{rules, ◌≡◌}
use Rattle.update_coordinator.specs.Sending.{MaySend}
use Rattle.drive_journal.proofs.Resting.{rests-next}
use Rattle.drive_journal.proofs.drive.Drive.give_next.Goals as goal

pub returns-in-Err-NotEnabled-clause-answer : goal.returns-in-Err-NotEnabled-clause-answer
returns-in-Err-NotEnabled-clause-answer g c =
    let none : ¬ (MaySend c.args.place c.args.self.now.held.control) = search rules in
    let same : c.send.new.self ≡ c.args.self.now = search rules in
    rests-next c.args.place c.args.self.now c.send.new.self c.rest.result c.rest.ensures.answer none same
