use Rattle.std.proofs.Common.{rules, ◌≡◌}
use Rattle.drive_journal.specs.Journals.{told_before}
use Rattle.drive_journal.specs.Calls.{IsElement}
use Rattle.drive_journal.specs.declared.element.Element.TheVariants as element
use Rattle.drive_journal.proofs.Resting.{tells-fault}
use Rattle.drive_journal.proofs.drive.Drive.tell.Goals as goal

pub returns-in-Fault-clause-answer : goal.returns-in-Fault-clause-answer
returns-in-Fault-clause-answer g c =
    let at : told_before c.args.place c.args.self.now.held.journal ≡ c.args.k = search rules in
    let is : IsElement c.args.bytes.now (element.Fault c.in-Fault.fault) = search rules in
    tells-fault c.args.place c.args.bytes.now c.args.k c.args.end c.args.self.now c.garble.new.self c.in-Fault.fault c.garble.result is at c.garble.ensures.answer
