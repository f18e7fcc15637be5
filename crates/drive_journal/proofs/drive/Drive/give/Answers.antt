use Rattle.std.proofs.Common.{rules, ◌≡◌, None}
use Rattle.std.proofs.lemmas.Result.{IfOk-weaker}
use Rattle.drive_journal.specs.Drives.{Stops, echo_at}
use Rattle.drive_journal.proofs.Resting.{gives-next}
use Rattle.drive_journal.proofs.drive.Drive.give.Goals as goal

pub returns-clause-answer : goal.returns-clause-answer
returns-clause-answer g c =
    let goes_on : ¬ (Stops c.args.self.now c.args.place) = search rules in
    let none : (echo_at c.args.self.now c.args.place ≡ None → ⊥) → ⊥ = search rules in
    IfOk-weaker c.give_next.result _ _ (λ given h. gives-next c.args.place c.args.self.now c.give_next.new.self given goes_on none h) c.give_next.ensures.answer
