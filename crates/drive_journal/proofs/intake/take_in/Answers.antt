use Rattle.std.proofs.lemmas.Result.{IfOk-weaker}
use Rattle.drive_journal.proofs.Losing.{if-on, takes-if}
use Rattle.drive_journal.proofs.intake.take_in.Goals as goal

pub returns-in-Heard : goal.returns-in-Heard
returns-in-Heard c =
    rw c.in-Heard.is (takes-if c.is_ok.result c.heard.result c.in-Heard.place _ c.args.coordinator.now c.heard.new.self c.requires.losses c.is_ok.ensures.value (IfOk-weaker c.heard.result _ _ (λ move h. (move, h)) c.heard.ensures.ok) c.heard.ensures.refused c.heard.ensures.err)

pub returns-in-Lost : goal.returns-in-Lost
returns-in-Lost c =
    rw c.in-Lost.is (takes-if c.is_ok-in-Lost.result c.lost.result c.in-Lost.place _ c.args.coordinator.now c.lost.new.self c.requires.losses c.is_ok-in-Lost.ensures.value (if-on c.lost.result _ c.lost.ensures.ok) c.lost.ensures.refused c.lost.ensures.err)
