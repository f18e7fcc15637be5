use Rattle.std.proofs.Common.{sym, subst}
use Rattle.std.proofs.lemmas.Result.{err_from_is_err_and}
use Rattle.drive_journal.specs.Losses.{HaltsAtLoss}
use Rattle.program_answer.specs.declared.answer.AnswerError.{AnswerError}
use Rattle.program_answer.specs.Called.{change}
use Rattle.program_answer.proofs.Starting.{versions-start-alone}
use Rattle.drive_command.specs.Drive.{TellsDriveCut}
use Rattle.drive_command.proofs.drive.drive_document.Goals as goal

pub begin-requires : goal.begin-requires
begin-requires g c = rw c.into_parts.ensures.topology (versions-start-alone c.args.document.topology c.args.document.settings _ _ c.requires.sound.stamps c.requires.sound.policies c.requires.versions)

pub drive_over-requires-clause-losses : goal.drive_over-requires-clause-losses
drive_over-requires-clause-losses g c κs within = subst HaltsAtLoss (sym c.in_ok-coordinator.ensures) (c.starts_halt_at_loss.ensures _ _)

pub returns-in_err-answer-in-Ok-clause-cut : goal.returns-in_err-answer-in-Ok-clause-cut
returns-in_err-answer-in-Ok-clause-cut g c =
    let pairs = change g.N.Net.faults c.args.host.now.net c.drive_over.new.host.net in
    let threads = change g.T.Spawner.faults c.args.host.now.threads c.drive_over.new.host.threads in
    let reports = change g.Q.Reporter.faults c.args.reporter.now c.drive_over.new.reporter in
    let p = err_from_is_err_and c.from_residual-in_err-answer-in-Ok.result c.from_residual-in_err-answer-in-Ok.ensures.1 in
    rw p.1 (subst (λ (e : AnswerError). TellsDriveCut pairs threads reports e) (sym p.2) tt)
