use Rattle.std.proofs.Common.{sym, subst}
use Rattle.std.proofs.lemmas.Result.{IfOk-weaker, IfErr-weaker, err_from_is_err_and}
use Rattle.document_text.specs.Answers.{doc_of}
use Rattle.program_answer.specs.declared.answer.AnswerError.{AnswerError}
use Rattle.program_answer.specs.Answers.{Stops}
use Rattle.program_answer.specs.Called.{change, source_of}
use Rattle.program_answer.specs.Input.{IsInputRefused}
use Rattle.drive_command.proofs.DriveLaws.{cut_stops, drive_answers, input_stops}
use Rattle.drive_command.proofs.drive.drive_answer.Goals as goal

pub returns-clause-answer : goal.returns-clause-answer
returns-clause-answer g c =
    let S = g.S.Source in
    IfOk-weaker c.drive_document.result _ _
    (λ a h. drive_answers g.Q.Receipt.Receipt.stamped (source_of S.left S.faults c.args.source.now c.read_input.new.source) (change g.N.Net.broken c.args.host.now.net c.drive_document.new.host.net) (doc_of c.in_ok-input.input.document) c.in_ok-input.input.versions.items a c.in_ok-input.ensures.reads h)
    c.drive_document.ensures.driven

pub returns-clause-stops : goal.returns-clause-stops
returns-clause-stops g c =
    let S = g.S.Source in
    IfErr-weaker c.drive_document.result _ _
    (λ e h. cut_stops (source_of S.left S.faults c.args.source.now c.read_input.new.source) (change g.N.Net.faults c.args.host.now.net c.drive_document.new.host.net) (change g.T.Spawner.faults c.args.host.now.threads c.drive_document.new.host.threads) (change g.Q.Reporter.faults c.args.reporter.now c.drive_document.new.reporter) (doc_of c.in_ok-input.input.document) c.in_ok-input.input.versions.items e c.in_ok-input.ensures.reads h)
    c.drive_document.ensures.cut

pub returns-in_err-input-clause-stops : goal.returns-in_err-input-clause-stops
returns-in_err-input-clause-stops g c =
    let S = g.S.Source in
    let source = source_of S.left S.faults c.args.source.now c.read_input.new.source in
    let p = err_from_is_err_and c.from_residual.result c.from_residual.ensures.1 in
    rw p.1 (input_stops source (change g.N.Net.faults c.args.host.now.net c.args.host.now.net) (change g.T.Spawner.faults c.args.host.now.threads c.args.host.now.threads) (change g.Q.Reporter.faults c.args.reporter.now c.args.reporter.now) p.0 (subst (λ (e : AnswerError). Stops IsInputRefused source e) (sym p.2) c.in_err-input.ensures.stops))
