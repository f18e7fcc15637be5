use Rattle.std.proofs.Common.{sym, subst}
use Rattle.std.proofs.lemmas.Result.{err_from_is_err_and}
use Rattle.program_answer.specs.declared.answer.AnswerError.{AnswerError}
use Rattle.program_answer.specs.Answers.{Stops}
use Rattle.program_answer.specs.Input.{IsInputRefused}
use Rattle.program_answer.specs.Called.{source_of}
use Rattle.plain_commands.proofs.Simulating.{simulate_stops, refuses_more}
use Rattle.audit_command.proofs.Auditing.{audit_answers}
use Rattle.audit_command.proofs.audit.audit_answer.Goals as goal

pub returns-clause-answer : goal.returns-clause-answer
returns-clause-answer g c =
    let S = g.S.Source in
    audit_answers (source_of S.left S.faults c.args.source.now c.read_input.new.source) c.in_ok-input.input.document c.in_ok-input.input.versions.items c.audited.result c.in_ok-input.ensures.reads c.audited.ensures.answer

pub returns-clause-stops : goal.returns-clause-stops
returns-clause-stops g c =
    let S = g.S.Source in
    simulate_stops (source_of S.left S.faults c.args.source.now c.read_input.new.source) c.in_ok-input.input.document c.in_ok-input.input.versions.items c.audited.result c.in_ok-input.ensures.taken c.in_ok-input.ensures.reads c.audited.ensures.stop

pub returns-in_err-input-clause-stops : goal.returns-in_err-input-clause-stops
returns-in_err-input-clause-stops g c =
    let S = g.S.Source in
    let source = source_of S.left S.faults c.args.source.now c.read_input.new.source in
    let p = err_from_is_err_and c.from_residual.result c.from_residual.ensures.1 in
    rw p.1 (refuses_more source p.0 (subst (λ (e : AnswerError). Stops IsInputRefused source e) (sym p.2) c.in_err-input.ensures.stops))
