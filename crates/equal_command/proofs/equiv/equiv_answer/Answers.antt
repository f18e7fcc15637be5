use Rattle.std.proofs.Common.{sym, subst}
use Rattle.std.proofs.lemmas.Result.{err_from_is_err_and}
use Rattle.document_text.specs.Answers.{doc_of}
use Rattle.program_answer.specs.declared.answer.AnswerError.{AnswerError}
use Rattle.program_answer.specs.Answers.{Stops}
use Rattle.program_answer.specs.Called.{source_of}
use Rattle.program_answer.specs.Input.{IsTextRefusal}
use Rattle.equal_command.proofs.Comparing.{if-answers, if-stops, text-stops}
use Rattle.equal_command.proofs.equiv.equiv_answer.Goals as goal

pub returns-clause-answer : goal.returns-clause-answer
returns-clause-answer g c =
    let S = g.S.Source in
    if-answers (source_of S.left S.faults c.args.source.now c.read_source.new.source) (doc_of c.in_ok-read.read.document) c.in_ok-read.read.line_after c.equiv.result c.in_ok-read.ensures.reads c.equiv.ensures.answer

pub returns-clause-stops : goal.returns-clause-stops
returns-clause-stops g c =
    let S = g.S.Source in
    if-stops (source_of S.left S.faults c.args.source.now c.read_source.new.source) (doc_of c.in_ok-read.read.document) c.in_ok-read.read.line_after c.equiv.result c.in_ok-read.ensures.reads c.in_ok-read.ensures.taken c.equiv.ensures.fault

pub returns-in_err-read-clause-stops : goal.returns-in_err-read-clause-stops
returns-in_err-read-clause-stops g c =
    let S = g.S.Source in
    let source = source_of S.left S.faults c.args.source.now c.read_source.new.source in
    let p = err_from_is_err_and c.from_residual.result c.from_residual.ensures.1 in
    rw p.1 (text-stops source p.0 (subst (λ (e : AnswerError). Stops IsTextRefusal source e) (sym p.2) c.in_err-read.ensures.stops))
