use Rattle.std.proofs.Common.{◌≡◌, sym, subst, refl}
use Rattle.std.proofs.lemmas.Result.{err_from_is_err_and}
use Rattle.document_text.specs.Answers.{doc_of}
use Rattle.program_answer.specs.declared.answer.AnswerError.{AnswerError}
use Rattle.program_answer.specs.Answers.{Stops}
use Rattle.program_answer.specs.Called.{change, net_of, source_of}
use Rattle.program_answer.specs.Input.{IsInputRefused}
use Rattle.thread_commands.specs.Run.{RunStops, TellsCut}
use Rattle.thread_commands.proofs.RunLaws.{cut_stops, input_stops, run_answers}
use Rattle.thread_commands.proofs.run.run_answer.Goals as goal

pub returns-clause-answer : goal.returns-clause-answer
returns-clause-answer g c =
    let S = g.S.Source in
    let N = g.N.Net in
    let run = c.in_ok-run.run' in
    run_answers (source_of S.left S.faults c.args.source.now c.read_input.new.source) (net_of N.faults N.broken N.gathered c.args.host.now.net c.run_document.new.host.net) (doc_of c.in_ok-input.input.document) c.in_ok-input.input.versions.items run.events.items run.world c.in_ok-answer.answer c.in_ok-input.ensures.reads c.in_ok-run.ensures.ran c.in_ok-answer.ensures.report

pub returns-in_err-input-clause-stops : goal.returns-in_err-input-clause-stops
returns-in_err-input-clause-stops g c =
    let S = g.S.Source in
    let source = source_of S.left S.faults c.args.source.now c.read_input.new.source in
    let p = err_from_is_err_and c.from_residual.result c.from_residual.ensures.1 in
    rw p.1 (input_stops source (change g.N.Net.faults c.args.host.now.net c.args.host.now.net) (change g.T.Spawner.faults c.args.host.now.threads c.args.host.now.threads) p.0 (subst (λ (e : AnswerError). Stops IsInputRefused source e) (sym p.2) c.in_err-input.ensures.stops))

pub returns-in_err-run-clause-stops : goal.returns-in_err-run-clause-stops
returns-in_err-run-clause-stops g c =
    let S = g.S.Source in
    let source = source_of S.left S.faults c.args.source.now c.read_input.new.source in
    let pairs = change g.N.Net.faults c.args.host.now.net c.run_document.new.host.net in
    let threads = change g.T.Spawner.faults c.args.host.now.threads c.run_document.new.host.threads in
    let p = err_from_is_err_and c.from_residual-in_err-run.result c.from_residual-in_err-run.ensures.1 in
    rw p.1 (cut_stops source pairs threads (doc_of c.in_ok-input.input.document) c.in_ok-input.input.versions.items p.0 c.in_ok-input.ensures.reads (subst (λ (e : AnswerError). TellsCut pairs threads e) (sym p.2) c.in_err-run.ensures.cut))

pub returns-in_err-answer-clause-stops : goal.returns-in_err-answer-clause-stops
returns-in_err-answer-clause-stops g c =
    let S = g.S.Source in
    let source = source_of S.left S.faults c.args.source.now c.read_input.new.source in
    let pairs = change g.N.Net.faults c.args.host.now.net c.run_document.new.host.net in
    let threads = change g.T.Spawner.faults c.args.host.now.threads c.run_document.new.host.threads in
    let p = err_from_is_err_and c.from_residual-in_err-answer.result c.from_residual-in_err-answer.ensures.1 in
    rw p.1 (subst (λ (e : AnswerError). RunStops source pairs threads e) (sym p.2) c.in_ok-input.ensures.reads.faultless)
