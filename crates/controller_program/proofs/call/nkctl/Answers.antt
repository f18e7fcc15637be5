use Rattle.std.proofs.Common.{subst, Result, IfOk}
use Rattle.program_answer.specs.declared.answer.Answer.{Answer}
use Rattle.program_answer.specs.declared.answer.AnswerError.{AnswerError}
use Rattle.program_answer.specs.Statuses.{IsReport}
use Rattle.program_answer.specs.Called.{change, net_of, sink_of, source_of}
use Rattle.controller_program.specs.Called.{called, reporter_of}
use Rattle.controller_program.specs.Commands.{IsAny}
use Rattle.controller_program.proofs.CallLaws.{is_call}
use Rattle.controller_program.proofs.Coming.{is_report}
use Rattle.controller_program.proofs.call.nkctl.Goals as goal

pub say-requires : goal.say-requires
say-requires g c = λ a e.
    let K = g.K.Sink in
    subst (λ (r : Result Answer AnswerError). IfOk r (λ b. IsReport b.status)) e (is_report IsAny _ c.any_answer-answer.result (c.any_answer-answer.ensures.answers (sink_of K.written K.faults c.args.sink.now c.args.sink.now)))

pub returns-clause-call : goal.returns-clause-call
returns-clause-call g c =
    let S = g.S.Source in
    let K = g.K.Sink in
    let N = g.N.Net in
    let R = g.Q.Reporter in
    let sink = sink_of K.written K.faults c.args.sink.now c.say.new.sink in
    is_call IsAny (called c.args.words.now (source_of S.left S.faults c.args.source.now c.any_answer-answer.new.source) sink (net_of N.faults N.broken N.gathered c.args.host.now.net c.any_answer-answer.new.host.net) (change g.T.Spawner.faults c.args.host.now.threads c.any_answer-answer.new.host.threads) (reporter_of g.Q.Receipt.Receipt.stamped (change R.faults c.args.reporter.now c.any_answer-answer.new.reporter))) c.any_answer-answer.result c.say.result (c.any_answer-answer.ensures.answers sink) c.any_answer-answer.ensures.at_most c.say.ensures.said
