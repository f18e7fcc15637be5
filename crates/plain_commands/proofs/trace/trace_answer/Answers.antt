use Rattle.program_answer.specs.Called.{source_of}
use Rattle.document_text.specs.Answers.{doc_of}
use Rattle.plain_commands.proofs.Walks.{trace_answers}
use Rattle.plain_commands.proofs.trace.trace_answer.Goals as goal

pub returns-clause-answer : goal.returns-clause-answer
returns-clause-answer g c =
    let S = g.S.Source in
    trace_answers (source_of S.left S.faults c.args.source.now c.read_input.new.source) (doc_of c.in_ok-input.input.document) c.in_ok-input.input.versions.items _ _ c.new.ensures c.in_ok-input.ensures.reads c.in_ok-text.ensures
