use Rattle.std.proofs.Common.{[], drop, string_bytes}
use Rattle.document_text.specs.Answers.{doc_of}
use Rattle.program_answer.specs.Input.{policies_of}
use Rattle.report_text.specs.Traces.{AddsText}
use Rattle.value_text.proofs.TextLaws.{IsFront}
use Rattle.plain_commands.specs.Trace.{IsTracedPolicyText}
use Rattle.plain_commands.proofs.trace.traces.Given as goal

abbrev pub invariant-loop-before : goal.invariant-loop-before
invariant-loop-before l = AddsText (IsFront (IsTracedPolicyText (doc_of l.document)) (policies_of l.document) (drop l.before (policies_of l.document)) l.before) [] (string_bytes l.out)
