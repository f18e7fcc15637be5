use Rattle.std.proofs.Common.{drop, string_bytes}
use Rattle.document_text.specs.Answers.{doc_of}
use Rattle.document_text.specs.Terms.{Term}
use Rattle.policy_rows.specs.Means.{RowsMean}
use Rattle.report_text.specs.Traces.{AddsText}
use Rattle.value_text.proofs.TextLaws.{IsFront}
use Rattle.plain_commands.specs.Trace.{IsPacketLineText}
use Rattle.plain_commands.proofs.trace.put_packets.Given as goal

abbrev pub invariant-loop-before : goal.invariant-loop-before
invariant-loop-before l = (p : Term) → RowsMean l.rows p l.document.topology →
    AddsText (IsFront (IsPacketLineText (doc_of l.document) p) l.document.packets.items (drop l.before l.document.packets.items) l.before) (string_bytes l.initial.out) (string_bytes l.out)
