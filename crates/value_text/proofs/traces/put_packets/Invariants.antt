use Rattle.std.proofs.Common.{drop, string_bytes}
use Rattle.value_text.specs.Traces.{AddsText, IsPacketText}
use Rattle.value_text.proofs.TextLaws.{IsFront}
use Rattle.value_text.proofs.traces.put_packets.Given as goal

abbrev pub invariant-loop-before : goal.invariant-loop-before
invariant-loop-before l = AddsText (IsFront IsPacketText l.walks (drop l.before l.walks) l.before) (string_bytes l.initial.out) (string_bytes l.out)
