use Rattle.std.proofs.Common.{[], map, drop, string_bytes}
use Rattle.value_text.specs.Traces.{AddsText, IsPolicyText}
use Rattle.value_text.proofs.TextLaws.{IsFront}
use Rattle.value_text.proofs.traces.trace_text.Given as goal

abbrev pub invariant-loop-before : goal.invariant-loop-before
invariant-loop-before l = AddsText (IsFront IsPolicyText (map (λ v. v.items) l.walks) (map (λ v. v.items) (drop l.before l.walks)) l.before) [] (string_bytes l.out)
