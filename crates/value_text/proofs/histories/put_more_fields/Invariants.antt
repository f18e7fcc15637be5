use Rattle.std.proofs.Common.{◌≡◌, ◌++◌, drop, string_bytes}
use Rattle.value_text.specs.Histories.{more_fields}
use Rattle.value_text.proofs.histories.put_more_fields.Given as goal

abbrev pub invariant-loop-field : goal.invariant-loop-field
invariant-loop-field l = string_bytes l.out ++ more_fields l.packet (drop l.field-index l.fields) ≡ string_bytes l.initial.out ++ more_fields l.packet l.fields
