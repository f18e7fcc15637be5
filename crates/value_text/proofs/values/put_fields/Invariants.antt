use Rattle.std.proofs.Common.{◌≡◌, ◌++◌, drop, string_bytes}
use Rattle.value_text.specs.Values.{fields_text}
use Rattle.value_text.proofs.values.put_fields.Given as goal

abbrev pub invariant-loop-field : goal.invariant-loop-field
invariant-loop-field l = string_bytes l.out ++ fields_text l.packet (drop l.field-index l.fields) ≡ string_bytes l.initial.out ++ fields_text l.packet l.fields
