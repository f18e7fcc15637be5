use Rattle.std.proofs.Common.{◌≡◌, ◌++◌, take, string_bytes}
use Rattle.report_text.specs.Causes.{bytes_text}
use Rattle.report_text.proofs.causes.halts.put_bytes.Given as goal

abbrev pub invariant-loop-byte : goal.invariant-loop-byte
invariant-loop-byte l = string_bytes l.out ≡ string_bytes l.initial.out ++ bytes_text (take l.byte-index l.bytes)
