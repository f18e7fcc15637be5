use Rattle.std.proofs.Common.{◌≡◌, ◌++◌, drop, string_bytes}
use Rattle.value_text.specs.Histories.{steps_text}
use Rattle.value_text.proofs.histories.put_steps.Given as goal

abbrev pub invariant-loop-packet : goal.invariant-loop-packet
invariant-loop-packet l = string_bytes l.out ++ steps_text l.last (drop l.packet-index l.packets) l.newest ≡ string_bytes l.initial.out ++ steps_text l.initial.last l.packets l.newest
