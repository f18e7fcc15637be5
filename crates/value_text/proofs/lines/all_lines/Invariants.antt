use Rattle.std.proofs.Common.{◌≡◌, ◌++◌, map, take, string_bytes}
use Rattle.value_text.specs.Histories.{history_text}
use Rattle.value_text.proofs.lines.all_lines.Given as goal

abbrev pub invariant-loop-history : goal.invariant-loop-history
invariant-loop-history l = map string_bytes l.lines.items ≡ map (λ h. l.head ++ history_text h) (take l.history-index l.histories)
