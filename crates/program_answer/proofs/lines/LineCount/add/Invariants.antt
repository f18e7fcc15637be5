use Rattle.std.proofs.Common.{◌≤◌, ◌+◌, ℕ, List, ◌++◌, take}
use Rattle.program_answer.specs.Lines.{Counts}
use Rattle.program_answer.proofs.lines.LineCount.add.Given as goal

abbrev pub invariant-loop-byte : goal.invariant-loop-byte
invariant-loop-byte l = record {
  counts : (text : List ℕ) → Counts l.initial.self text → Counts l.self (text ++ take l.byte-index l.piece);
  most : l.self.ended ≤ l.initial.self.ended + l.byte-index;
}
