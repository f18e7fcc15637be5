use Rattle.std.proofs.Common.{◌≡◌, ◌≤◌, ◌+◌, length}
use Rattle.document_text.specs.Grammar.{line_behind}
use Rattle.document_text.proofs.feed.line_behind.Given as goal

abbrev pub decreases-loop-at : goal.decreases-loop-at
decreases-loop-at l = length l.rest

abbrev pub invariant-loop-at : goal.invariant-loop-at
invariant-loop-at l = record {
  line : l.line + line_behind l.rest ≡ l.fn.line + line_behind l.front;
  within : l.line + length l.rest ≤ 4194306;
}
