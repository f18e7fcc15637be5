use Rattle.std.proofs.Common.{◌≡◌, ◌≤◌, ◌-◌, ℕ, List, length}
use Rattle.std.specs.Io.KnownBytes.{Consumes}
use Rattle.document_text.specs.Feeding.{StandsFor}
use Rattle.program_answer.specs.Lines.{Counts}
use Rattle.program_answer.proofs.reading.feed_from.Given as goal

abbrev pub invariant-loop-fed : goal.invariant-loop-fed
invariant-loop-fed g l = record {
  within : l.fed ≤ 4194305;
  taken : (bytes : List ℕ) × (length bytes ≡ l.fed) × Consumes (g.S.Source.left l.initial.source) (g.S.Source.left l.source) bytes × StandsFor l.reader bytes × Counts l.lines bytes;
  few : l.lines.ended ≤ l.fed;
  same : g.S.Source.faults l.source ≡ g.S.Source.faults l.initial.source;
}

abbrev pub decreases-loop-fed : goal.decreases-loop-fed
decreases-loop-fed g l = 4194305 - l.fed
