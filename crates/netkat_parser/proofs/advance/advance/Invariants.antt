use Rattle.std.proofs.Common.{◌≤◌, ◌-◌, length, drop}
use Rattle.netkat_parser.specs.Views.{view_of}
use Rattle.netkat_parser.specs.Standing.{Leaves}
use Rattle.netkat_parser.proofs.advance.advance.Given as goal

abbrev pub decreases-loop-len : goal.decreases-loop-len
decreases-loop-len l = length l.text - l.at

abbrev pub invariant-loop-len : goal.invariant-loop-len
invariant-loop-len l = record {
  within : l.at ≤ length l.text;
  goes : Leaves (view_of l.fn.reading) l.in_comment l.text l.end (view_of l.reading) l.comment (drop l.at l.text);
}
