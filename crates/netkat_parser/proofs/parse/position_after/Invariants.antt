use Rattle.std.proofs.Common.{◌≡◌, ◌+◌, ◌<◌, ◌^◌, length}
use Rattle.netkat_parser.specs.Places.{position_after}
use Rattle.netkat_parser.proofs.parse.position_after.Given as goal

abbrev pub decreases-loop-at : goal.decreases-loop-at
decreases-loop-at l = length l.rest

abbrev pub invariant-loop-at : goal.invariant-loop-at
invariant-loop-at l = record {
  position : position_after l.position l.rest ≡ position_after l.fn.begin l.front;
  line : l.position.line + length l.rest < 2 ^ 64;
  column : l.position.column + length l.rest < 2 ^ 64;
}
