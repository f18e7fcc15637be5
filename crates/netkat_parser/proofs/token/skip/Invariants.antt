use Rattle.std.proofs.Common.{◌≡◌, drop}
use Rattle.netkat_parser.specs.Signs.{ahead}
use Rattle.netkat_parser.specs.Cuts.{comment_behind}
use Rattle.netkat_parser.proofs.token.skip.Given as goal

abbrev pub invariant-loop-i : goal.invariant-loop-i
invariant-loop-i l = record {
  rest : ahead l.in_comment (drop l.i l.text) ≡ ahead l.fn.in_comment l.text;
  comment : comment_behind l.in_comment (drop l.i l.text) ≡ comment_behind l.fn.in_comment l.text;
}
