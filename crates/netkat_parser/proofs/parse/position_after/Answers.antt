use Rattle.std.proofs.Common.{◌+◌, ap, ◌∙◌, length, length-drop, arith}
use Rattle.netkat_parser.specs.Places.{position_after}
use Rattle.netkat_parser.proofs.Lines.{past-line, past-none}
use Rattle.netkat_parser.proofs.parse.position_after.Goals as goal

pub loop-at-preserved : goal.loop-at-preserved
loop-at-preserved c =
    let rest = c.loop-at.rest.now in
    let at = c.in-Some.at in
    let found = rw c.in-Some.is at c.memchr.ensures in
    let within = found.0.high in
    let left = ap length c.behind-rest.ensures ∙ length-drop (at + 1) rest in
    record {
      position = ap (position_after _) c.behind-rest.ensures ∙ past-line c.loop-at.position rest at found ∙ c.loop-at.invariant.position;
      line = omega (arith, c.loop-at.invariant.line, left, within);
      column = omega (arith, c.loop-at.invariant.column, left, within);
    }

pub returns : goal.returns
returns c = past-none c.loop-at.position c.loop-at.rest.now (rw c.in_default.is at c.memchr.ensures) ∙ c.loop-at.invariant.position
