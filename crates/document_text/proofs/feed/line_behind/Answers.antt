use Rattle.std.proofs.Common.{◌+◌, ◌==◌, ap, length, count_by, length-drop, arith}
use Rattle.document_text.proofs.Ends.{line-more, line-last}
use Rattle.document_text.proofs.Pieces.{rest-of}
use Rattle.document_text.proofs.feed.line_behind.Goals as goal

pub loop-at-preserved : goal.loop-at-preserved
loop-at-preserved c =
    let rest = c.loop-at.rest.now in
    let at = c.in-Some.at in
    let found = rw c.in-Some.is at c.memchr.ensures in
    let within = found.0.high in
    let cut = rest-of rest (at + 1) in
    let left = ap length cut in
    record {
      line = omega (arith, c.loop-at.invariant.line, line-more rest at found, ap (count_by (λ b. b == 10)) cut);
      within = omega (arith, c.loop-at.invariant.within, left, length-drop (at + 1) rest, within);
    }

pub returns : goal.returns
returns c = omega (arith, c.loop-at.invariant.line, line-last c.loop-at.rest.now (rw c.in_default.is at c.memchr.ensures))
