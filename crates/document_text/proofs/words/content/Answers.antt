use Rattle.std.proofs.Common.{sym, ap, ◌∙◌, take, arith}
use Rattle.document_text.specs.Texts.{is_over}
use Rattle.document_text.proofs.Pieces.{content_len, content-take, over-more, over-here, rest-of, take-all}
use Rattle.document_text.proofs.words.content.Goals as goal

pub loop-i-preserved : goal.loop-i-preserved
loop-i-preserved c =
    over-more c.args.line.now c.loop-i.i c.loop-i-test.true
    (ap is_over (sym (rest-of c.args.line.now c.loop-i.i)) ∙ sym c.is_over.ensures ∙ c.if-is_over.false) c.loop-i.invariant

pub returns-then-is_over-clause-content : goal.returns-then-is_over-clause-content
returns-then-is_over-clause-content c =
    let line = c.args.line.now in
    ap (λ n. take n line)
    (over-here line c.loop-i.i (ap is_over (sym (rest-of line c.loop-i.i)) ∙ sym c.is_over.ensures ∙ c.if-is_over.true) c.loop-i.invariant)
    ∙ sym (content-take line)

pub returns-clause-content : goal.returns-clause-content
returns-clause-content c =
    let line = c.args.line.now in
    sym (take-all (content_len line) line (omega (arith, c.loop-i.invariant, c.loop-i-test.false))) ∙ sym (content-take line)
