use Rattle.std.proofs.Common.{◌≡◌, ◌+◌, ◌≤◌, length, drop, sym, ◌∙◌, subst, Err, arith, length-drop}
use Rattle.std.proofs.lemmas.List.{drop-drop}
use Rattle.netkat_parser.specs.Signs.{ahead}
use Rattle.netkat_parser.specs.Views.{view_of}
use Rattle.netkat_parser.specs.Standing.{Steps}
use Rattle.netkat_parser.proofs.Advancing.{takes-more, advances}
use Rattle.netkat_parser.proofs.advance.advance.Goals as goal

pub loop-len-preserved : goal.loop-len-preserved
loop-len-preserved c =
    let text = c.args.text.now in
    let at = c.loop-len.at in
    let blanks = c.skip-blanks.result.0 in
    let here : drop (at + blanks) text ≡ ahead c.loop-len.comment (drop at text) =
    sym (drop-drop blanks at text) ∙ (rw c.behind.ensures at c.skip-blanks.ensures.rest) in
    let taken = rw c.behind-in-loop-len.ensures at c.in-Ok.ensures in
    let within : blanks ≤ length (drop at text) = rw c.behind.ensures at c.skip-blanks.ensures.within in
    let len : c.in-Ok.len ≤ length (drop (at + blanks) text) = taken.1 in
    record {
      within = omega (arith, c.loop-len.invariant.within, within, len, length-drop at text, length-drop (at + blanks) text);
      goes = takes-more (view_of c.args.reading.now) (view_of c.loop-len.reading) c.args.in_comment c.loop-len.comment text (drop at text) c.args.end c.loop-len.invariant.goes
          (view_of c.step.new.reading) (at + blanks) c.in-Ok.len here taken.0 len taken.2;
    }

pub returns-in-Err-clause-goes : goal.returns-in-Err-clause-goes
returns-in-Err-clause-goes c =
    let text = c.args.text.now in
    let at = c.loop-len.at in
    let blanks = c.skip-blanks.result.0 in
    let here : drop (at + blanks) text ≡ ahead c.loop-len.comment (drop at text) =
    sym (drop-drop blanks at text) ∙ (rw c.behind.ensures at c.skip-blanks.ensures.rest) in
    advances (view_of c.args.reading.now) (view_of c.loop-len.reading) c.args.in_comment c.loop-len.comment text (drop at text) c.args.end c.loop-len.invariant.goes
    (view_of c.step.new.reading) (at + blanks) c.skip-blanks.result.1 c.in-Err.pause (rw c.behind.ensures at c.skip-blanks.ensures.comment) here
    (subst (λ t. Steps (view_of c.loop-len.reading) t c.args.end (view_of c.step.new.reading) (Err c.in-Err.pause)) c.behind-in-loop-len.ensures c.in-Err.ensures)
