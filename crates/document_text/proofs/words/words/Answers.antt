use Rattle.std.proofs.Common.{◌+◌, length, refl, sym, ap, ◌∙◌, arith, length-drop}
use Rattle.document_text.specs.Answers.{texts}
use Rattle.document_text.proofs.Pieces.{words-more-at, words-last-at, rest-of, piece-position}
use Rattle.document_text.proofs.words.words.Goals as goal

pub returns-then-end-rest : goal.returns-then-end-rest
returns-then-end-rest c =
    words-last-at _ (texts c.loop-all.all.items) c.loop-all.rest.now _ _ c.piece_len-end.result c.in_ok-all.ensures
    refl (c.piece_len-end.ensures.len ∙ sym (piece-position c.loop-all.rest.now)) (omega (arith, c.piece_len-end.ensures.within)) c.loop-all.invariant.words

pub loop-all-preserved : goal.loop-all-preserved
loop-all-preserved c =
    let after = rest-of c.loop-all.rest.now (c.piece_len-end.result + 1) in
    record {
      words = words-more-at _ (texts c.loop-all.all.items) c.loop-all.rest.now _ _ _ c.piece_len-end.result c.in_ok-all.ensures
          refl after (c.piece_len-end.ensures.len ∙ sym (piece-position c.loop-all.rest.now)) (omega arith) c.loop-all.invariant.words;
      short = omega (arith, ap length after, length-drop (c.piece_len-end.result + 1) c.loop-all.rest.now, c.loop-all.invariant.short);
    }
