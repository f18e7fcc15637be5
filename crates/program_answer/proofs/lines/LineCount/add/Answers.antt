use Rattle.std.proofs.Common.{◌∙◌, ℕ, List, [], ◌∷◌, ◌++◌, take, sym, ap, subst, append_assoc, arith}
use Rattle.std.proofs.lemmas.List.{append-nil, take_more}
use Rattle.program_answer.specs.Lines.{Counts}
use Rattle.program_answer.proofs.lines.LineCount.add.Goals as goal

pub loop-byte-init : goal.loop-byte-init
loop-byte-init c = record {
  counts = λ text h. subst (λ (ys : List ℕ). Counts c.args.self.now ys) (sym (append-nil text)) h;
  most = omega arith;
}

pub loop-byte-preserved : goal.loop-byte-preserved
loop-byte-preserved c = record {
  counts = λ text h. (
      let pushed = c.push.ensures.counts (text ++ take c.loop-byte.byte-index c.args.piece.now) (c.loop-byte.invariant.counts text h) in
      subst (λ (ys : List ℕ). Counts c.push.new.self ys) (append_assoc text (take c.loop-byte.byte-index c.args.piece.now) (_ ∷ [])
      ∙ ap (λ (ys : List ℕ). text ++ ys) (sym (take_more c.args.piece.now c.loop-byte.byte-index 0 c.loop-byte-test.true))) pushed
      );
  most = omega (arith, c.push.ensures.most, c.loop-byte.invariant.most);
}
