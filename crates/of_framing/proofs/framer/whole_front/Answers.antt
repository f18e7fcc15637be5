use Rattle.std.proofs.Common.{ℕ, take, arith, ap, inl, inr, ◌∙◌}
use Rattle.of_framing.proofs.framer.whole_front.Goals.{else-byte_at-ne1-via-then-byte_at-ne1+else-byte_at-ne0, else-byte_at-ne1-via-else-byte_at-ne1}
use Rattle.of_framing.proofs.framer.whole_front.Goals as goal

pub returns-clause-whole : goal.returns-clause-whole
returns-clause-whole c = record {
  sound = record {
    long = omega arith;
    version = elim c.else-byte_at-ne1.branch [
      | else-byte_at-ne1-via-then-byte_at-ne1+else-byte_at-ne0 w ↦ inr (omega (arith, w.if-byte_at-ne0.false, w.byte_at-then-byte_at-ne1.ensures))
      | else-byte_at-ne1-via-else-byte_at-ne1 w ↦ inl (omega (arith, w.if-byte_at-ne1.false, c.byte_at.ensures))
    ];
    length_is = omega (arith, c.half_at-len.ensures);
  };
  within = omega (arith, c.half_at-len.ensures);
  cut = c.split_at.ensures.front ∙ ap (λ (n : ℕ). take n c.args.held.now) c.half_at-len.ensures;
}
