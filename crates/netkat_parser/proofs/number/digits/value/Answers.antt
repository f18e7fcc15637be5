use Rattle.netkat_parser.proofs.Digits.{digits-past-at, digits-more, value-more}
use Rattle.std.proofs.Common.{arith}
use Rattle.netkat_parser.proofs.number.digits.value.Goals as goal

pub loop-byte-preserved : goal.loop-byte-preserved
loop-byte-preserved c =
    let digit = c.in_ok-next.ensures.some in
    record {
      value = value-more c.args.base c.args.digits.now c.loop-byte.byte-index c.loop-byte.n _ c.loop-byte-test.true c.loop-byte.invariant.value digit.1;
      digits = digits-more c.args.base c.args.digits.now c.loop-byte.byte-index c.loop-byte-test.true c.loop-byte.invariant.digits digit.0;
      small = omega arith;
    }

pub returns-then-n-high-clause-value : goal.returns-then-n-high-clause-value
returns-then-n-high-clause-value c =
    let digit = c.in_ok-next.ensures.some in
    digits-past-at c.args.base c.args.high c.args.digits.now c.loop-byte.byte-index _ c.requires.base
    (value-more c.args.base c.args.digits.now c.loop-byte.byte-index c.loop-byte.n _ c.loop-byte-test.true c.loop-byte.invariant.value digit.1) c.if-n-high.true
