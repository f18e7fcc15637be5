use Rattle.std.proofs.Common.{arith, ◌∙◌}
use Rattle.netkat_parser.proofs.Joined.{joined-step, joined-none, byte-small, bytes-small}
use Rattle.netkat_parser.proofs.number.joined.Goals as goal

pub loop-byte-preserved : goal.loop-byte-preserved
loop-byte-preserved c = record {
  rest = joined-step c.args.form c.args.sign c.args.more c.loop-byte._byte c.loop-byte.value c.in_ok-byte.byte c.loop-byte.rest.now _ _ _ c.loop-byte-test.true c.cut.ensures.before c.cut.ensures.after c.in_ok-byte.ensures.value c.loop-byte.invariant.rest;
  small = byte-small c.loop-byte._byte c.loop-byte.value c.in_ok-byte.byte c.loop-byte.invariant.small c.in_ok-byte.ensures.small;
}

pub returns-in_err-byte : goal.returns-in_err-byte
returns-in_err-byte c =
    c.from_residual.ensures ∙ joined-none c.args.form c.args.sign c.args.more c.loop-byte._byte c.loop-byte.value c.loop-byte.rest.now _ _ c.loop-byte-test.true c.cut.ensures.before c.in_err-byte.ensures.value c.loop-byte.invariant.rest

pub overflow_mul-result : goal.overflow_mul-result
overflow_mul-result c = omega (arith, bytes-small c.loop-byte._byte c.args.more c.loop-byte.value c.loop-byte.invariant.small (omega arith) c.requires)

pub overflow_add-result : goal.overflow_add-result
overflow_add-result c = omega (arith, bytes-small c.loop-byte._byte c.args.more c.loop-byte.value c.loop-byte.invariant.small (omega arith) c.requires, c.in_ok-byte-2.ensures.small)
