use Rattle.std.proofs.Common.{arith, ◌-◌}
use Rattle.openflow_wire.proofs.RankLaws.{repeats, adjacent-rising}
use Rattle.flow_audit.proofs.ranking.repeated.Goals as goal

pub returns-then-is_one_key : goal.returns-then-is_one_key
returns-then-is_one_key c = (
  omega arith,
  repeats c.args.rows.now (c.loop-k.k - 1) c.loop-k.k c.index-rows-k.result c.index-rows-k-in-loop-k.result (omega arith) (omega arith) c.index-rows-k.is c.index-rows-k-in-loop-k.is
      (c.is_one_key.ensures.0 c.if-is_one_key.true),
)

pub returns : goal.returns
returns c = adjacent-rising c.args.rows.now c.requires (λ i j d e lt. c.loop-k.invariant i j d e (omega arith))
