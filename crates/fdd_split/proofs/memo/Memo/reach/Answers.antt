use Rattle.std.proofs.Common.{rules, Bool, List, Option, sym, subst}
use Rattle.fdd_split.specs.Memos.{ArePlainEntries}
use Rattle.fdd_split.proofs.KeptLaws.{unknown_added}
use Rattle.fdd_split.proofs.memo.Memo.reach.Goals as goal

pub loop-preserved : goal.loop-preserved
loop-preserved c = (
  λ k h.
      let kept = c.loop.invariant.0 k h in
      record {
        plain = subst (λ (known : List (Option Bool)). ArePlainEntries k known) (sym c.in_ok-push.ensures.items) (unknown_added k _ kept.plain);
        threats = kept.threats;
        parts = kept.parts;
        nodes = kept.nodes;
      },
  let before = c.loop.invariant.1 in search rules,
)
