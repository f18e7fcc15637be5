use Rattle.std.proofs.Common.{sym, subst}
use Rattle.fdd_split.specs.Memos.{EachIs, IsPartEntry}
use Rattle.fdd_split.proofs.KeptLaws.{right_added, key_eq, part_to, part_back}
use Rattle.fdd_split.proofs.memo.Memo.keep_part.Goals as goal

pub returns : goal.returns
returns c = λ k h w. record {
  plain = h.plain;
  threats = h.threats;
  parts = subst (EachIs (IsPartEntry k)) (sym c.in_ok-insert.ensures.entries) (right_added key_eq (IsPartEntry k) (part_to k) (part_back k) _ _ _ h.parts w);
  nodes = h.nodes;
}
