use Rattle.std.proofs.Common.{sym, subst}
use Rattle.fdd_split.specs.Memos.{EachIs, IsThreatEntry}
use Rattle.fdd_split.proofs.KeptLaws.{right_added, key_eq, threat_to, threat_back}
use Rattle.fdd_split.proofs.memo.Memo.keep_threat.Goals as goal

pub returns : goal.returns
returns c = λ k h w. record {
  plain = h.plain;
  threats = subst (EachIs (IsThreatEntry k)) (sym c.in_ok-insert.ensures.entries) (right_added key_eq (IsThreatEntry k) (threat_to k) (threat_back k) _ _ _ h.threats w);
  parts = h.parts;
  nodes = h.nodes;
}
