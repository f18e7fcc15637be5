use Rattle.std.specs.Prelude.{IfSome}
use Rattle.std.proofs.Common.{Bor, Option, subst}
use Rattle.nk_values.specs.declared.lit.Lit.{Lit}
use Rattle.fdd_split.specs.Memos.{IsThreatEntry}
use Rattle.fdd_split.proofs.KeptLaws.{found_right, key_eq, threat_to, threat_back}
use Rattle.fdd_split.proofs.memo.Memo.threat_of.Goals as goal

pub returns-in-Some : goal.returns-in-Some
returns-in-Some c = λ k h. subst (λ (o : Option (Bor (Option Lit))). IfSome o (λ v. IsThreatEntry k c.args.key.now v.now)) c.in-Some.is (found_right key_eq (IsThreatEntry k) (threat_to k) (threat_back k) c.args.key.now _ _ h.threats c.get.ensures.value)
