use Rattle.std.specs.Prelude.{IfSome}
use Rattle.std.proofs.Common.{Bor, ℕ, Option, subst}
use Rattle.fdd_split.proofs.KeptLaws.{found_right}
use Rattle.fdd_apart.specs.Kinds.{IsRestriction}
use Rattle.fdd_apart.proofs.KindLaws.{id_eq, restriction_to, restriction_back}
use Rattle.fdd_apart.proofs.kinds.found.Goals as goal

pub returns-in-Some : goal.returns-in-Some
returns-in-Some c = λ k s h. subst (λ (o : Option (Bor ℕ)). IfSome o (λ r. IsRestriction k s c.args.a r.now)) c.in-Some.is (found_right id_eq (IsRestriction k s) (restriction_to k s) (restriction_back k s) c.args.a _ _ h c.get.ensures.value)
