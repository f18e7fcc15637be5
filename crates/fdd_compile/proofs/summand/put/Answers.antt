use Rattle.std.proofs.Common.{List, arith, inr, refl, subst}
use Rattle.nk_values.specs.Members.{IsIn}
use Rattle.fdd_compile.specs.declared.summand.Summand.{Summand}
use Rattle.fdd_compile.proofs.SummandLaws.{item_in}
use Rattle.fdd_compile.proofs.summand.put.Goals as goal

pub returns-then-is : goal.returns-then-is
returns-then-is c =
    let i = c.in-Some.ensures.item in
    let some = i.3.0 in
    record {
      put = inr (refl, (c.in-Some.last.now, subst (λ (ss : List Summand). IsIn ss c.in-Some.last.now) c.deref.ensures.value (item_in c.deref.result.now _ c.in-Some.last.now (omega (arith, some)) i.1), c.is.ensures.tests c.if-is.true, c.is.ensures.below c.if-is.true));
    }
