use Rattle.std.proofs.Common.{ℕ, List, ◌≡◌, arith, inr, refl, sym, ◌∙◌, subst}
use Rattle.nk_values.specs.Members.{IsIn}
use Rattle.fdd_compile.proofs.SummandLaws.{item_in}
use Rattle.fdd_compile.proofs.bare.put_part.Goals as goal

pub returns-then-place : goal.returns-then-place
returns-then-place c =
    let i = c.in-Some.ensures.item in
    let same : c.in-Some.last.now ≡ c.args.part = sym c.place.ensures ∙ c.if-place.true ∙ c.place-in-Some.ensures in
    let some = i.3.0 in
    inr (refl, subst (λ (xs : List ℕ). IsIn xs c.args.part) c.deref.ensures.value (subst (IsIn c.deref.result.now) same (item_in c.deref.result.now _ c.in-Some.last.now (omega (arith, some)) i.1)))
