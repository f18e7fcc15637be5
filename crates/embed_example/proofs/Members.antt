-- Elements of lists by their places.
use Rattle.std.proofs.Common.{◌≡◌, ◌<◌, ℕ, zero, suc, List, [], ◌∷◌, length, get_or, inl, inr, arith, refl, sym, subst}
use Rattle.nk_values.specs.Members.{IsIn}

at_place : {X : Type 0} (xs : List X) (k : ℕ) (x : X) → k < length xs → IsIn xs (get_or xs k x)
at_place [] k x h = absurd (omega (arith, h))
at_place (y ∷ ys) zero x h = inl refl
at_place (y ∷ ys) (suc k) x h = inr (at_place ys k x (omega (arith, h)))

-- what stands at a place is an element
pub placed : {X : Type 0} (xs : List X) (k : ℕ) (x : X) → k < length xs → x ≡ get_or xs k x → IsIn xs x
placed xs k x h e = subst (IsIn xs) (sym e) (at_place xs k x h)
