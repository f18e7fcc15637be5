-- Ends that are given back, one by one.
use Rattle.std.proofs.Common.{◌≡◌, ◌⊎◌, inl, inr, ℕ, ◌≤◌, ◌<◌, List, [], ◌∷◌, ◌++◌, sym, subst, arith}
use Rattle.nk_values.specs.Members.{IsIn}
use Rattle.outside_io.specs.Causes.{Rose}
use Rattle.outside_net.specs.Told.{Breaks, next_count}

-- an end that had failed is left, or the count rose
abbrev pub AreCounted : {E : Type 0} → (E → ℕ) → List E → List E → ℕ → ℕ → Type 0
AreCounted {E} faults all left before now = (e : E) → IsIn all e → 0 < faults e → IsIn left e ⊎ Rose before now

in-split : {X : Type 0} (xs : List X) (y x : X) → IsIn (xs ++ y ∷ []) x → IsIn xs x ⊎ (y ≡ x)
in-split [] y x (inl e) = inr e
in-split [] y x (inr n) = absurd n
in-split (z ∷ xs) y x (inl e) = inl (inl e)
in-split (z ∷ xs) y x (inr i) = later (in-split xs y x i)
  where
    later : IsIn xs x ⊎ (y ≡ x) → IsIn (z ∷ xs) x ⊎ (y ≡ x)
    later (inl i) = inl (inr i)
    later (inr e) = inr e

rose-on : (before mid now : ℕ) → Rose before mid → mid ≤ now → Rose before now
rose-on before mid now r l = omega (arith, r, l)

rose-by-one : (mid now : ℕ) → now ≡ next_count mid → Rose mid now
rose-by-one mid now e = omega (arith, e)

rose-from : (before mid now : ℕ) → before ≤ mid → Rose mid now → Rose before now
rose-from before mid now l r = grind (arith)

counted-case : {E : Type 0} (faults : E → ℕ) (rest : List E) (end e : E) (before mid now : ℕ) → before ≤ mid → Breaks (faults end) mid now → 0 < faults e → IsIn rest e ⊎ (end ≡ e) → IsIn rest e ⊎ Rose before now
counted-case faults rest end e before mid now l b f (inl i) = inl i
counted-case faults rest end e before mid now l b f (inr is) = inr (rose-from before mid now l (rose-by-one mid now (b.broken (subst (λ x. 0 < faults x) (sym is) f))))

counted-next : {E : Type 0} (faults : E → ℕ) (left rest : List E) (end e : E) (before mid now : ℕ) → before ≤ mid → left ≡ rest ++ end ∷ [] → Breaks (faults end) mid now → 0 < faults e → IsIn left e ⊎ Rose before mid → IsIn rest e ⊎ Rose before now
counted-next faults left rest end e before mid now l is b f (inl i) = counted-case faults rest end e before mid now l b f (in-split rest end e (subst (λ xs. IsIn xs e) is i))
counted-next faults left rest end e before mid now l is b f (inr r) = inr (rose-on before mid now r b.later)

pub counted-more : {E : Type 0} (faults : E → ℕ) (all left rest : List E) (end : E) (before mid now : ℕ) → AreCounted faults all left before mid → before ≤ mid → left ≡ rest ++ end ∷ [] → Breaks (faults end) mid now → AreCounted faults all rest before now
counted-more faults all left rest end before mid now h l is b = λ e i f. counted-next faults left rest end e before mid now l is b f (h e i f)

counted-all : {E : Type 0} (left : List E) (e : E) (P : Type 0) → left ≡ [] → IsIn left e ⊎ P → P
counted-all left e P none (inl i) = absurd (subst (λ xs. IsIn xs e) none i)
counted-all left e P none (inr p) = p

pub counted-end : {E : Type 0} (faults : E → ℕ) (all left : List E) (before now : ℕ) → left ≡ [] → AreCounted faults all left before now → (e : E) → IsIn all e → 0 < faults e → Rose before now
counted-end faults all left before now none h = λ e i f. counted-all left e (Rose before now) none (h e i f)
