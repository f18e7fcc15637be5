-- Ends that are given back, one by one.
use Rattle.std.proofs.Common.{◌≡◌, ◌⊎◌, inl, inr, ℕ, ◌≤◌, ◌<◌, List, [], ◌∷◌, ◌++◌, length, Option, None, Some, append_assoc, append-nil, refl, sym, ap, ◌∙◌, subst, arith}
use Rattle.std.specs.Prelude.{map, reverse}
use Rattle.std.proofs.lemmas.List.{map-append, reverse-append}
use Rattle.std.proofs.lemmas.Grind.{reverse_onto}
use Rattle.nk_values.specs.Members.{IsIn}
use Rattle.outside_io.specs.Causes.{Rose}
use Rattle.outside_net.specs.Told.{Gathers, Breaks, next_count}
use Rattle.program_answer.specs.Called.{Change}
use Rattle.thread_commands.specs.Run.{AreGathered, AreStreams, AreToldSince, ToldSince}

-- Ends of a list were given back, the last first, until these are left; and what they received was told.
pub record AreTold {E : Type 0} (received : E → Option (List ℕ)) (all left : List E) (gathered : Change (Option (List (List ℕ)))) : Type 0 where
  pub gone : List E
  pub parts : all ≡ left ++ gone
  pub told : AreToldSince gathered (AreStreams received gone)

-- an end that had failed is left, or the count rose
abbrev pub AreCounted : {E : Type 0} → (E → ℕ) → List E → List E → ℕ → ℕ → Type 0
AreCounted {E} faults all left before now = (e : E) → IsIn all e → 0 < faults e → IsIn left e ⊎ Rose before now

in-split : {X : Type 0} (xs : List X) (y x : X) → IsIn (xs ++ y ∷ []) x → IsIn xs x ⊎ (y ≡ x)
in-split [] y x (inl e) = inr e
in-split [] y x (inr n) = absurd n
in-split (z ∷ xs) y x (inl e) = inl (inl e)
in-split (z ∷ xs) y x (inr i) = later (in-split xs y x i)
  where
    later : IsIn xs x ⊎ (y ≡ x) → IsIn (z ∷ xs) x ⊎ (y ≡ x)
    later (inl i) = inl (inr i)
    later (inr e) = inr e

pub in-front : {X : Type 0} (xs ys : List X) (x : X) → IsIn xs x → IsIn (xs ++ ys) x
in-front [] ys x i = absurd i
in-front (z ∷ xs) ys x (inl e) = inl e
in-front (z ∷ xs) ys x (inr i) = inr (in-front xs ys x i)

pub in-last : {X : Type 0} (xs : List X) (x : X) → IsIn (xs ++ x ∷ []) x
in-last [] x = inl refl
in-last (z ∷ xs) x = inr (in-last xs x)

rose-on : (before mid now : ℕ) → Rose before mid → mid ≤ now → Rose before now
rose-on before mid now r l = omega (arith, r, l)

pub rose-by-one : (mid now : ℕ) → now ≡ next_count mid → Rose mid now
rose-by-one mid now e = omega (arith, e)

rose-from : (before mid now : ℕ) → before ≤ mid → Rose mid now → Rose before now
rose-from before mid now l r = grind (arith)

counted-case : {E : Type 0} (faults : E → ℕ) (rest : List E) (end e : E) (before mid now : ℕ) → before ≤ mid → Breaks (faults end) mid now → 0 < faults e → IsIn rest e ⊎ (end ≡ e) → IsIn rest e ⊎ Rose before now
counted-case faults rest end e before mid now l b f (inl i) = inl i
counted-case faults rest end e before mid now l b f (inr is) = inr (rose-from before mid now l (rose-by-one mid now (b.broken (subst (λ x. 0 < faults x) (sym is) f))))

counted-next : {E : Type 0} (faults : E → ℕ) (left rest : List E) (end e : E) (before mid now : ℕ) → before ≤ mid → left ≡ rest ++ end ∷ [] → Breaks (faults end) mid now → 0 < faults e → IsIn left e ⊎ Rose before mid → IsIn rest e ⊎ Rose before now
counted-next faults left rest end e before mid now l is b f (inl i) = counted-case faults rest end e before mid now l b f (in-split rest end e (subst (λ xs. IsIn xs e) is i))
counted-next faults left rest end e before mid now l is b f (inr r) = inr (rose-on before mid now r b.later)

pub counted-more : {E : Type 0} (faults : E → ℕ) (all left rest : List E) (end : E) (before mid now : ℕ) → AreCounted faults all left before mid → before ≤ mid → left ≡ rest ++ end ∷ [] → Breaks (faults end) mid now → AreCounted faults all rest before now
counted-more faults all left rest end before mid now h l is b = λ e i f. counted-next faults left rest end e before mid now l is b f (h e i f)

-- ---- streams

streams-more : {E : Type 0} (received : E → Option (List ℕ)) (gone : List E) (end : E) (streams : List (List ℕ)) (bytes : List ℕ) → received end ≡ Some bytes → AreStreams received gone streams → AreStreams received (end ∷ gone) (streams ++ bytes ∷ [])
streams-more received gone end streams bytes at h =
    map-append Some streams (bytes ∷ []) ∙ ap (λ xs. xs ++ Some bytes ∷ []) h ∙ ap (λ x. map received (reverse gone) ++ x ∷ []) (sym at)
    ∙ sym (map-append received (reverse gone) (end ∷ [])) ∙ sym (ap (map received) (reverse_onto gone end []))

told-none : (first now : Option (List (List ℕ))) (AreSuch : List (List ℕ) → Type 0) → now ≡ None → AreToldSince (record { before = first; after = now }) AreSuch
told-none first now AreSuch is = subst (λ x. AreToldSince (record { before = first; after = x }) AreSuch) (sym is) tt

told-grown : {E : Type 0} (received : E → Option (List ℕ)) (gone : List E) (end : E) (first : Option (List (List ℕ))) (streams : List (List ℕ)) (bytes : List ℕ) (now : Option (List (List ℕ)))
    → ToldSince first streams (AreStreams received gone) → received end ≡ Some bytes
    → (now ≡ Some (streams ++ bytes ∷ [])) ⊎ (now ≡ None) → AreToldSince (record { before = first; after = now }) (AreStreams received (end ∷ gone))
told-grown received gone end first streams bytes now h at (inl e) = subst (λ x. AreToldSince (record { before = first; after = x }) (AreStreams received (end ∷ gone))) (sym e) (record {
  earlier = h.earlier;
  since = h.since ++ bytes ∷ [];
  known = h.known;
  told = ap (λ xs. xs ++ bytes ∷ []) h.told ∙ append_assoc h.earlier h.since (bytes ∷ []);
  such = streams-more received gone end h.since bytes at h.such;
})
told-grown received gone end first streams bytes now h at (inr e) = told-none first now (AreStreams received (end ∷ gone)) e

told-by : {E : Type 0} (received : E → Option (List ℕ)) (gone : List E) (end : E) (first before now : Option (List (List ℕ))) (stream : Option (List ℕ))
    → AreToldSince (record { before = first; after = before }) (AreStreams received gone) → received end ≡ stream → Gathers before now stream → AreToldSince (record { before = first; after = now }) (AreStreams received (end ∷ gone))
told-by received gone end first None now None h at g = told-none first now (AreStreams received (end ∷ gone)) g
told-by received gone end first None now (Some bytes) h at g = told-none first now (AreStreams received (end ∷ gone)) g
told-by received gone end first (Some streams) now None h at g = told-none first now (AreStreams received (end ∷ gone)) g
told-by received gone end first (Some streams) now (Some bytes) h at g = told-grown received gone end first streams bytes now h at g

pub told-more : {E : Type 0} (received : E → Option (List ℕ)) (all left rest : List E) (end : E) (first before now : Option (List (List ℕ)))
    → AreTold received all left (record { before = first; after = before }) → left ≡ rest ++ end ∷ [] → Gathers before now (received end) → AreTold received all rest (record { before = first; after = now })
told-more received all left rest end first before now h is g = record {
  gone = end ∷ h.gone;
  parts = h.parts ∙ ap (λ xs. xs ++ h.gone) is ∙ append_assoc rest (end ∷ []) h.gone;
  told = told-by received h.gone end first before now (received end) h.told refl g;
}

none-told : {E : Type 0} (received : E → Option (List ℕ)) (g : Option (List (List ℕ))) → AreToldSince (record { before = g; after = g }) (AreStreams received [])
none-told received None = tt
none-told received (Some streams) = record { earlier = streams; since = []; known = refl; told = sym (append-nil streams); such = refl }

pub told-start : {E : Type 0} (received : E → Option (List ℕ)) (all : List E) (g : Option (List (List ℕ))) → AreTold received all all (record { before = g; after = g })
told-start received all g = record { gone = []; parts = sym (append-nil all); told = none-told received g }

pub told-end : {E : Type 0} (received : E → Option (List ℕ)) (all left : List E) (first now : Option (List (List ℕ))) → left ≡ [] → AreTold received all left (record { before = first; after = now }) → AreGathered received all (record { before = first; after = now })
told-end received all left first now none h =
    subst (λ xs. AreToldSince (record { before = first; after = now }) (AreStreams received xs)) (sym (h.parts ∙ ap (λ xs. xs ++ h.gone) none)) h.told

-- ---- the first of them

-- what this end received is the first of these streams
pub record IsFirst {E : Type 0} (received : E → Option (List ℕ)) (end : E) (streams : List (List ℕ)) : Type 0 where
  pub stream : List ℕ
  pub more : List (List ℕ)
  pub first : streams ≡ stream ∷ more
  pub of : received end ≡ Some stream

none-some : {X : Type 0} (x : X) (xs : List X) (P : Type 0) → [] ≡ x ∷ xs → P
none-some x xs P e = absurd (cc)

head-is : {X : Type 0} (a b : X) (as' bs : List X) → a ∷ as' ≡ b ∷ bs → a ≡ b
head-is a b as' bs e = cc

first-by : {E : Type 0} (received : E → Option (List ℕ)) (end : E) (rest : List (Option (List ℕ))) (streams : List (List ℕ)) → map Some streams ≡ received end ∷ rest → IsFirst received end streams
first-by received end rest [] e = none-some _ _ _ e
first-by received end rest (s ∷ ss) e = record { stream = s; more = ss; first = refl; of = sym (head-is (Some s) (received end) (map Some ss) rest e) }

-- the last end was given back first
pub first-is : {E : Type 0} (received : E → Option (List ℕ)) (ends front : List E) (end : E) (streams : List (List ℕ)) → ends ≡ front ++ end ∷ [] → AreStreams received ends streams → IsFirst received end streams
first-is received ends front end streams last h = first-by received end (map received (reverse front)) streams (h ∙ ap (map received) (ap reverse last ∙ reverse-append front (end ∷ [])))

-- ---- counts

counted-all : {E : Type 0} (left : List E) (e : E) (P : Type 0) → left ≡ [] → IsIn left e ⊎ P → P
counted-all left e P none (inl i) = absurd (subst (λ xs. IsIn xs e) none i)
counted-all left e P none (inr p) = p

pub counted-end : {E : Type 0} (faults : E → ℕ) (all left : List E) (before now : ℕ) → left ≡ [] → AreCounted faults all left before now → (e : E) → IsIn all e → 0 < faults e → Rose before now
counted-end faults all left before now none h = λ e i f. counted-all left e (Rose before now) none (h e i f)

-- no end is left
pub none-left : {E : Type 0} (xs : List E) → length xs ≡ 0 → xs ≡ []
none-left [] e = refl
none-left (x ∷ xs) e = absurd (omega (arith, e))
