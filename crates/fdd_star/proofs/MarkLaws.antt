-- Marks of numbers.
use Rattle.std.specs.Prelude.{slice_index_or, slice_set}
use Rattle.std.proofs.Common.{rules, ◌≡◌, ℕ, zero, suc, ◌<◌, inl, inr, refl, sym, ap, ◌∙◌, subst, arith, Bool, true, false, List, [], ◌∷◌, ◌++◌, length}
use Rattle.std.proofs.lemmas.Bool.{false≢true}
use Rattle.nk_values.specs.Members.{IsIn}
use Rattle.nk_values.proofs.MemberLaws.{in-either, in-left, in-right}
use Rattle.fdd_star.specs.Marks.{IsMarked, AreMarks, KeepsMarks, PutsNumber}
use Rattle.fdd_star.proofs.NumberLaws.{at_end, at_more, at_within, set_at, some_same}

pub no_marks : AreMarks [] []
no_marks n = (λ h. search rules, λ i. absurd i)

pub keeps_itself : (bs : List Bool) → KeepsMarks bs bs
keeps_itself bs n = (λ h. h, λ h. h)

pub keeps_more : (bs cs ds : List Bool) → KeepsMarks bs cs → ds ≡ cs ++ false ∷ [] → KeepsMarks bs ds
keeps_more bs cs ds h e n = (
  (λ k. elim (at_end cs false n true (subst (λ (xs : List Bool). IsMarked xs n) e k)) [
    | inl w ↦ (h n).0 w
    | inr w ↦ absurd (false≢true w.1)
  ]),
  λ k. subst (λ (xs : List Bool). IsMarked xs n) (sym e) (at_more cs (false ∷ []) n true ((h n).1 k)),
)

pub marks_kept : (ns : List ℕ) (bs cs : List Bool) → AreMarks ns bs → KeepsMarks bs cs → AreMarks ns cs
marks_kept ns bs cs h k n = ((λ m. (h n).0 ((k n).0 m)), λ i. (k n).1 ((h n).1 i))

set_there : (bs : List Bool) (n : ℕ) → n < length bs → IsMarked (slice_set bs n true) n
set_there [] n b = absurd (omega (arith, b))
set_there (x ∷ bs) zero b = refl
set_there (x ∷ bs) (suc n) b = set_there bs n (omega (arith, b))

set_kept : (bs : List Bool) (n m : ℕ) → IsMarked bs m → IsMarked (slice_set bs n true) m
set_kept [] n m h = h
set_kept (x ∷ bs) zero zero h = refl
set_kept (x ∷ bs) zero (suc m) h = h
set_kept (x ∷ bs) (suc n) zero h = h
set_kept (x ∷ bs) (suc n) (suc m) h = set_kept bs n m h

pub marks_put : (ns : List ℕ) (bs : List Bool) (n : ℕ) → AreMarks ns bs → n < length bs → AreMarks (ns ++ n ∷ []) (slice_set bs n true)
marks_put ns bs n h b m = (
  (λ k. elim (set_at bs n m true true k) [
    | inl w ↦ in-right ns (n ∷ []) m (inl (sym w.0))
    | inr w ↦ in-left ns (n ∷ []) m ((h m).0 w)
  ]),
  λ i. elim (in-either ns (n ∷ []) m i) [
    | inl w ↦ set_kept bs n m ((h m).1 w)
    | inr w ↦ elim w [
      | inl e ↦ subst (IsMarked (slice_set bs n true)) e (set_there bs n b)
      | inr z ↦ absurd z
    ]
  ],
)

pub puts_old : (n : ℕ) (old new : List ℕ) → IsIn old n → new ≡ old → PutsNumber n false old new
puts_old n old new h e = record { put = λ b. absurd (false≢true b); kept = λ b. (h, e) }

pub puts_new : (n : ℕ) (old new : List ℕ) → ¬ IsIn old n → new ≡ old ++ n ∷ [] → PutsNumber n true old new
puts_new n old new h e = record { put = λ b. (h, e); kept = λ b. absurd (false≢true (sym b)) }

pub put_alone : (n : ℕ) (b : Bool) (old new : List ℕ) → old ≡ [] → PutsNumber n b old new → new ≡ n ∷ []
put_alone n true old new e p = (p.put refl).1 ∙ ap (λ (ns : List ℕ). ns ++ n ∷ []) e
put_alone n false old new e p = absurd (subst (λ (ns : List ℕ). IsIn ns n) e (p.kept refl).0)

-- an item of a list

pub index_in : (ns : List ℕ) (i d : ℕ) → i < length ns → IsIn ns (slice_index_or ns i d)
index_in [] i d b = absurd (omega (arith, b))
index_in (n ∷ ns) zero d b = inl refl
index_in (n ∷ ns) (suc i) d b = inr (index_in ns i d (omega (arith, b)))

-- marks that are taken away

pub record Unmarks (done : List ℕ) (old new : List Bool) : Type 0 where
  pub length : length new ≡ length old
  pub left : (n : ℕ) → IsMarked new n → IsMarked old n × (¬ IsIn done n)

pub unmarks_none : (bs : List Bool) → Unmarks [] bs bs
unmarks_none bs = record { length = refl; left = λ n h. (h, λ i. i) }

set_length : (bs : List Bool) (n : ℕ) (b : Bool) → length (slice_set bs n b) ≡ length bs
set_length [] n b = refl
set_length (x ∷ bs) zero b = refl
set_length (x ∷ bs) (suc n) b = ap suc (set_length bs n b)

pub unmarks_more : (done : List ℕ) (n : ℕ) (old mid new : List Bool) → new ≡ slice_set mid n false → Unmarks done old mid → Unmarks (done ++ n ∷ []) old new
unmarks_more done n old mid new e h = record {
  length = ap length e ∙ set_length mid n false ∙ h.length;
  left = λ m k. elim (set_at mid n m false true (subst (λ (bs : List Bool). IsMarked bs m) e k)) [
    | inl w ↦ absurd (false≢true w.1)
    | inr w ↦ (
      (h.left m w).0,
      λ i. elim (in-either done (n ∷ []) m i) [
        | inl j ↦ (h.left m w).1 j
        | inr j ↦ elim j [
          | inl s ↦ false≢true (unset mid n m (sym s) (subst (λ (bs : List Bool). IsMarked bs m) e k))
          | inr o ↦ o
        ]
      ],
    )
  ];
}
  where
    unset : (bs : List Bool) (n m : ℕ) → m ≡ n → IsMarked (slice_set bs n false) m → false ≡ true
    unset bs n m s k = by bs n (subst (IsMarked (slice_set bs n false)) s k)
      where
        by : (bs : List Bool) (n : ℕ) → IsMarked (slice_set bs n false) n → false ≡ true
        by [] n k = search rules
        by (x ∷ bs) zero k = some_same false true k
        by (x ∷ bs) (suc n) k = by bs n k

pub unmarked : (ns : List ℕ) (old new : List Bool) → AreMarks ns old → Unmarks ns old new → AreMarks [] new
unmarked ns old new a h n = ((λ k. (h.left n k).1 ((a n).0 (h.left n k).0)), λ i. absurd i)

pub marked_within : (ns : List ℕ) (old new : List Bool) (n : ℕ) (done : List ℕ) → AreMarks ns old → Unmarks done old new → IsIn ns n → n < length new
marked_within ns old new n done a h i = let b = at_within old n true ((a n).1 i) in let e = h.length in omega (arith, b, e)
