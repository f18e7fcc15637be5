-- The exchange that adds a post keeps the rule.
use Rattle.std.proofs.Common.{eq-eqb, MatchBool, ◌≡◌, ℕ, ◌+◌, ◌<◌, ◌==◌, Bool, true, false, List, [], ◌∷◌, ◌++◌, length, refl, ap, sym, subst, arith, inl, length-append, None}
use Rattle.std.proofs.lemmas.List.{append-nil}
use Rattle.std.proofs.lemmas.Bool.Decides.{nat_tests}
use mathlib.Core.List.{IsPrefix}
use prog.Atomic.{either}
use Rattle.logbook.specs.Pages.{Cell, cell, keeps, no_nib, step, Moves, Goes}
use Rattle.status_board.specs.declared.post.Post.{Post}
use Rattle.status_board.specs.Posts.{opening, newest, MayFollow, IsHistory}
use Rattle.status_board.specs.Rules.{IsKept, AddsPost}
use Rattle.status_board.proofs.Beginnings.{prefix_whole}
use Rattle.status_board.proofs.Rising.{rising-snoc}

abbrev pub shown : List Post → List Post
shown log = []

abbrev pub moved : List Post → List Post → ℕ → Type 0
moved xs ys n = Unit {0}

pub adds_goes : (log v : List Post) (e : Post) (old : ℕ) → length v ≡ old → MayFollow v e → IsHistory log → IsPrefix v log
    → (b : Bool) → (length log == old) ≡ b
    → Goes IsKept shown moved 0 (v, (no_nib, None)) (λ n. either (n == old) (old + 1) n) (AddsPost (step 0 old (old + 1) e) (v, (no_nib, None))) ((length log, true) ∷ (0, true) ∷ []) log
adds_goes log v e old len may rising pre true is =
    let here : length log ≡ old = grind (arith, nat_tests) in
    let same : v ≡ log = prefix_whole v log pre (omega arith) in
    let rising' : IsHistory (log ++ e ∷ []) = rising-snoc opening log e rising (subst (λ (l : List Post). (newest l).count < e.count) same may) in
    let n : either (length log == old) (old + 1) (length log) ≡ length (log ++ e ∷ []) = rw is (omega (arith, length-append log (e ∷ []))) in (
      keeps,
      e ∷ [],
      None,
      tt,
      record { words = ap (λ (k : ℕ). (k, true) ∷ (0, true) ∷ []) n; rising = rising' },
      inl (refl, refl),
      rw is (ap (λ w. w ++ e ∷ []) (sym same), rising'),
    )
adds_goes log v e old len may rising pre false is =
    let all : log ++ [] ≡ log = append-nil log in
    let rising' : IsHistory (log ++ []) = subst IsHistory (sym all) rising in
    let n : either (length log == old) (old + 1) (length log) ≡ length (log ++ []) = rw is (ap length (sym all)) in (
      keeps,
      [],
      None,
      tt,
      record { words = ap (λ (k : ℕ). (k, true) ∷ (0, true) ∷ []) n; rising = rising' },
      inl (refl, refl),
      rw is (ap length all, rising'),
    )

-- whatever the book is, the exchange adds the post to all that was seen, or finds that the history is longer
pub adds_moves : (v : List Post) (e : Post) (old : ℕ) → length v ≡ old → MayFollow v e
    → Moves IsKept shown moved 0 (v, (no_nib, None)) (λ n. either (n == old) (old + 1) n) (AddsPost (step 0 old (old + 1) e) (v, (no_nib, None)))
adds_moves v e old len may cs log kept pre away =
    let P : List Cell → Type 0 = λ c. (0 < length c) × ((cell c 0).1 ≡ true) × Goes IsKept shown moved 0 (v, (no_nib, None)) (λ n. either (n == old) (old + 1) n) (AddsPost (step 0 old (old + 1) e) (v, (no_nib, None))) c log in
    subst P (sym kept.words) (omega arith, refl, adds_goes log v e old len may kept.rising pre (length log == old) refl)

-- what is told if the number that was found is the expected one
pub found_told : (A B : Type 0) (n m : ℕ) → n ≡ m → MatchBool (n == m) A B → A
found_told A B n m e told = subst (λ (b : Bool). MatchBool b A B) (eq-eqb n m e) told
