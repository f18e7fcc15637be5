-- Which lines have come in.
use Rattle.std.proofs.Common.{◌≡◌, ℕ, zero, suc, ◌+◌, ◌<◌, ◌≤◌, ◌==◌, ◌⊎◌, inl, inr, Bool, true, false, List, [], ◌∷◌, ◌++◌, length, replicate, Option, None, Some, slice_get, slice_set, refl, sym, ap, subst, ◌∙◌, arith}
use Rattle.std.specs.Prelude.{IsPermutation, IfNone, IfSome, IsTrue, ◌↔◌}
use Rattle.std.proofs.lemmas.List.{length-set, length-replicate}
use Rattle.std.proofs.lemmas.List.Sorted.{length_permutation, IsPermutation-refl, IsPermutation-cons, IsPermutation-trans, IsPermutation-append, IsPermutation-append_comm}
use Rattle.std.proofs.lemmas.Option.{slice_get_within}
use Rattle.std.proofs.lemmas.Bool.Decides.{nat_tests}
use Rattle.update_laws.specs.Traffic.{Arrived}
use Rattle.world_core.specs.Worlds.{WorldValue}
use Rattle.world_journal.specs.declared.line.Line.{Line}
use Rattle.world_journal.specs.Arriving.{lines_of, marked, unmarked, HaveArrived, HaveAllCome}

some-is : {X : Type 0} (x y : X) → Some x ≡ Some y → x ≡ y
some-is x y e = cc

-- one mark more is set
marked-set : (lines : List Line) (marks : List Bool) (k : ℕ) (v : Line) → slice_get marks k ≡ Some false → slice_get lines k ≡ Some v → IsPermutation (marked lines marks ++ v ∷ []) (marked lines (slice_set marks k true))
marked-set [] marks k v m l = cc
marked-set (y ∷ ys) [] k v m l = cc
marked-set (y ∷ ys) (true ∷ bs) zero v m l = cc
marked-set (y ∷ ys) (false ∷ bs) zero v m l =
    subst (λ (x : Line). IsPermutation (marked ys bs ++ v ∷ []) (x ∷ marked ys bs)) (sym (some-is y v l)) (IsPermutation-append_comm (marked ys bs) (v ∷ []))
marked-set (y ∷ ys) (true ∷ bs) (suc k) v m l = IsPermutation-cons y (marked ys bs ++ v ∷ []) (marked ys (slice_set bs k true)) (marked-set ys bs k v m l)
marked-set (y ∷ ys) (false ∷ bs) (suc k) v m l = marked-set ys bs k v m l

unmarked-set : (marks : List Bool) (k : ℕ) → slice_get marks k ≡ Some false → unmarked marks ≡ unmarked (slice_set marks k true) + 1
unmarked-set [] k m = cc
unmarked-set (true ∷ bs) zero m = cc
unmarked-set (false ∷ bs) zero m = omega arith
unmarked-set (true ∷ bs) (suc k) m = unmarked-set bs k m
unmarked-set (false ∷ bs) (suc k) m = omega (arith, unmarked-set bs k m)

-- all marks are set
marked-all : (lines : List Line) (marks : List Bool) → length marks ≡ length lines → unmarked marks ≡ 0 → marked lines marks ≡ lines
marked-all [] marks e all = refl
marked-all (y ∷ ys) [] e all = absurd (omega arith)
marked-all (y ∷ ys) (true ∷ bs) e all = ap (λ (zs : List Line). y ∷ zs) (marked-all ys bs (omega arith) all)
marked-all (y ∷ ys) (false ∷ bs) e all = absurd (omega arith)

-- no mark is set
marked-none : (lines : List Line) (n : ℕ) → marked lines (replicate n false) ≡ []
marked-none [] n = refl
marked-none (y ∷ ys) zero = refl
marked-none (y ∷ ys) (suc n) = marked-none ys n

pub unmarked-none : (n : ℕ) → unmarked (replicate n false) ≡ n
unmarked-none zero = refl
unmarked-none (suc n) = omega (arith, unmarked-none n)

pub none-arrived : (lines : List Line) (marks : List Bool) (arrivals : List Arrived) → marks ≡ replicate (length lines) false → arrivals ≡ [] → HaveArrived lines marks arrivals
none-arrived lines marks arrivals is none = record {
  long = ap length is ∙ length-replicate (length lines) false;
  same = subst (λ (as_ : List Arrived). IsPermutation (lines_of as_) (marked lines marks)) (sym none) (subst (λ (ls : List Line). IsPermutation [] ls) (sym (ap (marked lines) is ∙ marked-none lines (length lines))) (IsPermutation-refl []));
}

pub arrived-more : (lines : List Line) (marks : List Bool) (arrivals now : List Arrived) (k : ℕ) (v : Line) → HaveArrived lines marks arrivals → slice_get marks k ≡ Some false → slice_get lines k ≡ Some v → lines_of now ≡ lines_of arrivals ++ v ∷ [] → HaveArrived lines (slice_set marks k true) now
arrived-more lines marks arrivals now k v h m l is = record {
  long = length-set marks k true ∙ h.long;
  same = subst (λ (ls : List Line). IsPermutation ls (marked lines (slice_set marks k true))) (sym is)
      (IsPermutation-trans (lines_of arrivals ++ v ∷ []) (marked lines marks ++ v ∷ []) (marked lines (slice_set marks k true))
      (IsPermutation-append (lines_of arrivals) (marked lines marks) (v ∷ []) (v ∷ []) h.same (IsPermutation-refl (v ∷ [])))
      (marked-set lines marks k v m l));
}

pub arrived-same : (lines : List Line) (marks : List Bool) (arrivals now : List Arrived) → HaveArrived lines marks arrivals → lines_of now ≡ lines_of arrivals → HaveArrived lines marks now
arrived-same lines marks arrivals now h is = record {
  long = h.long;
  same = subst (λ (ls : List Line). IsPermutation ls (marked lines marks)) (sym is) h.same;
}

pub left-less : (marks : List Bool) (k left : ℕ) → left ≡ unmarked marks → slice_get marks k ≡ Some false → (0 < left) × ((n : ℕ) → n + 1 ≡ left → n ≡ unmarked (slice_set marks k true))
left-less marks k left is m = (omega (arith, unmarked-set marks k m), λ n e. omega (arith, unmarked-set marks k m))

marked-length : (lines : List Line) (marks : List Bool) → length marks ≡ length lines → length (marked lines marks) + unmarked marks ≡ length lines
marked-length [] [] e = refl
marked-length [] (b ∷ bs) e = absurd (omega arith)
marked-length (y ∷ ys) [] e = absurd (omega arith)
marked-length (y ∷ ys) (true ∷ bs) e = omega (arith, marked-length ys bs (omega arith))
marked-length (y ∷ ys) (false ∷ bs) e = omega (arith, marked-length ys bs (omega arith))

is-zero : (left : ℕ) → (left == 0) ≡ true → left ≡ 0
is-zero left e = grind (arith, nat_tests)

zero-is : (left : ℕ) → left ≡ 0 → (left == 0) ≡ true
zero-is left e = grind (arith, nat_tests)

none-unmarked : (lines : List Line) (marks : List Bool) (w : WorldValue) → HaveArrived lines marks w.arrivals → HaveAllCome lines w → unmarked marks ≡ 0
none-unmarked lines marks w h all =
    let marked_ = length_permutation (lines_of w.arrivals) (marked lines marks) h.same in
    let lines_ = length_permutation (lines_of w.arrivals) lines all in
    omega (arith, marked-length lines marks h.long, marked_, lines_)

-- no line is left exactly if each came in once
pub all-came : (lines : List Line) (marks : List Bool) (w : WorldValue) (left : ℕ) → HaveArrived lines marks w.arrivals → left ≡ unmarked marks → IsTrue (left == 0) ↔ HaveAllCome lines w
all-came lines marks w left h is = (
  λ none. subst (λ (ls : List Line). IsPermutation (lines_of w.arrivals) ls) (marked-all lines marks h.long (sym is ∙ is-zero left none)) h.same,
  λ all. zero-is left (is ∙ none-unmarked lines marks w h all),
)

pub not-left : (b : Bool) (P : Type 0) → b ≡ false → (b ≡ true) ⊎ P → P
not-left true P e h = cc
not-left false P e (inl t) = cc
not-left false P e (inr p) = p

-- a mark is there exactly if its line is
pub mark-some : (marks : List Bool) (lines : List Line) (k : ℕ) (r : Option Bool) → r ≡ slice_get marks k → length marks ≡ length lines → IfSome r (λ _. k < length lines)
mark-some marks lines k None is long = tt
mark-some marks lines k (Some b) is long = let within : k < length marks = slice_get_within marks k b (sym is) in omega (arith, within, long)

none-past : {X : Type 0} (xs : List X) (k : ℕ) → slice_get xs k ≡ None → length xs ≤ k
none-past [] k e = omega arith
none-past (x ∷ xs) zero e = cc
none-past (x ∷ xs) (suc k) e = omega (arith, none-past xs k e)

pub mark-none : (marks : List Bool) (lines : List Line) (k : ℕ) (r : Option Bool) → r ≡ slice_get marks k → length marks ≡ length lines → IfNone r (length lines ≤ k)
mark-none marks lines k None is long = let past : length marks ≤ k = none-past marks k (sym is) in omega (arith, past, long)
mark-none marks lines k (Some b) is long = tt
