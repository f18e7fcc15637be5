-- Sums of numbers, by blocks.
use Rattle.std.proofs.Common.{◌≡◌, ◌≢◌, ℕ, zero, suc, ◌+◌, ◌*◌, ◌-◌, ◌/◌, ◌^◌, ◌<◌, ◌≤◌, inl, inr, min, List, [], ◌∷◌, ◌++◌, length, take, drop, refl, sym, ◌∙◌, ap, subst, Option, None, Some, slice_get, slice_set, get_or, arith}
use native.Mathlib.Decide.{ℕ_discrete}
use Rattle.std.proofs.lemmas.Bool.{cases_lt}
use Rattle.workload_gen.specs.Counts.{AreBlocks, sum_of, sum_to_limit}

-- ---- a number changes

-- the first numbers do not change with a later one
first-kept : (xs : List ℕ) (m p v : ℕ) → m ≤ p → take m (slice_set xs p v) ≡ take m xs
first-kept [] m p v l = refl
first-kept (x ∷ xs) zero p v l = refl
first-kept (x ∷ xs) (suc m) zero v l = absurd (omega (arith, l))
first-kept (x ∷ xs) (suc m) (suc p) v l = ap (λ (ys : List ℕ). x ∷ ys) (first-kept xs m p v (omega (arith, l)))

-- nor does a block after it
pub later-kept : (xs : List ℕ) (k m p v : ℕ) → p < k → take m (drop k (slice_set xs p v)) ≡ take m (drop k xs)
later-kept [] k m p v l = refl
later-kept (x ∷ xs) zero m p v l = absurd (omega (arith, l))
later-kept (x ∷ xs) (suc k) m zero v l = refl
later-kept (x ∷ xs) (suc k) m (suc p) v l = later-kept xs k m p v (omega (arith, l))

-- nor one before it
pub earlier-kept : (xs : List ℕ) (k m p v : ℕ) → k + m ≤ p → take m (drop k (slice_set xs p v)) ≡ take m (drop k xs)
earlier-kept [] k m p v l = refl
earlier-kept (x ∷ xs) zero m p v l = first-kept (x ∷ xs) m p v (omega (arith, l))
earlier-kept (x ∷ xs) (suc k) m zero v l = absurd (omega (arith, l))
earlier-kept (x ∷ xs) (suc k) m (suc p) v l = earlier-kept xs k m p v (omega (arith, l))

first-set : (xs : List ℕ) (m p d v : ℕ) → p < m → p < length xs → sum_of (take m (slice_set xs p v)) + get_or xs p d ≡ sum_of (take m xs) + v
first-set [] m p d v l h = absurd (omega (arith, h))
first-set (x ∷ xs) zero p d v l h = absurd (omega (arith, l))
first-set (x ∷ xs) (suc m) zero d v l h = omega arith
first-set (x ∷ xs) (suc m) (suc p) d v l h = let i = first-set xs m p d v (omega (arith, l)) (omega (arith, h)) in omega (arith, i)

-- the block that has it does
pub block-set : (xs : List ℕ) (k m p d v : ℕ) → k ≤ p → p < k + m → p < length xs → sum_of (take m (drop k (slice_set xs p v))) + get_or xs p d ≡ sum_of (take m (drop k xs)) + v
block-set [] k m p d v a b h = absurd (omega (arith, h))
block-set (x ∷ xs) zero m p d v a b h = first-set (x ∷ xs) m p d v (omega (arith, b)) h
block-set (x ∷ xs) (suc k) m zero d v a b h = absurd (omega (arith, a))
block-set (x ∷ xs) (suc k) m (suc p) d v a b h = block-set xs k m p d v (omega (arith, a)) (omega (arith, b)) (omega (arith, h))

-- ---- blocks

take-none : (m : ℕ) → let none : List ℕ = [] in take m none ≡ none
take-none zero = refl
take-none (suc m) = refl

drop-none : (k : ℕ) → let none : List ℕ = [] in drop k none ≡ none
drop-none zero = refl
drop-none (suc k) = refl

none-left : (k m : ℕ) → sum_of (take m (drop k [])) ≡ 0
none-left k m = ap (λ (ys : List ℕ). sum_of (take m ys)) (drop-none k) ∙ ap (λ (ys : List ℕ). sum_of ys) (take-none m)

-- a block with the numbers before it
pub sum-block : (xs : List ℕ) (k m : ℕ) → sum_of (take (k + m) xs) ≡ sum_of (take k xs) + sum_of (take m (drop k xs))
sum-block [] k m =
    let a = ap (λ (ys : List ℕ). sum_of ys) (take-none (k + m)) in
    let b = ap (λ (ys : List ℕ). sum_of ys) (take-none k) in
    let c = none-left k m in
    omega (arith, a, b, c)
sum-block (x ∷ xs) zero m = ap (λ (i : ℕ). sum_of (take i (x ∷ xs))) (let e : 0 + m ≡ m = omega arith in e) ∙ omega arith
sum-block (x ∷ xs) (suc k) m = let h = sum-block xs k m in ap (λ (i : ℕ). sum_of (take i (x ∷ xs))) (let e : suc k + m ≡ suc (k + m) = omega arith in e) ∙ omega (arith, h)

pub block-least : (xs : List ℕ) (k m : ℕ) → sum_of (take m (drop k xs)) ≤ sum_of xs
block-least [] k m = let c = none-left k m in omega (arith, c)
block-least (x ∷ xs) zero zero = omega arith
block-least (x ∷ xs) zero (suc m) = let h = block-least xs 0 m in omega (arith, h)
block-least (x ∷ xs) (suc k) m = let h = block-least xs k m in omega (arith, h)

-- ---- what stands at a place

pub get-at : (xs : List ℕ) (i d : ℕ) → i < length xs → slice_get xs i ≡ Some (get_or xs i d)
get-at [] i d l = absurd (omega (arith, l))
get-at (x ∷ xs) zero d l = refl
get-at (x ∷ xs) (suc i) d l = get-at xs i d (omega (arith, l))

pub set-length : (xs : List ℕ) (i v : ℕ) → length (slice_set xs i v) ≡ length xs
set-length [] i v = refl
set-length (x ∷ xs) zero v = refl
set-length (x ∷ xs) (suc i) v = ap (λ (n : ℕ). suc n) (set-length xs i v)

-- ---- sums of all

pub sum-more : (ns : List ℕ) (i : ℕ) → i < length ns → sum_of (take (i + 1) ns) ≡ sum_of (take i ns) + get_or ns i 0
sum-more [] i l = absurd (omega (arith, l))
sum-more (n ∷ ns) zero l = ap (λ (k : ℕ). sum_of (take k (n ∷ ns))) (let e : 0 + 1 ≡ suc 0 = omega arith in e) ∙ omega arith
sum-more (n ∷ ns) (suc i) l =
    let h = sum-more ns i (omega (arith, l)) in
    ap (λ (k : ℕ). sum_of (take k (n ∷ ns))) (let e : suc i + 1 ≡ suc (i + 1) = omega arith in e) ∙ omega (arith, h)

-- one number is at most the sum
pub sum-get : (ns : List ℕ) (i d : ℕ) → i < length ns → get_or ns i d ≤ sum_of ns
sum-get [] i d l = absurd (omega (arith, l))
sum-get (n ∷ ns) zero d l = omega arith
sum-get (n ∷ ns) (suc i) d l = let h = sum-get ns i d (omega (arith, l)) in omega (arith, h)

sum-set : (ns : List ℕ) (i d m : ℕ) → i < length ns → sum_of (slice_set ns i m) + get_or ns i d ≡ sum_of ns + m
sum-set [] i d m l = absurd (omega (arith, l))
sum-set (n ∷ ns) zero d m l = omega arith
sum-set (n ∷ ns) (suc i) d m l = let h = sum-set ns i d m (omega (arith, l)) in omega (arith, h)

-- as long as the sum is below the limit it tells what the next one is
pub sum-changed : (ns : List ℕ) (i d m t : ℕ) → i < length ns → t ≡ sum_to_limit ns → t < 2 ^ 64 - 1 → min (t - get_or ns i d + m) (2 ^ 64 - 1) ≡ sum_to_limit (slice_set ns i m)
sum-changed ns i d m t l e small = let h = sum-set ns i d m l in let g = sum-get ns i d l in omega (arith, e, small, h, g)

-- ---- sums of blocks

-- one block more is skipped
pub skip-block : (xs bs : List ℕ) (k b left number : ℕ) → AreBlocks xs bs → k < length bs → b ≡ get_or bs k b → left + sum_of (take (8 * k) xs) ≡ number → number < 2 ^ 64 - 1 → b ≤ left → left - b + sum_of (take (8 * (k + 1)) xs) ≡ number
skip-block xs bs k b left number a l e so_far small fits =
    let one = a.each k b (get-at bs k b l ∙ ap (λ (n : ℕ). Some n) (sym e)) in
    let more = sum-block xs (8 * k) 8 in
    let next : sum_of (take (8 * (k + 1)) xs) ≡ sum_of (take (8 * k + 8) xs) = ap (λ (i : ℕ). sum_of (take i xs)) (let d : 8 * (k + 1) ≡ 8 * k + 8 = omega arith in d) in
    omega (arith, one, more, next, so_far, small, fits)

-- a number is at most the sum of its block
pub block-holds : (xs bs : List ℕ) (p d : ℕ) → AreBlocks xs bs → p < length xs → sum_of xs < 2 ^ 64 - 1 → (b : ℕ) → slice_get bs (p / 8) ≡ Some b → get_or xs p d ≤ b
block-holds xs bs p d a l small b at =
    let one = a.each (p / 8) b at in
    let all = block-least xs (8 * (p / 8)) 8 in
    let part = block-set xs (8 * (p / 8)) 8 p d 0 (omega arith) (omega arith) l in
    omega (arith, one, all, part, small)

-- the sum of one block has changed with a number
abbrev pub Changes : List ℕ → List ℕ → ℕ → ℕ → ℕ → Type 0
Changes bs cs k before number = (b : ℕ) → slice_get cs k ≡ Some b → (o : ℕ) × (slice_get bs k ≡ Some o) × (b ≡ min (o - before + number) (2 ^ 64 - 1))

-- a number is put in the place of another, and its block has the new sum
pub change-blocks : (xs bs cs : List ℕ) (p d v : ℕ) → AreBlocks xs bs → p < length xs → d ≡ get_or xs p d → sum_of xs < 2 ^ 64 - 1 → length cs ≡ length bs →
    Changes bs cs (p / 8) d v → ((k : ℕ) → k ≢ p / 8 → slice_get cs k ≡ slice_get bs k) → AreBlocks (slice_set xs p v) cs
change-blocks xs bs cs p d v a l before small same here others = record {
  fits = let f = a.fits in let n = set-length xs p v in omega (arith, f, n, same);
  each = λ k n at. elim (ℕ_discrete k (p / 8)) [
    | yes q ↦ subst (λ (j : ℕ). n ≡ sum_to_limit (take 8 (drop (8 * j) (slice_set xs p v)))) (sym q) (changed n (ap (λ (j : ℕ). slice_get cs j) (sym q) ∙ at))
    | no q ↦ a.each k n (sym (others k q) ∙ at) ∙ ap (λ (ys : List ℕ). sum_to_limit ys) (sym (kept k q))
  ];
}
  where
    changed : (n : ℕ) → slice_get cs (p / 8) ≡ Some n → n ≡ sum_to_limit (take 8 (drop (8 * (p / 8)) (slice_set xs p v)))
    changed n at =
        let r = here n at in
        let is = r.2 in
        let one = a.each (p / 8) r.0 r.1 in
        let all = block-least xs (8 * (p / 8)) 8 in
        let part = block-set xs (8 * (p / 8)) 8 p d v (omega arith) (omega arith) l in
        let least = block-set xs (8 * (p / 8)) 8 p d 0 (omega arith) (omega arith) l in
        omega (arith, is, one, all, part, least, small, before)

    kept : (k : ℕ) → k ≢ p / 8 → take 8 (drop (8 * k) (slice_set xs p v)) ≡ take 8 (drop (8 * k) xs)
    kept k q = elim (cases_lt p (8 * k)) [
      | inl h ↦ later-kept xs (8 * k) 8 p v h
      | inr h ↦ earlier-kept xs (8 * k) 8 p v (omega (arith, h, q))
    ]

-- what is left of a list that is put over the front of another
pub over-front : (xs ys : List ℕ) (n : ℕ) → n ≡ length xs → take n (xs ++ ys) ≡ xs
over-front [] ys zero e = refl
over-front [] ys (suc n) e = absurd (omega (arith, e))
over-front (x ∷ xs) ys zero e = absurd (omega (arith, e))
over-front (x ∷ xs) ys (suc n) e = ap (λ (zs : List ℕ). x ∷ zs) (over-front xs ys n (omega (arith, e)))
