-- What an eye has seen, read by read.
use Rattle.std.proofs.Common.{◌≡◌, ◌∙◌, inl, inr, ◌≤◌, ◌<◌, ℕ, not, true, List, [], ◌∷◌, ◌++◌, ◌-◌, ◌==◌, length, slice_get, Some, refl, sym, subst, ap, arith}
use Rattle.std.proofs.lemmas.Bool.Decides.{nat_tests}
use base.Growing.{prefix_anti, prefix_trans}
use Rattle.std.specs.List.{AllByRecursion}
use mathlib.Core.List.{IsPrefix}
use Rattle.nk_values.specs.Members.{IsIn}
use Rattle.status_board.specs.declared.post.Post.{Post}
use Rattle.status_board.specs.Posts.{IsHistory, last_post, newest, opening}
use Rattle.status_board.proofs.Rising.{last_of-later, rising-snoc}
use Rattle.board_readers.specs.Sights.{AreSeen, AreSights, IsKnown, do_rise, is_new}

-- ---- what is known stays known

in-front : (xs ys : List Post) (p : Post) → IsIn xs p → IsIn (xs ++ ys) p
in-front [] ys p i = absurd i
in-front (x ∷ xs) ys p (inl e) = inl e
in-front (x ∷ xs) ys p (inr i) = inr (in-front xs ys p i)

known-later : (xs ys : List Post) (p : Post) → IsPrefix xs ys → IsKnown xs p → IsKnown ys p
known-later xs ys p pre (inl e) = inl e
known-later xs ys p pre (inr i) = inr (subst (λ (zs : List Post). IsIn zs p) pre.1 (in-front xs pre.0 p i))

all-later : (xs ys seen : List Post) → IsPrefix xs ys → AllByRecursion (IsKnown xs) seen → AllByRecursion (IsKnown ys) seen
all-later xs ys [] pre all = tt
all-later xs ys (p ∷ ps) pre all = (known-later xs ys p pre all.0, all-later xs ys ps pre all.1)

pub sights_later : (xs ys seen : List Post) → IsPrefix xs ys → (newest xs).count ≤ (newest ys).count → AreSights xs seen → AreSights ys seen
sights_later xs ys seen pre le s = record {
  each = all-later xs ys seen pre s.each;
  rising = s.rising;
  below = omega (arith, le, s.below);
}

-- ---- the newest

last-known : (first : Post) (xs all : List Post) → IsKnown all first → AllByRecursion (IsIn all) xs → IsKnown all (last_post first xs)
last-known first [] all k h = k
last-known first (x ∷ xs) all k h = last-known x xs all (inr h.0) h.1

each-more : (x : Post) (xs all : List Post) → AllByRecursion (IsIn all) xs → AllByRecursion (IsIn (x ∷ all)) xs
each-more x [] all h = tt
each-more x (y ∷ ys) all h = (inr h.0, each-more x ys all h.1)

each-in : (xs : List Post) → AllByRecursion (IsIn xs) xs
each-in [] = tt
each-in (x ∷ xs) = (inl refl, each-more x xs xs (each-in xs))

newest-known : (xs : List Post) → IsKnown xs (newest xs)
newest-known xs = last-known opening xs xs (inl refl) (each-in xs)

-- ---- one post more

all-snoc : (xs seen : List Post) (p : Post) → AllByRecursion (IsKnown xs) seen → IsKnown xs p → AllByRecursion (IsKnown xs) (seen ++ p ∷ [])
all-snoc xs [] p all k = (k, tt)
all-snoc xs (q ∷ qs) p all k = (all.0, all-snoc xs qs p all.1 k)

last-snoc : (q : Post) (seen : List Post) (p : Post) → last_post q (seen ++ p ∷ []) ≡ p
last-snoc q [] p = refl
last-snoc q (x ∷ xs) p = last-snoc x xs p

less-of : (a b : ℕ) → not (a == b) ≡ true → a ≤ b → a < b
less-of a b other le = grind (arith, nat_tests)

rise-snoc : (xs seen : List Post) (p : Post) → p ≡ newest xs → do_rise seen ≡ true → (last_post opening seen).count ≤ (newest xs).count → is_new seen p.count ≡ true → do_rise (seen ++ p ∷ []) ≡ true
rise-snoc xs [] p is up below new = refl
rise-snoc xs (q ∷ qs) p is up below new =
    let le : (last_post q qs).count ≤ p.count = omega (arith, below, ap (λ (x : Post). x.count) is) in
    rising-snoc q qs p up (less-of (last_post q qs).count p.count new le)

-- a post that is new may be added
pub sights_more : (xs seen : List Post) (p : Post) → p ≡ newest xs → is_new seen p.count ≡ true → AreSights xs seen → AreSights xs (seen ++ p ∷ [])
sights_more xs seen p is new s =
    let last = ap (λ (x : Post). x.count) (last-snoc opening seen p) in record {
      each = all-snoc xs seen p s.each (subst (IsKnown xs) (sym is) (newest-known xs));
      rising = rise-snoc xs seen p is s.rising s.below new;
      below = omega (arith, last, ap (λ (x : Post). x.count) is);
    }

-- ---- the last post of a list

get-last : (q : Post) (qs : List Post) → slice_get (q ∷ qs) (length qs) ≡ Some (last_post q qs)
get-last q [] = refl
get-last q (x ∷ xs) = get-last x xs

some-is : (p q : Post) → Some p ≡ Some q → p ≡ q
some-is p q e = cc

none-some : {P : Type 0} (p : Post) (k : ℕ) → slice_get [] k ≡ Some p → P
none-some p k e = cc

pub new_at : (seen : List Post) (p : Post) (n : ℕ) → slice_get seen (length seen - 1) ≡ Some p → not (p.count == n) ≡ is_new seen n
new_at [] p n at = none-some p 0 at
new_at (q ∷ qs) p n at =
    let k : length (q ∷ qs) - 1 ≡ length qs = omega arith in
    let is : p ≡ last_post q qs = some-is p (last_post q qs) (sym at ∙ ap (slice_get (q ∷ qs)) k ∙ get-last q qs) in
    ap (λ (x : Post). not (x.count == n)) is

-- ---- what is seen at the end

-- An eye that knew `first` was told of all posts and read once more, and knows no more than these then.
pub seen_whole : (first told now all seen items : List Post) (last : Post) → IsPrefix first told → IsPrefix all told → IsPrefix told now → IsHistory now → IsPrefix now all → AreSights first seen → last ≡ newest now → items ≡ seen ++ last ∷ [] → AreSeen all items
seen_whole first told now all seen items last a b c h d s is whole =
    let same : now ≡ all = prefix_anti now all d (prefix_trans all told now b c) in
    let pre = prefix_trans first told now a c in record {
      before = seen;
      sights = subst (λ (xs : List Post). AreSights xs seen) same (sights_later first now seen pre (last_of-later opening first now pre h) s);
      whole = whole ∙ ap (λ (x : Post). seen ++ x ∷ []) (is ∙ ap newest same);
    }

pub newest_seen : (all items : List Post) (p : Post) → p ≡ newest all → items ≡ p ∷ [] → AreSeen all items
newest_seen all items p is whole = record {
  before = [];
  sights = record { each = tt; rising = refl; below = omega arith };
  whole = whole ∙ ap (λ (x : Post). x ∷ []) is;
}
