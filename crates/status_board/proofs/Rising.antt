-- Posts whose counts rise.
use Rattle.std.proofs.Common.{◌≡◌, ◌<◌, ◌≤◌, ltb, ◌&&◌, Bool, true, false, List, [], ◌∷◌, ◌++◌, refl, ap, arith}
use Rattle.std.proofs.lemmas.Bool.{lt-ltb, ltb-true}
use mathlib.Core.List.{IsPrefix}
use Rattle.status_board.specs.declared.post.Post.{Post}
use Rattle.status_board.specs.Posts.{are_rising, last_post}

both : (a b c : Bool) → (b ≡ true → c ≡ true) → (a && b) ≡ true → (a && c) ≡ true
both true b c f e = f e
both false b c f e = e

-- a post with a greater count may come after them
pub rising-snoc : (p : Post) (log : List Post) (e : Post) → are_rising p.count log ≡ true → (last_post p log).count < e.count → are_rising p.count (log ++ e ∷ []) ≡ true
rising-snoc p [] e up less = let t = lt-ltb p.count e.count less in rw t refl
rising-snoc p (q ∷ qs) e up less = both (ltb p.count q.count) (are_rising q.count qs) (are_rising q.count (qs ++ e ∷ [])) (λ u. rising-snoc q qs e u less) up

-- then it is the last
pub last_of-snoc : (p : Post) (log : List Post) (e : Post) → last_post p (log ++ e ∷ []) ≡ e
last_of-snoc p [] e = refl
last_of-snoc p (q ∷ qs) e = last_of-snoc q qs e

first : (a b : Bool) → (a && b) ≡ true → a ≡ true
first true b e = refl
first false b e = e

second : (a b : Bool) → (a && b) ≡ true → b ≡ true
second true b e = e
second false b e = absurd (cc e)

-- the last count is no less than the first
last_of-above : (p : Post) (log : List Post) → are_rising p.count log ≡ true → p.count ≤ (last_post p log).count
last_of-above p [] up = omega arith
last_of-above p (q ∷ qs) up =
    let a = ltb-true p.count q.count (first (ltb p.count q.count) (are_rising q.count qs) up) in
    let b = last_of-above q qs (second (ltb p.count q.count) (are_rising q.count qs) up) in
    omega arith

-- what goes on from a list has no smaller last count
last_of-append : (p : Post) (xs rest : List Post) → are_rising p.count (xs ++ rest) ≡ true → (last_post p xs).count ≤ (last_post p (xs ++ rest)).count
last_of-append p [] rest up = last_of-above p rest up
last_of-append p (q ∷ qs) rest up = last_of-append q qs rest (second (ltb p.count q.count) (are_rising q.count (qs ++ rest)) up)

pub last_of-later : (p : Post) (xs ys : List Post) → IsPrefix xs ys → are_rising p.count ys ≡ true → (last_post p xs).count ≤ (last_post p ys).count
last_of-later p xs ys pre up =
    let up' : are_rising p.count (xs ++ pre.0) ≡ true = rw (pre.1) up in
    let d = ap (λ (zs : List Post). (last_post p zs).count) (pre.1) in
    let a = last_of-append p xs (pre.0) up' in
    omega (arith, a, d)
