-- Links, and what their far ends are.
use Rattle.std.proofs.Common.{◌≡◌, Bool, true, false, cond, ◌&&◌, ◌==◌, inl, inr, List, [], ◌∷◌, ◌++◌, refl, ap, subst, Option, Some, None, is_some}
use Rattle.std.proofs.lemmas.Bool.Decides.{Decides-eqb}
use Rattle.nk_values.specs.Members.{IsIn}
use Rattle.history_meaning.specs.Network.{Location}
use Rattle.topology_model.specs.Layouts.{Layout, same_location, far_end}
use Rattle.topology_model.specs.Wired.{IsSound}

and-left : (a b : Bool) → (a && b) ≡ true → a ≡ true
and-left true b e = refl
and-left false b e = e

and-right : (a b : Bool) → (a && b) ≡ true → b ≡ true
and-right true b e = e
and-right false b e = absurd (cc)

-- places that the test holds to be one are one
pub place-same : (a b : Location) → same_location a b ≡ true → a ≡ b
place-same a b e =
    let s : a.sw ≡ b.sw = (Decides-eqb a.sw b.sw).0 (and-left (a.sw == b.sw) (a.pt == b.pt) e) in
    let p : a.pt ≡ b.pt = (Decides-eqb a.pt b.pt).0 (and-right (a.sw == b.sw) (a.pt == b.pt) e) in
    λ i. record { sw = s i; pt = p i }

pub same-self : (a : Location) → same_location a a ≡ true
same-self a = rw ((Decides-eqb a.sw a.sw).1 refl, (Decides-eqb a.pt a.pt).1 refl) refl

pub same-place : (a b : Location) → a ≡ b → same_location a b ≡ true
same-place a b e = subst (λ (c : Location). same_location a c ≡ true) e (same-self a)

-- each port with a link has a far end
pub linked : (ls : List (Location × Location)) (a b : Location) → IsIn ls (a, b) → is_some (far_end ls a) ≡ true
linked [] a b m = absurd m
linked (l ∷ ls) a b (inl e) = rw (same-place l.0 a (ap (λ (k : Location × Location). k.0) e)) refl
linked (l ∷ ls) a b (inr m) = split (same_location l.0 a) (linked ls a b m)
  where
    split : (c : Bool) → is_some (far_end ls a) ≡ true → is_some (cond c (Some l.1) (far_end ls a)) ≡ true
    split true h = refl
    split false h = h

-- a far end is that of a link
pub joined : (ls : List (Location × Location)) (a b : Location) → far_end ls a ≡ Some b → IsIn ls (a, b)
joined [] a b e = absurd (cc)
joined (l ∷ ls) a b e = split (same_location l.0 a) refl e (joined ls a b)
  where
    split : (c : Bool) → same_location l.0 a ≡ c → cond c (Some l.1) (far_end ls a) ≡ Some b → (far_end ls a ≡ Some b → IsIn ls (a, b)) → IsIn (l ∷ ls) (a, b)
    split true d k f = let s : l.0 ≡ a = place-same l.0 a d in let t : l.1 ≡ b = cc in inl (λ i. (s i, t i))
    split false d k f = inr (f k)

-- after more links
pub far_end-append : (ls ms : List (Location × Location)) (a : Location) → far_end (ls ++ ms) a ≡ cond (is_some (far_end ls a)) (far_end ls a) (far_end ms a)
far_end-append [] ms a = refl
far_end-append (l ∷ ls) ms a = split (same_location l.0 a) (far_end-append ls ms a)
  where
    split : (c : Bool) → far_end (ls ++ ms) a ≡ cond (is_some (far_end ls a)) (far_end ls a) (far_end ms a) →
        cond c (Some l.1) (far_end (ls ++ ms) a) ≡ cond (is_some (cond c (Some l.1) (far_end ls a))) (cond c (Some l.1) (far_end ls a)) (far_end ms a)
    split true h = refl
    split false h = h

-- and the far end of each link's beginning
pub joins : (t : Layout) → IsSound t → (a b : Location) → (far_end t.links a ≡ Some b → IsIn t.links (a, b)) × (IsIn t.links (a, b) → far_end t.links a ≡ Some b)
joins t s a b = (joined t.links a b, λ m. split (far_end t.links a) refl (linked t.links a b m) m)
  where
    split : (o : Option Location) → far_end t.links a ≡ o → is_some o ≡ true → IsIn t.links (a, b) → o ≡ Some b
    split None e k m = absurd (cc)
    split (Some c) e k m = ap (λ (x : Location). Some x) (s.one a c b (joined t.links a c e) m)
