-- The place of the first element that passes a test.
use Rattle.std.proofs.Common.{◌≡◌, ℕ, suc, Bool, true, false, ◌||◌, List, [], ◌∷◌, ◌++◌, length, get_or, ◌==◌, refl, ap, sym, ◌∙◌, Option, Some, None, option_map, is_some, arith}
use Rattle.std.specs.List.{position, list_any, slice_get}
use Rattle.std.specs.Option.{IsSomeAnd, IfSome}
use Rattle.std.proofs.lemmas.Bool.Decides.{nat_tests, Decides-eqb}
use Rattle.std.proofs.lemmas.List.Quantifiers.{position-Some}
use Rattle.std.proofs.lemmas.Option.{slice_get-get_or}
use Rattle.topology_model.specs.Layouts.{place_in}
use Rattle.topology_model.specs.declared.line.DeclaredSwitch.{DeclaredSwitch}

position-yes : {X : Type 0} (p : X → Bool) (x : X) (xs : List X) → p x ≡ true → position p (x ∷ xs) ≡ Some 0
position-yes p x xs e = rw e (grind (arith, nat_tests))

position-no : {X : Type 0} (p : X → Bool) (x : X) (xs : List X) → p x ≡ false → position p (x ∷ xs) ≡ option_map (λ n. suc n) (position p xs)
position-no p x xs e = rw e (grind (arith, nat_tests))

is_some-map : {X Y : Type 0} (f : X → Y) (o : Option X) → is_some (option_map f o) ≡ is_some o
is_some-map f None = refl
is_some-map f (Some x) = refl

-- there is one exactly where some element passes
pub is_some-position : {X : Type 0} (p : X → Bool) (xs : List X) → is_some (position p xs) ≡ list_any p xs
is_some-position p [] = refl
is_some-position p (x ∷ xs) = split (p x) refl (is_some-position p xs)
  where
    split : (b : Bool) → p x ≡ b → is_some (position p xs) ≡ list_any p xs → is_some (position p (x ∷ xs)) ≡ (p x || list_any p xs)
    split true e h = ap is_some (position-yes p x xs e) ∙ rw e refl
    split false e h = ap is_some (position-no p x xs e) ∙ is_some-map (λ n. suc n) (position p xs) ∙ h ∙ rw e refl

-- one more element that does not pass
pub position-other : {X : Type 0} (p : X → Bool) (xs : List X) (y : X) → p y ≡ false → position p (xs ++ y ∷ []) ≡ position p xs
position-other p [] y e = position-no p y [] e
position-other p (x ∷ xs) y e = split (p x) refl (position-other p xs y e)
  where
    split : (b : Bool) → p x ≡ b → position p (xs ++ y ∷ []) ≡ position p xs → position p (x ∷ xs ++ y ∷ []) ≡ position p (x ∷ xs)
    split true d h = position-yes p x (xs ++ y ∷ []) d ∙ sym (position-yes p x xs d)
    split false d h = position-no p x (xs ++ y ∷ []) d ∙ ap (option_map (λ n. suc n)) h ∙ sym (position-no p x xs d)

-- one more that does, where none did
pub position-new : {X : Type 0} (p : X → Bool) (xs : List X) (y : X) → p y ≡ true → list_any p xs ≡ false → position p (xs ++ y ∷ []) ≡ Some (length xs)
position-new p [] y e h = position-yes p y [] e
position-new p (x ∷ xs) y e h = split (p x) refl h (position-new p xs y e)
  where
    split : (b : Bool) → p x ≡ b → (p x || list_any p xs) ≡ false → (list_any p xs ≡ false → position p (xs ++ y ∷ []) ≡ Some (length xs)) → position p (x ∷ xs ++ y ∷ []) ≡ Some (length (x ∷ xs))
    split true d k f = absurd (let r : true ≡ false = rw d at k in cc)
    split false d k f = position-no p x (xs ++ y ∷ []) d ∙ ap (option_map (λ n. suc n)) (f (rw d at k))

-- what stands at the place of a switch
pub named : (sites : List DeclaredSwitch) (sw k : ℕ) → place_in sites sw ≡ Some k → IsSomeAnd (slice_get sites k) (λ s. s.sw ≡ sw)
named sites sw k e =
    let d : DeclaredSwitch = record { sw = 0; ports = [] } in
    let r = position-Some (λ s. s.sw == sw) sites k d e in
    rw (slice_get-get_or sites k d r.0) ((Decides-eqb (get_or sites k d).sw sw).0 r.1)

pub named_if : (sites : List DeclaredSwitch) (sw : ℕ) (o : Option ℕ) → o ≡ place_in sites sw → IfSome o (λ k. IsSomeAnd (slice_get sites k) (λ s. s.sw ≡ sw))
named_if sites sw None e = tt
named_if sites sw (Some k) e = named sites sw k (sym e)
