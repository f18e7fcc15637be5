-- One more link.
use Rattle.std.proofs.Common.{◌≡◌, ℕ, Bool, true, false, cond, ◌&&◌, ◌||◌, ◌==◌, inl, inr, List, [], ◌∷◌, ◌++◌, refl, ap, sym, ◌∙◌, subst, Option, Some, None, option_map, is_some}
use Rattle.std.specs.List.{list_any}
use Rattle.std.specs.Option.{option_flatten}
use Rattle.std.proofs.lemmas.Bool.Decides.{Decides-eqb}
use Rattle.nk_values.specs.Members.{IsIn}
use Rattle.nk_values.proofs.MemberLaws.{in-left, in-right, in-either}
use Rattle.history_meaning.specs.Network.{Location}
use Rattle.topology_model.specs.Ends.{same_end}
use Rattle.topology_model.specs.Layouts.{Layout, location_of, has_port, same_location, far_end}
use Rattle.topology_model.specs.Wired.{IsDeclared, IsSound}
use Rattle.topology_model.specs.declared.line.DeclaredSwitch.{DeclaredSwitch}
use Rattle.topology_model.proofs.Refused.{IsNewLink}
use Rattle.topology_model.proofs.Wires.{place-same, same-place, linked, far_end-append}

true-false : (b : Bool) → b ≡ true → b ≡ false → ⊥
true-false b p q = cc

pub live : (sites : List DeclaredSwitch) (a b : ℕ × ℕ) (m n : ℕ × ℕ → Option (Option (ℕ × ℕ))) → has_port sites (location_of a) ≡ true → has_port sites (location_of b) ≡ true →
    ((e : ℕ × ℕ) → is_some (m e) ≡ has_port sites (location_of e)) → ((e : ℕ × ℕ) → n e ≡ cond (same_end b e) (Some (Some a)) (cond (same_end a e) (Some (Some b)) (m e))) →
    (e : ℕ × ℕ) → is_some (n e) ≡ has_port sites (location_of e)
live sites a b m n from to old now e = ap is_some (now e) ∙ split (same_end b e) (same_end a e) refl refl
  where
    split : (c d : Bool) → same_end b e ≡ c → same_end a e ≡ d → is_some (cond c (Some (Some a)) (cond d (Some (Some b)) (m e))) ≡ has_port sites (location_of e)
    split true d k h = sym (subst (λ (x : Location). has_port sites x ≡ true) (place-same (location_of b) (location_of e) k) to)
    split false true k h = sym (subst (λ (x : Location). has_port sites x ≡ true) (place-same (location_of a) (location_of e) h) from)
    split false false k h = old e

-- the far ends with both directions of a link more
far_more : (ls : List (Location × Location)) (a b q : Location) → is_some (far_end ls a) ≡ false → is_some (far_end ls b) ≡ false → same_location a b ≡ false →
    far_end (ls ++ (a, b) ∷ (b, a) ∷ []) q ≡ cond (same_location b q) (Some a) (cond (same_location a q) (Some b) (far_end ls q))
far_more ls a b q fa fb apart = far_end-append ls ((a, b) ∷ (b, a) ∷ []) q ∙ split (same_location b q) (same_location a q) (far_end ls q) refl refl refl
  where
    split : (c d : Bool) (o : Option Location) → same_location b q ≡ c → same_location a q ≡ d → far_end ls q ≡ o →
        cond (is_some o) o (cond d (Some b) (cond c (Some a) None)) ≡ cond c (Some a) (cond d (Some b) o)
    split true true o k h e = absurd (true-false (same_location a b) (same-place a b (place-same a q h ∙ sym (place-same b q k))) apart)
    split true false None k h e = refl
    split true false (Some x) k h e = absurd (true-false (is_some (far_end ls b)) (subst (λ (z : Location). is_some (far_end ls z) ≡ true) (sym (place-same b q k)) (ap is_some e)) fb)
    split false true None k h e = refl
    split false true (Some x) k h e = absurd (true-false (is_some (far_end ls a)) (subst (λ (z : Location). is_some (far_end ls z) ≡ true) (sym (place-same a q h)) (ap is_some e)) fa)
    split false false None k h e = refl
    split false false (Some x) k h e = refl

pub far : (t : Layout) (a b : ℕ × ℕ) (m n : ℕ × ℕ → Option (Option (ℕ × ℕ))) → IsNewLink t a b → ((e : ℕ × ℕ) → option_map location_of (option_flatten (m e)) ≡ far_end t.links (location_of e)) →
    ((e : ℕ × ℕ) → n e ≡ cond (same_end b e) (Some (Some a)) (cond (same_end a e) (Some (Some b)) (m e))) →
    (e : ℕ × ℕ) → option_map location_of (option_flatten (n e)) ≡ far_end (t.links ++ (location_of a, location_of b) ∷ (location_of b, location_of a) ∷ []) (location_of e)
far t a b m n new old now e =
    ap (λ o. option_map location_of (option_flatten o)) (now e) ∙ split (same_end b e) (same_end a e)
    ∙ sym (far_more t.links (location_of a) (location_of b) (location_of e) new.free_from new.free_to new.apart)
  where
    split : (c d : Bool) → option_map location_of (option_flatten (cond c (Some (Some a)) (cond d (Some (Some b)) (m e)))) ≡ cond c (Some (location_of a)) (cond d (Some (location_of b)) (far_end t.links (location_of e)))
    split true d = refl
    split false true = refl
    split false false = old e

any_in : (ns : List ℕ) (n : ℕ) → list_any (λ m. m == n) ns ≡ true → IsIn ns n
any_in [] n e = absurd (cc)
any_in (x ∷ xs) n e = split (x == n) refl e (any_in xs n)
  where
    split : (b : Bool) → (x == n) ≡ b → (b || list_any (λ m. m == n) xs) ≡ true → (list_any (λ m. m == n) xs ≡ true → IsIn xs n) → IsIn (x ∷ xs) n
    split true d k f = inl ((Decides-eqb x n).0 d)
    split false d k f = inr (f k)

-- what the test for a declared port tells
pub declared : (sites : List DeclaredSwitch) (links : List (Location × Location)) (a : Location) → has_port sites a ≡ true → IsDeclared (record { switches = sites; links = links }) a
declared [] links a e = absurd (cc)
declared (s ∷ ss) links a e = split (s.sw == a.sw) (list_any (λ n. n == a.pt) s.ports) refl refl e (declared ss links a)
  where
    split : (b c : Bool) → (s.sw == a.sw) ≡ b → list_any (λ n. n == a.pt) s.ports ≡ c → (b && c || has_port ss a) ≡ true → (has_port ss a ≡ true → IsDeclared (record { switches = ss; links = links }) a) →
        IsDeclared (record { switches = s ∷ ss; links = links }) a
    split true true k h g f = record { site = s; among = inl refl; switch = (Decides-eqb s.sw a.sw).0 k; port = any_in s.ports a.pt h }
    split true false k h g f = let d = f g in record { site = d.site; among = inr d.among; switch = d.switch; port = d.port }
    split false c k h g f = let d = f g in record { site = d.site; among = inr d.among; switch = d.switch; port = d.port }

-- a link of the old ones, or one of the two directions of the new one
data Which (t : Layout) (a b x y : Location) : Type 0 where
  old : IsIn t.links (x, y) → Which t a b x y
  there : a ≡ x → b ≡ y → Which t a b x y
  back : b ≡ x → a ≡ y → Which t a b x y

which : (t : Layout) (a b x y : Location) → IsIn (t.links ++ (a, b) ∷ (b, a) ∷ []) (x, y) → Which t a b x y
which t a b x y m = elim (in-either t.links ((a, b) ∷ (b, a) ∷ []) (x, y) m) [
  | inl h ↦ old h
  | inr h ↦ elim h [
    | inl e ↦ there (ap (λ (k : Location × Location). k.0) e) (ap (λ (k : Location × Location). k.1) e)
    | inr g ↦ elim g [ inl e ↦ back (ap (λ (k : Location × Location). k.0) e) (ap (λ (k : Location × Location). k.1) e) | inr g ↦ absurd g ]
  ]
]

module _ (t : Layout) (a b : Location) (s : IsSound t) (fa : is_some (far_end t.links a) ≡ false) (fb : is_some (far_end t.links b) ≡ false) (apart : same_location a b ≡ false) where
  free : (c x y : Location) → is_some (far_end t.links c) ≡ false → c ≡ x → IsIn t.links (x, y) → ⊥
  free c x y f e m = true-false (is_some (far_end t.links x)) (linked t.links x y m) (subst (λ (z : Location). is_some (far_end t.links z) ≡ false) e f)

  clash : (x : Location) → a ≡ x → b ≡ x → ⊥
  clash x e d = true-false (same_location a b) (same-place a b (e ∙ sym d)) apart

  same : (x y z : Location) → Which t a b x y → Which t a b x z → y ≡ z
  same x y z (old m) (old n) = s.one x y z m n
  same x y z (old m) (there e d) = absurd (free a x y fa e m)
  same x y z (old m) (back e d) = absurd (free b x y fb e m)
  same x y z (there e d) (old n) = absurd (free a x z fa e n)
  same x y z (there e d) (there g h) = sym d ∙ h
  same x y z (there e d) (back g h) = absurd (clash x e g)
  same x y z (back e d) (old n) = absurd (free b x z fb e n)
  same x y z (back e d) (there g h) = absurd (clash x g e)
  same x y z (back e d) (back g h) = sym d ∙ h

  turned : (x y : Location) → Which t a b x y → IsIn (t.links ++ (a, b) ∷ (b, a) ∷ []) (y, x)
  turned x y (old m) = in-left t.links ((a, b) ∷ (b, a) ∷ []) (y, x) (s.both x y m)
  turned x y (there e d) = in-right t.links ((a, b) ∷ (b, a) ∷ []) (y, x) (inr (inl (λ i. (d i, e i))))
  turned x y (back e d) = in-right t.links ((a, b) ∷ (b, a) ∷ []) (y, x) (inl (λ i. (d i, e i)))

  loops : (x : Location) → Which t a b x x → ⊥
  loops x (old m) = s.apart x m
  loops x (there e d) = clash x e d
  loops x (back e d) = clash x d e

  stands : (da : IsDeclared t a) (db : IsDeclared t b) (x y : Location) → Which t a b x y → IsDeclared t x
  stands da db x y (old m) = s.declared x y m
  stands da db x y (there e d) = subst (λ (z : Location). IsDeclared t z) e da
  stands da db x y (back e d) = subst (λ (z : Location). IsDeclared t z) e db

pub sound : (t : Layout) (a b : ℕ × ℕ) → IsSound t → IsNewLink t a b → IsSound (record { switches = t.switches; links = t.links ++ (location_of a, location_of b) ∷ (location_of b, location_of a) ∷ [] })
sound t a b s n = record {
  sites = s.sites;
  differ = s.differ;
  few = s.few;
  declared = λ x y m.
      let d = stands t (location_of a) (location_of b) s n.free_from n.free_to n.apart (declared t.switches t.links (location_of a) n.from) (declared t.switches t.links (location_of b) n.to) x y (which t (location_of a) (location_of b) x y m) in
      record { site = d.site; among = d.among; switch = d.switch; port = d.port };
  both = λ x y m. turned t (location_of a) (location_of b) s n.free_from n.free_to n.apart x y (which t (location_of a) (location_of b) x y m);
  one = λ x y z m k. same t (location_of a) (location_of b) s n.free_from n.free_to n.apart x y z (which t (location_of a) (location_of b) x y m) (which t (location_of a) (location_of b) x z k);
  apart = λ x m. loops t (location_of a) (location_of b) s n.free_from n.free_to n.apart x (which t (location_of a) (location_of b) x x m);
}
