-- One more switch.
use Rattle.std.proofs.Common.{◌≡◌, ◌≢◌, ℕ, Bool, true, false, cond, ◌&&◌, ◌||◌, ◌==◌, ◌⊎◌, inl, inr, List, [], ◌∷◌, ◌++◌, length, map, refl, ap, sym, ◌∙◌, subst, Option, Some, None, option_map, is_some, length-append, arith}
use Rattle.std.specs.List.{list_any, All}
use Rattle.std.specs.Option.{option_flatten}
use Rattle.std.proofs.lemmas.Bool.Decides.{Decides-eqb}
use Rattle.std.proofs.lemmas.List.{map-append}
use Rattle.std.proofs.lemmas.List.Elements.{All-head, All-tail}
use Rattle.std.proofs.lemmas.List.Folds.{list_any-append}
use Rattle.nk_values.specs.declared.field.Field.TheVariants.{Pt}
use Rattle.nk_values.specs.Members.{IsIn, EachOnce}
use Rattle.nk_values.specs.Ranges.{IsValue}
use Rattle.nk_values.proofs.MemberLaws.{in-left, in-either}
use Rattle.nk_values.proofs.PairLaws.{pairs-append}
use Rattle.history_meaning.specs.Network.{Location}
use Rattle.history_meaning.proofs.Runs.{only}
use Rattle.topology_model.specs.Layouts.{Layout, location_of, place_in, has_switch, has_port, far_end}
use Rattle.topology_model.specs.Lines.{IsLineInRange, has_repeat}
use Rattle.topology_model.specs.Wired.{IsSite, IsSound}
use Rattle.topology_model.specs.declared.line.DeclaredSwitch.{DeclaredSwitch}
use Rattle.topology_model.specs.declared.line.TopoLine.TheVariants.{Switch}
use Rattle.topology_model.proofs.Positions.{position-other, position-new}
use Rattle.topology_model.proofs.Refused.{IsNewSwitch}

abbrev site : ℕ → List ℕ → DeclaredSwitch
site sw ports = record { sw = sw; ports = ports }

pub placed : (sites : List DeclaredSwitch) (sw : ℕ) (ports : List ℕ) (m n : ℕ → Option ℕ) → has_switch sites sw ≡ false → ((q : ℕ) → m q ≡ place_in sites q) →
    ((q : ℕ) → n q ≡ cond (sw == q) (Some (length sites)) (m q)) → (q : ℕ) → n q ≡ place_in (sites ++ site sw ports ∷ []) q
placed sites sw ports m n new old now q = now q ∙ split (sw == q) refl
  where
    split : (b : Bool) → (sw == q) ≡ b → cond b (Some (length sites)) (m q) ≡ place_in (sites ++ site sw ports ∷ []) q
    split true e = sym (position-new (λ s. s.sw == q) sites (site sw ports) e (subst (λ (k : ℕ). has_switch sites k ≡ false) ((Decides-eqb sw q).0 e) new))
    split false e = old q ∙ sym (position-other (λ s. s.sw == q) sites (site sw ports) e)

pub no_port : (sites : List DeclaredSwitch) (sw pt : ℕ) → has_switch sites sw ≡ false → has_port sites (location_of (sw, pt)) ≡ false
no_port [] sw pt e = refl
no_port (s ∷ ss) sw pt e = split (s.sw == sw) e (no_port ss sw pt)
  where
    split : (b : Bool) → (b || has_switch ss sw) ≡ false → (has_switch ss sw ≡ false → has_port ss (location_of (sw, pt)) ≡ false) → (b && list_any (λ n. n == pt) s.ports || has_port ss (location_of (sw, pt))) ≡ false
    split true d f = absurd (cc)
    split false d f = f d

pub live : (sites : List DeclaredSwitch) (sw : ℕ) (ports : List ℕ) (m n : ℕ × ℕ → Option (Option (ℕ × ℕ))) → ((e : ℕ × ℕ) → is_some (m e) ≡ has_port sites (location_of e)) →
    ((e : ℕ × ℕ) → n e ≡ cond (sw == e.0 && list_any (λ k. k == e.1) ports) (Some None) (m e)) → (e : ℕ × ℕ) → is_some (n e) ≡ has_port (sites ++ site sw ports ∷ []) (location_of e)
live sites sw ports m n old now e =
    ap is_some (now e) ∙ split (sw == e.0 && list_any (λ k. k == e.1) ports) (has_port sites (location_of e)) (old e)
    ∙ sym (list_any-append (λ s. s.sw == e.0 && list_any (λ k. k == e.1) s.ports) sites (site sw ports ∷ []))
  where
    split : (b c : Bool) → is_some (m e) ≡ c → is_some (cond b (Some None) (m e)) ≡ (c || (b || false))
    split true true h = refl
    split true false h = refl
    split false true h = h
    split false false h = h

pub far : (sites : List DeclaredSwitch) (sw : ℕ) (ports : List ℕ) (links : List (Location × Location)) (m n : ℕ × ℕ → Option (Option (ℕ × ℕ))) → has_switch sites sw ≡ false →
    ((e : ℕ × ℕ) → is_some (m e) ≡ has_port sites (location_of e)) → ((e : ℕ × ℕ) → option_map location_of (option_flatten (m e)) ≡ far_end links (location_of e)) →
    ((e : ℕ × ℕ) → n e ≡ cond (sw == e.0 && list_any (λ k. k == e.1) ports) (Some None) (m e)) → (e : ℕ × ℕ) → option_map location_of (option_flatten (n e)) ≡ far_end links (location_of e)
far sites sw ports links m n new has old now e = ap (λ o. option_map location_of (option_flatten o)) (now e) ∙ split (sw == e.0) (list_any (λ k. k == e.1) ports) refl
  where
    gone : (o : Option (Option (ℕ × ℕ))) → is_some o ≡ false → option_map location_of (option_flatten o) ≡ None
    gone None h = refl
    gone (Some x) h = absurd (cc)

    split : (b c : Bool) → (sw == e.0) ≡ b → option_map location_of (option_flatten (cond (b && c) (Some None) (m e))) ≡ far_end links (location_of e)
    split true true d =
        sym (gone (m e) (has e ∙ no_port sites e.0 e.1 (subst (λ (k : ℕ). has_switch sites k ≡ false) ((Decides-eqb sw e.0).0 d) new))) ∙ old e
    split true false d = old e
    split false c d = old e

-- a number that no switch has
unnamed : (sites : List DeclaredSwitch) (sw : ℕ) → has_switch sites sw ≡ false → ¬ (IsIn (map (λ s. s.sw) sites) sw)
unnamed [] sw e m = m
unnamed (s ∷ ss) sw e m = split (s.sw == sw) refl e m (unnamed ss sw)
  where
    split : (b : Bool) → (s.sw == sw) ≡ b → (b || has_switch ss sw) ≡ false → (s.sw ≡ sw) ⊎ IsIn (map (λ s. s.sw) ss) sw → (has_switch ss sw ≡ false → ¬ (IsIn (map (λ s. s.sw) ss) sw)) → ⊥
    split true d k h f = absurd (cc)
    split false d k (inl h) f = let t : (s.sw == sw) ≡ true = (Decides-eqb s.sw sw).1 h in absurd (cc)
    split false d k (inr h) f = f k h

pub differ_push : (sites : List DeclaredSwitch) (sw : ℕ) (ports : List ℕ) → EachOnce (map (λ s. s.sw) sites) → ¬ (IsIn (map (λ s. s.sw) sites) sw) → EachOnce (map (λ s. s.sw) (sites ++ site sw ports ∷ []))
differ_push sites sw ports d n =
    let numbers : List ℕ = map (λ (s : DeclaredSwitch). s.sw) sites in
    subst (λ (ns : List ℕ). EachOnce ns) (sym (map-append (λ (s : DeclaredSwitch). s.sw) sites (site sw ports ∷ [])))
    (pairs-append (λ a b. a ≢ b) numbers (sw ∷ []) d ((λ y m. absurd m), tt) (λ a b m k same. n (subst (λ (i : ℕ). IsIn numbers i) (same ∙ sym (only sw b k)) m)))

-- the test for numbers that come twice
in_any : (ns : List ℕ) (n : ℕ) → IsIn ns n → list_any (λ m. m == n) ns ≡ true
in_any [] n m = absurd m
in_any (x ∷ xs) n (inl e) = rw ((Decides-eqb x n).1 e) refl
in_any (x ∷ xs) n (inr m) = split (x == n) (in_any xs n m)
  where
    split : (b : Bool) → list_any (λ m. m == n) xs ≡ true → (b || list_any (λ m. m == n) xs) ≡ true
    split true h = refl
    split false h = h

pub no_repeat : (ns : List ℕ) → has_repeat ns ≡ false → EachOnce ns
no_repeat [] e = tt
no_repeat (n ∷ ns) e = split (list_any (λ m. m == n) ns) refl e (no_repeat ns)
  where
    split : (b : Bool) → list_any (λ m. m == n) ns ≡ b → (b || has_repeat ns) ≡ false → (has_repeat ns ≡ false → EachOnce ns) → EachOnce (n ∷ ns)
    split true d k f = absurd (cc)
    split false d k f = ((λ y m e. let t = in_any ns n (subst (λ (i : ℕ). IsIn ns i) (sym e) m) in absurd (cc)), f k)

-- what holds of each element
each_in : {X : Type 0} (P : X → Type 0) (xs : List X) (x : X) → All P xs → IsIn xs x → P x
each_in {X} P [] x a m = absurd m
each_in {X} P (y ∷ ys) x a (inl e) = subst P e (All-head P y ys a)
each_in {X} P (y ∷ ys) x a (inr m) = each_in P ys x (All-tail P y ys a) m

pub sound : (t : Layout) (sw : ℕ) (ports : List ℕ) → IsSound t → IsLineInRange (Switch sw ports) → IsNewSwitch t sw ports →
    IsSound (record { switches = t.switches ++ site sw ports ∷ []; links = t.links })
sound t sw ports s r n = record {
  sites = λ x m. elim (in-either t.switches (site sw ports ∷ []) x m) [
    | inl y ↦ s.sites x y
    | inr y ↦ elim y [ inl e ↦ subst (λ (z : DeclaredSwitch). IsSite z) e (record { switch = r.0; ports = λ n k. each_in (IsValue Pt) ports n r.1 k; differ = no_repeat ports n.differ; few = n.few }) | inr y ↦ absurd y ]
  ];
  differ = differ_push t.switches sw ports s.differ (unnamed t.switches sw n.new);
  few = omega (arith, length-append t.switches (site sw ports ∷ []), n.room);
  declared = λ a b m. let d = s.declared a b m in record { site = d.site; among = in-left t.switches (site sw ports ∷ []) d.site d.among; switch = d.switch; port = d.port };
  both = s.both;
  one = s.one;
  apart = s.apart;
}
