-- Lines of copies, list by list.
use Rattle.std.proofs.Common.{◌≡◌, ◌≢◌, ◌⊎◌, ◌<◌, ◌≤◌, ℕ, zero, suc, ◌+◌, inl, inr, Bool, true, false, cond, ◌==◌, List, [], ◌∷◌, ◌++◌, length, get_or, map, slice_get, slice_set, Some, Vec, String, refl, sym, ◌∙◌, ap, subst, append-nil, arith, string_bytes, codes}
use Rattle.std.proofs.lemmas.Bool.{eq-eqb, ne_eqb}
use Rattle.std.proofs.lemmas.List.{map-append}
use Rattle.std.proofs.lemmas.List.Elements.{filter-append}
use Rattle.std.proofs.lemmas.Option.{slice_get_within, slice_get-get_or}
use Rattle.std.specs.declared.alloc.Global.{Global}
use Rattle.packet_tracer.specs.declared.flight.Flight.{Flight}
use Rattle.update_coordinator.proofs.Places.{some_is, set_cases}
use Rattle.nk_values.specs.Members.{SameMembers}
use Rattle.update_laws.specs.Traffic.{Arrived}
use Rattle.report_text.specs.Copies.{open_line, arrival_copies, HasCopies}
use Rattle.report_text.specs.Reports.{HasFate, IsArrivalText}
use Rattle.value_text.specs.Traces.{Ascends}
use Rattle.value_text.proofs.SortLaws.{lines_of}

-- the element at a place
pub at_place : {X : Type 0} (xs : List X) (k : ℕ) (x : X) → k < length xs → x ≡ get_or xs k x → slice_get xs k ≡ Some x
at_place xs k x l e = slice_get-get_or xs k x l ∙ ap Some (sym e)

-- what stands at a place of a list with one more element
push_cases : {A : Type 0} (xs : List A) (k : ℕ) (x y : A) → slice_get (xs ++ x ∷ []) k ≡ Some y → (y ≡ x) ⊎ (slice_get xs k ≡ Some y)
push_cases [] zero x y e = inl (sym (some_is x y e))
push_cases [] (suc k) x y e = absurd (cc)
push_cases (z ∷ zs) zero x y e = inr e
push_cases (z ∷ zs) (suc k) x y e = push_cases zs k x y e

pub nothing : HasCopies [] []
nothing = record { each = λ k lines at. absurd (cc) }

-- one more list without a line
pub no_copies : (lists : List (Vec (String Global) Global)) (v : Vec (String Global) Global) → v.items ≡ [] → HasCopies [] lists → HasCopies [] (lists ++ v ∷ [])
no_copies lists v e h = record {
  each = λ k lines at.
      elim (push_cases lists k v lines at) [
        | inl d ↦ ap (λ (w : Vec (String Global) Global). map string_bytes w.items) d ∙ ap (map string_bytes) e
        | inr old ↦ h.each k lines old
      ];
}

one_copy : (f : Flight) (place : ℕ) (b : Bool) → (f.arrival == place) ≡ b → arrival_copies (f ∷ []) place ≡ cond b (f.history ∷ []) []
one_copy f place true e = ap (λ c. map (λ (g : Flight). g.history) (cond c (f ∷ []) [])) e
one_copy f place false e = ap (λ c. map (λ (g : Flight). g.history) (cond c (f ∷ []) [])) e

copies-append : (fs gs : List Flight) (place : ℕ) → arrival_copies (fs ++ gs) place ≡ arrival_copies fs place ++ arrival_copies gs place
copies-append fs gs place = ap (map (λ (f : Flight). f.history)) (filter-append (λ (f : Flight). f.arrival == place) fs gs) ∙ map-append (λ (f : Flight). f.history) _ _

-- one more copy, of the arrival at this place or of another one
copies_here : (fs : List Flight) (f : Flight) → arrival_copies (fs ++ f ∷ []) f.arrival ≡ arrival_copies fs f.arrival ++ f.history ∷ []
copies_here fs f = copies-append fs (f ∷ []) f.arrival ∙ ap (λ hs. arrival_copies fs f.arrival ++ hs) (one_copy f f.arrival true (eq-eqb f.arrival f.arrival refl))

copies_elsewhere : (fs : List Flight) (f : Flight) (place : ℕ) → place ≢ f.arrival → arrival_copies (fs ++ f ∷ []) place ≡ arrival_copies fs place
copies_elsewhere fs f place n = copies-append fs (f ∷ []) place ∙ ap (λ hs. arrival_copies fs place ++ hs) (one_copy f place false (ne_eqb f.arrival place (λ e. n (sym e)))) ∙ append-nil (arrival_copies fs place)

-- a copy of no arrival that has a list
pub unknown_copy : (fs : List Flight) (f : Flight) (lists : List (Vec (String Global) Global)) → length lists ≤ f.arrival → HasCopies fs lists → HasCopies (fs ++ f ∷ []) lists
unknown_copy fs f lists past h = record {
  each = λ k lines at.
      let within = slice_get_within lists k lines at in
      h.each k lines at ∙ ap (map open_line) (sym (copies_elsewhere fs f k (λ e. omega (arith, within, past, e))));
}

-- a copy whose line comes after those of its arrival
pub known_copy : (fs : List Flight) (f : Flight) (lists : List (Vec (String Global) Global)) (old new : Vec (String Global) Global) (l : String Global) →
    slice_get lists f.arrival ≡ Some old → new.items ≡ old.items ++ l ∷ [] → string_bytes l ≡ open_line f.history → HasCopies fs lists → HasCopies (fs ++ f ∷ []) (slice_set lists f.arrival new)
known_copy fs f lists old new l at more is h = record {
  each = λ k lines here.
      elim (set_cases lists f.arrival k new lines here) [
        | inl (same, place) ↦
            let now = ap (λ (w : Vec (String Global) Global). map string_bytes w.items) same ∙ ap (map string_bytes) more ∙ map-append string_bytes old.items (l ∷ []) in
            let texts = ap (λ ts. ts ++ string_bytes l ∷ []) (h.each f.arrival old at) ∙ ap (λ t. map open_line (arrival_copies fs f.arrival) ++ t ∷ []) is in
            let all = sym (map-append open_line (arrival_copies fs f.arrival) (f.history ∷ [])) ∙ ap (map open_line) (sym (copies_here fs f)) in
            subst (λ p. map string_bytes lines.items ≡ map open_line (arrival_copies (fs ++ f ∷ []) p)) (sym place) (now ∙ texts ∙ all)
        | inr (other, same) ↦ h.each k lines same ∙ ap (map open_line) (sym (copies_elsewhere fs f k other))
      ];
}

-- The lists from this place on are as they were.
pub record HasCopiesFrom (flights : List Flight) (start : ℕ) (lists : List (Vec (String Global) Global)) : Type 0 where
  pub each : (place : ℕ) (lines : Vec (String Global) Global) → start ≤ place → slice_get lists place ≡ Some lines → map string_bytes lines.items ≡ map open_line (arrival_copies flights place)

pub all_copies : (flights : List Flight) (lists : List (Vec (String Global) Global)) → HasCopies flights lists → HasCopiesFrom flights 0 lists
all_copies flights lists h = record { each = λ k lines l at. h.each k lines at }

-- the list at this place changed
pub next_copies : (flights : List Flight) (start : ℕ) (lists : List (Vec (String Global) Global)) (v : Vec (String Global) Global) → HasCopiesFrom flights start lists → HasCopiesFrom flights (start + 1) (slice_set lists start v)
next_copies flights start lists v h = record {
  each = λ k lines l at.
      elim (set_cases lists start k v lines at) [
        | inl (same, place) ↦ absurd (omega (arith, l, place))
        | inr (other, same) ↦ h.each k lines (omega (arith, l)) same
      ];
}

-- the text of an arrival with the lines of its copies in order
pub arrival_is : (flights : List Flight) (k : ℕ) (a : Arrived) (lists : List (Vec (String Global) Global)) (old : Vec (String Global) Global) (still : List (List ℕ)) (text : List ℕ) →
    HasCopiesFrom flights k lists → slice_get lists k ≡ Some old → Ascends still → SameMembers still (map string_bytes old.items) → HasFate still (k + 1) a text → IsArrivalText flights (k + 1) a text
arrival_is flights k a lists old still text h at order same fate = record {
  place = k;
  number = refl;
  still = still;
  in_flight = lines_of (codes "open ") (arrival_copies flights k) (map string_bytes old.items) still (h.each k old (omega arith) at) order same;
  fate = fate;
}
