-- The queue of a switch: the copies of the merged list that came to it.
use Rattle.std.proofs.Common.{◌≡◌, ℕ, ◌+◌, inl, inr, false, nat_eq, List, [], ◌∷◌, ◌++◌, refl, sym, ◌∙◌, ap, Option, Some, None, arith}
use Rattle.std.specs.List.{filter, flat_map}
use Rattle.nk_values.specs.Members.{IsIn}
use Rattle.packet_tracer.specs.declared.flight.Flight.{Flight}
use Rattle.flow_index.proofs.Lists.{none-some, some-is}
use Rattle.flight_queues.specs.declared.numbered.NumberedFlight.{NumberedFlight}
use Rattle.flight_queues.specs.declared.numbered.Mark.{Mark}
use Rattle.flight_queues.specs.Merged.{Rises, found, queue_at, marked, merged, numbers_of, flights_of, mark_numbers, leads_to, switch_of, stands_at, IsKept}
use Rattle.flight_queues.proofs.Lists.{decide, eq-same, eq-is, eq-other, eq-differ, passes, same-flat, filter-single}
use Rattle.flight_queues.proofs.Rising.{rises-bounds}
use Rattle.flight_queues.proofs.Finding.{found-here, found-later}
use Rattle.flight_queues.proofs.Merging.{singles, queue-rises}

found-in : (n : ℕ) (es : List NumberedFlight) (f : Flight) → found n es ≡ f ∷ [] → IsIn (flights_of es) f
found-in n [] f q = absurd (let none : [] ≡ f ∷ [] = q in cc)
found-in n (e ∷ es) f q = elim (decide (nat_eq e.number n)) [
  | inl t ↦ inl (let same : e.flight ∷ [] ≡ f ∷ [] = sym (found-here n e es (eq-is e.number n t)) ∙ q in cc)
  | inr t ↦ inr (found-in n es f (sym (found-later n e es (eq-differ e.number n t)) ∙ q))
]

self-found : (low high : ℕ) (es : List NumberedFlight) → Rises low high (numbers_of es) → flat_map (λ n. found n es) (numbers_of es) ≡ flights_of es
self-found low high [] r = refl
self-found low high (e ∷ es) r =
    ap (λ (fs : List Flight). fs ++ flat_map (λ n. found n (e ∷ es)) (numbers_of es)) (found-here e.number e es refl)
    ∙ ap (λ (fs : List Flight). e.flight ∷ fs) (same-flat (λ n. found n (e ∷ es)) (λ n. found n es) (numbers_of es) (λ n h.
    let bounds = rises-bounds (e.number + 1) high (numbers_of es) n r.1 h in
    found-later n e es (λ q. absurd (omega (arith, bounds.0, q)))) ∙ self-found (e.number + 1) high es r.1)

by-numbers : (g : ℕ → List Flight) (ms : List Mark) → flat_map (λ m. g m.number) ms ≡ flat_map g (mark_numbers ms)
by-numbers g [] = refl
by-numbers g (m ∷ ms) = ap (λ (fs : List Flight). g m.number ++ fs) (by-numbers g ms)

none-pass : {X : Type 0} (xs : List X) → filter (λ x. false) xs ≡ []
none-pass [] = refl
none-pass (x ∷ xs) = none-pass xs

same-tests : (a b c d : ℕ) → (a ≡ b → c ≡ d) → (c ≡ d → a ≡ b) → nat_eq a b ≡ nat_eq c d
same-tests a b c d f g = elim (decide (nat_eq c d)) [
  | inl t ↦ eq-same a b (g (eq-is c d t)) ∙ sym t
  | inr t ↦ eq-other a b (λ q. eq-differ c d t (f q)) ∙ sym t
]

module _ (place_of : ℕ → Option ℕ) (queues : List (List NumberedFlight)) (marks : List Mark) (next : ℕ) (k : IsKept place_of queues marks next) (switch : ℕ) where
  stands-marked : (m : Mark) (f : Flight) → marked queues m ≡ f ∷ [] → place_of (switch_of f) ≡ Some m.place
  stands-marked m f q = k.stands m.place f (found-in m.number (queue_at queues m.place) f q)

  pub none-there : place_of switch ≡ None → filter (stands_at switch) (merged queues marks) ≡ []
  none-there none =
      filter-single (marked queues) (stands_at switch) (λ m. false) marks (singles queues marks next k.marked) (λ m f h q.
      eq-other (switch_of f) switch (λ same. none-some m.place (sym none ∙ ap place_of (sym same) ∙ stands-marked m f q)))
      ∙ ap (flat_map (marked queues)) (none-pass marks)

  pub all-there : (place : ℕ) → place_of switch ≡ Some place → flights_of (queue_at queues place) ≡ filter (stands_at switch) (merged queues marks)
  all-there place here = sym (
      filter-single (marked queues) (stands_at switch) (leads_to place) marks (singles queues marks next k.marked) (λ m f h q.
      same-tests (switch_of f) switch m.place place
      (λ same. some-is m.place place (sym (stands-marked m f q) ∙ ap place_of same ∙ here))
      (λ same. k.apart (switch_of f) switch place (stands-marked m f q ∙ ap (λ (p : ℕ). Some p) same) here))
      ∙ same-flat (marked queues) (λ m. found m.number (queue_at queues place)) (filter (leads_to place) marks) (λ m h.
      ap (λ (p : ℕ). found m.number (queue_at queues p)) (eq-is m.place place (passes (leads_to place) marks m h)))
      ∙ by-numbers (λ n. found n (queue_at queues place)) (filter (leads_to place) marks)
      ∙ ap (flat_map (λ n. found n (queue_at queues place))) (sym (k.marked.agree place))
      ∙ self-found 0 next (queue_at queues place) (queue-rises queues marks next k.marked place))
