-- Copies by their numbers.
use Rattle.std.proofs.Common.{◌≡◌, ◌≢◌, ℕ, zero, suc, ◌+◌, ◌<◌, inl, inr, Bool, true, false, cond, not, nat_eq, List, [], ◌∷◌, ◌++◌, length, refl, sym, ◌∙◌, ap, subst, Some, slice_get, arith}
use Rattle.nk_values.specs.Members.{IsIn}
use Rattle.packet_tracer.specs.declared.flight.Flight.{Flight}
use Rattle.flight_queues.specs.declared.numbered.NumberedFlight.{NumberedFlight}
use Rattle.flight_queues.specs.Merged.{Rises, found, numbers_of, flights_of, is_other, without, renamed, renumbered, HasNumber}
use Rattle.flow_index.proofs.Lists.{none-some, some-is, at-in}
use Rattle.flight_queues.proofs.Lists.{decide, eq-same, eq-is, eq-other, eq-differ, in-map, kept, left}
use Rattle.flight_queues.proofs.Rising.{rises-bounds, index_of, index-has}

pub found-here : (n : ℕ) (e : NumberedFlight) (es : List NumberedFlight) → e.number ≡ n → found n (e ∷ es) ≡ e.flight ∷ []
found-here n e es q = ap (λ (b : Bool). cond b (e.flight ∷ []) (found n es)) (eq-same e.number n q)

pub found-later : (n : ℕ) (e : NumberedFlight) (es : List NumberedFlight) → e.number ≢ n → found n (e ∷ es) ≡ found n es
found-later n e es d = ap (λ (b : Bool). cond b (e.flight ∷ []) (found n es)) (eq-other e.number n d)

-- one that is there
pub found-one : (n : ℕ) (es : List NumberedFlight) → IsIn (numbers_of es) n → (f : Flight) × (found n es ≡ f ∷ [])
found-one n [] h = absurd h
found-one n (e ∷ es) h = elim (decide (nat_eq e.number n)) [
  | inl q ↦ (e.flight, found-here n e es (eq-is e.number n q))
  | inr q ↦
      let rest = found-one n es (elim h [ inl p ↦ absurd (eq-differ e.number n q p) | inr k ↦ k ]) in
      (rest.0, found-later n e es (eq-differ e.number n q) ∙ rest.1)
]

pub found-at : (low high : ℕ) (es : List NumberedFlight) (k : ℕ) (e : NumberedFlight) → Rises low high (numbers_of es) → slice_get es k ≡ Some e → found e.number es ≡ e.flight ∷ []
found-at low high [] k e r q = none-some e q
found-at low high (d ∷ es) zero e r q =
    let same : d ≡ e = some-is d e q in
    found-here e.number d es (ap (λ (z : NumberedFlight). z.number) same) ∙ ap (λ (z : NumberedFlight). z.flight ∷ []) same
found-at low high (d ∷ es) (suc k) e r q =
    let bounds = rises-bounds (d.number + 1) high (numbers_of es) e.number r.1 (in-map (λ (z : NumberedFlight). z.number) es e (at-in es k e q)) in
    found-later e.number d es (λ p. absurd (omega (arith, bounds.0, p))) ∙ found-at (d.number + 1) high es k e r.1 q

pub some-number : (n : ℕ) (es : List NumberedFlight) → IsIn (numbers_of es) n → 0 < length es
some-number n [] h = absurd h
some-number n (e ∷ es) h = omega arith

-- the copy where a number stands
pub has-at : (n : ℕ) (es : List NumberedFlight) (k : ℕ) → IsIn (numbers_of es) n → k ≡ index_of n (numbers_of es) → HasNumber es k n
has-at n es k h q = from es k (ap (slice_get (numbers_of es)) q ∙ index-has n (numbers_of es) h)
  where
    from : (ds : List NumberedFlight) (j : ℕ) → slice_get (numbers_of ds) j ≡ Some n → HasNumber ds j n
    from [] j p = none-some n p
    from (d ∷ ds) zero p = (d, refl, some-is d.number n p)
    from (d ∷ ds) (suc j) p = from ds j p

-- ---- one less

pub found-other : (n m : ℕ) (es : List NumberedFlight) → m ≢ n → found m (without (λ e. e.number) n es) ≡ found m es
found-other n m [] d = refl
found-other n m (e ∷ es) d = elim (decide (nat_eq e.number n)) [
  | inl q ↦
      ap (found m) (left (is_other (λ (z : NumberedFlight). z.number) n) e es (ap not q)) ∙ found-other n m es d
      ∙ sym (found-later m e es (λ p. d (sym p ∙ eq-is e.number n q)))
  | inr q ↦ ap (found m) (kept (is_other (λ (z : NumberedFlight). z.number) n) e es (ap not q)) ∙ ap (λ (fs : List Flight). cond (nat_eq e.number m) (e.flight ∷ []) fs) (found-other n m es d)
]

pub flights-without : (n : ℕ) (es : List NumberedFlight) (f : Flight) → IsIn (flights_of (without (λ e. e.number) n es)) f → IsIn (flights_of es) f
flights-without n [] f h = absurd h
flights-without n (e ∷ es) f h = elim (decide (nat_eq e.number n)) [
  | inl q ↦ inr (flights-without n es f (subst (λ (zs : List NumberedFlight). IsIn (flights_of zs) f) (left (is_other (λ (z : NumberedFlight). z.number) n) e es (ap not q)) h))
  | inr q ↦
      elim (let k : IsIn (e.flight ∷ flights_of (without (λ z. z.number) n es)) f = subst (λ (zs : List NumberedFlight). IsIn (flights_of zs) f) (kept (is_other (λ (z : NumberedFlight). z.number) n) e es (ap not q)) h in k) [
        | inl p ↦ inl p
        | inr k ↦ inr (flights-without n es f k)
      ]
]

-- ---- one more

pub found-before : (n m : ℕ) (f : Flight) (es : List NumberedFlight) → m ≢ n → found m (es ++ record { number = n; flight = f } ∷ []) ≡ found m es
found-before n m f [] d = found-later m (record { number = n; flight = f }) [] (λ p. d (sym p))
found-before n m f (e ∷ es) d = ap (λ (fs : List Flight). cond (nat_eq e.number m) (e.flight ∷ []) fs) (found-before n m f es d)

pub found-last : (low n : ℕ) (f : Flight) (es : List NumberedFlight) → Rises low n (numbers_of es) → found n (es ++ record { number = n; flight = f } ∷ []) ≡ f ∷ []
found-last low n f [] r = found-here n (record { number = n; flight = f }) [] refl
found-last low n f (e ∷ es) r =
    let bounds = rises-bounds low n (e.number ∷ numbers_of es) e.number r (inl refl) in
    found-later n e (es ++ record { number = n; flight = f } ∷ []) (λ p. absurd (omega (arith, bounds.1, p))) ∙ found-last (e.number + 1) n f es r.1

-- ---- another number

renamed-same : (n to : ℕ) (e : NumberedFlight) → e.number ≡ n → renamed n to e ≡ record e { number = to }
renamed-same n to e q = ap (λ (b : Bool). cond b (record e { number = to }) e) (eq-same e.number n q)

pub renamed-other : (n to : ℕ) (e : NumberedFlight) → e.number ≢ n → renamed n to e ≡ e
renamed-other n to e d = ap (λ (b : Bool). cond b (record e { number = to }) e) (eq-other e.number n d)

pub renamed-at : (n to : ℕ) (e : NumberedFlight) → e.number ≡ n → renamed n to e ≡ record e { number = to }
renamed-at n to e q = renamed-same n to e q

pub flights-renumbered : (n to : ℕ) (es : List NumberedFlight) → flights_of (renumbered n to es) ≡ flights_of es
flights-renumbered n to [] = refl
flights-renumbered n to (e ∷ es) = λ i. by (nat_eq e.number n) i ∷ flights-renumbered n to es i
  where
    by : (b : Bool) → (cond b (record e { number = to }) e).flight ≡ e.flight
    by true = refl
    by false = refl

pub found-renamed : (n to m : ℕ) (es : List NumberedFlight) → m ≢ n → m ≢ to → found m (renumbered n to es) ≡ found m es
found-renamed n to m [] d t = refl
found-renamed n to m (e ∷ es) d t = elim (decide (nat_eq e.number n)) [
  | inl q ↦
      let same = eq-is e.number n q in
      ap (λ (z : NumberedFlight). found m (z ∷ renumbered n to es)) (renamed-same n to e same)
      ∙ found-later m (record e { number = to }) (renumbered n to es) (λ p. t (sym p)) ∙ found-renamed n to m es d t
      ∙ sym (found-later m e es (λ p. d (sym p ∙ same)))
  | inr q ↦
      ap (λ (z : NumberedFlight). found m (z ∷ renumbered n to es)) (renamed-other n to e (eq-differ e.number n q))
      ∙ ap (λ (fs : List Flight). cond (nat_eq e.number m) (e.flight ∷ []) fs) (found-renamed n to m es d t)
]

pub found-new : (n to : ℕ) (es : List NumberedFlight) → IsIn (numbers_of es) n → (IsIn (numbers_of es) to → to ≡ n) → found to (renumbered n to es) ≡ found n es
found-new n to [] h free = absurd h
found-new n to (e ∷ es) h free = elim (decide (nat_eq e.number n)) [
  | inl q ↦
      let same = eq-is e.number n q in
      ap (λ (z : NumberedFlight). found to (z ∷ renumbered n to es)) (renamed-same n to e same)
      ∙ found-here to (record e { number = to }) (renumbered n to es) refl ∙ sym (found-here n e es same)
  | inr q ↦
      let d = eq-differ e.number n q in
      ap (λ (z : NumberedFlight). found to (z ∷ renumbered n to es)) (renamed-other n to e d)
      ∙ found-later to e (renumbered n to es) (λ p. d (p ∙ free (inl p)))
      ∙ found-new n to es (elim h [ inl p ↦ absurd (d p) | inr k ↦ k ]) (λ k. free (inr k))
      ∙ sym (found-later n e es d)
]
