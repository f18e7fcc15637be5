-- Queues that are merged, and what becomes of the merged list.
use Rattle.std.proofs.Common.{◌≡◌, ◌≢◌, ℕ, zero, suc, ◌+◌, ◌<◌, inl, inr, ◌⊎◌, Bool, true, false, cond, not, nat_eq, List, [], ◌∷◌, ◌++◌, length, map, refl, sym, ◌∙◌, ap, subst, Some, slice_get, slice_set, remove, zero-add, arith}
use Rattle.std.specs.List.{filter}
use Rattle.std.proofs.lemmas.List.{map-append, length-map, get_or_past, map-set}
use Rattle.std.proofs.lemmas.List.Concat.{flat_map-append}
use Rattle.std.proofs.lemmas.Bool.{cases_lt}
use Rattle.nk_values.specs.Members.{IsIn}
use Rattle.packet_tracer.specs.declared.flight.Flight.{Flight}
use Rattle.flight_queues.specs.declared.numbered.NumberedFlight.{NumberedFlight}
use Rattle.flight_queues.specs.declared.numbered.Mark.{Mark}
use Rattle.flight_queues.specs.Merged.{Rises, found, queue_at, marked, merged, numbers_of, flights_of, mark_numbers, leads_to, AreRising, AreMarked, is_other, without, renumbered, retold, in_place_of}
use Rattle.flow_index.proofs.Lists.{none-some, some-is, at-in}
use Rattle.flight_queues.proofs.Lists.{decide, eq-same, eq-is, eq-other, eq-differ, true-false, map-at, in-map, in-end, in-filter, passes, kept, left, filter-end, filter-end-not, filter-remove, filter-set, filter-swap, filter-map, map-filter, same-flat, flat-map, AreSingle, single-length, single-remove}
use Rattle.flight_queues.proofs.Rising.{rises-end, rises-part, rises-set, rises-bounds, unique, remove-without, set-map, AreCounted, free-number, rises-counted}
use Rattle.flight_queues.proofs.Finding.{found-one, found-other, flights-without, found-before, found-last, flights-renumbered, found-renamed, found-new}

-- ---- what marks tell

module _ (queues : List (List NumberedFlight)) (marks : List Mark) (next : ℕ) (a : AreMarked queues marks next) where
  pub in-marked : (m : Mark) → IsIn marks m → IsIn (numbers_of (queue_at queues m.place)) m.number
  in-marked m h = subst (λ (ns : List ℕ). IsIn ns m.number) (sym (a.agree m.place)) (in-map (λ (x : Mark). x.number) (filter (leads_to m.place) marks) m (in-filter (leads_to m.place) marks m h (eq-same m.place m.place refl)))

  pub singles : AreSingle (marked queues) marks
  singles m h = found-one m.number (queue_at queues m.place) (in-marked m h)

  pub queue-rises : (place : ℕ) → Rises 0 next (numbers_of (queue_at queues place))
  queue-rises place = subst (λ (ns : List ℕ). Rises 0 next ns) (sym (a.agree place)) (rises-part (λ (x : Mark). x.number) (leads_to place) 0 next marks a.rise)

  pub rising : (place : ℕ) → AreRising (queue_at queues place)
  rising place = (next, queue-rises place)

  pub marked-within : (m : Mark) → IsIn marks m → m.place < length queues
  marked-within m h = elim (cases_lt m.place (length queues)) [
    | inl less ↦ less
    | inr past ↦ absurd (let none : IsIn (numbers_of []) m.number = subst (λ (es : List NumberedFlight). IsIn (numbers_of es) m.number) (get_or_past queues m.place [] past) (in-marked m h) in none)
  ]

  pub merged-length : length (merged queues marks) ≡ length marks
  merged-length = single-length (marked queues) marks singles

-- ---- a copy goes

module _ (queues new : List (List NumberedFlight)) (marks : List Mark) (next k : ℕ) (m : Mark) (a : AreMarked queues marks next) (at : slice_get marks k ≡ Some m)
    (here : queue_at new m.place ≡ without (λ e. e.number) m.number (queue_at queues m.place))
    (others : (place : ℕ) → place ≢ m.place → queue_at new place ≡ queue_at queues place) where
  gone : remove marks k ≡ without (λ x. x.number) m.number marks
  gone = remove-without (λ (x : Mark). x.number) 0 next marks k m a.rise at

  gone-agree : (place : ℕ) → numbers_of (queue_at new place) ≡ mark_numbers (filter (leads_to place) (remove marks k))
  gone-agree place = elim (decide (nat_eq place m.place)) [
    | inl e ↦ subst (λ (p : ℕ). numbers_of (queue_at new p) ≡ mark_numbers (filter (leads_to p) (remove marks k))) (sym (eq-is place m.place e)) this
    | inr e ↦
        let d = eq-differ place m.place e in
        ap numbers_of (others place d) ∙ a.agree place
        ∙ ap mark_numbers (sym (filter-remove (leads_to place) marks k m at (eq-other m.place place (λ q. d (sym q)))))
  ]
    where
      other : ℕ → Bool
      other n = not (nat_eq n m.number)

      this : numbers_of (queue_at new m.place) ≡ mark_numbers (filter (leads_to m.place) (remove marks k))
      this =
          ap numbers_of here ∙ filter-map (λ (e : NumberedFlight). e.number) (λ n. not (nat_eq n m.number)) (queue_at queues m.place)
          ∙ ap (filter (λ n. not (nat_eq n m.number))) (a.agree m.place)
          ∙ sym (filter-map (λ (x : Mark). x.number) (λ n. not (nat_eq n m.number)) (filter (leads_to m.place) marks))
          ∙ ap mark_numbers (filter-swap (is_other (λ (x : Mark). x.number) m.number) (leads_to m.place) marks)
          ∙ ap (λ (ms : List Mark). mark_numbers (filter (leads_to m.place) ms)) (sym gone)

  pub removed-marked : AreMarked new (remove marks k) next
  removed-marked = record {
    rise = subst (λ (ms : List Mark). Rises 0 next (mark_numbers ms)) (sym gone) (rises-part (λ (x : Mark). x.number) (is_other (λ (x : Mark). x.number) m.number) 0 next marks a.rise);
    agree = gone-agree;
  }

  same-found : (place n : ℕ) → n ≢ m.number → found n (queue_at new place) ≡ found n (queue_at queues place)
  same-found place n d = elim (decide (nat_eq place m.place)) [
    | inl e ↦ subst (λ (p : ℕ). found n (queue_at new p) ≡ found n (queue_at queues p)) (sym (eq-is place m.place e)) (ap (found n) here ∙ found-other m.number n (queue_at queues m.place) d)
    | inr e ↦ ap (found n) (others place (eq-differ place m.place e))
  ]

  pub removed-merged : merged new (remove marks k) ≡ remove (merged queues marks) k
  removed-merged =
      same-flat (marked new) (marked queues) (remove marks k) (λ x h.
      let test = passes (is_other (λ (y : Mark). y.number) m.number) marks x (subst (λ (ms : List Mark). IsIn ms x) gone h) in
      same-found x.place x.number (λ e. true-false (nat_eq x.number m.number) (eq-same x.number m.number e) (opposite (nat_eq x.number m.number) test)))
      ∙ single-remove (marked queues) marks k (singles queues marks next a)
    where
      opposite : (b : Bool) → not b ≡ true → b ≡ false
      opposite true e = true-false true refl (sym e)
      opposite false e = refl

  pub removed-flights : (place : ℕ) (f : Flight) → IsIn (flights_of (queue_at new place)) f → IsIn (flights_of (queue_at queues place)) f
  removed-flights place f h = elim (decide (nat_eq place m.place)) [
    | inl e ↦
        let same = eq-is place m.place e in
        subst (λ (p : ℕ). IsIn (flights_of (queue_at queues p)) f) (sym same) (flights-without m.number (queue_at queues m.place) f (subst (λ (es : List NumberedFlight). IsIn (flights_of es) f) (ap (queue_at new) same ∙ here) h))
    | inr e ↦ subst (λ (es : List NumberedFlight). IsIn (flights_of es) f) (others place (eq-differ place m.place e)) h
  ]

-- ---- a copy comes

module _ (queues new : List (List NumberedFlight)) (marks : List Mark) (next place : ℕ) (f : Flight) (a : AreMarked queues marks next)
    (here : queue_at new place ≡ queue_at queues place ++ record { number = next; flight = f } ∷ [])
    (others : (q : ℕ) → q ≢ place → queue_at new q ≡ queue_at queues q) where
  abbrev come : Mark
  come = record { number = next; place = place }

  come-agree : (q : ℕ) → numbers_of (queue_at new q) ≡ mark_numbers (filter (leads_to q) (marks ++ come ∷ []))
  come-agree q = elim (decide (nat_eq q place)) [
    | inl e ↦ subst (λ (p : ℕ). numbers_of (queue_at new p) ≡ mark_numbers (filter (leads_to p) (marks ++ come ∷ []))) (sym (eq-is q place e)) this
    | inr e ↦
        let d = eq-differ q place e in
        ap numbers_of (others q d) ∙ a.agree q ∙ ap mark_numbers (sym (filter-end-not (leads_to q) marks come (eq-other place q (λ p. d (sym p)))))
  ]
    where
      this : numbers_of (queue_at new place) ≡ mark_numbers (filter (leads_to place) (marks ++ come ∷ []))
      this =
          ap numbers_of here ∙ map-append (λ (e : NumberedFlight). e.number) (queue_at queues place) (record { number = next; flight = f } ∷ [])
          ∙ ap (λ (ns : List ℕ). ns ++ next ∷ []) (a.agree place)
          ∙ sym (map-append (λ (x : Mark). x.number) (filter (leads_to place) marks) (come ∷ []))
          ∙ ap mark_numbers (sym (filter-end (leads_to place) marks come (eq-same place place refl)))

  pub pushed-marked : AreMarked new (marks ++ record { number = next; place = place } ∷ []) (next + 1)
  pushed-marked = record {
    rise = subst (λ (ns : List ℕ). Rises 0 (next + 1) ns) (sym (map-append (λ (x : Mark). x.number) marks (come ∷ []))) (rises-end 0 next (mark_numbers marks) a.rise);
    agree = come-agree;
  }

  come-found : (q n : ℕ) → n ≢ next → found n (queue_at new q) ≡ found n (queue_at queues q)
  come-found q n d = elim (decide (nat_eq q place)) [
    | inl e ↦ subst (λ (p : ℕ). found n (queue_at new p) ≡ found n (queue_at queues p)) (sym (eq-is q place e)) (ap (found n) here ∙ found-before next n f (queue_at queues place) d)
    | inr e ↦ ap (found n) (others q (eq-differ q place e))
  ]

  pub pushed-merged : merged new (marks ++ record { number = next; place = place } ∷ []) ≡ merged queues marks ++ f ∷ []
  pushed-merged =
      flat_map-append (marked new) marks (come ∷ [])
      ∙ ap (λ (fs : List Flight). fs ++ (found next (queue_at new place) ++ [])) (same-flat (marked new) (marked queues) marks (λ x h.
      let bounds = rises-bounds 0 next (mark_numbers marks) x.number a.rise (in-map (λ (y : Mark). y.number) marks x h) in
      come-found x.place x.number (λ e. absurd (omega (arith, bounds.1, e)))))
      ∙ ap (λ (fs : List Flight). merged queues marks ++ (fs ++ [])) (ap (found next) here ∙ found-last 0 next f (queue_at queues place) (queue-rises queues marks next a place))

  pub pushed-flights : (q : ℕ) (g : Flight) → IsIn (flights_of (queue_at new q)) g → IsIn (flights_of (queue_at queues q)) g ⊎ ((q ≡ place) × (f ≡ g))
  pushed-flights q g h = elim (decide (nat_eq q place)) [
    | inl e ↦
        let same = eq-is q place e in
        let there : IsIn (flights_of (queue_at queues place) ++ f ∷ []) g = subst (λ (fs : List Flight). IsIn fs g) (ap (λ (p : ℕ). flights_of (queue_at new p)) same ∙ ap flights_of here ∙ map-append (λ (x : NumberedFlight). x.flight) (queue_at queues place) (record { number = next; flight = f } ∷ [])) h in
        elim (in-end (flights_of (queue_at queues place)) f g there) [
          | inl k ↦ inl (subst (λ (p : ℕ). IsIn (flights_of (queue_at queues p)) g) (sym same) k)
          | inr k ↦ inr (same, k)
        ]
    | inr e ↦ inl (subst (λ (es : List NumberedFlight). IsIn (flights_of es) g) (others q (eq-differ q place e)) h)
  ]

-- ---- a copy gets another number

to-numbers : (n to : ℕ) (es : List NumberedFlight) → numbers_of (renumbered n to es) ≡ map (in_place_of n to) (numbers_of es)
to-numbers n to [] = refl
to-numbers n to (e ∷ es) = λ i. by (nat_eq e.number n) i ∷ to-numbers n to es i
  where
    by : (b : Bool) → (cond b (record e { number = to }) e).number ≡ cond b to e.number
    by true = refl
    by false = refl

to-marks : (n to : ℕ) (ms : List Mark) → mark_numbers (map (retold n to) ms) ≡ map (in_place_of n to) (mark_numbers ms)
to-marks n to [] = refl
to-marks n to (m ∷ ms) = λ i. by (nat_eq m.number n) i ∷ to-marks n to ms i
  where
    by : (b : Bool) → (cond b (record m { number = to }) m).number ≡ cond b to m.number
    by true = refl
    by false = refl

retold-leads : (n to place : ℕ) (m : Mark) → leads_to place (retold n to m) ≡ leads_to place m
retold-leads n to place m = by (nat_eq m.number n)
  where
    by : (b : Bool) → leads_to place (cond b (record m { number = to }) m) ≡ leads_to place m
    by true = refl
    by false = refl

retold-same : (n to : ℕ) (m : Mark) → m.number ≡ n → retold n to m ≡ record m { number = to }
retold-same n to m q = ap (λ (b : Bool). cond b (record m { number = to }) m) (eq-same m.number n q)

retold-other : (n to : ℕ) (m : Mark) → m.number ≢ n → retold n to m ≡ m
retold-other n to m d = ap (λ (b : Bool). cond b (record m { number = to }) m) (eq-other m.number n d)

-- the first so many marks have their places as their numbers
abbrev pub AreCountedMarks : ℕ → List Mark → Type 0
AreCountedMarks i marks = (k : ℕ) (x : Mark) → k < i → slice_get marks k ≡ Some x → x.number ≡ k

at-number : (marks : List Mark) (k n : ℕ) → slice_get (mark_numbers marks) k ≡ Some n → (x : Mark) × (slice_get marks k ≡ Some x) × (x.number ≡ n)
at-number [] k n q = none-some n q
at-number (x ∷ xs) zero n q = (x, refl, some-is x.number n q)
at-number (x ∷ xs) (suc k) n q = at-number xs k n q

counted-numbers : (i : ℕ) (marks : List Mark) → AreCountedMarks i marks → AreCounted 0 i (mark_numbers marks)
counted-numbers i marks c k n l q = let there = at-number marks k n q in sym there.2 ∙ c k there.0 l there.1 ∙ sym (zero-add k)

module _ (queues new : List (List NumberedFlight)) (marks : List Mark) (next i : ℕ) (m : Mark) (a : AreMarked queues marks next) (at : slice_get marks i ≡ Some m)
    (before : AreCountedMarks i marks) (here : queue_at new m.place ≡ renumbered m.number i (queue_at queues m.place))
    (others : (place : ℕ) → place ≢ m.place → queue_at new place ≡ queue_at queues place) where
  abbrev told : Mark
  told = record m { number = i }

  all-told : slice_set marks i told ≡ map (retold m.number i) marks
  all-told =
      ap (λ (x : Mark). slice_set marks i x) (sym (retold-same m.number i m refl))
      ∙ set-map (λ (x : Mark). x.number) (retold m.number i) 0 next marks i m (λ y d. retold-other m.number i y d) a.rise at

  told-agree : (place : ℕ) → numbers_of (queue_at new place) ≡ mark_numbers (filter (leads_to place) (slice_set marks i told))
  told-agree place = elim (decide (nat_eq place m.place)) [
    | inl e ↦ subst (λ (p : ℕ). numbers_of (queue_at new p) ≡ mark_numbers (filter (leads_to p) (slice_set marks i told))) (sym (eq-is place m.place e))
        (ap numbers_of here ∙ to-numbers m.number i (queue_at queues m.place) ∙ ap (map (in_place_of m.number i)) (a.agree m.place)
        ∙ sym (to-marks m.number i (filter (leads_to m.place) marks))
        ∙ ap mark_numbers (sym (map-filter (retold m.number i) (leads_to m.place) (retold-leads m.number i m.place) marks))
        ∙ ap (λ (ms : List Mark). mark_numbers (filter (leads_to m.place) ms)) (sym all-told))
    | inr e ↦
        let d = eq-differ place m.place e in
        let other = eq-other m.place place (λ q. d (sym q)) in
        ap numbers_of (others place d) ∙ a.agree place ∙ ap mark_numbers (sym (filter-set (leads_to place) marks i m told at other other))
  ]

  pub told-marked : AreMarked new (slice_set marks i (record m { number = i })) next
  told-marked = record {
    rise = subst (λ (ns : List ℕ). Rises 0 next ns) (sym (map-set (λ (x : Mark). x.number) marks i told ∙ ap (λ (n : ℕ). slice_set (mark_numbers marks) i n) (sym (zero-add i)))) (rises-set 0 next i m.number (mark_numbers marks) a.rise (counted-numbers i marks before) (map-at (λ (x : Mark). x.number) marks i m at));
    agree = told-agree;
  }

  free : IsIn (mark_numbers marks) i → i ≡ m.number
  free h = sym (zero-add i) ∙ free-number 0 next i m.number (mark_numbers marks) a.rise (counted-numbers i marks before) (map-at (λ (x : Mark). x.number) marks i m at) (subst (λ (n : ℕ). IsIn (mark_numbers marks) n) (sym (zero-add i)) h)

  told-one : (x : Mark) → IsIn marks x → marked new (retold m.number i x) ≡ marked queues x
  told-one x h = elim (decide (nat_eq x.number m.number)) [
    | inl e ↦
        let same : x ≡ m = unique (λ (y : Mark). y.number) 0 next marks x m a.rise h (at-in marks i m at) (eq-is x.number m.number e) in
        ap (marked new) (retold-same m.number i x (eq-is x.number m.number e)) ∙ ap (λ (y : Mark). found i (queue_at new y.place)) same
        ∙ ap (found i) here ∙ found-new m.number i (queue_at queues m.place) (in-marked queues marks next a m (at-in marks i m at)) (λ k. free (from-queue k))
        ∙ ap (marked queues) (sym same)
    | inr e ↦
        let d = eq-differ x.number m.number e in
        ap (marked new) (retold-other m.number i x d) ∙ elim (decide (nat_eq x.place m.place)) [
          | inl p ↦
              let same = eq-is x.place m.place p in
              ap (λ (q : ℕ). found x.number (queue_at new q)) same ∙ ap (found x.number) here
              ∙ found-renamed m.number i x.number (queue_at queues m.place) d (λ q. d (q ∙ free (subst (λ (n : ℕ). IsIn (mark_numbers marks) n) q (in-map (λ (y : Mark). y.number) marks x h))))
              ∙ ap (λ (q : ℕ). found x.number (queue_at queues q)) (sym same)
          | inr p ↦ ap (found x.number) (others x.place (eq-differ x.place m.place p))
        ]
  ]
    where
      in-part : (ms : List Mark) (n : ℕ) → IsIn (mark_numbers (filter (leads_to m.place) ms)) n → IsIn (mark_numbers ms) n
      in-part [] n k = absurd k
      in-part (y ∷ ys) n k = elim (decide (nat_eq y.place m.place)) [
        | inl p ↦ elim (let j : IsIn (y.number ∷ mark_numbers (filter (leads_to m.place) ys)) n = subst (λ (zs : List Mark). IsIn (mark_numbers zs) n) (kept (leads_to m.place) y ys p) k in j) [ inl q ↦ inl q | inr j ↦ inr (in-part ys n j) ]
        | inr p ↦ inr (in-part ys n (subst (λ (zs : List Mark). IsIn (mark_numbers zs) n) (left (leads_to m.place) y ys p) k))
      ]

      from-queue : IsIn (numbers_of (queue_at queues m.place)) i → IsIn (mark_numbers marks) i
      from-queue k = in-part marks i (subst (λ (ns : List ℕ). IsIn ns i) (a.agree m.place) k)

  pub told-merged : merged new (slice_set marks i (record m { number = i })) ≡ merged queues marks
  told-merged = ap (merged new) all-told ∙ flat-map (marked new) (marked queues) (retold m.number i) marks told-one

  pub told-flights : (place : ℕ) → flights_of (queue_at new place) ≡ flights_of (queue_at queues place)
  told-flights place = elim (decide (nat_eq place m.place)) [
    | inl e ↦ subst (λ (p : ℕ). flights_of (queue_at new p) ≡ flights_of (queue_at queues p)) (sym (eq-is place m.place e)) (ap flights_of here ∙ flights-renumbered m.number i (queue_at queues m.place))
    | inr e ↦ ap flights_of (others place (eq-differ place m.place e))
  ]

  pub told-counted : AreCountedMarks (i + 1) (slice_set marks i (record m { number = i }))
  told-counted k x l q = elim (decide (nat_eq k i)) [
    | inl e ↦ let same = eq-is k i e in ap (λ (y : Mark). y.number) (some-is x told (sym q ∙ ap (slice_get (slice_set marks i told)) same ∙ set-at marks i m at)) ∙ sym same
    | inr e ↦ let d = eq-differ k i e in before k x (omega (arith, l, d)) (sym (set-else marks i k told d) ∙ q)
  ]
    where
      set-at : (ms : List Mark) (j : ℕ) (y : Mark) → slice_get ms j ≡ Some y → slice_get (slice_set ms j told) j ≡ Some told
      set-at [] j y p = none-some y p
      set-at (z ∷ zs) zero y p = refl
      set-at (z ∷ zs) (suc j) y p = set-at zs j y p

      set-else : (ms : List Mark) (j l : ℕ) (y : Mark) → l ≢ j → slice_get (slice_set ms j y) l ≡ slice_get ms l
      set-else [] j l y n = refl
      set-else (z ∷ zs) zero zero y n = absurd (n refl)
      set-else (z ∷ zs) zero (suc l) y n = refl
      set-else (z ∷ zs) (suc j) zero y n = refl
      set-else (z ∷ zs) (suc j) (suc l) y n = set-else zs j l y (λ p. n (ap (λ (h : ℕ). suc h) p))

-- once each has its place
pub all-counted : (queues : List (List NumberedFlight)) (marks : List Mark) (next i : ℕ) → AreMarked queues marks next → AreCountedMarks i marks → length marks ≡ i → AreMarked queues marks i
all-counted queues marks next i a c q = record {
  rise = subst (λ (n : ℕ). Rises 0 n (mark_numbers marks)) (let long : 0 + length (mark_numbers marks) ≡ i = omega (arith, length-map marks (λ (x : Mark). x.number), q) in long)
      (rises-counted 0 next (mark_numbers marks) a.rise (subst (λ (n : ℕ). AreCounted 0 n (mark_numbers marks)) (let long : i ≡ length (mark_numbers marks) = omega (arith, length-map marks (λ (x : Mark). x.number), q) in long) (counted-numbers i marks c)));
  agree = a.agree;
}
