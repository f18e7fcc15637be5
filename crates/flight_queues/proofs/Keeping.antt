-- What a change of queues and marks keeps.
use Rattle.std.proofs.Common.{◌≡◌, ◌≢◌, ℕ, ◌+◌, ◌<◌, ◌≤◌, ◌^◌, inl, inr, List, [], ◌∷◌, ◌++◌, length, remove, refl, sym, ◌∙◌, ap, subst, Option, Some, slice_get, slice_set, arith}
use Rattle.std.proofs.lemmas.List.{length-set, get_or-set_same, get_or-set_other, set-get_or}
use Rattle.nk_values.specs.Members.{IsIn}
use Rattle.packet_tracer.specs.declared.flight.Flight.{Flight}
use Rattle.flow_index.proofs.Lists.{at-in}
use Rattle.flight_queues.specs.declared.numbered.NumberedFlight.{NumberedFlight}
use Rattle.flight_queues.specs.declared.numbered.Mark.{Mark}
use Rattle.flight_queues.specs.Merged.{queue_at, marked, merged, flights_of, mark_numbers, switch_of, without, renumbered, AreMarked, IsKept}
use Rattle.flight_queues.proofs.Lists.{same-flat}
use Rattle.flight_queues.proofs.Rising.{rises-to}
use Rattle.flight_queues.proofs.Merging.{marked-within, removed-marked, removed-merged, removed-flights, pushed-marked, pushed-merged, pushed-flights, AreCountedMarks, told-marked, told-merged, told-flights, told-counted}

pub marked-to : (queues : List (List NumberedFlight)) (marks : List Mark) (next more : ℕ) → AreMarked queues marks next → next ≤ more → AreMarked queues marks more
marked-to queues marks next more a l = record { rise = rises-to 0 next more (mark_numbers marks) l a.rise; agree = a.agree }

pub merged-same : (queues new : List (List NumberedFlight)) (marks : List Mark) → ((place : ℕ) → queue_at new place ≡ queue_at queues place) → merged new marks ≡ merged queues marks
merged-same queues new marks same = same-flat (marked new) (marked queues) marks (λ m h. λ i. Rattle.flight_queues.specs.Merged.found m.number (same m.place i))

-- the same copies in the same queues, with other numbers
pub kept-same : (place_of : ℕ → Option ℕ) (queues new : List (List NumberedFlight)) (marks now : List Mark) (next after : ℕ) → IsKept place_of queues marks next → AreMarked new now after → ((place : ℕ) → flights_of (queue_at new place) ≡ flights_of (queue_at queues place)) → length new ≡ length queues → IsKept place_of new now after
kept-same place_of queues new marks now next after k a same long = record {
  within = λ switch place q. let within = k.within switch place q in omega (arith, within, long);
  apart = k.apart;
  stands = λ place f h. k.stands place f (subst (λ (fs : List Flight). IsIn fs f) (same place) h);
  marked = a;
}

-- ---- one queue changes

module _ (queues : List (List NumberedFlight)) (place : ℕ) (es : List NumberedFlight) (within : place < length queues) where
  pub set-here : queue_at (slice_set queues place es) place ≡ es
  set-here = get_or-set_same queues place es [] within

  pub set-others : (other : ℕ) → other ≢ place → queue_at (slice_set queues place es) other ≡ queue_at queues other
  set-others other d = get_or-set_other queues place other es [] d

  -- to what it was
  pub set-same : es ≡ queue_at queues place → slice_set queues place es ≡ queues
  set-same e = ap (slice_set queues place) e ∙ set-get_or queues place []

module _ (place_of : ℕ → Option ℕ) (queues : List (List NumberedFlight)) (marks : List Mark) (next k : ℕ) (m : Mark) (a : IsKept place_of queues marks next) (at : slice_get marks k ≡ Some m)
    (es : List NumberedFlight) (now : es ≡ without (λ e. e.number) m.number (queue_at queues m.place)) where
  there : m.place < length queues
  there = marked-within queues marks next a.marked m (at-in marks k m at)

  here : queue_at (slice_set queues m.place es) m.place ≡ without (λ e. e.number) m.number (queue_at queues m.place)
  here = set-here queues m.place es there ∙ now

  pub removed-kept : IsKept place_of (slice_set queues m.place es) (remove marks k) next
  removed-kept = record {
    within = λ switch place q. let within = a.within switch place q in let long = length-set queues m.place es in omega (arith, within, long);
    apart = a.apart;
    stands = λ place f h. a.stands place f (removed-flights queues (slice_set queues m.place es) marks next k m a.marked at here (set-others queues m.place es there) place f h);
    marked = removed-marked queues (slice_set queues m.place es) marks next k m a.marked at here (set-others queues m.place es there);
  }

  pub removed-list : merged (slice_set queues m.place es) (remove marks k) ≡ remove (merged queues marks) k
  removed-list = removed-merged queues (slice_set queues m.place es) marks next k m a.marked at here (set-others queues m.place es there)

module _ (place_of : ℕ → Option ℕ) (queues : List (List NumberedFlight)) (marks : List Mark) (next place : ℕ) (f : Flight) (a : IsKept place_of queues marks next) (at : place_of (switch_of f) ≡ Some place)
    (es : List NumberedFlight) (now : es ≡ queue_at queues place ++ record { number = next; flight = f } ∷ []) where
  its : place < length queues
  its = a.within (switch_of f) place at

  gets : queue_at (slice_set queues place es) place ≡ queue_at queues place ++ record { number = next; flight = f } ∷ []
  gets = set-here queues place es its ∙ now

  pub pushed-kept : IsKept place_of (slice_set queues place es) (marks ++ record { number = next; place = place } ∷ []) (next + 1)
  pushed-kept = record {
    within = λ switch q h. let within = a.within switch q h in let long = length-set queues place es in omega (arith, within, long);
    apart = a.apart;
    stands = λ q g h. elim (pushed-flights queues (slice_set queues place es) marks next place f a.marked gets (set-others queues place es its) q g h) [
      | inl k ↦ a.stands q g k
      | inr k ↦ ap (λ (x : Flight). place_of (switch_of x)) (sym k.1) ∙ at ∙ ap (λ (p : ℕ). Some p) (sym k.0)
    ];
    marked = pushed-marked queues (slice_set queues place es) marks next place f a.marked gets (set-others queues place es its);
  }

  pub pushed-list : merged (slice_set queues place es) (marks ++ record { number = next; place = place } ∷ []) ≡ merged queues marks ++ f ∷ []
  pushed-list = pushed-merged queues (slice_set queues place es) marks next place f a.marked gets (set-others queues place es its)

-- ---- new numbers

-- so far, the first so many marks have their places as their numbers, and all copies are as they were
pub record AreAnew (i : ℕ) (queues : List (List NumberedFlight)) (marks : List Mark) (old_queues : List (List NumberedFlight)) (old_marks : List Mark) : Type 0 where
  pub marked : AreMarked queues marks (2 ^ 64)
  pub counted : AreCountedMarks i marks
  pub same : merged queues marks ≡ merged old_queues old_marks
  pub flights : (place : ℕ) → flights_of (queue_at queues place) ≡ flights_of (queue_at old_queues place)
  pub count : length queues ≡ length old_queues
  pub long : length marks ≡ length old_marks

pub anew-none : (queues : List (List NumberedFlight)) (marks : List Mark) → AreMarked queues marks (2 ^ 64) → AreAnew 0 queues marks queues marks
anew-none queues marks a = record { marked = a; counted = λ k x l q. absurd (omega (arith, l)); same = refl; flights = λ place. refl; count = refl; long = refl }

pub anew-more : (i : ℕ) (queues old_queues : List (List NumberedFlight)) (marks old_marks : List Mark) (m : Mark) (place : ℕ) (es : List NumberedFlight) → AreAnew i queues marks old_queues old_marks → slice_get marks i ≡ Some m → place ≡ m.place →
    es ≡ renumbered m.number i (queue_at queues m.place) → AreAnew (i + 1) (slice_set queues m.place es) (slice_set marks i (record { number = i; place = place })) old_queues old_marks
anew-more i queues old_queues marks old_marks m place es a at e now =
    subst (λ (p : ℕ). AreAnew (i + 1) (slice_set queues m.place es) (slice_set marks i (record { number = i; place = p })) old_queues old_marks) (sym e) (
    let its = marked-within queues marks (2 ^ 64) a.marked m (at-in marks i m at) in
    let gets = set-here queues m.place es its ∙ now in
    let others = set-others queues m.place es its in
    record {
      marked = told-marked queues (slice_set queues m.place es) marks (2 ^ 64) i m a.marked at a.counted gets others;
      counted = told-counted queues (slice_set queues m.place es) marks (2 ^ 64) i m a.marked at a.counted gets others;
      same = told-merged queues (slice_set queues m.place es) marks (2 ^ 64) i m a.marked at a.counted gets others ∙ a.same;
      flights = λ p. told-flights queues (slice_set queues m.place es) marks (2 ^ 64) i m a.marked at a.counted gets others p ∙ a.flights p;
      count = length-set queues m.place es ∙ a.count;
      long = length-set marks i (record m { number = i }) ∙ a.long;
    })
