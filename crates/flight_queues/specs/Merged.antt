-- Copies in queues by their switches, and merged by their numbers.
use Rattle.std.specs.Prelude.{◌≡◌, ℕ, ◌+◌, ◌<◌, ◌≤◌, nat_eq, Bool, not, List, [], ◌∷◌, length, map, Option, Some, None}
use Rattle.std.specs.Prelude.{slice_get, get_or, if◌then◌else◌}
use Rattle.std.specs.Option.{option_eq}
use Rattle.std.specs.List.{filter, flat_map}
use Rattle.nk_values.specs.Members.{IsIn}
use Rattle.packet_tracer.specs.declared.flight.Flight.{Flight}
use Rattle.flight_queues.specs.declared.numbered.NumberedFlight.{NumberedFlight}
use Rattle.flight_queues.specs.declared.numbered.Mark.{Mark}

-- the copy with a number, if a queue has it
abbrev pub found : ℕ → List NumberedFlight → List Flight
found n [] = []
found n (e ∷ es) = if nat_eq e.number n then e.flight ∷ [] else found n es

-- the queue at a place
abbrev pub queue_at : List (List NumberedFlight) → ℕ → List NumberedFlight
queue_at queues place = get_or queues place []

-- the copy that a mark tells of
abbrev pub marked : List (List NumberedFlight) → Mark → List Flight
marked queues m = found m.number (queue_at queues m.place)

-- The queues merged by number: the copies that the marks tell of, in order. The marks rise by number (`IsKept`).
abbrev pub merged : List (List NumberedFlight) → List Mark → List Flight
merged queues marks = flat_map (marked queues) marks

-- numbers that rise, from low on and below high
abbrev pub Rises : ℕ → ℕ → List ℕ → Type 0
Rises low high [] = low ≤ high
Rises low high (n ∷ ns) = (low ≤ n) × Rises (n + 1) high ns

abbrev pub numbers_of : List NumberedFlight → List ℕ
numbers_of es = map (λ e. e.number) es

abbrev pub flights_of : List NumberedFlight → List Flight
flights_of es = map (λ e. e.flight) es

abbrev pub AreRising : List NumberedFlight → Type 0
AreRising es = (high : ℕ) × Rises 0 high (numbers_of es)

abbrev pub mark_numbers : List Mark → List ℕ
mark_numbers marks = map (λ m. m.number) marks

-- whether a mark tells of a copy in the queue at a place
abbrev pub leads_to : ℕ → Mark → Bool
leads_to place m = nat_eq m.place place

-- the switch that a copy came to
abbrev pub switch_of : Flight → ℕ
switch_of f = f.history.newest.sw

abbrev pub stands_at : ℕ → Flight → Bool
stands_at switch f = nat_eq (switch_of f) switch

-- a copy carries the stamp
abbrev pub carries : ℕ → Flight → Bool
carries stamp f = option_eq nat_eq f.tag (Some stamp)

-- the copies of a queue, if there is one
abbrev pub queue_copies : Option (List NumberedFlight) → List Flight
queue_copies None = []
queue_copies (Some es) = flights_of es

-- The marks rise by number, up to the one that is given next, and those that lead to a queue tell of its copies, each
-- once and in order.
pub record AreMarked (queues : List (List NumberedFlight)) (marks : List Mark) (next : ℕ) : Type 0 where
  pub rise : Rises 0 next (mark_numbers marks)
  pub agree : (place : ℕ) → numbers_of (queue_at queues place) ≡ mark_numbers (filter (leads_to place) marks)

-- Each switch has a queue of its own, and each copy is in that of the switch that it came to.
pub record IsKept (place_of : ℕ → Option ℕ) (queues : List (List NumberedFlight)) (marks : List Mark) (next : ℕ) :
    Type 0 where
  pub within : (switch place : ℕ) → place_of switch ≡ Some place → place < length queues
  pub apart : (one other place : ℕ) → place_of one ≡ Some place → place_of other ≡ Some place → one ≡ other
  pub stands : (place : ℕ) (f : Flight) → IsIn (flights_of (queue_at queues place)) f →
      place_of (switch_of f) ≡ Some place
  pub marked : AreMarked queues marks next

-- ---- one copy less, and one with another number

-- an element's number is not this one
abbrev pub is_other : {X : Type 0} → (X → ℕ) → ℕ → X → Bool
is_other number n x = not (nat_eq (number x) n)

-- those with other numbers
abbrev pub without : {X : Type 0} → (X → ℕ) → ℕ → List X → List X
without number n xs = filter (is_other number n) xs

-- the element at a place has this number
abbrev pub HasNumber : List NumberedFlight → ℕ → ℕ → Type 0
HasNumber es k n = (e : NumberedFlight) × (slice_get es k ≡ Some e) × (e.number ≡ n)

abbrev pub renamed : ℕ → ℕ → NumberedFlight → NumberedFlight
renamed n to e = if nat_eq e.number n then record e { number = to } else e

-- the same of a mark, and of a number
abbrev pub retold : ℕ → ℕ → Mark → Mark
retold n to m = if nat_eq m.number n then record m { number = to } else m

abbrev pub in_place_of : ℕ → ℕ → ℕ → ℕ
in_place_of n to k = if nat_eq k n then to else k

abbrev pub renumbered : ℕ → ℕ → List NumberedFlight → List NumberedFlight
renumbered n to es = map (renamed n to) es
