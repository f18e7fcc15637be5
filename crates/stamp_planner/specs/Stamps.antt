-- Stamps, of which some are live.
use Rattle.std.specs.Prelude.{◌≡◌, ℕ, ◌+◌, ◌-◌, ◌<◌, ◌≤◌, nat_le, ◌==◌, Bool, true, false, List, length, replicate}
use Rattle.std.specs.Prelude.{slice_get, slice_set, Some, if◌then◌else◌}

-- The stamps of a range, whether each number is a live stamp, and the stamp at which the next search begins.
pub record Planning : Type 0 where
  pub low : ℕ
  pub high : ℕ
  pub next : ℕ
  pub live : List Bool

-- what clauses see of a planner's fields
abbrev pub planning_of : ℕ → ℕ → ℕ → List Bool → Planning
planning_of low high next live = record { low = low; high = high; next = next; live = live }

pub record IsPlanning (p : Planning) : Type 0 where
  pub some : 1 ≤ p.low
  pub two : p.low < p.high
  pub vlan : p.high ≤ 4094
  pub from : p.low ≤ p.next
  pub to : p.next ≤ p.high
  pub each : length p.live ≡ 4095

-- none is live yet, and the first stamp comes first
abbrev pub none_live : ℕ → ℕ → Planning
none_live low high = record { low = low; high = high; next = low; live = replicate 4095 false }

abbrev pub IsLive : Planning → ℕ → Type 0
IsLive p stamp = slice_get p.live stamp ≡ Some true

abbrev pub AllLive : Planning → Type 0
AllLive p = (stamp : ℕ) → p.low ≤ stamp → stamp ≤ p.high → IsLive p stamp

-- the stamp so many places on, going round
abbrev pub rotated : Planning → ℕ → ℕ
rotated p k = if nat_le (p.next + k) p.high then p.next + k else p.next + k - (p.high + 1 - p.low)

-- the first stamp, from the next one on and going round, that is not live
pub record IsFirstFree (p : Planning) (stamp : ℕ) : Type 0 where
  pub low : p.low ≤ stamp
  pub high : stamp ≤ p.high
  pub steps : ℕ
  pub here : stamp ≡ rotated p steps
  pub free : ¬ (IsLive p stamp)
  pub before : (k : ℕ) → k < steps → IsLive p (rotated p k)

-- once a stamp was given: it is live, and the search goes on after it
abbrev pub given : Planning → ℕ → Planning
given p stamp = record p { next = if stamp == p.high then p.low else stamp + 1; live = slice_set p.live stamp true }

-- once a stamp was released
abbrev pub released : Planning → ℕ → Planning
released p stamp = record p { live = slice_set p.live stamp false }
