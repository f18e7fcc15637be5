-- What is seen, before a call and after it, of what is handed in.
use Rattle.std.specs.Prelude.{◌≡◌, ℕ, List, Option}
use Rattle.outside_io.specs.Causes.{Rose}

-- what was seen before the call, and after it
pub record Change (X : Type 0) : Type 0 where
  pub before : X
  pub after : X

abbrev pub change : {S X : Type 0} → (S → X) → S → S → Change X
change see old new = record { before = see old; after = see new }

-- a count rose in the call
abbrev pub HasRisen : Change ℕ → Type 0
HasRisen count = Rose count.before count.after

-- a count is the same after the call
abbrev pub IsSame : Change ℕ → Type 0
IsSame count = count.after ≡ count.before

-- a source: the bytes left, if they are known, and how often a read failed
pub record SourceSeen : Type 0 where
  pub left : Change (Option (List ℕ))
  pub faults : Change ℕ

abbrev pub source_of : {S : Type 0} → (S → Option (List ℕ)) → (S → ℕ) → S → S → SourceSeen
source_of left faults old new = record { left = change left old new; faults = change faults old new }

-- a sink: the bytes written, if they are known, and how often a write failed
pub record SinkSeen : Type 0 where
  pub written : Change (Option (List ℕ))
  pub faults : Change ℕ

abbrev pub sink_of : {K : Type 0} → (K → Option (List ℕ)) → (K → ℕ) → K → K → SinkSeen
sink_of written faults old new = record { written = change written old new; faults = change faults old new }

-- a net: how often a pair could not be made, how many ends came back that had failed, and what each end that came back
-- had received, if it is known
pub record NetSeen : Type 0 where
  pub faults : Change ℕ
  pub broken : Change ℕ
  pub gathered : Change (Option (List (List ℕ)))

abbrev pub net_of : {N : Type 0} → (N → ℕ) → (N → ℕ) → (N → Option (List (List ℕ))) → N → N → NetSeen
net_of faults broken gathered old new =
    record { faults = change faults old new; broken = change broken old new; gathered = change gathered old new }
