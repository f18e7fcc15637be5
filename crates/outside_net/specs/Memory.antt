-- What clauses see of a net in memory and its ends.
use Rattle.std.specs.Arc.{arc_value}
use Rattle.std.specs.Prelude.{◌≡◌, ℕ, ◌+◌, ◌≤◌, ◌⊎◌, ◌++◌, Bool, true, false, List, [], ◌∷◌, map, Option, None, Some}
use Rattle.std.specs.Prelude.{Contains, vec_len, vec_capacity}
use Rattle.outside_net.specs.Told.{told_if, next_count}
use Rattle.outside_net.specs.Troubles.{calls_failing, Spoils}
use Rattle.outside_net.specs.declared.trouble.Effect.{Effect}
use Rattle.outside_net.specs.declared.memory_end.MemoryEnd.{MemoryEnd}
use Rattle.outside_net.specs.declared.memory_net.MemoryNet.{MemoryNet}

-- ---- ends

abbrev pub end_name : {R : Type 0} → MemoryEnd R → ℕ
end_name e = e.name

abbrev pub end_faults : {R : Type 0} → MemoryEnd R → ℕ
end_faults e = e.faults

abbrev pub end_sent : {R : Type 0} → MemoryEnd R → List ℕ
end_sent e = e.sent.items

abbrev pub end_received : {R : Type 0} → MemoryEnd R → List ℕ
end_received e = e.received.items

-- whether it has failed, and whether a peer outside is met at it
abbrev pub end_failed : {R : Type 0} → MemoryEnd R → Bool
end_failed e = e.failed

abbrev pub end_met : {R : Type 0} → MemoryEnd R → Bool
end_met e = e.met

-- the numbers of the calls that are to fail, and the number that its last call has among those of all ends
abbrev pub end_failing : {R : Type 0} → MemoryEnd R → List ℕ
end_failing e = calls_failing (arc_value e.calls)

abbrev pub end_call : {R : Type 0} → MemoryEnd R → ℕ
end_call e = e.call

-- what was listed for its last send, and whether that found no room in the pipe
abbrev pub end_effect : {R : Type 0} → MemoryEnd R → Option Effect
end_effect e = e.effect

abbrev pub end_full : {R : Type 0} → MemoryEnd R → Bool
end_full e = e.full

-- its last call is listed to fail
abbrev pub CallIsListed : {R : Type 0} → MemoryEnd R → Type 0
CallIsListed e = Contains (end_failing e) (end_call e)

-- its last send is listed to fail, or found no room in the pipe
abbrev pub SendIsToFail : {R : Type 0} → MemoryEnd R → Type 0
SendIsToFail e = CallIsListed e ⊎ Spoils (end_effect e) ⊎ (end_full e ≡ true)

-- it has room to tell this number of bytes more that it sends or receives
pub record HasByteRoom {R : Type 0} (e : MemoryEnd R) (bytes : ℕ) : Type 0 where
  pub to_send : vec_len e.sent + bytes ≤ vec_capacity e.sent
  pub to_receive : vec_len e.received + bytes ≤ vec_capacity e.received

-- the same end, but for what it learnt of its last call
pub record IsSameEnd {R : Type 0} (old new : MemoryEnd R) : Type 0 where
  pub name : new.name ≡ old.name
  pub sent : new.sent ≡ old.sent
  pub received : new.received ≡ old.received
  pub met : new.met ≡ old.met
  pub failing : end_failing new ≡ end_failing old

-- What it learnt of its last call is the same.
pub record IsSameCall {R : Type 0} (old new : MemoryEnd R) : Type 0 where
  pub call : new.call ≡ old.call
  pub effect : new.effect ≡ old.effect
  pub full : new.full ≡ old.full

-- an end with this name, over which nothing has gone
pub record IsNewEnd {R : Type 0} (name : ℕ) (e : MemoryEnd R) : Type 0 where
  pub named : end_name e ≡ name
  pub faultless : end_faults e ≡ 0
  pub unsent : end_sent e ≡ []
  pub unreceived : end_received e ≡ []

-- an open end of a pair, over which the calls of these numbers are to fail
pub record IsPairEnd {R : Type 0} (failing : List ℕ) (e : MemoryEnd R) : Type 0 where
  pub is_open : end_failed e ≡ false
  pub unmet : end_met e ≡ false
  pub listed : end_failing e ≡ failing

-- ---- nets

abbrev pub net_faults : {R : Type 0} → MemoryNet R → ℕ
net_faults n = n.faults

abbrev pub net_broken : {R : Type 0} → MemoryNet R → ℕ
net_broken n = n.broken

abbrev pub net_gathered : {R : Type 0} → MemoryNet R → Option (List (List ℕ))
net_gathered n = told_if n.told (map (λ v. v.items) n.gathered.items)

-- how many pairs were asked for, and the numbers of those that are not made
abbrev pub net_pairs : {R : Type 0} → MemoryNet R → ℕ
net_pairs n = n.pairs

abbrev pub net_failing : {R : Type 0} → MemoryNet R → List ℕ
net_failing n = n.failing.items

-- of how many ends that are out it has room to tell what they received
abbrev pub net_room : {R : Type 0} → MemoryNet R → ℕ
net_room n = n.room

-- the numbers of the calls on its ends that are to fail
abbrev pub net_listed : {R : Type 0} → MemoryNet R → List ℕ
net_listed n = calls_failing (arc_value n.calls)

-- the next pair is not to be made
abbrev pub PairIsToFail : {R : Type 0} → MemoryNet R → Type 0
PairIsToFail n = Contains (net_failing n) (next_count (net_pairs n))

-- What an end received is told after that of earlier ends.
abbrev pub AppendsReceived : Option (List (List ℕ)) → Option (List (List ℕ)) → List ℕ → Type 0
AppendsReceived None now bytes = now ≡ None
AppendsReceived (Some all) now bytes = now ≡ Some (all ++ bytes ∷ [])
