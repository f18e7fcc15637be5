-- What clauses see of spawners.
use Rattle.std.specs.Prelude.{◌≡◌, ℕ, ◌+◌, ◌-◌, ◌⊎◌, List, Contains, vec_len, vec_capacity}
use Rattle.outside_net.specs.Told.{next_count}
use Rattle.outside_net.specs.declared.threads.ThreadSpawner.{ThreadSpawner}
use Rattle.outside_net.specs.declared.refusing.RefusingSpawner.{RefusingSpawner}

-- ---- real threads

abbrev pub thread_faults : {R : Type 0} → ThreadSpawner R → ℕ
thread_faults s = s.faults

-- how many threads it holds that are still to be joined, and for how many more it has room
abbrev pub threads_held : {R : Type 0} → ThreadSpawner R → ℕ
threads_held s = vec_len s.running

abbrev pub thread_room : {R : Type 0} → ThreadSpawner R → ℕ
thread_room s = vec_capacity s.running - vec_len s.running

-- how many threads it joined
abbrev pub threads_joined : {R : Type 0} → ThreadSpawner R → ℕ
threads_joined s = s.joined

-- A thread that it was given is held, or it is joined at once.
abbrev pub TakesThread : {R : Type 0} → ThreadSpawner R → ThreadSpawner R → Type 0
TakesThread old new = ((threads_held new ≡ threads_held old + 1) × (threads_joined new ≡ threads_joined old)) ⊎
    ((threads_held new ≡ threads_held old) × (threads_joined new ≡ next_count (threads_joined old)))

-- ---- starts that are refused

abbrev pub refusing_faults : {T : Type 0} → RefusingSpawner T → ℕ
refusing_faults s = s.faults

abbrev pub refusing_inner : {T : Type 0} → RefusingSpawner T → T
refusing_inner s = s.inner

-- how many starts were asked for, and the numbers of those that are refused
abbrev pub refusing_starts : {T : Type 0} → RefusingSpawner T → ℕ
refusing_starts s = s.starts

abbrev pub refusing_failing : {T : Type 0} → RefusingSpawner T → List ℕ
refusing_failing s = s.failing.items

-- the next start is refused
abbrev pub StartIsToFail : {T : Type 0} → RefusingSpawner T → Type 0
StartIsToFail s = Contains (refusing_failing s) (next_count (refusing_starts s))
