-- A journal, the world that it leads to, and the ends that were kept.
use Rattle.std.specs.Prelude.{◌≡◌, ℕ, ◌+◌, ◌*◌, ◌<◌, ◌==◌, if◌then◌else◌, Bool, false, List, [], ◌∷◌, ◌++◌, length, map}
use Rattle.std.specs.Prelude.{Option, Some, None}
use Rattle.std.specs.List.{AllByRecursion, filter}
use Rattle.update_coordinator.specs.declared.cause.Side.{Side}
use Rattle.update_coordinator.specs.declared.cause.Side.TheVariants as side
use Rattle.world_core.specs.declared.event.Event.{Event}
use Rattle.world_core.specs.declared.event.Event.TheVariants as event
use Rattle.world_core.specs.declared.event.ControllerEvent.TheVariants as of_controller
use Rattle.world_core.specs.declared.event.SwitchEvent.TheVariants as of_switch
use Rattle.world_core.specs.Worlds.{WorldValue}
use Rattle.world_core.specs.Steps.{Runs}
use Rattle.worker_desk.specs.Streams.{TellsWhereKnown}
use Rattle.world_journal.specs.declared.entry.Entry.{Entry}
use Rattle.world_journal.specs.Makers.{MayMake, is_cut}

abbrev pub entry : ℕ → Event → Entry
entry worker event = record { worker = worker; event = event }

abbrev pub events_of : List Entry → List Event
events_of journal = map (λ (e : Entry). e.event) journal

-- how many switches a world has
abbrev pub switches : WorldValue → ℕ
switches w = length w.fleet.wired

-- ---- sessions

-- whether switch s returns
abbrev pub is_return : ℕ → Event → Bool
is_return s (event.Controller (of_controller.Rejoin t)) = t == s
is_return s _ = false

-- the number of the present session with switch s: how often it returned
abbrev pub session : ℕ → List Event → ℕ
session s events = length (filter (is_return s) events)

-- the name of the pair of a session with switch s, of n: its place, and n more for each return
abbrev pub name_of : ℕ → ℕ → ℕ → ℕ
name_of n s number = number * n + s

abbrev pub present_name : ℕ → ℕ → List Entry → ℕ
present_name n s journal = name_of n s (session s (events_of journal))

-- the events since switch s returned last
abbrev pub since : ℕ → List Event → List Event
since s [] = []
since s (e ∷ es) = if session s es == 0 then (if is_return s e then es else e ∷ es) else since s es

-- whether a message was told at this side of switch s
abbrev pub is_told : ℕ → Side → Event → Bool
is_told s side.Controller (event.Controller (of_controller.Heard t)) = t == s
is_told s side.Switch (event.Switch (of_switch.Take t)) = t == s
is_told s _ _ = false

-- the side of a switch at which a message was told, if one was
abbrev pub told_at : Event → Option (Side × ℕ)
told_at (event.Controller (of_controller.Heard s)) = Some (side.Controller, s)
told_at (event.Switch (of_switch.Take s)) = Some (side.Switch, s)
told_at _ = None

-- how many were told there in the present session
abbrev pub told : ℕ → Side → List Event → ℕ
told s side events = length (filter (is_told s side) (since s events))

abbrev pub told_before : ℕ → Side → List Entry → ℕ
told_before s side journal = told s side (events_of journal)

-- What holds of the end that is kept for an event after these entries: it is of the present session with that switch;
-- at a lost session it had failed; at foreign bytes they came next in its stream, where that is known.
abbrev pub MetBy : {E : Type 0} → ℕ → (E → ℕ) → (E → ℕ) → (E → Option (List ℕ)) → List Entry → Event → E → Type 0
MetBy n named faults received before (event.Controller (of_controller.Lost s)) end =
    (named end ≡ present_name n s before) × (0 < faults end)
MetBy n named faults received before (event.Foreign s side got) end = (named end ≡ present_name n s before) ×
    TellsWhereKnown (received end) (told_before s side before) got
MetBy n named faults received before _ end = ⊥

-- One end is kept for each event that ends a session, in order, and it met the conditions there.
pub data Kept {E : Type 0} (n : ℕ) (named faults : E → ℕ) (received : E → Option (List ℕ)) : List Entry → List E →
    Type 0 where
  none : Kept n named faults received [] []
  goes : (es : List Entry) (ends : List E) (e : Entry) → is_cut e.event ≡ false →
      Kept n named faults received es ends → Kept n named faults received (es ++ e ∷ []) ends
  cuts : (es : List Entry) (ends : List E) (e : Entry) (end : E) → MetBy n named faults received es e.event end →
      Kept n named faults received es ends → Kept n named faults received (es ++ e ∷ []) (ends ++ end ∷ [])

-- The world is what the journal's events lead to from the start; each entry is of a worker that may make it; and the
-- ends were kept for it.
pub record IsJournal {E : Type 0} (named faults : E → ℕ) (received : E → Option (List ℕ)) (start world : WorldValue)
    (journal : List Entry) (ends : List E) : Type 0 where
  pub runs : Runs start (events_of journal) world
  pub makers : AllByRecursion (λ (e : Entry). MayMake (switches start) e.worker e.event) journal
  pub kept : Kept (switches start) named faults received journal ends

-- a journal with its world and the kept ends, as clauses see it
pub record HeldValue (E : Type 0) : Type 0 where
  pub world : WorldValue
  pub journal : List Entry
  pub ends : List E
