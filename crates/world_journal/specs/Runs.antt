-- What a run has beside its journal, and where its workers are to stop.
use Rattle.std.specs.Prelude.{◌≡◌, ◌≢◌, ◌⊎◌, ℕ, ◌%◌, ◌&&◌, Bool, true, false, List, [], length, is_some, Option, Some}
use Rattle.std.specs.Prelude.{None, IfSome, slice_get, slice_set}
use Rattle.update_coordinator.specs.declared.cause.Side.{Side}
use Rattle.update_coordinator.specs.declared.cause.Side.TheVariants as side
use Rattle.world_core.specs.Channels.{IsQuiet, newest_at}
use Rattle.world_journal.specs.declared.entry.Entry.{Entry}
use Rattle.world_journal.specs.declared.line.Line.{Line}
use Rattle.world_journal.specs.Journals.{HeldValue, events_of, session, told_before}
use Rattle.world_journal.specs.Arriving.{IsLast, IsOver}

-- The journal with its world, which lines have come in, whether the run was closed, how many seats were laid back, and
-- of each switch whether the last message of its session, and its own, still waits to be handed out, and the new ends
-- that are laid out for the workers of both.
pub record RunValue (E : Type 0) : Type 0 where
  pub held : HeldValue E
  pub arrived : List Bool
  pub closed : Bool
  pub back : ℕ
  pub to_waits : List Bool
  pub back_waits : List Bool
  pub to_ends : List (Option E)
  pub back_ends : List (Option E)

abbrev pub or_false : Option Bool → Bool
or_false None = false
or_false (Some b) = b

abbrev pub waits_of : {E : Type 0} → RunValue E → Side → List Bool
waits_of r side.Controller = r.to_waits
waits_of r side.Switch = r.back_waits

-- the last message that this side of switch s put on its channel waits to be handed out
abbrev pub waits : {E : Type 0} → RunValue E → Side → ℕ → Bool
waits r side s = or_false (slice_get (waits_of r side) s) && is_some (newest_at r.held.world side s)

-- the same run, where a message waits or was handed out
abbrev pub marking : {E : Type 0} → RunValue E → Side → ℕ → Bool → RunValue E
marking r side.Controller s b = record r { to_waits = slice_set r.to_waits s b }
marking r side.Switch s b = record r { back_waits = slice_set r.back_waits s b }

-- ---- new ends

abbrev pub or_none : {X : Type 0} → Option (Option X) → Option X
or_none None = None
or_none (Some x) = x

abbrev pub ends_of : {E : Type 0} → RunValue E → Side → List (Option E)
ends_of r side.Controller = r.to_ends
ends_of r side.Switch = r.back_ends

-- the new end that is laid out for the worker at this side of switch s
abbrev pub end_at : {E : Type 0} → RunValue E → Side → ℕ → Option E
end_at r side s = or_none (slice_get (ends_of r side) s)

-- the same run, where that end was taken
abbrev pub taking : {E : Type 0} → RunValue E → Side → ℕ → RunValue E
taking r side.Controller s = record r { to_ends = slice_set r.to_ends s None }
taking r side.Switch s = record r { back_ends = slice_set r.back_ends s None }

-- the same, where nothing waits for the workers of switch s any more, neither messages nor ends
abbrev pub dropping : {E : Type 0} → RunValue E → ℕ → RunValue E
dropping r s = record r {
  to_waits = slice_set r.to_waits s false;
  back_waits = slice_set r.back_waits s false;
  to_ends =
      slice_set r.to_ends s None;
  back_ends = slice_set r.back_ends s None;
}

-- the same, where both ends of a pair are laid out for these workers, and the HELLO of the switch waits
abbrev pub laying : {E : Type 0} → RunValue E → ℕ → E × E → RunValue E
laying r s pair = record r {
  to_waits = slice_set r.to_waits s false;
  back_waits = slice_set r.back_waits s true;
  to_ends =
      slice_set r.to_ends s (Some pair.0);
  back_ends = slice_set r.back_ends s (Some pair.1);
}

-- an end of a pair of switch s, of n, over which nothing was received
abbrev pub IsNewEnd : {E : Type 0} → ℕ → (E → ℕ) → (E → Option (List ℕ)) → ℕ → E → Type 0
IsNewEnd n named received s e = (named e % n ≡ s) × IfSome (received e) (λ xs. xs ≡ [])

-- nothing was received over either end
abbrev pub IsNewPair : {E : Type 0} → (E → Option (List ℕ)) → E × E → Type 0
IsNewPair received pair = IfSome (received pair.0) (λ xs. xs ≡ []) × IfSome (received pair.1) (λ xs. xs ≡ [])

-- each end that is laid out at a place is such a one
abbrev pub AreOut : {E : Type 0} → ℕ → (E → ℕ) → (E → Option (List ℕ)) → List (Option E) → Type 0
AreOut {E} n named received ends = (s : ℕ) (e : E) → slice_get ends s ≡ Some (Some e) → IsNewEnd n named received s e

-- the numbers of the present sessions
abbrev pub AreNumbers : List ℕ → List Entry → Type 0
AreNumbers numbers journal = (s number : ℕ) → slice_get numbers s ≡ Some number → number ≡ session s (events_of journal)

-- What a run keeps of sessions, with n switches.
pub record HasSessions {E : Type 0} (n : ℕ) (named : E → ℕ) (received : E → Option (List ℕ)) (journal : List Entry)
    (numbers : List ℕ) (to_ends back_ends : List (Option E)) : Type 0 where
  pub many : length numbers ≡ n
  pub numbered : AreNumbers numbers journal
  pub to_many : length to_ends ≡ n
  pub back_many : length back_ends ≡ n
  pub to_new : AreOut n named received to_ends
  pub back_new : AreOut n named received back_ends

-- ---- messages

-- how many were told at this side of each switch, in its present session
abbrev pub AreCounts : Side → List ℕ → List Entry → Type 0
AreCounts side counts journal = (s count : ℕ) → slice_get counts s ≡ Some count → count ≡ told_before s side journal

-- What a run keeps of the messages that were told, with n switches.
pub record HasCounts (n : ℕ) (journal : List Entry) (to_told back_told : List ℕ) : Type 0 where
  pub to_many : length to_told ≡ n
  pub back_many : length back_told ≡ n
  pub to_counts : AreCounts side.Controller to_told journal
  pub back_counts : AreCounts side.Switch back_told journal

-- ---- the end of a run

-- it was closed, or is over
abbrev pub HasEnded : {E : Type 0} → List Line → RunValue E → Type 0
HasEnded lines r = (r.closed ≡ true) ⊎ IsOver lines r.held.world

-- The workers of switch s are to stop: the run is closed or has halted; or the last policy handles all packets, none
-- before it drains, and no message is left for either of them.
abbrev pub Stops : {E : Type 0} → RunValue E → ℕ → Type 0
Stops r s = (r.closed ≡ true) ⊎
    ((r.held.world.fleet.control.halt ≢ None) ⊎
    (IsLast r.held.world × (IsQuiet side.Controller s r.held.world × IsQuiet side.Switch s r.held.world)))
