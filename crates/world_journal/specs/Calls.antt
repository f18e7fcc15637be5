-- What the calls of a session's or a switch's worker answer, by the state that they find.
use Rattle.std.specs.Prelude.{◌≡◌, ℕ, ◌+◌, ◌-◌, ◌<◌, ◌≤◌, ◌⊎◌, ◌==◌, leb, ltb, if◌then◌else◌, Bool, true, false, List}
use Rattle.std.specs.Prelude.{[], ◌∷◌, ◌++◌, Option, Some, None, slice_get, slice_set}
use Rattle.worker_desk.specs.declared.gate.StepKind.{StepKind}
use Rattle.worker_desk.specs.declared.gate.StepKind.TheVariants as kind
use Rattle.update_coordinator.specs.declared.cause.Side.{Side}
use Rattle.update_coordinator.specs.declared.cause.Side.TheVariants as side
use Rattle.world_core.specs.declared.event.Event.{Event}
use Rattle.world_core.specs.declared.event.Event.TheVariants as event
use Rattle.world_core.specs.declared.event.ControllerEvent.TheVariants as of_controller
use Rattle.world_core.specs.declared.event.PacketEvent.TheVariants as of_packet
use Rattle.world_core.specs.declared.event.SwitchEvent.TheVariants as of_switch
use Rattle.world_core.specs.Worlds.{WorldValue}
use Rattle.world_core.specs.Channels.{newest_at, sent_at}
use Rattle.world_core.specs.Ends.{channel, IsFront}
use Rattle.world_core.specs.Steps.{Step, Stands, IsEnabled}
use Rattle.worker_desk.specs.declared.desk.WorkerTask.{WorkerTask}
use Rattle.worker_desk.specs.declared.desk.WorkerTask.TheVariants.{Out, Expect, Nothing, NewEnd, Stop}
use Rattle.worker_desk.specs.declared.desk.TellResult.{TellResult}
use Rattle.worker_desk.specs.declared.desk.TellResult.TheVariants.{Back, Kept, Memory}
use Rattle.worker_desk.specs.declared.desk.IdleTask.{IdleTask}
use Rattle.worker_desk.specs.declared.desk.IdleTask.TheVariants as shut
use Rattle.world_journal.specs.declared.seat.Role.{Role}
use Rattle.world_journal.specs.declared.seat.Role.TheVariants as role
use Rattle.world_journal.specs.Journals.{entry, told_before, present_name}
use Rattle.world_journal.specs.declared.line.Line.{Line}
use Rattle.world_journal.specs.Runs.{RunValue, Stops, waits, marking, end_at, taking, dropping, laying}

-- ---- workers by their numbers

-- a session's or a switch's worker
abbrev pub IsWorker : ℕ → ℕ → Type 0
IsWorker n w = (0 < w) × (w ≤ n + n)

abbrev pub side_of : ℕ → ℕ → Side
side_of n w = if leb w n then side.Controller else side.Switch

-- the place of its switch
abbrev pub place_of : ℕ → ℕ → ℕ
place_of n w = if leb w n then w - 1 else w - n - 1

-- what worker w does
abbrev pub role_of : ℕ → ℕ → Role
role_of n w = if w == 0 then role.Caller else
    (if leb w (n + n) then role.At (side_of n w) (place_of n w) else role.Traffic)

-- the same worker, with as many parts
abbrev pub IsUnmoved : ℕ → ℕ → ℕ → ℕ → Type 0
IsUnmoved worker worker_now parts parts_now = (worker_now ≡ worker) × (parts_now ≡ parts)

-- ---- steps

-- all but the journal with its world and ends is the same
pub record IsBeside {E : Type 0} (old new : RunValue E) : Type 0 where
  pub arrived : new.arrived ≡ old.arrived
  pub closed : new.closed ≡ old.closed
  pub back : new.back ≡ old.back
  pub to_waits : new.to_waits ≡ old.to_waits
  pub back_waits : new.back_waits ≡ old.back_waits
  pub to_ends : new.to_ends ≡ old.to_ends
  pub back_ends : new.back_ends ≡ old.back_ends

-- worker w made this step, and nothing else changed
pub record Made {E : Type 0} (w : ℕ) (e : Event) (old new : RunValue E) : Type 0 where
  pub step : Step old.held.world e new.held.world
  pub journal : new.held.journal ≡ old.held.journal ++ entry w e ∷ []
  pub ends : new.held.ends ≡ old.held.ends
  pub rest : IsBeside old new

-- the same, and the end was kept
pub record RunCuts {E : Type 0} (w : ℕ) (e : Event) (end : E) (old new : RunValue E) : Type 0 where
  pub step : Step old.held.world e new.held.world
  pub journal : new.held.journal ≡ old.held.journal ++ entry w e ∷ []
  pub ends : new.held.ends ≡ old.held.ends ++ end ∷ []
  pub rest : IsBeside old new

-- worker w let the packet at a place of the lines come in
pub record RunArrives {E : Type 0} (w : ℕ) (lines : List Line) (place : ℕ) (old new : RunValue E) : Type 0 where
  pub line : Line
  pub here : slice_get lines place ≡ Some line
  pub first : slice_get old.arrived place ≡ Some false
  pub step : Step old.held.world (event.Packet (of_packet.Arrive line.packet line.tag)) new.held.world
  pub journal : new.held.journal ≡ old.held.journal ++ entry w (event.Packet (of_packet.Arrive line.packet line.tag)) ∷
      []
  pub ends : new.held.ends ≡ old.held.ends
  pub arrived : new.arrived ≡ slice_set old.arrived place true
  pub rest : IsBeside (record old { arrived = new.arrived }) new

-- no packet of a line at this place can come in
abbrev pub IsBarred : WorldValue → List Line → ℕ → Type 0
IsBarred w lines place = (line : Line) → slice_get lines place ≡ Some line →
    ¬ IsEnabled w (event.Packet (of_packet.Arrive line.packet line.tag))

-- The step that this side of switch s makes by itself, if one is enabled: a session sends; a switch applies the first
-- pending flow mod, or else answers its barrier.
abbrev pub Advances : {E : Type 0} → ℕ → Side → ℕ → RunValue E → RunValue E → Option StepKind → Type 0
Advances w side.Controller s old new None = (¬ IsEnabled old.held.world (event.Controller (of_controller.Send s))) ×
    (new ≡ old)
Advances w side.Controller s old new (Some kind.Send) = Made w (event.Controller (of_controller.Send s)) old new
Advances w side.Switch s old new None = (¬ IsEnabled old.held.world (event.Switch (of_switch.Apply s 0))) ×
    (¬ IsEnabled old.held.world (event.Switch (of_switch.Reply s))) × (new ≡ old)
Advances w side.Switch s old new (Some kind.Apply) = Made w (event.Switch (of_switch.Apply s 0)) old new
Advances w side.Switch s old new (Some kind.Reply) =
    (¬ IsEnabled old.held.world (event.Switch (of_switch.Apply s 0))) ×
    Made w (event.Switch (of_switch.Reply s)) old new
Advances w _ s old new _ = ⊥

-- the step of a message that is received at this side
abbrev pub receipt : Side → ℕ → Event
receipt side.Controller s = event.Controller (of_controller.Heard s)
receipt side.Switch s = event.Switch (of_switch.Take s)

abbrev pub receipt_kind : Side → StepKind
receipt_kind side.Controller = kind.Heard
receipt_kind side.Switch = kind.Take

-- this side of switch s put a message on its channel
abbrev pub has_put : Side → ℕ → WorldValue → WorldValue → Bool
has_put side s w v = ltb (sent_at w side s) (sent_at v side s)

-- ---- give

-- a step put a message on the channel, and this is noted of it: whether it waits to be handed out
pub record RunPuts {E : Type 0} (w : ℕ) (side : Side) (s : ℕ) (old new : RunValue E) (made : Option StepKind)
    (waiting : Bool) : Type 0 where
  pub between : RunValue E
  pub step : Advances w side s old between made
  pub put : has_put side s old.held.world between.held.world ≡ true
  pub marked : new ≡ marking between side s waiting

-- no message was put there
pub record Rests {E : Type 0} (w : ℕ) (side : Side) (s : ℕ) (old new : RunValue E) (made : Option StepKind) : Type 0
  where
    pub step : Advances w side s old new made
    pub put : has_put side s old.held.world new.held.world ≡ false

-- where no message is put on the channel one may be received
abbrev pub RestsAs : {E : Type 0} → WorldValue → Side → ℕ → Option StepKind → WorkerTask E → Type 0
RestsAs w side s made (Expect m) = (m ≡ made) × IsEnabled w (receipt side s)
RestsAs w side s made (Nothing m) = (m ≡ made) × ¬ IsEnabled w (receipt side s)
RestsAs w side s made _ = ⊥

-- what is answered where the worker goes on and no message waits
abbrev pub GoesOn : {E : Type 0} → ℕ → Side → ℕ → RunValue E → RunValue E → WorkerTask E → Type 0
GoesOn w side s old new Stop = ⊥
GoesOn w side s old new (NewEnd e) = ⊥
GoesOn w side s old new (Out m None) = ⊥
GoesOn w side s old new (Out m (Some k)) = RunPuts w side s old new (Some k) false ×
    (newest_at new.held.world side s ≡ Some m)
GoesOn w side s old new (Expect made) = Rests w side s old new made × IsEnabled new.held.world (receipt side s)
GoesOn w side s old new (Nothing made) = Rests w side s old new made × ¬ IsEnabled new.held.world (receipt side s)

-- what is answered where the worker goes on over its end
abbrev pub Works : {E : Type 0} → ℕ → Side → ℕ → RunValue E → RunValue E → WorkerTask E → Type 0
Works w side s old new Stop = ⊥
Works w side s old new (NewEnd e) = ⊥
Works w side s old new (Out m None) = (waits old side s ≡ true) × (newest_at old.held.world side s ≡ Some m) ×
    (new ≡ marking old side s false)
Works w side s old new g = (waits old side s ≡ false) × GoesOn w side s old new g

-- What `give` answers to the worker at this side of switch s: that it is to stop; a new end; the message that waits; or
-- what its next step comes to.
abbrev pub RunGives : {E : Type 0} → ℕ → Side → ℕ → RunValue E → RunValue E → WorkerTask E → Type 0
RunGives w side s old new Stop = Stops old s × (new ≡ old)
RunGives w side s old new (NewEnd e) = (¬ Stops old s) × (end_at old side s ≡ Some e) × (new ≡ taking old side s)
RunGives w side s old new g = (¬ Stops old s) × (end_at old side s ≡ None) × Works w side s old new g

-- Out of memory nothing changed, or a step stands and its message waits.
abbrev pub RunsOut : {E : Type 0} → ℕ → Side → ℕ → RunValue E → RunValue E → Type 0
RunsOut w side s old new = (new ≡ old) ⊎ ((made : Option StepKind) × RunPuts w side s old new made true)

-- ---- tell, lost, shut

-- the bytes spell the front of the channel that ends at this side
abbrev pub IsFrontAt : List ℕ → Side → ℕ → WorldValue → Type 0
IsFrontAt bytes side s w = Stands s w (λ e. IsFront bytes (channel side e))

-- whether the answer to what was taken waits
abbrev pub noted : {E : Type 0} → Bool → Side → ℕ → RunValue E → RunValue E
noted true side s r = marking r side s true
noted false side s r = r

-- The front was received, and an answer to it waits to be handed out.
pub record Receives {E : Type 0} (w : ℕ) (side : Side) (s : ℕ) (old new : RunValue E) : Type 0 where
  pub between : RunValue E
  pub step : Made w (receipt side s) old between
  pub now : new ≡ noted (has_put side s old.held.world between.held.world) side s between

-- The bytes were not the front, and there is no step of them either: others came before them, or the coordinator has
-- halted.
abbrev pub IsVain : {E : Type 0} → Side → ℕ → List ℕ → ℕ → RunValue E → Type 0
IsVain side s bytes k run = (¬ (told_before s side run.held.journal ≡ k)) ⊎
    (¬ IsEnabled run.held.world (event.Foreign s side bytes))

-- what is answered where the front was received
abbrev pub TakesIn : {E : Type 0} → ℕ → Side → ℕ → E → RunValue E → RunValue E → TellResult E → Type 0
TakesIn w side s end old new (Back e (Some made)) = (e ≡ end) × (made ≡ receipt_kind side) × Receives w side s old new
TakesIn w side s end old new (Back e None) = (e ≡ end) × (new ≡ old) × ¬ IsEnabled old.held.world (receipt side s)
TakesIn w side s end old new Kept = ⊥
TakesIn w side s end old new (Memory e) = (e ≡ end) × (new ≡ old)

-- what is answered to other bytes
abbrev pub TurnsAway : {E : Type 0} → ℕ → Side → ℕ → List ℕ → ℕ → E → RunValue E → RunValue E → TellResult E → Type 0
TurnsAway w side s bytes k end old new (Back e (Some made)) = ⊥
TurnsAway w side s bytes k end old new (Back e None) = (e ≡ end) × (new ≡ old) × IsVain side s bytes k old
TurnsAway w side s bytes k end old new Kept = (told_before s side old.held.journal ≡ k) ×
    RunCuts w (event.Foreign s side bytes) end old new
TurnsAway w side s bytes k end old new (Memory e) = (e ≡ end) × (new ≡ old)

-- what is answered over an end of an earlier session
abbrev pub IsStale : {E : Type 0} → E → RunValue E → RunValue E → TellResult E → Type 0
IsStale end old new (Back e None) = (e ≡ end) × (new ≡ old)
IsStale end old new (Back e (Some made)) = ⊥
IsStale end old new Kept = ⊥
IsStale end old new (Memory e) = ⊥

-- whether an end with this name is of the present session with switch s, of n
abbrev pub IsPresent : {E : Type 0} → ℕ → ℕ → ℕ → RunValue E → Type 0
IsPresent n s name run = name ≡ present_name n s run.held.journal

-- what is answered over an end of the present session
abbrev pub TellsNow : {E : Type 0} → ℕ → Side → ℕ → List ℕ → ℕ → E → RunValue E → RunValue E → TellResult E → Type 0
TellsNow w side s bytes k end old new told =
    (IsFrontAt bytes side s old.held.world × TakesIn w side s end old new told) ⊎
    ((¬ IsFrontAt bytes side s old.held.world) × TurnsAway w side s bytes k end old new told)

-- What `tell` answers over an end with this name: in its present session the front is received, where it can be; other
-- bytes end the session, where they came next.
abbrev pub RunTells : {E : Type 0} → ℕ → ℕ → ℕ → Side → ℕ → List ℕ → ℕ → E → RunValue E → RunValue E →
    TellResult E → Type 0
RunTells n name w side s bytes k end old new told =
    (IsPresent n s name old × TellsNow w side s bytes k end old new told) ⊎
    ((¬ IsPresent n s name old) × IsStale end old new told)

-- The session was lost and the end kept, and nothing waits for the workers of the switch any more.
pub record Drops {E : Type 0} (w s : ℕ) (end : E) (old new : RunValue E) : Type 0 where
  pub between : RunValue E
  pub step : RunCuts w (event.Controller (of_controller.Lost s)) end old between
  pub now : new ≡ dropping between s

-- what is answered where the end of the present session failed
abbrev pub LosesNow : {E : Type 0} → ℕ → ℕ → E → RunValue E → RunValue E → TellResult E → Type 0
LosesNow w s end old new (Back e None) = (e ≡ end) ×
    (¬ IsEnabled old.held.world (event.Controller (of_controller.Lost s))) × (new ≡ old)
LosesNow w s end old new (Back e (Some made)) = ⊥
LosesNow w s end old new Kept = Drops w s end old new
LosesNow w s end old new (Memory e) = (e ≡ end) × (new ≡ old)

-- what `lost` answers over an end with this name
abbrev pub RunLoses : {E : Type 0} → ℕ → ℕ → ℕ → ℕ → E → RunValue E → RunValue E → TellResult E → Type 0
RunLoses n name w s end old new told = (IsPresent n s name old × LosesNow w s end old new told) ⊎
    ((¬ IsPresent n s name old) × IsStale end old new told)

-- what `shut` answers
abbrev pub Shuts : {E : Type 0} → Side → ℕ → RunValue E → RunValue E → IdleTask E → Type 0
Shuts side s old new (shut.NewEnd e) = (¬ Stops old s) × (end_at old side s ≡ Some e) × (new ≡ taking old side s)
Shuts side s old new shut.Nothing = (¬ Stops old s) × (end_at old side s ≡ None) × (new ≡ old)
Shuts side s old new shut.Stop = Stops old s × (new ≡ old)

-- The caller made switch s return, and both ends of a pair are laid out for its workers.
pub record Returns {E : Type 0} (w s : ℕ) (pair : E × E) (old new : RunValue E) : Type 0 where
  pub between : RunValue E
  pub step : Made w (event.Controller (of_controller.Rejoin s)) old between
  pub now : new ≡ laying between s pair
