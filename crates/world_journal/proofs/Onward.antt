-- In each call the journal goes on: what it was begins what it is.
use Rattle.std.proofs.Common.{◌≡◌, ℕ, Bool, true, false, IfOk, OnErr, Result, Ok, Err, List, [], ◌∷◌, ◌++◌, Option, None, Some, inl, inr, refl, sym, ap, ◌∙◌}
use Rattle.std.proofs.lemmas.List.{append-nil}
use mathlib.Core.List.{IsPrefix}
use Rattle.update_coordinator.specs.declared.cause.Side.{Side}
use Rattle.update_coordinator.specs.declared.cause.Side.TheVariants as side
use Rattle.world_core.specs.declared.event.Event.{Event}
use Rattle.world_core.specs.declared.event.Event.TheVariants as event
use Rattle.world_core.specs.declared.event.ControllerEvent.TheVariants as of_controller
use Rattle.world_core.specs.declared.event.PacketEvent.TheVariants as of_packet
use Rattle.worker_desk.specs.declared.gate.StepKind.{StepKind}
use Rattle.worker_desk.specs.declared.gate.StepKind.TheVariants as kind
use Rattle.worker_desk.specs.declared.desk.WorkerTask.{WorkerTask}
use Rattle.worker_desk.specs.declared.desk.WorkerTask.TheVariants as given
use Rattle.worker_desk.specs.declared.desk.TellResult.{TellResult}
use Rattle.worker_desk.specs.declared.desk.TellResult.TheVariants.{Back, Kept, Memory}
use Rattle.worker_desk.specs.declared.desk.IdleTask.{IdleTask}
use Rattle.worker_desk.specs.declared.desk.IdleTask.TheVariants as shut
use Rattle.world_journal.specs.Journals.{HeldValue, entry}
use Rattle.world_journal.specs.declared.entry.Entry.{Entry}
use Rattle.world_journal.specs.declared.line.Line.{Line}
use Rattle.world_journal.specs.declared.moves.StepOutcome.{StepOutcome}
use Rattle.world_journal.specs.declared.moves.StepOutcome.TheVariants as did
use Rattle.world_journal.specs.declared.updates.Absence.{Absence}
use Rattle.world_journal.specs.declared.updates.Update.{Update}
use Rattle.world_journal.specs.declared.updates.Update.TheVariants as update
use Rattle.world_journal.specs.Runs.{RunValue, dropping, laying, marking, taking}
use Rattle.world_journal.specs.Calls.{Advances, RunArrives, RunCuts, Drops, RunGives, GoesOn, IsStale, RunLoses, LosesNow, Made, RunPuts, Receives, Returns, RunsOut, Shuts, TakesIn, RunTells, TellsNow, TurnsAway, Works, noted}
use Rattle.world_journal.specs.Moves.{ComesIn, HopsOn, Rejoins, Updates}

-- the journal of the first begins that of the second
abbrev pub Extends : {E : Type 0} → RunValue E → RunValue E → Type 0
Extends old new = IsPrefix old.held.journal new.held.journal

on-held : {E : Type 0} (old between new : RunValue E) → Extends old between → new.held ≡ between.held → Extends old new
on-held {E} old between new x is = (x.0, x.1 ∙ sym (ap (λ (h : HeldValue E). h.journal) is))

held-on : {E : Type 0} (old new : RunValue E) → new.held ≡ old.held → Extends old new
held-on {E} old new is = ([], append-nil old.held.journal ∙ sym (ap (λ (h : HeldValue E). h.journal) is))

same-on : {E : Type 0} (old new : RunValue E) → new ≡ old → Extends old new
same-on {E} old new is = held-on old new (ap (λ (r : RunValue E). r.held) is)

entry-on : {E : Type 0} (old new : RunValue E) (e : Entry) → new.held.journal ≡ old.held.journal ++ e ∷ [] → Extends old new
entry-on old new e is = (e ∷ [], sym is)

marks-held : {E : Type 0} (run : RunValue E) (side : Side) (s : ℕ) (waits : Bool) → (marking run side s waits).held ≡ run.held
marks-held run side.Controller s waits = refl
marks-held run side.Switch s waits = refl

takes-held : {E : Type 0} (run : RunValue E) (side : Side) (s : ℕ) → (taking run side s).held ≡ run.held
takes-held run side.Controller s = refl
takes-held run side.Switch s = refl

marked-on : {E : Type 0} (old between new : RunValue E) (side : Side) (s : ℕ) (waits : Bool) → Extends old between → new ≡ marking between side s waits → Extends old new
marked-on {E} old between new side s waits x is = on-held old between new x (ap (λ (r : RunValue E). r.held) is ∙ marks-held between side s waits)

taken-on : {E : Type 0} (old new : RunValue E) (side : Side) (s : ℕ) → new ≡ taking old side s → Extends old new
taken-on {E} old new side s is = held-on old new (ap (λ (r : RunValue E). r.held) is ∙ takes-held old side s)

made-on : {E : Type 0} (w : ℕ) (e : Event) (old new : RunValue E) → Made w e old new → Extends old new
made-on w e old new h = entry-on old new (entry w e) h.journal

cuts-on : {E : Type 0} (w : ℕ) (e : Event) (end : E) (old new : RunValue E) → RunCuts w e end old new → Extends old new
cuts-on w e end old new h = entry-on old new (entry w e) h.journal

-- ---- give

advances-on : {E : Type 0} (w : ℕ) (side : Side) (s : ℕ) (old new : RunValue E) (made : Option StepKind) → Advances w side s old new made → Extends old new
advances-on w side.Controller s old new None h = same-on old new h.1
advances-on w side.Controller s old new (Some kind.Send) h = made-on w _ old new h
advances-on w side.Controller s old new (Some kind.Take) h = absurd h
advances-on w side.Controller s old new (Some kind.Apply) h = absurd h
advances-on w side.Controller s old new (Some kind.Reply) h = absurd h
advances-on w side.Controller s old new (Some kind.Heard) h = absurd h
advances-on w side.Controller s old new (Some kind.Arrive) h = absurd h
advances-on w side.Controller s old new (Some kind.Hop) h = absurd h
advances-on w side.Switch s old new None h = same-on old new h.2
advances-on w side.Switch s old new (Some kind.Send) h = absurd h
advances-on w side.Switch s old new (Some kind.Take) h = absurd h
advances-on w side.Switch s old new (Some kind.Apply) h = made-on w _ old new h
advances-on w side.Switch s old new (Some kind.Reply) h = made-on w _ old new h.1
advances-on w side.Switch s old new (Some kind.Heard) h = absurd h
advances-on w side.Switch s old new (Some kind.Arrive) h = absurd h
advances-on w side.Switch s old new (Some kind.Hop) h = absurd h

puts-on : {E : Type 0} (w : ℕ) (side : Side) (s : ℕ) (old new : RunValue E) (made : Option StepKind) (waiting : Bool) → RunPuts w side s old new made waiting → Extends old new
puts-on w side s old new made waiting h = marked-on old h.between new side s waiting (advances-on w side s old h.between made h.step) h.marked

goes-on : {E : Type 0} (w : ℕ) (side : Side) (s : ℕ) (old new : RunValue E) (g : WorkerTask E) → GoesOn w side s old new g → Extends old new
goes-on w side s old new given.Stop h = absurd h
goes-on w side s old new (given.NewEnd e) h = absurd h
goes-on w side s old new (given.Out m None) h = absurd h
goes-on w side s old new (given.Out m (Some k)) h = puts-on w side s old new (Some k) false h.0
goes-on w side s old new (given.Expect made) h = advances-on w side s old new made h.0.step
goes-on w side s old new (given.Nothing made) h = advances-on w side s old new made h.0.step

works-on : {E : Type 0} (w : ℕ) (side : Side) (s : ℕ) (old new : RunValue E) (g : WorkerTask E) → Works w side s old new g → Extends old new
works-on w side s old new given.Stop h = absurd h
works-on w side s old new (given.NewEnd e) h = absurd h
works-on w side s old new (given.Out m None) h = marked-on old old new side s false (same-on old old refl) h.2
works-on w side s old new (given.Out m (Some k)) h = goes-on w side s old new (given.Out m (Some k)) h.1
works-on w side s old new (given.Expect made) h = goes-on w side s old new (given.Expect made) h.1
works-on w side s old new (given.Nothing made) h = goes-on w side s old new (given.Nothing made) h.1

gives-on : {E : Type 0} (w : ℕ) (side : Side) (s : ℕ) (old new : RunValue E) (g : WorkerTask E) → RunGives w side s old new g → Extends old new
gives-on w side s old new given.Stop h = same-on old new h.1
gives-on w side s old new (given.NewEnd e) h = taken-on old new side s h.2
gives-on w side s old new (given.Out m made) h = works-on w side s old new (given.Out m made) h.2
gives-on w side s old new (given.Expect made) h = works-on w side s old new (given.Expect made) h.2
gives-on w side s old new (given.Nothing made) h = works-on w side s old new (given.Nothing made) h.2

runs-out-on : {E : Type 0} (w : ℕ) (side : Side) (s : ℕ) (old new : RunValue E) → RunsOut w side s old new → Extends old new
runs-out-on w side s old new (inl is) = same-on old new is
runs-out-on w side s old new (inr h) = puts-on w side s old new h.0 true h.1

pub given-on : {E F : Type 0} (w : ℕ) (side : Side) (s : ℕ) (old new : RunValue E) (r : Result (WorkerTask E) F) → IfOk r (RunGives w side s old new) → OnErr r (RunsOut w side s old new) → Extends old new
given-on w side s old new (Ok g) h m = gives-on w side s old new g h
given-on w side s old new (Err e) h m = runs-out-on w side s old new m

-- ---- tell, lost

notes-held : {E : Type 0} (put : Bool) (side : Side) (s : ℕ) (run : RunValue E) → (noted put side s run).held ≡ run.held
notes-held true side s run = marks-held run side s true
notes-held false side s run = refl

receives-on : {E : Type 0} (w : ℕ) (side : Side) (s : ℕ) (old new : RunValue E) → Receives w side s old new → Extends old new
receives-on {E} w side s old new h = on-held old h.between new (made-on w _ old h.between h.step) (ap (λ (r : RunValue E). r.held) h.now ∙ notes-held _ side s h.between)

takes-on : {E : Type 0} (w : ℕ) (side : Side) (s : ℕ) (end : E) (old new : RunValue E) (t : TellResult E) → TakesIn w side s end old new t → Extends old new
takes-on w side s end old new (Back e (Some made)) h = receives-on w side s old new h.2
takes-on w side s end old new (Back e None) h = same-on old new h.1
takes-on w side s end old new Kept h = absurd h
takes-on w side s end old new (Memory e) h = same-on old new h.1

turns-on : {E : Type 0} (w : ℕ) (side : Side) (s : ℕ) (bytes : List ℕ) (k : ℕ) (end : E) (old new : RunValue E) (t : TellResult E) → TurnsAway w side s bytes k end old new t → Extends old new
turns-on w side s bytes k end old new (Back e (Some made)) h = absurd h
turns-on w side s bytes k end old new (Back e None) h = same-on old new h.1
turns-on w side s bytes k end old new Kept h = cuts-on w (event.Foreign s side bytes) end old new h.1
turns-on w side s bytes k end old new (Memory e) h = same-on old new h.1

stale-on : {E : Type 0} (end : E) (old new : RunValue E) (t : TellResult E) → IsStale end old new t → Extends old new
stale-on end old new (Back e (Some made)) h = absurd h
stale-on end old new (Back e None) h = same-on old new h.1
stale-on end old new Kept h = absurd h
stale-on end old new (Memory e) h = absurd h

now-on : {E : Type 0} (w : ℕ) (side : Side) (s : ℕ) (bytes : List ℕ) (k : ℕ) (end : E) (old new : RunValue E) (t : TellResult E) → TellsNow w side s bytes k end old new t → Extends old new
now-on w side s bytes k end old new t (inl h) = takes-on w side s end old new t h.1
now-on w side s bytes k end old new t (inr h) = turns-on w side s bytes k end old new t h.1

pub tells-on : {E : Type 0} (n name w : ℕ) (side : Side) (s : ℕ) (bytes : List ℕ) (k : ℕ) (end : E) (old new : RunValue E) (t : TellResult E) → RunTells n name w side s bytes k end old new t → Extends old new
tells-on n name w side s bytes k end old new t (inl h) = now-on w side s bytes k end old new t h.1
tells-on n name w side s bytes k end old new t (inr h) = stale-on end old new t h.1

drops-on : {E : Type 0} (w s : ℕ) (end : E) (old new : RunValue E) → Drops w s end old new → Extends old new
drops-on {E} w s end old new h = on-held old h.between new (cuts-on w (event.Controller (of_controller.Lost s)) end old h.between h.step) (ap (λ (r : RunValue E). r.held) h.now)

loses-now-on : {E : Type 0} (w s : ℕ) (end : E) (old new : RunValue E) (t : TellResult E) → LosesNow w s end old new t → Extends old new
loses-now-on w s end old new (Back e (Some made)) h = absurd h
loses-now-on w s end old new (Back e None) h = same-on old new h.2
loses-now-on w s end old new Kept h = drops-on w s end old new h
loses-now-on w s end old new (Memory e) h = same-on old new h.1

pub loses-on : {E : Type 0} (n name w s : ℕ) (end : E) (old new : RunValue E) (t : TellResult E) → RunLoses n name w s end old new t → Extends old new
loses-on n name w s end old new t (inl h) = loses-now-on w s end old new t h.1
loses-on n name w s end old new t (inr h) = stale-on end old new t h.1

-- ---- shut: no step is made

taking-closed : {E : Type 0} (run : RunValue E) (side : Side) (s : ℕ) → (taking run side s).closed ≡ run.closed
taking-closed run side.Controller s = refl
taking-closed run side.Switch s = refl

-- the journal with its world is the same, and so is whether the run was closed
abbrev pub StandsStill : {E : Type 0} → RunValue E → RunValue E → Type 0
StandsStill old new = (new.held ≡ old.held) × (new.closed ≡ old.closed)

same-still : {E : Type 0} (old new : RunValue E) → new ≡ old → StandsStill old new
same-still {E} old new is = (ap (λ (r : RunValue E). r.held) is, ap (λ (r : RunValue E). r.closed) is)

pub shuts-still : {E : Type 0} (side : Side) (s : ℕ) (old new : RunValue E) (t : IdleTask E) → Shuts side s old new t → StandsStill old new
shuts-still {E} side s old new (shut.NewEnd e) h = (ap (λ (r : RunValue E). r.held) h.2 ∙ takes-held old side s, ap (λ (r : RunValue E). r.closed) h.2 ∙ taking-closed old side s)
shuts-still side s old new shut.Nothing h = same-still old new h.2
shuts-still side s old new shut.Stop h = same-still old new h.1

-- ---- the caller and traffic

pub updates-on : {E : Type 0} (n w : ℕ) (lines : List Line) (old new : RunValue E) (u : Update) → Updates n w lines old new u → Extends old new
updates-on n w lines old new update.Step h = made-on w h.2.0 old new h.2.2
updates-on n w lines old new (update.Absent a) h = same-on old new h.2
updates-on n w lines old new update.Nothing h = same-on old new h.3
updates-on n w lines old new update.Stop h = same-on old new h.1

returns-on : {E : Type 0} (w s : ℕ) (pair : E × E) (old new : RunValue E) → Returns w s pair old new → Extends old new
returns-on {E} w s pair old new h = on-held old h.between new (made-on w _ old h.between h.step) (ap (λ (r : RunValue E). r.held) h.now)

pub rejoins-on : {E : Type 0} (n w : ℕ) (a : Absence) (pair : E × E) (old new : RunValue E) (d : StepOutcome) → Rejoins n w a pair old new d → Extends old new
rejoins-on n w a pair old new did.Step h = returns-on w a.place pair old new h.2
rejoins-on n w a pair old new did.Nothing h = same-on old new h.2
rejoins-on n w a pair old new did.Stop h = same-on old new h.1

arrives-on : {E : Type 0} (w : ℕ) (lines : List Line) (place : ℕ) (old new : RunValue E) → RunArrives w lines place old new → Extends old new
arrives-on w lines place old new h = entry-on old new (entry w (event.Packet (of_packet.Arrive h.line.packet h.line.tag))) h.journal

pub comes-on : {E : Type 0} (w : ℕ) (lines : List Line) (place : ℕ) (old new : RunValue E) (d : StepOutcome) → ComesIn w lines place old new d → Extends old new
comes-on w lines place old new did.Step h = arrives-on w lines place old new h.1
comes-on w lines place old new did.Nothing h = same-on old new h.3
comes-on w lines place old new did.Stop h = same-on old new h.1

pub hops-on : {E : Type 0} (w : ℕ) (old new : RunValue E) (d : StepOutcome) → HopsOn w old new d → Extends old new
hops-on w old new did.Step h = made-on w _ old new h.1.1
hops-on w old new did.Nothing h = same-on old new h.2
hops-on w old new did.Stop h = same-on old new h.1
