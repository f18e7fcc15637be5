-- What is answered where nothing is to be sent, and to what came next.
use Rattle.std.proofs.Common.{◌≡◌, ℕ, List, Option, Some, None, refl, sym, subst, inr}
use Rattle.openflow_wire.specs.declared.fault.WireFault.{WireFault}
use Rattle.update_coordinator.specs.Sending.{MaySend}
use Rattle.worker_desk.specs.declared.gate.StepKind.TheVariants as kind
use Rattle.worker_desk.specs.declared.desk.WorkerTask.{WorkerTask}
use Rattle.worker_desk.specs.declared.desk.WorkerTask.TheVariants.{Out, Expect, Nothing, NewEnd, Stop}
use Rattle.worker_desk.specs.declared.desk.TellResult.{TellResult}
use Rattle.worker_desk.specs.declared.desk.TellResult.TheVariants.{Back, Kept, Memory}
use Rattle.drive_journal.specs.declared.element.Element.TheVariants as element
use Rattle.drive_journal.specs.Journals.{told_before}
use Rattle.drive_journal.specs.Drives.{DriveValue, Stops, echo_at}
use Rattle.drive_journal.specs.Calls.{IsElement, RestsAs, DriveGives, GivesNext, HearsAs, DriveTells}

rests-at : {E Q : Type 0} (s : ℕ) (r : DriveValue E Q) (g : WorkerTask E) → RestsAs s r g → ¬ (MaySend s r.held.control) → GivesNext s r r g
rests-at s r Stop h n = h
rests-at s r (Out m made) h n = absurd h
rests-at s r (Expect None) h n = (n, h, refl)
rests-at s r (Expect (Some k)) h n = h
rests-at s r (Nothing None) h n = (n, h, refl)
rests-at s r (Nothing (Some k)) h n = h
rests-at s r (NewEnd e) h n = absurd h

pub rests-next : {E Q : Type 0} (s : ℕ) (old new : DriveValue E Q) (g : WorkerTask E) → RestsAs s new g → ¬ (MaySend s old.held.control) → new ≡ old → GivesNext s old new g
rests-next {E} {Q} s old new g h n same =
    subst (λ (r : DriveValue E Q). GivesNext s old r g) (sym same) (rests-at s old g (subst (λ (r : DriveValue E Q). RestsAs s r g) same h) n)

none-of : {X : Type 0} (o : Option X) → ((o ≡ None → ⊥) → ⊥) → o ≡ None
none-of None n = refl
none-of (Some x) n = absurd (n (λ e. cc))

-- with no answer that is still to be sent, the next message, or what is to be done if there is none
pub gives-next : {E Q : Type 0} (s : ℕ) (old new : DriveValue E Q) (g : WorkerTask E) → ¬ (Stops old s) → ((echo_at old s ≡ None → ⊥) → ⊥) → GivesNext s old new g → DriveGives s old new g
gives-next s old new Stop n e h = absurd h
gives-next s old new (Out m None) n e h = absurd h
gives-next s old new (Out m (Some kind.Send)) n e h = (n, none-of (echo_at old s) e, h)
gives-next s old new (Out m (Some kind.Take)) n e h = absurd h
gives-next s old new (Out m (Some kind.Apply)) n e h = absurd h
gives-next s old new (Out m (Some kind.Reply)) n e h = absurd h
gives-next s old new (Out m (Some kind.Heard)) n e h = absurd h
gives-next s old new (Out m (Some kind.Arrive)) n e h = absurd h
gives-next s old new (Out m (Some kind.Hop)) n e h = absurd h
gives-next s old new (Expect None) n e h = (n, (none-of (echo_at old s) e, h.0), h.1, h.2)
gives-next s old new (Expect (Some k)) n e h = absurd h
gives-next s old new (Nothing None) n e h = (n, (none-of (echo_at old s) e, h.0), h.1, h.2)
gives-next s old new (Nothing (Some k)) n e h = absurd h
gives-next s old new (NewEnd d) n e h = absurd h

-- a fault came after k messages
pub tells-fault : {E Q : Type 0} (s : ℕ) (bytes : List ℕ) (k : ℕ) (end : E) (old new : DriveValue E Q) (f : WireFault) (told : TellResult E) → IsElement bytes (element.Fault f) → told_before s old.held.journal ≡ k → HearsAs s (element.Fault f) end old new told → DriveTells s bytes k end old new told
tells-fault s bytes k end old new f (Back e (Some x)) is at h = absurd h
tells-fault s bytes k end old new f (Back e None) is at h = (h.0, h.1, inr (inr h.2))
tells-fault s bytes k end old new f Kept is at h = (at, (element.Fault f, h.0, is, h.1, h.2))
tells-fault s bytes k end old new f (Memory e) is at h = h
