-- What is given to a worker, by the state that is found.
use Rattle.std.proofs.Common.{◌≡◌, ℕ, true, false, IfOk, Result, Ok, Err, List, inl, None, Some, subst}
use Rattle.update_coordinator.specs.declared.cause.Side.{Side}
use Rattle.worker_desk.specs.Answers.{OnNewEnd}
use Rattle.worker_desk.specs.declared.desk.WorkerTask.{WorkerTask}
use Rattle.worker_desk.specs.declared.desk.WorkerTask.TheVariants.{Out, Expect, Nothing, NewEnd, Stop}
use Rattle.worker_desk.specs.declared.desk.TellResult.{TellResult}
use Rattle.world_journal.specs.Runs.{RunValue, Stops, end_at, waits}
use Rattle.world_journal.specs.Calls.{GoesOn, RunGives, IsPresent, RunLoses, LosesNow, RunTells, TellsNow, Works}

pub true-false : true ≡ false → ⊥
true-false e = cc

-- no message waits
pub goes-on : {E F : Type 0} (w : ℕ) (side : Side) (s : ℕ) (old new : RunValue E) (r : Result (WorkerTask E) F) → waits old side s ≡ false → IfOk r (GoesOn w side s old new) → IfOk r (Works w side s old new)
goes-on w side s old new (Err e) f h = tt
goes-on w side s old new (Ok Stop) f h = absurd h
goes-on w side s old new (Ok (NewEnd e)) f h = absurd h
goes-on w side s old new (Ok (Out m None)) f h = absurd h
goes-on w side s old new (Ok (Out m (Some k))) f h = (f, h)
goes-on w side s old new (Ok (Expect made)) f h = (f, h)
goes-on w side s old new (Ok (Nothing made)) f h = (f, h)

works-here : {E F : Type 0} (w : ℕ) (side : Side) (s : ℕ) (old new : RunValue E) (r : Result (WorkerTask E) F) → ¬ (Stops old s) → end_at old side s ≡ None → IfOk r (Works w side s old new) → IfOk r (RunGives w side s old new)
works-here w side s old new (Err e) n f h = tt
works-here w side s old new (Ok Stop) n f h = absurd h
works-here w side s old new (Ok (NewEnd e)) n f h = absurd h
works-here w side s old new (Ok (Out m None)) n f h = (n, f, h)
works-here w side s old new (Ok (Out m (Some k))) n f h = (n, f, h)
works-here w side s old new (Ok (Expect made)) n f h = (n, f, h)
works-here w side s old new (Ok (Nothing made)) n f h = (n, f, h)

-- no new end is laid out, so the run is as it was
pub works-on : {E F : Type 0} (w : ℕ) (side : Side) (s : ℕ) (old between new : RunValue E) (r : Result (WorkerTask E) F) → between ≡ old → ¬ (Stops old s) → end_at old side s ≡ None → IfOk r (Works w side s between new) → IfOk r (RunGives w side s old new)
works-on w side s old between new r is n f h = works-here w side s old new r n f (subst (λ x. IfOk r (Works w side s x new)) is h)

-- and no new end is given
pub works-fresh : {E F : Type 0} (w : ℕ) (side : Side) (s : ℕ) (old new : RunValue E) (P : E → Type 0) (r : Result (WorkerTask E) F) → IfOk r (Works w side s old new) → IfOk r (OnNewEnd P)
works-fresh w side s old new P (Err e) h = tt
works-fresh w side s old new P (Ok Stop) h = tt
works-fresh w side s old new P (Ok (NewEnd e)) h = absurd h
works-fresh w side s old new P (Ok (Out m made)) h = tt
works-fresh w side s old new P (Ok (Expect made)) h = tt
works-fresh w side s old new P (Ok (Nothing made)) h = tt

-- ---- what is told over an end of the present session

pub tells-present : {E : Type 0} (n name w : ℕ) (side : Side) (s : ℕ) (bytes : List ℕ) (k : ℕ) (end : E) (old new : RunValue E) (told : TellResult E) → IsPresent n s name old → TellsNow w side s bytes k end old new told → RunTells n name w side s bytes k end old new told
tells-present n name w side s bytes k end old new told is h = inl (is, h)

pub loses-present : {E : Type 0} (n name w s : ℕ) (end : E) (old new : RunValue E) (told : TellResult E) → IsPresent n s name old → LosesNow w s end old new told → RunLoses n name w s end old new told
loses-present n name w s end old new told is h = inl (is, h)
