-- What a worker does ahead of its calls.
use Rattle.std.proofs.Common.{◌≡◌, ℕ, ◌∙◌, sym, refl, subst, Bool, true, false, Option, Some, None}
use Rattle.std.specs.Prelude.{not}
use Rattle.update_coordinator.specs.declared.cause.Side.{Side}
use Rattle.worker_desk.specs.Answers.{OnNewEnd}
use Rattle.worker_desk.specs.declared.desk.WorkerTask.{WorkerTask}
use Rattle.worker_desk.specs.declared.desk.WorkerTask.TheVariants.{Out, Expect, Nothing, NewEnd, Stop}
use Rattle.world_journal.specs.Ahead.{IsWork, MayWork}
use Rattle.world_journal.specs.Asking.{OnRun}
use Rattle.world_journal.specs.Calls.{RunGives}
use Rattle.world_journal.specs.Runs.{RunValue, Stops, end_at}
use Rattle.world_journal.specs.Watching.{WatchedValue}

-- work is no new end
pub work-fresh : {E : Type 0} (P : E → Type 0) (g : WorkerTask E) → IsWork g → OnNewEnd P g
work-fresh P Stop h = absurd h
work-fresh P (NewEnd e) h = absurd h
work-fresh P (Out m made) h = tt
work-fresh P (Expect made) h = tt
work-fresh P (Nothing made) h = tt

-- what is given to a worker that goes on is work
gives-work : {E : Type 0} (w : ℕ) (side : Side) (s : ℕ) (old new : RunValue E) (g : WorkerTask E) → ¬ (Stops old s) → end_at old side s ≡ None → RunGives w side s old new g → IsWork g
gives-work w side s old new Stop n f h = absurd (n h.0)
gives-work w side s old new (NewEnd e) n f h = (let k : None ≡ Some e = sym f ∙ h.1 in cc)
gives-work w side s old new (Out m made) n f h = tt
gives-work w side s old new (Expect made) n f h = tt
gives-work w side s old new (Nothing made) n f h = tt

-- the same of a run under the lock
pub on-run-work : {E : Type 0} (w : ℕ) (side : Side) (s : ℕ) (old new : Option (WatchedValue E)) (g : WorkerTask E) → MayWork side s old → OnRun (λ a b. RunGives w side s a b g) (g ≡ Stop) old new → IsWork g
on-run-work w side s None new g m h = absurd m
on-run-work w side s (Some a) None g m h = absurd h
on-run-work w side s (Some a) (Some b) g m h = gives-work w side s a.run h.between g m.0 m.1 h.did

is-off : (b : Bool) → not b ≡ true → b ≡ false
is-off true n = sym n
is-off false n = refl

-- it was found that the run goes on and that no end is laid out
pub may-work : {E : Type 0} (side here : Side) (s k : ℕ) (r : RunValue E) (stops has : Bool) → here ≡ side → k ≡ s → (Stops r k → stops ≡ true) → stops ≡ false → (has ≡ false → end_at r here k ≡ None) → not has ≡ true → (¬ Stops r s) × (end_at r side s ≡ None)
may-work side here s k r stops has a b f n e m =
    subst (λ (t : Side). (¬ Stops r s) × (end_at r t s ≡ None)) a
    (subst (λ (j : ℕ). (¬ Stops r j) × (end_at r here j ≡ None)) b ((λ h. (let t = f h in cc)), e (is-off has m)))
