-- What a desk was told of an end beside its messages.
use Rattle.std.specs.Prelude.{◌≡◌, ℕ, ◌⊎◌, List, [], ◌∷◌, Option, IfSome}
use Rattle.outside_io.specs.Causes.{Rose}
use Rattle.worker_desk.specs.Answers.{grown}
use Rattle.worker_desk.specs.Notices.{Notice, Lost, NoMemory}
use Rattle.worker_post.specs.declared.post.CycleEnd.{CycleEnd}
use Rattle.worker_post.specs.declared.post.CycleEnd.TheVariants.{Going, Shut, New, Stop, Memory, Kept}
use Rattle.worker_post.specs.declared.post.telling.TellOutcome.{TellOutcome}
use Rattle.worker_post.specs.declared.post.telling.TellOutcome.TheVariants.{Rest, Told}

-- No call on the end with this name failed, and nothing was told; or one failed, and that was told.
abbrev pub NotesLoss : ℕ → ℕ → ℕ → Option (List Notice) → Option (List Notice) → Type 0
NotesLoss name before now old new = ((now ≡ before) × (new ≡ old)) ⊎
    (Rose before now × (new ≡ grown old (Lost name ∷ [])))

-- the same, and after it that memory ran out
abbrev pub NotesMemory : ℕ → ℕ → ℕ → Option (List Notice) → Option (List Notice) → Type 0
NotesMemory name before now old new = (between : Option (List Notice)) × NotesLoss name before now old between ×
    (new ≡ grown between (NoMemory ∷ []))

-- In one session a loss was told exactly if a call failed, once, and at most one time after it that memory ran out. How
-- often the end failed is known if it came back or was kept.
abbrev pub IsNotedOf : {E : Type 0} → (E → ℕ) → Option E → ℕ → ℕ → Option (List Notice) → Option (List Notice) → Type 0
IsNotedOf faults last name before old new = (now : ℕ) ×
    (NotesLoss name before now old new ⊎ NotesMemory name before now old new) × IfSome last (λ e. faults e ≡ now)

-- One cycle over an end with this name, which had failed `before` times. `asked` holds if the desk may have asked the
-- worker to stop or to begin anew.
abbrev pub Notes : {E : Type 0} → Type 0 → (E → ℕ) → Option E → ℕ → ℕ → Option (List Notice) → Option (List Notice) →
    CycleEnd E → Type 0
Notes asked faults kept name before old new (Going e) = (faults e ≡ before) × (new ≡ old)
Notes asked faults kept name before old new (Shut e) = NotesLoss name before (faults e) old new
Notes asked faults kept name before old new (New e other) = asked × (faults e ≡ before) × (new ≡ old)
Notes asked faults kept name before old new (Stop e) = asked × (faults e ≡ before) × (new ≡ old)
Notes asked faults kept name before old new (Memory e) = NotesMemory name before (faults e) old new
Notes asked faults kept name before old new Kept = (now : ℕ) × NotesLoss name before now old new ×
    IfSome kept (λ e. faults e ≡ now)

abbrev pub NextNotes : {E : Type 0} → (E → ℕ) → Option E → ℕ → ℕ → Option (List Notice) → Option (List Notice) →
    TellOutcome E → Type 0
NextNotes faults kept name before old new (Rest e) = new ≡ old
NextNotes faults kept name before old new (Told after) = Notes ⊥ faults kept name before old new after
