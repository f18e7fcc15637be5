-- What was told of an end, cycle by cycle.
use Rattle.std.proofs.Common.{◌≡◌, ℕ, inl, inr, List, [], ◌∷◌, Option, Some, None, refl, sym, ap, subst, ◌∙◌}
use Rattle.std.specs.Prelude.{IfSome}
use Rattle.outside_io.specs.Causes.{Rose}
use Rattle.worker_desk.specs.Answers.{grown}
use Rattle.worker_desk.specs.Notices.{Notice, Lost}
use Rattle.worker_post.specs.Noting.{NotesLoss, NotesMemory, IsNotedOf, Notes}
use Rattle.worker_post.specs.declared.post.CycleEnd.{CycleEnd}
use Rattle.worker_post.specs.declared.post.CycleEnd.TheVariants.{Going, Shut, New, Stop, Memory, Kept}

-- a call failed, and that was told
pub loss-noted : (named name before now : ℕ) (old new : Option (List Notice)) → named ≡ name → Rose before now → new ≡ grown old (Lost named ∷ []) → NotesLoss name before now old new
loss-noted named name before now old new is rose told = inr (rose, told ∙ ap (λ (n : ℕ). grown old (Lost n ∷ [])) is)

pub kept-faults : {E : Type 0} (faults : E → ℕ) (end : E) (kept : Option E) → IfSome kept (λ e. e ≡ end) → IfSome kept (λ e. faults e ≡ faults end)
kept-faults faults end None h = tt
kept-faults faults end (Some e) h = ap faults h

any-notes : {E : Type 0} (faults : E → ℕ) (kept : Option E) (name before : ℕ) (old new : Option (List Notice)) (a : CycleEnd E) → Notes ⊥ faults kept name before old new a → Notes (Unit {0}) faults kept name before old new a
any-notes faults kept name before old new (Going e) h = h
any-notes faults kept name before old new (Shut e) h = h
any-notes faults kept name before old new (New e other) h = absurd h.0
any-notes faults kept name before old new (Stop e) h = absurd h.0
any-notes faults kept name before old new (Memory e) h = h
any-notes faults kept name before old new Kept h = h

-- a cycle after a call of the desk that was told nothing
pub cycle-notes : {E : Type 0} (faults : E → ℕ) (kept : Option E) (name before : ℕ) (old old1 new : Option (List Notice)) (a : CycleEnd E) → old1 ≡ old → Notes ⊥ faults kept name before old1 new a → Notes (Unit {0}) faults kept name before old new a
cycle-notes faults kept name before old old1 new a same h = any-notes faults kept name before old new a (subst (λ (x : Option (List Notice)). Notes ⊥ faults kept name before x new a) same h)

-- a cycle after others in which no call failed and nothing was told
pub notes-from : {E : Type 0} (asked : Type 0) (faults : E → ℕ) (kept : Option E) (name name1 before before1 : ℕ) (old old1 new : Option (List Notice)) (a : CycleEnd E) → name1 ≡ name → before1 ≡ before → old1 ≡ old → Notes asked faults kept name1 before1 old1 new a → Notes asked faults kept name before old new a
notes-from asked faults kept name name1 before before1 old old1 new a n b o h =
    subst (λ (x : ℕ). Notes asked faults kept x before old new a) n (subst (λ (x : ℕ). Notes asked faults kept name1 x old new a) b (subst (λ (x : Option (List Notice)). Notes asked faults kept name1 before1 x new a) o h))

-- ---- a whole session

pub shut-noted : {E : Type 0} (faults : E → ℕ) (e : E) (name before : ℕ) (old new new1 : Option (List Notice)) → NotesLoss name before (faults e) old new → new1 ≡ new → IsNotedOf faults (Some e) name before old new1
shut-noted faults e name before old new new1 h same = subst (λ (x : Option (List Notice)). IsNotedOf faults (Some e) name before old x) (sym same) (faults e, inl h, refl)

pub stop-noted : {E : Type 0} (faults : E → ℕ) (e : E) (name before : ℕ) (old new : Option (List Notice)) → faults e ≡ before → new ≡ old → IsNotedOf faults (Some e) name before old new
stop-noted faults e name before old new f n = (faults e, inl (inl (f, n)), refl)

pub memory-noted : {E : Type 0} (faults : E → ℕ) (e : E) (name before : ℕ) (old new : Option (List Notice)) → NotesMemory name before (faults e) old new → IsNotedOf faults (Some e) name before old new
memory-noted faults e name before old new h = (faults e, inr h, refl)

pub kept-noted : {E : Type 0} (faults : E → ℕ) (kept kept1 : Option E) (name before : ℕ) (old new new1 : Option (List Notice)) → Notes (Unit {0}) faults kept name before old new Kept → kept1 ≡ kept → new1 ≡ new → IsNotedOf faults kept1 name before old new1
kept-noted faults kept kept1 name before old new new1 h k n =
    subst (λ (x : Option _). IsNotedOf faults x name before old new1) (sym k) (subst (λ (x : Option (List Notice)). IsNotedOf faults kept name before old x) (sym n) (h.0, inl h.1, h.2))
