-- A lost session counts a broken end.
use Rattle.std.proofs.Common.{◌≡◌, ◌≢◌, inl, ℕ, ◌<◌, List, [], ◌∷◌, ◌++◌, Option, Some, None, refl, sym, subst, ◌∙◌}
use Rattle.nk_values.specs.Members.{IsIn}
use Rattle.outside_io.specs.Causes.{Rose}
use Rattle.update_coordinator.specs.declared.cause.Cause.{Cause}
use Rattle.update_coordinator.specs.Controls.{Control}
use Rattle.drive_journal.specs.declared.steering.Steering.{Steering}
use Rattle.drive_journal.specs.declared.steering.Steering.TheVariants.{Lost}
use Rattle.drive_journal.specs.Drives.{IsOver}
use Rattle.drive_journal.specs.Journals.{AreWritable, IsSteered, IsKeptFor, KeepsFor, MetBy}
use Rattle.drive_journal.specs.Lasting.{IsLastBefore, LostIsLast}
use Rattle.drive_journal.specs.Losses.{HaltsAtLoss}
use Rattle.drive_workers.specs.Driven.{IsDriven}

-- the last elements of equal lists are equal
last-same : {X : Type 0} (xs ys : List X) (x y : X) → xs ++ x ∷ [] ≡ ys ++ y ∷ [] → x ≡ y
last-same [] [] x y e = cc
last-same [] (z ∷ []) x y e = cc
last-same [] (z ∷ w ∷ ys) x y e = cc
last-same (z ∷ []) [] x y e = cc
last-same (z ∷ w ∷ xs) [] x y e = cc
last-same (z ∷ xs) (w ∷ ys) x y e = last-same xs ys x y cc

kept-for : {E : Type 0} (named faults : E → ℕ) (received : E → Option (List ℕ)) (halt : Option Cause) (journal : List Steering) (ends : List E) → halt ≢ None → KeepsFor named faults received halt journal ends → IsKeptFor named faults received journal ends
kept-for named faults received None journal ends off k = absurd (off refl)
kept-for named faults received (Some cause) journal ends off k = k

met-lost : {E : Type 0} (named faults : E → ℕ) (received : E → Option (List ℕ)) (before : List Steering) (e : Steering) (s : ℕ) (end : E) → e ≡ Lost s → MetBy named faults received before e end → 0 < faults end
met-lost named faults received before e s end is met = (subst (λ (x : Steering). MetBy named faults received before x end) is met).1

kept-rose : {E : Type 0} (named faults : E → ℕ) (received : E → Option (List ℕ)) (journal : List Steering) (ends : List E) (before now s : ℕ) (d : Control) → IsKeptFor named faults received journal ends → ((e : E) → IsIn ends e → 0 < faults e → Rose before now) → IsLastBefore journal (Lost s) d → Rose before now
kept-rose {E} named faults received journal ends before now s d k rose l =
    let same : k.event ≡ Lost s = last-same k.before l.before k.event (Lost s) (sym k.last ∙ l.last) in
    rose k.end_ (subst (λ (es : List E). IsIn es k.end_) (sym k.only) (inl refl)) (met-lost named faults received k.before k.event s k.end_ same k.met)

lost-rose : {E Q : Type 0} (named faults : E → ℕ) (received : E → Option (List ℕ)) (stamped : Q → ℕ) (start control : Control) (journal : List Steering) (receipts : List Q) (ends : List E) (before now : ℕ)
    → LostIsLast → HaltsAtLoss start → IsSteered named faults received stamped start control journal receipts ends → ((e : E) → IsIn ends e → 0 < faults e → Rose before now) → (s : ℕ) → IsIn journal (Lost s) → Rose before now
lost-rose named faults received stamped start control journal receipts ends before now law losses h rose s i =
    let l = law start journal control s losses h.runs i in
    kept-rose named faults received journal ends before now s control (kept-for named faults received control.halt journal ends l.halted h.kept) rose l

pub driven : {E Q : Type 0} (named faults : E → ℕ) (received : E → Option (List ℕ)) (stamped : Q → ℕ) (start control : Control) (journal : List Steering) (receipts : List Q) (ends : List E) (before now : ℕ)
    → LostIsLast → HaltsAtLoss start → IsSteered named faults received stamped start control journal receipts ends → AreWritable journal → IsOver control → ((e : E) → IsIn ends e → 0 < faults e → Rose before now) → IsDriven stamped before now start control journal
driven named faults received stamped start control journal receipts ends before now law losses h writable over rose = record {
  runs = h.runs;
  over = over;
  reports = receipts;
  drains = h.drains;
  writable = writable;
  lost = lost-rose named faults received stamped start control journal receipts ends before now law losses h rose;
}
