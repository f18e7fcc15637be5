-- Nothing happens after what halts the coordinator.
use Rattle.std.proofs.Common.{◌≡◌, ◌≢◌, inl, inr, ℕ, List, [], ◌∷◌, None, refl, ap, subst}
use Rattle.nk_values.specs.Members.{IsIn}
use Rattle.update_coordinator.specs.Controls.{Control}
use Rattle.drive_journal.specs.declared.steering.Steering.{Steering}
use Rattle.drive_journal.specs.declared.steering.Steering.TheVariants.{Lost}
use Rattle.drive_journal.specs.Steering.{Steers, Drives}
use Rattle.drive_journal.specs.Lasting.{IsLastBefore}
use Rattle.drive_journal.specs.Losses.{HaltsAtLoss}
use Rattle.drive_journal.proofs.Growing.{was-running}
use Rattle.drive_journal.proofs.Losing.{halts-by, losses-on}

ends-here : (x d : Control) (es : List Steering) → x.halt ≢ None → Drives x es d → (es ≡ []) × (x ≡ d)
ends-here x d [] off r = (refl, r)
ends-here x d (e ∷ es) off r = absurd (off (was-running x e r.0 r.1))

lost-first : (x d : Control) (e : Steering) (es : List Steering) (s : ℕ) → x.halt ≢ None → Drives x es d → e ≡ Lost s → IsLastBefore (e ∷ es) (Lost s) d
lost-first x d e es s off r is =
    let end = ends-here x d es off r in record {
      before = [];
      last = cc;
      halted = subst (λ (y : Control). y.halt ≢ None) end.1 off;
    }

lost-later : (d : Control) (e : Steering) (es : List Steering) (s : ℕ) → IsLastBefore es (Lost s) d → IsLastBefore (e ∷ es) (Lost s) d
lost-later d e es s l = record {
  before = e ∷ l.before;
  last = ap (λ (xs : List Steering). e ∷ xs) l.last;
  halted = l.halted;
}

pub lost-last : (c : Control) (es : List Steering) (d : Control) (s : ℕ) → HaltsAtLoss c → Drives c es d → IsIn es (Lost s) → IsLastBefore es (Lost s) d
lost-last c [] d s h r i = absurd i
lost-last c (e ∷ es) d s h r (inl is) = lost-first r.0 d e es s (halts-by c (Lost s) r.0 h (subst (λ (x : Steering). Steers c x r.0) is r.1) tt) r.2 is
lost-last c (e ∷ es) d s h r (inr i) = lost-later d e es s (lost-last r.0 es d s (losses-on c e r.0 r.1 h) r.2 i)
