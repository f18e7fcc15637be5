-- How long replies are, and rows one by one.
use Rattle.std.proofs.Common.{◌≡◌, ℕ, ◌+◌, ◌<◌, ◌≤◌, ◌⊎◌, ◌^◌, Bool, true, false, List, [], ◌∷◌, map, refl, sym, ap, subst, inl, inr, arith}
use Rattle.std.specs.List.{AllByRecursion}
use Rattle.nk_values.specs.declared.row.Row.{Row}
use Rattle.nk_values.specs.Members.{IsIn}
use Rattle.openflow_wire.specs.declared.message.Message.{Message}
use Rattle.openflow_wire.specs.Writing.{wire_len}
use Rattle.switch_model.specs.Stats.{reply, Fits, AreReplies}

pub each-of : (P : Row → Type 0) (rows : List Row) → AllByRecursion P rows → (r : Row) → IsIn rows r → P r
each-of P [] h r i = absurd i
each-of P (x ∷ rows) h r (inl e) = subst P e h.0
each-of P (x ∷ rows) h r (inr i) = each-of P rows h.1 r i

reply-short : (xid : ℕ) (more : Bool) (rows : List Row) (m : Message) → m ≡ reply xid more rows → Fits rows → wire_len m < 2 ^ 63
reply-short xid more rows m e fits = subst (λ (n : Message). wire_len n < 2 ^ 63) (sym e) (omega (arith, fits))

pub replies-short : (xid : ℕ) (rows : List Row) (ms : List Message) → AreReplies xid rows ms → AllByRecursion (λ (m : Message). wire_len m < 2 ^ 63) ms
replies-short xid rows [] a = absurd a
replies-short xid rows (m ∷ []) a = (reply-short xid false rows m a.0 a.1, tt)
replies-short xid rows (m ∷ n ∷ ms) a = (reply-short xid true a.0 m a.3 a.4, replies-short xid a.1 (n ∷ ms) a.6)
