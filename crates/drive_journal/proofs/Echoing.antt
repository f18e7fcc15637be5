-- The answers that are still to be sent.
use Rattle.std.proofs.Common.{◌≡◌, inl, inr, ℕ, List, length, Option, Some, None, slice_get, slice_set, replicate, sym, ap, subst, ◌∙◌}
use Rattle.std.specs.Prelude.{IfSome}
use Rattle.std.proofs.lemmas.List.{length-replicate}
use Rattle.openflow_wire.specs.declared.message.Message.{Message}
use Rattle.openflow_wire.specs.Writing.{Fits}
use Rattle.update_coordinator.proofs.Places.{set_cases, get_replicate}
use Rattle.drive_journal.specs.Elements.{AreFitting}
use Rattle.drive_journal.specs.Drives.{or_none}

some-is : (x y : Message) → Some x ≡ Some y → x ≡ y
some-is x y e = cc

fits-in : (m : Message) (reply : Option Message) → Some m ≡ reply → IfSome reply Fits → Fits m
fits-in m None e h = absurd cc
fits-in m (Some x) e h = subst Fits (sym (some-is m x e)) h

pub fitting-set : (echoes : List (Option Message)) (place : ℕ) (reply : Option Message) → AreFitting echoes → IfSome reply Fits → AreFitting (slice_set echoes place reply)
fitting-set echoes place reply h fits s m at =
    elim (set_cases echoes place s reply (Some m) at) [
      | inl q ↦ fits-in m reply q.0 fits
      | inr q ↦ h s m q.1
    ]

pub fitting-at : (echoes : List (Option Message)) (place : ℕ) (reply : Option Message) → AreFitting echoes → slice_get echoes place ≡ Some reply → IfSome reply Fits
fitting-at echoes place None h at = tt
fitting-at echoes place (Some m) h at = h place m at

pub read-echo : (echoes : List (Option Message)) (place : ℕ) (reply : Option Message) → slice_get echoes place ≡ Some reply → reply ≡ or_none (slice_get echoes place)
read-echo echoes place reply at = ap or_none (sym at)

not-some : (m : Message) → ◌≡◌ {A = Option Message} (Some m) None → ⊥
not-some m e = cc

pub none-fitting : (n : ℕ) → AreFitting (replicate n None)
none-fitting n s m at = absurd (not-some m (get_replicate n s None (Some m) at))

pub none-held : (n : ℕ) (echoes : List (Option Message)) → echoes ≡ replicate n None → AreFitting echoes × (length echoes ≡ n)
none-held n echoes e = (subst AreFitting (sym e) (none-fitting n), ap length e ∙ length-replicate n None)
