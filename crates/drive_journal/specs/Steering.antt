-- What the controller does alone: its part of what happens in the world, with the messages that it sent and heard.
use Rattle.std.specs.Prelude.{◌≡◌, List, [], ◌∷◌, None}
use Rattle.session_core.specs.declared.session.Move.{Move}
use Rattle.update_coordinator.specs.Calls.{begin_refusal, begun, drain_refusal, drained}
use Rattle.update_coordinator.specs.Controls.{Control}
use Rattle.update_coordinator.specs.Hearing.{IsHeard, IsLost, IsGarbled}
use Rattle.update_coordinator.specs.Sending.{IsSent}
use Rattle.drive_journal.specs.declared.steering.Steering.{Steering}
use Rattle.drive_journal.specs.declared.steering.Steering.TheVariants.{Begin, Send, Heard, Drained, Lost, Garbled}

-- One event of the controller.
abbrev pub Steers : Control → Steering → Control → Type 0
Steers c Begin d = (begin_refusal c ≡ None) × (d ≡ begun c)
Steers c (Send s m) d = IsSent s c d m
Steers c (Heard s m) d = (move : Move) × IsHeard s m c d move
Steers c (Drained stamp) d = (drain_refusal c stamp ≡ None) × (d ≡ drained c)
Steers c (Lost s) d = IsLost s c d
Steers c (Garbled s f) d = IsGarbled s f c d

-- the events happen one after the other
abbrev pub Drives : Control → List Steering → Control → Type 0
Drives c [] d = c ≡ d
Drives c (e ∷ es) d = (x : Control) × Steers c e x × Drives x es d
