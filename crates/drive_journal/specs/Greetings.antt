-- Which switches have greeted, by the journal.
use Rattle.std.specs.Prelude.{◌≡◌, ℕ, ◌==◌, ◌||◌, ◌&&◌, not, Bool, true, false, List, [], ◌∷◌, slice_get, Some, None}
use Rattle.openflow_wire.specs.declared.message.Message.{Message}
use Rattle.openflow_wire.specs.declared.message.Message.TheVariants as to
use Rattle.session_core.specs.declared.session.SessionState.{SessionState}
use Rattle.session_core.specs.declared.session.SessionState.TheVariants as state
use Rattle.update_coordinator.specs.Controls.{Peer, Control}
use Rattle.drive_journal.specs.declared.steering.Steering.{Steering}
use Rattle.drive_journal.specs.declared.steering.Steering.TheVariants.{Heard}
use Rattle.drive_journal.specs.Losses.{HaltsAtLoss}
use Rattle.drive_journal.specs.Steering.{Drives}

abbrev pub is_hello : Message → Bool
is_hello (to.Hello version xid) = true
is_hello _ = false

-- a HELLO of switch s was heard
abbrev pub greets : ℕ → Steering → Bool
greets s (Heard t m) = (t == s) && is_hello m
greets s _ = false

abbrev pub has_greeting : ℕ → List Steering → Bool
has_greeting s [] = false
has_greeting s (e ∷ es) = greets s e || has_greeting s es

abbrev pub is_fresh : SessionState → Bool
is_fresh state.Fresh = true
is_fresh _ = false

-- As long as nothing halted, a session that was fresh is so exactly if the journal has no HELLO of its switch.
abbrev pub GreetingsAreNoted : Type 0
GreetingsAreNoted = (c : Control) (es : List Steering) (d : Control) → HaltsAtLoss c → Drives c es d → d.halt ≡ None →
    (s : ℕ) (old new : Peer) → slice_get c.peers s ≡ Some old → slice_get d.peers s ≡ Some new
    → is_fresh new.session.state ≡ (is_fresh old.session.state && not (has_greeting s es))
