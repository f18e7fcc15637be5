-- What holds of the tables of a world.
use Rattle.std.specs.Prelude.{◌≡◌, ℕ, [], slice_get, None, Some}
use Rattle.nk_values.specs.Members.{IsIn, SameMembers}
use Rattle.openflow_wire.specs.declared.message.Message.{Message}
use Rattle.openflow_wire.specs.declared.message.Message.TheVariants as to
use Rattle.update_coordinator.specs.SessionState.TheVariants as state
use Rattle.update_coordinator.specs.Batches.{planned}
use Rattle.update_coordinator.specs.Controls.{Control, Peer, unsent_at}
use Rattle.update_laws.specs.Fleets.{WiredSwitch}
use Rattle.world_core.specs.Worlds.{WorldValue, IsKept}

-- the message says that something was refused
abbrev pub IsError : Message → Type 0
IsError (to.Error _ _ _ _) = Unit {0}
IsError _ = ⊥

-- Nothing of the phase's batch is left for a switch, and it refused nothing: its session is up, nothing is to be sent
-- to it, nothing is on its way to it, nothing is pending, and no error is on its way back.
pub record HasBatch (c : Control) (s : Peer) (e : WiredSwitch) : Type 0 where
  pub up : s.session.state ≡ state.Up
  pub unsent : unsent_at c s ≡ []
  pub there : e.there ≡ []
  pub pending : e.switch.pending ≡ []
  pub errors : (m : Message) → IsIn e.back m → ¬ IsError m

-- As long as updates go on, such a switch has just the rows that the phase gives it.
abbrev pub TablesFollow : Type 0
TablesFollow = (w : WorldValue) (place : ℕ) (s : Peer) (e : WiredSwitch) → IsKept w → w.fleet.control.halt ≡ None →
    slice_get w.fleet.control.peers place ≡ Some s → slice_get w.fleet.wired place ≡ Some e →
    HasBatch w.fleet.control s e →
    SameMembers (planned w.fleet.control.versions w.fleet.control.swept w.fleet.control.phase e.switch.sw)
    e.switch.table.rows
