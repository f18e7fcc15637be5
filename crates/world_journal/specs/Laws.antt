-- What follows for whoever reads the answers of a run.
use Rattle.std.specs.Prelude.{◌≡◌, ℕ, Some, true, slice_get}
use Rattle.openflow_wire.specs.declared.message.Message.TheVariants as to
use Rattle.update_coordinator.specs.declared.cause.Side.TheVariants as side
use Rattle.world_core.specs.declared.event.Event.TheVariants as event
use Rattle.world_core.specs.declared.event.ControllerEvent.TheVariants as of_controller
use Rattle.world_core.specs.declared.event.SwitchEvent.TheVariants as of_switch
use Rattle.world_core.specs.Worlds.{WorldValue}
use Rattle.world_core.specs.Ends.{new_end}
use Rattle.world_core.specs.Channels.{newest_at}
use Rattle.world_core.specs.Steps.{Step}
use Rattle.world_journal.specs.Calls.{has_put}
use Rattle.world_journal.specs.Runs.{RunValue, waits}

-- What a session sends and what a switch answers is always put on the channel.
pub record SentIsPut : Type 0 where
  pub sent : (w v : WorldValue) (s : ℕ) → Step w (event.Controller (of_controller.Send s)) v →
      has_put side.Controller s w v ≡ true
  pub replied : (w v : WorldValue) (s : ℕ) → Step w (event.Switch (of_switch.Reply s)) v →
      has_put side.Switch s w v ≡ true

-- Where a switch has not begun, its HELLO waits, and is handed out first.
pub record HelloWaits (E : Type 0) : Type 0 where
  pub newest : (run : RunValue E) (s capacity sw : ℕ) →
      slice_get run.held.world.fleet.wired s ≡ Some (new_end capacity sw) →
      newest_at run.held.world side.Switch s ≡ Some (to.Hello 1 0)
  pub waiting : (run : RunValue E) (s capacity sw : ℕ) →
      slice_get run.held.world.fleet.wired s ≡ Some (new_end capacity sw) → slice_get run.back_waits s ≡ Some true →
      waits run side.Switch s ≡ true
