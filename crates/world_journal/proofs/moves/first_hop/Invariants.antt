use Rattle.std.proofs.Common.{ℕ, ◌<◌}
use Rattle.world_core.specs.declared.event.Event.TheVariants as event
use Rattle.world_core.specs.declared.event.PacketEvent.TheVariants as of_packet
use Rattle.world_core.specs.Steps.{IsEnabled}
use Rattle.world_journal.proofs.moves.first_hop.Given as goal

abbrev pub invariant-loop-place : goal.invariant-loop-place
invariant-loop-place l = (k : ℕ) → k < l.place → ¬ IsEnabled l.world (event.Packet (of_packet.Hop k))
