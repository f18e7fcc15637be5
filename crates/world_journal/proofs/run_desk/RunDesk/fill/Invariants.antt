use Rattle.world_journal.specs.Calls.{IsUnmoved}
use Rattle.world_journal.proofs.run_desk.RunDesk.fill.Given as goal

abbrev pub invariant-loop : goal.invariant-loop
invariant-loop g l = IsUnmoved l.initial.seat.worker l.seat.worker l.initial.seat.share.parts l.seat.share.parts
