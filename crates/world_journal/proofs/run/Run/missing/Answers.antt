use Rattle.std.proofs.Common.{rules, arith}
use Rattle.world_journal.specs.Moves.{IsMissing}
use Rattle.world_journal.proofs.Searching.{none-more}
use Rattle.world_journal.proofs.run.Run.missing.Goals as goal

pub loop-place-init : goal.loop-place-init
loop-place-init g c = λ k l may. absurd (omega (arith, l))

pub loop-place-preserved : goal.loop-place-preserved
loop-place-preserved g c = none-more (λ k. IsMissing k c.args.self.now) c.loop-place.place c.loop-place.invariant
    (λ may. search (rules, c.is_missing.ensures, c.if-is_missing.false, c.world.ensures, may))
