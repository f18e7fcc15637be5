use Rattle.std.proofs.Common.{◌-◌, ℕ, List, length, sym, subst, arith}
use Rattle.workload_gen.specs.Counts.{AreCounts, Finds}
use Rattle.workload_gen.specs.Draws.{tried_from}
use Rattle.workload_gen.proofs.Found.{along-skip, finds-all}
use Rattle.workload_gen.proofs.finding.switch_event_by.Goals as goal

pub switch_event_from-requires-clause-number : goal.switch_event_from-requires-clause-number
switch_event_from-requires-clause-number c = let left = c.skip-start.ensures.left in omega (arith, left, c.requires.number)

pub switch_event_from-requires-clause-counts : goal.switch_event_from-requires-clause-counts
switch_event_from-requires-clause-counts c = subst (λ (xs : List ℕ). AreCounts c.args.world.now xs) (sym c.counts.ensures) c.requires.counts

pub returns : goal.returns
returns c =
    let w = c.args.world.now in
    let counts = c.args.tally.now in
    let start = c.skip-start.result.0 in
    let left = c.skip-start.result.1 in
    let found = c.switch_event_from.result in
    finds-all w counts c.args.number found c.requires.counts
    (along-skip w counts start left c.args.number c.requires.counts c.skip-start.ensures.start c.skip-start.ensures.left c.requires.number found
    (subst (λ (xs : List ℕ). Finds w (tried_from w start (length xs - start)) left found) c.counts.ensures c.switch_event_from.ensures))
