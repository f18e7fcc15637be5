use Rattle.workload_gen.proofs.Counted.{total-counts}
use Rattle.workload_gen.proofs.Found.{at-hops, at-last, at-switches}
use Rattle.workload_gen.proofs.finding.event_by.Goals as goal

pub returns-then-number-switches : goal.returns-then-number-switches
returns-then-number-switches c =
    at-switches c.args.world.now c.args.packets.now c.total-switches.result c.args.number c.switch_event_by.result
    (total-counts c.args.world.now c.args.tally.now c.total-switches.result c.requires.counts c.total-switches.ensures) c.if-number-switches.true c.switch_event_by.ensures

pub returns-then-number-hops : goal.returns-then-number-hops
returns-then-number-hops c =
    at-hops c.args.world.now c.args.packets.now c.total-switches.result c.args.hops c.args.number c.hop_by.result
    (total-counts c.args.world.now c.args.tally.now c.total-switches.result c.requires.counts c.total-switches.ensures)
    c.requires.hops c.requires.number c.if-number-switches.false c.if-number-hops.true c.hop_by.ensures

pub returns : goal.returns
returns c =
    at-last c.args.world.now c.args.packets.now c.total-switches.result c.args.hops c.args.number c.in_ok-found.found
    (total-counts c.args.world.now c.args.tally.now c.total-switches.result c.requires.counts c.total-switches.ensures)
    c.requires.hops c.requires.number c.if-number-switches.false c.if-number-hops.false c.in_ok-found.ensures
