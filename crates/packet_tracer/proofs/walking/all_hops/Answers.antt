use Rattle.std.proofs.Common.{◌≡◌, ◌≤◌, [], length, sym, ◌∙◌, arith}
use Rattle.std.proofs.lemmas.Bool.Decides.{nat_tests}
use Rattle.packet_tracer.specs.Advances.{flights_after}
use Rattle.packet_tracer.proofs.WalkLaws.{none_in, stopped}
use Rattle.packet_tracer.proofs.walking.all_hops.Goals as goal

pub returns-then-is_empty-clause-finished : goal.returns-then-is_empty-clause-finished
returns-then-is_empty-clause-finished c =
    let few : length c.loop-hop.hopped.flights.items ≡ 0 = grind (arith, nat_tests, c.loop-hop.hopped.flights.ok.0) in
    let none : flights_after c.args.rows.now.ports c.args.topology.now c.args.flight c.loop-hop._hop ≡ [] = sym c.loop-hop.invariant.flights ∙ none_in c.loop-hop.hopped.flights.items few in
    let before : c.loop-hop._hop ≤ c.args.hops = omega arith in
    c.loop-hop.invariant.finished ∙ sym (stopped c.args.rows.now.ports c.args.topology.now c.args.flight c.loop-hop._hop c.args.hops before none).1

pub returns-then-is_empty-clause-flights : goal.returns-then-is_empty-clause-flights
returns-then-is_empty-clause-flights c =
    let few : length c.loop-hop.hopped.flights.items ≡ 0 = grind (arith, nat_tests, c.loop-hop.hopped.flights.ok.0) in
    let empty = none_in c.loop-hop.hopped.flights.items few in
    let before : c.loop-hop._hop ≤ c.args.hops = omega arith in
    empty ∙ sym (stopped c.args.rows.now.ports c.args.topology.now c.args.flight c.loop-hop._hop c.args.hops before (sym c.loop-hop.invariant.flights ∙ empty)).0
