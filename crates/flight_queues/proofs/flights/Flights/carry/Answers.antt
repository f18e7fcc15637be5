use Rattle.std.proofs.Common.{drop, rules}
use Rattle.std.proofs.lemmas.Iterator.Search.{any_from_yields_List}
use Rattle.std.proofs.lemmas.Iterator.Consumers.{YieldsList-from_first}
use Rattle.flight_queues.specs.declared.copies.Copies.{Copies}
use Rattle.flight_queues.specs.Merged.{carries}
use Rattle.flight_queues.proofs.flights.Flights.carry.Goals as goal

pub returns : goal.returns
returns c =
    let all = YieldsList-from_first (λ x. x.now) (λ (s : Copies). drop s.place s.flights.now) {s = c.iter.result} c.args.self.now (λ i. drop (c.iter.ensures.place i) (c.iter.ensures.flights i)) in
    any_from_yields_List (carries c.args.stamp) c.any.new.self _ c.any.result c.any.ensures.ran all (λ x b q k. search rules)
