use Rattle.std.proofs.Common.{◌≡◌, nat_eq, Some, None, option_map, sym, ap, ◌∙◌}
use Rattle.std.specs.List.{filter}
use Rattle.std.specs.HashMap.{get}
use Rattle.flight_queues.specs.Merged.{queue_copies, flights_of, stands_at}
use Rattle.flight_queues.proofs.Lists.{read-list}
use Rattle.flight_queues.proofs.Lending.{none-there, all-there}
use Rattle.flight_queues.proofs.flights.Flights.queue.Goals as goal

pub returns-in_err-place : goal.returns-in_err-place
returns-in_err-place c =
    let none : get nat_eq c.self.inside.places c.args.switch ≡ None = sym c.in_err-place.ensures.value in
    ap (λ o. queue_copies (option_map (λ q. q.now) o)) c.from_residual.ensures
    ∙ sym (none-there (get nat_eq c.self.inside.places) c.self.inside.queues.items c.self.inside.marks.items c.self.inside.next c.self.invariant c.args.switch none)
    ∙ ap (filter (stands_at c.args.switch)) c.self.view_is

pub returns : goal.returns
returns c =
    let place = c.in_ok-place.place.now in
    let here : get nat_eq c.self.inside.places c.args.switch ≡ Some place = sym c.in_ok-place.ensures.value in
    let there = c.self.invariant.within c.args.switch place here in
    ap flights_of (read-list c.self.inside.queues.items place c.index.result.now there c.index.ensures)
    ∙ all-there (get nat_eq c.self.inside.places) c.self.inside.queues.items c.self.inside.marks.items c.self.inside.next c.self.invariant c.args.switch place here
    ∙ ap (filter (stands_at c.args.switch)) c.self.view_is
