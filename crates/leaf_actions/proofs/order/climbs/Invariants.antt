use Rattle.std.proofs.Common.{drop}
use Rattle.std.specs.Prelude.{◌↔◌}
use Rattle.leaf_actions.specs.Chains.{Climbs}
use Rattle.leaf_actions.proofs.order.climbs.Given as goal

abbrev pub invariant-loop-route : goal.invariant-loop-route
invariant-loop-route l = Climbs l.cell l.known (drop l.route-index l.routes) ↔ Climbs l.cell l.cell l.routes
