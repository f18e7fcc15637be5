use Rattle.std.proofs.Common.{◌≡◌, drop, ◌++◌}
use Rattle.leaf_actions.specs.Chains.{Climbs}
use Rattle.leaf_actions.specs.Listing.{listed}
use Rattle.leaf_actions.proofs.made.listed.Given as goal

abbrev pub invariant-loop-route : goal.invariant-loop-route
invariant-loop-route l = record {
  made : l.actions ++ listed l.view l.cell l.known l.kind (drop l.route-index l.routes) ≡ listed l.view l.cell l.cell l.view.kind l.routes;
  climbs : Climbs l.cell l.known (drop l.route-index l.routes);
}
