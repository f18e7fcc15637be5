use Rattle.std.proofs.Common.{◌≡◌, drop, ◌++◌}
use Rattle.leaf_actions.specs.Moves.{moved}
use Rattle.leaf_actions.proofs.moves.moved.Given as goal

abbrev pub invariant-loop-route : goal.invariant-loop-route
invariant-loop-route l = l.actions ++ moved l.view l.kind (drop l.route-index l.routes) ≡ moved l.view l.view.kind l.routes
