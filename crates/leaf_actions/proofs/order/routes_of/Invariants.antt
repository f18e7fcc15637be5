use Rattle.std.proofs.Common.{◌≡◌, drop, ◌++◌}
use Rattle.leaf_actions.specs.Routes.{routes_of}
use Rattle.leaf_actions.proofs.order.routes_of.Given as goal

abbrev pub invariant-loop-copy : goal.invariant-loop-copy
invariant-loop-copy l = l.routes.items ++ routes_of l.view l.cell (drop l.copy-index l.copies) ≡ routes_of l.view l.cell l.copies
