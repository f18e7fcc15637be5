use Rattle.std.proofs.Common.{◌≡◌, drop}
use Rattle.leaf_actions.specs.Listing.{first_apart}
use Rattle.leaf_actions.proofs.pairs.first_apart.Given as goal

abbrev pub invariant-loop-i : goal.invariant-loop-i
invariant-loop-i l = first_apart l.cell (drop l.i l.routes) ≡ first_apart l.cell l.routes
