use Rattle.std.proofs.Common.{◌≡◌, drop}
use Rattle.leaf_actions.specs.Listing.{first_from}
use Rattle.leaf_actions.proofs.pairs.first_from.Given as goal

abbrev pub invariant-loop-b : goal.invariant-loop-b
invariant-loop-b l = first_from l.cell l.a (drop l.b-index l.routes) ≡ first_from l.cell l.a l.routes
