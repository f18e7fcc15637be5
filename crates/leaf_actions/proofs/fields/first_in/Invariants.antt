use Rattle.std.proofs.Common.{◌≡◌, drop}
use Rattle.leaf_actions.specs.Changes.{goes_beyond, first_of_fields}
use Rattle.leaf_actions.proofs.fields.first_in.Given as goal

abbrev pub invariant-loop-f : goal.invariant-loop-f
invariant-loop-f l = first_of_fields (goes_beyond l.cell l.a l.b) (drop l.f-index l.fields) ≡ first_of_fields (goes_beyond l.cell l.a l.b) l.fields
