use Rattle.std.proofs.Common.{◌≡◌, drop, ◌++◌}
use Rattle.leaf_actions.specs.Staying.{AllClimb, stayed}
use Rattle.leaf_actions.proofs.staying.stayed.Given as goal

abbrev pub invariant-loop-copy : goal.invariant-loop-copy
invariant-loop-copy l = record {
  made : l.actions ++ stayed l.view l.cell l.known l.kind l.port (drop l.copy-index l.copies) ≡ stayed l.view l.cell l.cell l.view.kind l.port l.copies;
  climbs : AllClimb l.cell l.known (drop l.copy-index l.copies);
}
