use Rattle.std.proofs.Common.{◌≡◌, take}
use Rattle.update_coordinator.specs.Batches.{internal_of}
use Rattle.update_coordinator.proofs.planned.internal_of.Given as goal

abbrev pub invariant-loop-version : goal.invariant-loop-version
invariant-loop-version l = l.rows.items ≡ internal_of (take l.version-index l.versions) l.sw
