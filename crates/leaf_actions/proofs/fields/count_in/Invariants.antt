use Rattle.std.proofs.Common.{◌≡◌, ◌+◌, ◌≤◌, drop}
use Rattle.leaf_actions.specs.Changes.{fixes, count_of}
use Rattle.leaf_actions.proofs.fields.count_in.Given as goal

abbrev pub invariant-loop-f : goal.invariant-loop-f
invariant-loop-f l = record {
  counted : l.count + count_of (fixes l.cell l.later) (drop l.f-index l.fields) ≡ count_of (fixes l.cell l.later) l.fields;
  few : l.count ≤ l.f-index;
}
