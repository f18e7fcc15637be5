use Rattle.std.proofs.Common.{take}
use Rattle.fdd_split.specs.Pairs.{IsFirstOf}
use Rattle.fdd_split.proofs.FieldLaws.{LeafThreat}
use Rattle.fdd_split.proofs.leaves.leaf_threat.Given as goal

abbrev pub invariant-loop-field : goal.invariant-loop-field
invariant-loop-field l = IsFirstOf (LeafThreat l.bars l.copies (take l.field-index l.field-items)) l.first
