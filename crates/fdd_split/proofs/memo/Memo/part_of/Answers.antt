use Rattle.fdd_split.specs.Memos.{IsPartEntry}
use Rattle.fdd_split.proofs.KeptLaws.{found_right, key_eq, part_to, part_back}
use Rattle.fdd_split.proofs.memo.Memo.part_of.Goals as goal

pub returns : goal.returns
returns c = λ k h. found_right key_eq (IsPartEntry k) (part_to k) (part_back k) c.args.key.now _ _ h.parts c.get.ensures.value
