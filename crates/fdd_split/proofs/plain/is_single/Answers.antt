use Rattle.std.proofs.Common.{rules, ◌≤◌, length}
use Rattle.fdd_split.proofs.EvenLaws.{single_none}
use Rattle.fdd_split.proofs.PlainLaws.{plain_leaf}
use Rattle.fdd_split.proofs.plain.is_single.Goals as goal

pub returns-in-Leaf : goal.returns-in-Leaf
returns-in-Leaf c = λ z.
    let few : length c.copies.result.now ≤ 1 = search rules in
    plain_leaf _ _ _ c.leaf.ensures c.copies.ensures.list (single_none _ _ few)
