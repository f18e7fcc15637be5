use Rattle.std.proofs.Common.{◌∙◌}
use Rattle.fdd_store.specs.Stores.{tree_at}
use Rattle.fdd_apart.proofs.ApartLaws.{alone_by}
use Rattle.fdd_apart.proofs.outputs.lone_output.Goals as goal

pub returns : goal.returns
returns c = alone_by (tree_at c.args.store.now c.args.a) (tree_at c.args.store.now c.args.b) c.args.packet.now _ _ c.lone_outcome.result (c.copies.ensures.list ∙ c.leaf_on-leaf.ensures) (c.copies-2.ensures.list ∙ c.leaf_on-other.ensures) c.lone_outcome.ensures
