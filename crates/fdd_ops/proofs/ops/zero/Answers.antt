use Rattle.std.proofs.Common.{sym, subst, ap, ◌∙◌}
use Rattle.fdd_nodes.specs.Trees.{Leaf}
use Rattle.fdd_store.specs.Operations.{ZeroOf}
use Rattle.fdd_store.proofs.PlainLaws.{zero_of}
use Rattle.fdd_ops.proofs.ops.zero.Goals as goal

pub returns : goal.returns
returns c = subst ZeroOf (sym (c.new.ensures ∙ ap Leaf c.empty.ensures)) zero_of
