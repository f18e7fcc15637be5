use Rattle.fdd_nodes.specs.Cells.{whole_cell}
use Rattle.fdd_nodes.proofs.AfterLaws.{apply-push}
use Rattle.fdd_nodes.proofs.path.Path.push_true.Goals as goal

pub invariant_of-self-2 : goal.invariant_of-self-2
invariant_of-self-2 c = rw c.in_ok-push.ensures.items (rw (apply-push c.self.inside.trues.items c.args.l.now whole_cell) cc)
