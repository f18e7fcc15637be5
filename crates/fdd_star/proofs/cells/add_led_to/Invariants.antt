use Rattle.fdd_store.specs.Stores.{tree_at}
use Rattle.fdd_star.proofs.LeadLaws.{Closes}
use Rattle.fdd_star.proofs.cells.add_led_to.Given as goal

abbrev pub invariant-loop-i : goal.invariant-loop-i
invariant-loop-i l = Closes (tree_at l.store l.p) l.cell l.i l.cells.keys
