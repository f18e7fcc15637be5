use Rattle.std.proofs.lemmas.Bool.{false≢true}
use Rattle.fdd_nodes.proofs.MakesLaws.{if_ok}
use Rattle.fdd_split.proofs.BarLaws.{narrows_same}
use Rattle.fdd_split.proofs.branches.below.Goals as goal

pub returns-else-sets : goal.returns-else-sets
returns-else-sets c = if_ok c.same_bars.result _ _ c.same_bars.ensures (λ r e. narrows_same _ _ _ _ e
    (λ x s b. false≢true (c.if-sets.ensures.1 (record { lit = x; assigned = s; field = c.requires.field x b }))))
