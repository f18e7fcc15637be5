use Rattle.std.proofs.Common.{refl}
use Rattle.fdd_star.proofs.NumberLaws.{visits_put}
use Rattle.fdd_star.proofs.visits.Visits.keep.Goals as goal

pub returns-clause-visits : goal.returns-clause-visits
returns-clause-visits c = λ k d q h i w. visits_put k c.args.self.now _ c.args.number d q c.args.visit refl refl h i w
