use Rattle.std.proofs.Common.{refl, sym, ◌∙◌}
use Rattle.fdd_star.proofs.NumberLaws.{key_of, new_numbered, old_numbered}
use Rattle.fdd_star.proofs.visits.Visits.number.Goals as goal

pub returns-in_ok-push-clause-visits : goal.returns-in_ok-push-clause-visits
returns-in_ok-push-clause-visits c =
    λ k h. new_numbered c.args.self.now _ (key_of c.args.diagram c.args.here.now) c.in_ok-number.ensures.keys k (sym c.if-is_new.true ∙ c.in_ok-number.ensures.added) c.in_ok-push.ensures.items h

pub returns-else-is_new-clause-visits : goal.returns-else-is_new-clause-visits
returns-else-is_new-clause-visits c =
    λ k h. old_numbered c.args.self.now _ (key_of c.args.diagram c.args.here.now) c.in_ok-number.ensures.keys k (sym c.if-is_new.false ∙ c.in_ok-number.ensures.added) refl h
