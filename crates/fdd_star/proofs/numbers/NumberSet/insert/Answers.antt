use Rattle.std.specs.Prelude.{slice_set}
use Rattle.std.proofs.Common.{ℕ, List, true, sym, subst}
use Rattle.fdd_star.specs.Marks.{AreMarks}
use Rattle.fdd_star.proofs.MarkLaws.{marks_kept, marks_put}
use Rattle.fdd_star.proofs.numbers.NumberSet.insert.Goals as goal

pub invariant_of-self-2 : goal.invariant_of-self-2
invariant_of-self-2 c =
    subst (λ (ns : List ℕ). AreMarks ns (slice_set c.grow.new.marks.items c.args.number true)) (sym c.in_ok-push.ensures.items)
    (marks_put _ _ _ (marks_kept _ _ _ c.self.invariant c.in_ok-grow.ensures.marks) c.in_ok-grow.ensures.len)
