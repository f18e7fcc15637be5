use Rattle.std.proofs.Common.{refl, ap, ◌∙◌}
use Rattle.nk_syntax.specs.Terms as to
use Rattle.nk_syntax.specs.Views.{guard_of}
use Rattle.nk_syntax.proofs.Equations.{term_of-filter, guard_of-not}
use Rattle.netkat_parser.specs.declared.stage.Stage.TheVariants as stage
use Rattle.netkat_parser.specs.declared.reading.Level.TheVariants as level
use Rattle.netkat_parser.specs.Views.{within}
use Rattle.netkat_parser.proofs.Moving.{ends-not, keeps-not, levels-put}
use Rattle.netkat_parser.proofs.reading.Reading.end_not.Goals as goal

pub returns-in-Ok : goal.returns-in-Ok
returns-in-Ok c = λ g star.
    ends-not (within c.args.self.now (stage.Behind c.args.pol c.args.atom) (level.Not c.args.was)) c.args.pol _ c.args.atom c.args.was _ g refl refl
    (λ a e. term_of-filter _ ∙ ap to.Filter (guard_of-not c.in-Ok.pred ∙ ap to.Not (ap guard_of c.in-Ok.ensures.ok ∙ c.pred_of.ensures a e))) star

pub returns-in-Err : goal.returns-in-Err
returns-in-Err c =
    λ g star. (
      λ x h. rw (levels-put _ _ _ _ c.put.ensures refl)
          (keeps-not (within c.args.self.now (stage.Behind c.args.pol c.args.atom) (level.Not c.args.was)) c.args.pol _ c.args.atom c.args.was _
          (λ a e. term_of-filter _ ∙ ap to.Filter (ap guard_of c.in-Err.ensures.value_returned ∙ c.pred_of.ensures a e)) x refl refl h),
      refl,
    )
