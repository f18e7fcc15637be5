use Rattle.std.proofs.Common.{sym, subst, ◌∙◌, List}
use Rattle.std.proofs.lemmas.Bool.{false≢true}
use Rattle.nk_values.specs.declared.lit.Lit.{Lit}
use Rattle.fdd_nodes.specs.Paths.{HasAll, HasNone}
use Rattle.fdd_nodes.proofs.PathLaws.{all_held, held_all, none_held, held_none}
use Rattle.fdd_nodes.proofs.path.Path.has.Goals as goal

pub returns-then-not-has_all : goal.returns-then-not-has_all
returns-then-not-has_all c = (
  λ h. absurd (false≢true h),
  λ h. absurd (false≢true (sym c.if-not-has_all.true ∙ c.has_all.ensures.1 (subst (λ (x : List Lit). HasAll x c.args.packet.now) (sym c.trues.ensures) (held_all _ _ h.holds)))),
)

pub returns : goal.returns
returns c = (
  λ h. record {
    holds = all_held _ _ (subst (λ (x : List Lit). HasAll x c.args.packet.now) c.trues.ensures (c.has_all.ensures.0 c.if-not-has_all.false));
    fails = none_held _ _ (subst (λ (x : List Lit). HasNone x c.args.packet.now) c.falses.ensures (c.has_none.ensures.0 h));
  },
  λ h. c.has_none.ensures.1 (subst (λ (x : List Lit). HasNone x c.args.packet.now) (sym c.falses.ensures) (held_none _ _ h.fails)),
)
