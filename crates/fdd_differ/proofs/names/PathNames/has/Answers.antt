use Rattle.std.proofs.Common.{inl, inr, refl, sym, ◌∙◌, subst, List}
use Rattle.std.proofs.lemmas.Bool.{false≢true}
use Rattle.nk_values.specs.declared.lit.Lit.{Lit}
use Rattle.fdd_differ.specs.Unnamed.{NamesAt}
use Rattle.fdd_differ.proofs.NameLaws.{names_left, names_right, names_either}
use Rattle.fdd_differ.proofs.names.PathNames.has.Goals as goal

pub returns-then-list_has : goal.returns-then-list_has
returns-then-list_has c = (
  λ h. names_left _ _ _ _ (subst (λ (x : List Lit). NamesAt x c.args.f c.args.value) c.trues.ensures (c.list_has.ensures.0 c.if-list_has.true)),
  λ h. refl,
)

pub returns : goal.returns
returns c = (
  λ h. names_right c.args.self.now.trues _ _ _ (subst (λ (x : List Lit). NamesAt x c.args.f c.args.value) c.falses.ensures (c.list_has-2.ensures.0 h)),
  λ h. elim (names_either c.args.self.now.trues c.args.self.now.falses _ _ h) [
    | inl k ↦ absurd (false≢true (sym c.if-list_has.false ∙ c.list_has.ensures.1 (subst (λ (x : List Lit). NamesAt x c.args.f c.args.value) (sym c.trues.ensures) k)))
    | inr k ↦ c.list_has-2.ensures.1 (subst (λ (x : List Lit). NamesAt x c.args.f c.args.value) (sym c.falses.ensures) k)
  ],
)
