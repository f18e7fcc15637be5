use Rattle.std.proofs.Common.{inl, inr, refl, sym, ◌∙◌}
use Rattle.std.proofs.lemmas.Bool.{false≢true}
use Rattle.fdd_nodes.specs.Names.{literals}
use Rattle.fdd_nodes.specs.Trees.{tree}
use Rattle.fdd_differ.proofs.NameLaws.{names_left, names_right, names_either, tree_names}
use Rattle.fdd_differ.proofs.names.PairNames.has.Goals as goal

pub returns-then-node_has : goal.returns-then-node_has
returns-then-node_has c = (
  λ h. names_left (literals (tree c.args.self.now.a.now)) (literals (tree c.args.self.now.b.now)) _ _ ((tree_names (tree c.args.self.now.a.now) _ _).0 (c.node_has.ensures.0 c.if-node_has.true)),
  λ h. refl,
)

pub returns : goal.returns
returns c = (
  λ h. names_right (literals (tree c.args.self.now.a.now)) (literals (tree c.args.self.now.b.now)) _ _ ((tree_names (tree c.args.self.now.b.now) _ _).0 (c.node_has-2.ensures.0 h)),
  λ h. elim (names_either (literals (tree c.args.self.now.a.now)) (literals (tree c.args.self.now.b.now)) _ _ h) [
    | inl k ↦ absurd (false≢true (sym c.if-node_has.false ∙ c.node_has.ensures.1 ((tree_names (tree c.args.self.now.a.now) _ _).1 k)))
    | inr k ↦ c.node_has-2.ensures.1 ((tree_names (tree c.args.self.now.b.now) _ _).1 k)
  ],
)
