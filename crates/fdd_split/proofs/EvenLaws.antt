-- Leaves of at most one copy have no threat.
use Rattle.std.proofs.Common.{◌≡◌, ◌≤◌, inl, inr, refl, sym, ◌∙◌, subst, arith, List, [], ◌∷◌, length}
use Rattle.nk_values.specs.declared.lit.Lit.{Lit}
use Rattle.nk_values.specs.Members.{IsIn}
use Rattle.fdd_nodes.specs.Trees.{Leaf}
use Rattle.fdd_split.specs.declared.bars.Bar.{Bar}
use Rattle.fdd_split.specs.Threats.{HasNoThreat, IsAlone}

alone_itself : (c : List Lit) (x : Lit) → ¬ IsAlone c c x
alone_itself c x (inl a) = a.1 x a.0 refl
alone_itself c x (inr a) = a.1 x a.0 refl

only_one : (cs : List (List Lit)) (c d : List Lit) → length cs ≤ 1 → IsIn cs c → IsIn cs d → c ≡ d
only_one [] c d h i j = absurd i
only_one (x ∷ []) c d h (inl i) (inl j) = sym i ∙ j
only_one (x ∷ []) c d h (inl i) (inr j) = absurd j
only_one (x ∷ []) c d h (inr i) j = absurd i
only_one (x ∷ y ∷ ys) c d h i j = absurd (omega (arith, h))

pub single_none : (k : List Bar) (cs : List (List Lit)) → length cs ≤ 1 → HasNoThreat k (Leaf cs)
single_none k cs h x t =
    alone_itself t.one x (subst (λ (d : List Lit). IsAlone t.one d x) (sym (only_one cs t.one t.other h t.has_one t.has_other)) t.alone)
