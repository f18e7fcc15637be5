-- Diagrams in which no two copies of a leaf give one packet.
use Rattle.std.proofs.Common.{◌≡◌, inl, inr, sym, subst, List, []}
use Rattle.nk_values.specs.declared.lit.Lit.{Lit}
use Rattle.nk_values.specs.Members.{IsIn}
use Rattle.fdd_nodes.specs.Roots.{IsLeaf}
use Rattle.fdd_nodes.specs.Trees.{Tree, Leaf, Node}
use Rattle.fdd_nodes.proofs.SplitLaws.{leaf_at-then, leaf_at-else}
use Rattle.fdd_split.specs.declared.bars.Bar.{Bar}
use Rattle.fdd_split.specs.Memos.{IsPlain}
use Rattle.fdd_split.specs.Threats.{HasNoThreat}
use Rattle.fdd_split.proofs.AnswerLaws.{holds_or}
use Rattle.fdd_split.proofs.ThreatLaws.{threat_less}

-- nothing threatens a plain diagram, whatever is barred
pub plain_none : (k : List Bar) (a : Tree) → IsPlain a → HasNoThreat k a
plain_none k (Leaf cs) h x w = h x (threat_less [] k (Leaf cs) x (λ y b. absurd b) w)
plain_none k (Node l t e) h x w = elim (holds_or w.packet l) [
  | inl y ↦ plain_none k t h.0 x (record {
    packet = w.packet;
    clear = w.clear;
    one = w.one;
    other = w.other;
    has_one = subst (λ (z : List (List Lit)). IsIn z w.one) (leaf_at-then l t e w.packet y) w.has_one;
    has_other = subst (λ (z : List (List Lit)). IsIn z w.other) (leaf_at-then l t e w.packet y) w.has_other;
    same = w.same;
    alone = w.alone;
  })
  | inr n ↦ plain_none k e h.1 x (record {
    packet = w.packet;
    clear = w.clear;
    one = w.one;
    other = w.other;
    has_one = subst (λ (z : List (List Lit)). IsIn z w.one) (leaf_at-else l t e w.packet n) w.has_one;
    has_other = subst (λ (z : List (List Lit)). IsIn z w.other) (leaf_at-else l t e w.packet n) w.has_other;
    same = w.same;
    alone = w.alone;
  })
]

pub plain_leaf : (a : Tree) (cs ds : List (List Lit)) → a ≡ Leaf cs → ds ≡ cs → HasNoThreat [] (Leaf ds) → IsPlain a
plain_leaf a cs ds e s h =
    subst (λ (z : Tree). IsPlain z) (sym e) (subst (λ (z : List (List Lit)). HasNoThreat [] (Leaf z)) s h)

pub plain_of_leaf : (a : Tree) → IsLeaf a → HasNoThreat [] a → IsPlain a
plain_of_leaf (Leaf cs) is h = h
plain_of_leaf (Node l t e) is h = absurd is
