-- What is kept of diagrams.
use Rattle.std.specs.Prelude.{◌≡◌, ℕ, Bool, List, [], ◌∷◌, Option, Some, IsTrue, slice_get}
use Rattle.nk_values.specs.declared.lit.Lit.{Lit}
use Rattle.fdd_nodes.specs.Trees.{Tree, Leaf, Node, tree}
use Rattle.fdd_store.specs.NodeLists.{AreNodes}
use Rattle.fdd_store.specs.Stores.{Kept, Has, tree_at}
use Rattle.fdd_split.specs.declared.memo.Key.{Key}
use Rattle.fdd_split.specs.declared.memo.Part.{Part}
use Rattle.fdd_split.specs.declared.memo.Memo.{Memo}
use Rattle.fdd_split.specs.Divides.{Divides}
use Rattle.fdd_split.specs.Pairs.{IsFirstOf}
use Rattle.fdd_split.specs.Threats.{Threat, HasNoThreat}

-- in no leaf do two copies give one packet, whatever is barred
abbrev pub IsPlain : Tree → Type 0
IsPlain (Leaf cs) = HasNoThreat [] (Leaf cs)
IsPlain (Node l t e) = IsPlain t × IsPlain e

-- what is kept for each key is right for it
abbrev pub EachIs : {K V : Type 0} → (K → V → Type 0) → List (K × V) → Type 0
EachIs P [] = Unit {0}
EachIs P (e ∷ es) = P e.0 e.1 × EachIs P es

abbrev pub IsPlainEntry : Kept → ℕ → Bool → Type 0
IsPlainEntry k a b = Has k a × (IsTrue b → IsPlain (tree_at k a))

-- what is known of each place is right for it
abbrev pub ArePlainEntries : Kept → List (Option Bool) → Type 0
ArePlainEntries k known = (a : ℕ) (b : Bool) → slice_get known a ≡ Some (Some b) → IsPlainEntry k a b

abbrev pub IsThreatEntry : Kept → Key → Option Lit → Type 0
IsThreatEntry k key o = Has k key.diagram × IsFirstOf (Threat key.bars.items (tree_at k key.diagram)) o

abbrev pub IsPartEntry : Kept → Key → Part → Type 0
IsPartEntry k key r = Has k key.diagram × Divides key.bars.items (tree_at k key.diagram) (tree r.root.value)

pub record AreKept (k : Kept) (m : Memo) : Type 0 where
  pub plain : ArePlainEntries k m.plain.items
  pub threats : EachIs (IsThreatEntry k) m.threats.entries
  pub parts : EachIs (IsPartEntry k) m.parts.entries
  pub nodes : AreNodes k m.nodes
