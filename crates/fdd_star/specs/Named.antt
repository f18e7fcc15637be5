-- What diagrams name.
use Rattle.std.specs.Prelude.{◌≡◌, ℕ, ◌⊎◌, List, []}
use Rattle.nk_values.specs.declared.field.Field.{Field}
use Rattle.nk_values.specs.declared.lit.Lit.{Lit}
use Rattle.nk_values.specs.Lits.{lit_field}
use Rattle.nk_values.specs.Members.{IsIn}
use Rattle.fdd_nodes.specs.Trees.{Tree, Tests, Assigns}
use Rattle.fdd_star.specs.declared.names.Names.{Names}
use Rattle.fdd_store.specs.Stores.{Kept, tree_at}

-- the diagram tests or assigns the literal
abbrev pub NamesLit : Tree → Lit → Type 0
NamesLit t m = Tests t m ⊎ Assigns t m

-- or some literal of the field
abbrev pub NamesField : Tree → Field → Type 0
NamesField t f = (m : Lit) × NamesLit t m × (lit_field m ≡ f)

-- new has what old has, and the literals with the property, and nothing else
pub record Gains (P : Lit → Type 0) (old new : List Lit) : Type 0 where
  pub kept : (m : Lit) → IsIn old m → IsIn new m
  pub has : (m : Lit) → P m → IsIn new m
  pub only : (m : Lit) → IsIn new m → IsIn old m ⊎ P m

-- the literals have each one that the diagram assigns
abbrev pub Covers : List Lit → Tree → Type 0
Covers ls t = (m : Lit) → Assigns t m → IsIn ls m

-- the names of the diagram, and no others
pub record HasNames (t : Tree) (n : Names) : Type 0 where
  pub named : Gains (NamesLit t) [] n.named.keys
  pub assigned : Gains (Assigns t) [] n.assigned.keys

-- the names of each diagram that was gone through are there
pub record AreNamed (k : Kept) (n : Names) : Type 0 where
  pub named : (a : ℕ) → IsIn n.done.keys a → (m : Lit) → NamesLit (tree_at k a) m → IsIn n.named.keys m
  pub assigned : (a : ℕ) → IsIn n.done.keys a → Covers n.assigned.keys (tree_at k a)

-- new has the names of a diagram beside those of old
pub record AddsNames (k : Kept) (t : Tree) (old new : Names) : Type 0 where
  pub named : Gains (NamesLit t) old.named.keys new.named.keys
  pub assigned : Gains (Assigns t) old.assigned.keys new.assigned.keys
  pub done : AreNamed k new
