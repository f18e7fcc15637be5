-- Parts of a cell that literals share.
use Rattle.std.specs.Prelude.{◌≡◌, ◌⊎◌, ℕ, Bool, List, [], ◌++◌}
use Rattle.nk_values.specs.declared.field.Field.{Field}
use Rattle.nk_values.specs.declared.packet.Packet.{Packet}
use Rattle.nk_values.specs.declared.lit.Lit.{Lit}
use Rattle.nk_values.specs.Held.{put}
use Rattle.nk_values.specs.Lits.{lit_field}
use Rattle.nk_values.specs.Members.{IsIn}
use Rattle.fdd_nodes.specs.Trees.{Tree}
use Rattle.fdd_star.specs.declared.shared.SharedParts.{SharedParts}
use Rattle.fdd_star.specs.Kept.{EachIs}
use Rattle.fdd_star.specs.Reaches.{StarBut}
use Rattle.fdd_store.specs.Operations.{CofactorOf}
use Rattle.fdd_store.specs.contracts.id.IdPartialEq.TheImpl as id_impl
use Rattle.fdd_store.specs.Stores.{Kept, Has, Gives, tree_at}

-- where any literal of the field f holds that leaves q of p, the store's diagram a is the star of p, after the copy s,
-- on the packets of the cell c that hold none of ls
pub record IsShared (k : Kept) (s : List Lit) (p : Tree) (c : Packet) (ls : List Lit) (f : Field) (q a : ℕ) : Type 0
  where
    pub has : Has k q
    pub star : (l : Lit) → lit_field l ≡ f → CofactorOf l p (tree_at k q) → Gives k a (StarBut s p (put l c) ls)

abbrev pub AreShared : Kept → List Lit → Tree → Packet → List Lit → SharedParts → Type 0
AreShared k s p c ls a = EachIs (IsShared k s p c ls a.field) a.parts.entries

abbrev pub id_eq : ℕ → ℕ → Bool
id_eq = id_impl.eq-value.it

-- new has the field, and what old has of it
pub record MovesTo (f : Field) (old new : SharedParts) : Type 0 where
  pub field : new.field ≡ f
  pub kept : ((old.field ≡ f) × (new.parts.entries ≡ old.parts.entries)) ⊎ (new.parts.entries ≡ [])

-- after the literals of old, new has those of asked which were not there
pub record IsLeft (old asked new left : List Lit) : Type 0 where
  pub joined : new ≡ old ++ left
  pub has : (m : Lit) → IsIn asked m → IsIn new m
  pub only : (m : Lit) → IsIn left m → IsIn asked m
