-- What a store tells at once of each of its diagrams.
use Rattle.std.specs.Prelude.{◌≡◌, ℕ, ◌<◌, List, slice_get, Some, true, if◌then◌else◌, ◌==◌}
use Rattle.nk_values.specs.declared.field.Field.{Field}
use Rattle.nk_values.specs.declared.lit.Lit.{Lit}
use Rattle.nk_values.specs.Lits.{lit_field}
use Rattle.nk_values.specs.Members.{IsIn}
use Rattle.nk_values.specs.Ranges.{place}
use Rattle.fdd_nodes.specs.Trees.{Tree, Leaf, Node, Assigns}
use Rattle.fdd_store.specs.declared.digest.Digest.{Digest}
use Rattle.fdd_store.specs.declared.fields.Fields.{Fields}
use Rattle.fdd_store.specs.Sets.{has}
use Rattle.fdd_store.specs.Stores.{Kept, Has, tree_at}

-- where the tests of a field at the front lead that do not hold, by the field's place
abbrev pub behind : ℕ → Tree → Tree
behind f (Leaf cs) = Leaf cs
behind f (Node l t e) = if place (lit_field l) == f then behind f e else Node l t e

-- some of the literals is of the field
pub record IsFieldOf (ls : List Lit) (f : Field) : Type 0 where
  pub lit : Lit
  pub among : IsIn ls lit
  pub field : lit_field lit ≡ f

-- some literal of the field is assigned
pub record SetsField (t : Tree) (f : Field) : Type 0 where
  pub lit : Lit
  pub assigned : Assigns t lit
  pub field : lit_field lit ≡ f

-- the fields that the diagram assigns
pub record SetsAre (t : Tree) (s : Fields) : Type 0 where
  pub each : (m : Lit) → Assigns t m → has s (lit_field m) ≡ true
  pub only : (f : Field) → has s f ≡ true → SetsField t f

-- of the diagram t, of a place n or of the next one: where the tests of its first field lead, and the fields that it
-- assigns
pub record IsDigest (k : Kept) (n : ℕ) (t : Tree) (e : Digest) : Type 0 where
  pub leads : (l : Lit) (x y : Tree) → t ≡ Node l x y → (e.behind < n) ×
      (tree_at k e.behind ≡ behind (place (lit_field l)) t)
  pub sets : SetsAre t e.sets

-- the digest of a place
pub record DigestAt (k : Kept) (es : List Digest) (i : ℕ) : Type 0 where
  pub digest : Digest
  pub there : slice_get es i ≡ Some digest
  pub right : IsDigest k i (tree_at k i) digest

abbrev pub AreDigests : Kept → List Digest → Type 0
AreDigests k es = (i : ℕ) → Has k i → DigestAt k es i
