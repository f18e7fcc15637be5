-- What a diagram asks of a packet, and visits.
use Rattle.std.specs.Prelude.{◌≡◌, ◌⊎◌, ℕ, List, [], ◌++◌, Some, length, map, slice_get}
use Rattle.nk_values.specs.declared.packet.Packet.{Packet}
use Rattle.nk_values.specs.declared.lit.Lit.{Lit}
use Rattle.nk_values.specs.Held.{Holds}
use Rattle.nk_values.specs.Lits.{lit_field}
use Rattle.nk_values.specs.Members.{IsIn}
use Rattle.fdd_nodes.specs.Cells.{IsUnset}
use Rattle.fdd_nodes.specs.Trees.{Tree, Leaf, Node, apply, leaf_at}
use Rattle.fdd_star.specs.declared.keys.Key.{Key}
use Rattle.fdd_star.specs.declared.visits.Successor.{Successor}
use Rattle.fdd_star.specs.declared.visits.Visit.{Visit}
use Rattle.fdd_star.specs.declared.visits.Visits.{Visits}
use Rattle.fdd_store.specs.Stores.{Kept, Has, tree_at}

-- the literal is tested on the packet's path, at a field that nothing fixes
abbrev pub Asks : Tree → Packet → Lit → Type 0
Asks (Leaf cs) q m = ⊥
Asks (Node l t e) q m = ((IsUnset q (lit_field l)) × (l ≡ m))
    ⊎ ((Holds q l × Asks t q m) ⊎ ((¬ Holds q l) × Asks e q m))

-- new has what is asked on the packet's path, beside what old has
pub record AsksMore (t : Tree) (q : Packet) (old new : List Lit) : Type 0 where
  pub kept : (m : Lit) → IsIn old m → IsIn new m
  pub has : (m : Lit) → Asks t q m → IsIn new m
  pub only : (m : Lit) → IsIn new m → IsIn old m ⊎ Asks t q m

-- the place is the leaf on the packet's path
pub record ComesTo (k : Kept) (t : Tree) (q : Packet) (r : ℕ) : Type 0 where
  pub has : Has k r
  pub is : tree_at k r ≡ Leaf (leaf_at t q)

-- the place is the leaf on the packet's path, and new has what is asked on the way beside what old has
pub record Walks (k : Kept) (t : Tree) (q : Packet) (old new : List Lit) (r : ℕ) : Type 0 where
  pub leaf : ComesTo k t q r
  pub asked : AsksMore t q old new

-- the cells of diagrams, by their numbers
abbrev pub numbered : Visits → List Key
numbered v = v.cells.keys

-- the number is that of the cell of a packet that comes to a diagram
abbrev pub IsNumberOf : List Key → ℕ → Packet → ℕ → Type 0
IsNumberOf keys d q n = slice_get keys n ≡ Some (record { diagram = d; cell = q })

-- no two numbers are of one cell
abbrev pub AreApart : List Key → Type 0
AreApart keys = (n m : ℕ) (key : Key) → slice_get keys n ≡ Some key → slice_get keys m ≡ Some key → n ≡ m

-- cells keep their numbers, and more come after them
abbrev pub KeepsNumbers : Visits → Visits → Type 0
KeepsNumbers old new = (more : List Key) × (numbered new ≡ numbered old ++ more)

abbrev pub copy_of : Successor → List Lit
copy_of s = s.copy

-- the visit has the copies of the leaf on the packet's path, each with the number of what it makes of the packet, and
-- what is asked on the way
pub record IsVisitAt (k : Kept) (keys : List Key) (d : ℕ) (q : Packet) (v : Visit) : Type 0 where
  pub has : Has k d
  pub asked : AsksMore (tree_at k d) q [] v.asked.items
  pub copies : map copy_of v.successors.items ≡ leaf_at (tree_at k d) q
  pub numbers : (s : Successor) → IsIn v.successors.items s → IsNumberOf keys d (apply s.copy q) s.number

-- each cell has one number, and each visit is right for its cell
pub record AreVisits (k : Kept) (v : Visits) : Type 0 where
  pub apart : AreApart (numbered v)
  pub count : length v.known.items ≡ length (numbered v)
  pub right : (n d : ℕ) (q : Packet) (w : Visit) → IsNumberOf (numbered v) d q n →
      slice_get v.known.items n ≡ Some (Some w) → IsVisitAt k (numbered v) d q w
