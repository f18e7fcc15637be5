-- What the repetition of a diagram reaches from the packet of a cell.
use Rattle.std.specs.Prelude.{◌≡◌, ℕ, suc, ◌<◌, ◌≤◌, ◌⊎◌, List, [], ◌∷◌, ◌++◌, length, take, drop}
use Rattle.nk_values.specs.declared.packet.Packet.{Packet}
use Rattle.nk_values.specs.declared.lit.Lit.{Lit}
use Rattle.nk_values.specs.Held.{Holds}
use Rattle.nk_values.specs.Lits.{lit_field}
use Rattle.nk_values.specs.Members.{IsIn}
use Rattle.fdd_nodes.specs.Trees.{Tree, apply, outcomes, answers, SameAnswers, Tests, Assigns}
use Rattle.fdd_nodes.specs.Cells.{Agrees, IsUnset}
use Rattle.fdd_nodes.specs.Copies.{IsCopy, after}
use Rattle.fdd_nodes.specs.Normals.{IsNormal}
use Rattle.fdd_star.specs.declared.keys.Key.{Key}
use Rattle.fdd_star.specs.declared.reach.Reach.{Reach}
use Rattle.fdd_star.specs.Asks.{Asks, IsNumberOf}
use Rattle.fdd_star.specs.Stars.{Iterates, AtMost}

abbrev pub reached_copies : Reach → List (List Lit)
reached_copies r = r.copies.items

abbrev pub asked_of : Reach → List Lit
asked_of r = r.asked.keys

-- the numbers are those of what copies make of a packet that comes to a diagram
abbrev pub AreNumbersOf : List Key → ℕ → Packet → List (List Lit) → List ℕ → Type 0
AreNumbersOf keys d c [] [] = Unit {0}
AreNumbersOf keys d c [] (n ∷ ns) = ⊥
AreNumbersOf keys d c (x ∷ xs) [] = ⊥
AreNumbersOf keys d c (x ∷ xs) (n ∷ ns) = IsNumberOf keys d (apply x c) n × AreNumbersOf keys d c xs ns

-- the numbers are those of what the copies make of the cell
abbrev pub IsNumbered : List Key → ℕ → Packet → Reach → Type 0
IsNumbered keys d c r = AreNumbersOf keys d c (reached_copies r) r.numbers

-- the packet holds each of the literals
abbrev pub HoldsAll : Packet → List Lit → Type 0
HoldsAll c ls = (m : Lit) → IsIn ls m → Holds c m

-- the copy x makes the same of a packet whether or not the copy s comes first
abbrev pub Follows : List Lit → List Lit → Type 0
Follows s x = (pk : Packet) → apply x (apply s pk) ≡ apply x pk

-- the first copy alone, and nothing was asked
pub record Starts (s : List Lit) (r : Reach) : Type 0 where
  pub copies : reached_copies r ≡ s ∷ []
  pub asked : asked_of r ≡ []

-- new has the literals among what was asked, beside what old has
pub record AsksAll (ls : List Lit) (old new : Reach) : Type 0 where
  pub kept : (m : Lit) → IsIn (asked_of old) m → IsIn (asked_of new) m
  pub has : (m : Lit) → IsIn ls m → IsIn (asked_of new) m
  pub only : (m : Lit) → IsIn (asked_of new) m → IsIn (asked_of old) m ⊎ IsIn ls m

-- the number was there, or it is last now, and so is the copy x with d after it
pub record NotesNumber (n : ℕ) (x d : List Lit) (old new : Reach) : Type 0 where
  pub asked : asked_of new ≡ asked_of old
  pub which : (IsIn old.numbers n × (new.numbers ≡ old.numbers) ×
      (reached_copies new ≡ reached_copies old))
      ⊎ ((¬ IsIn old.numbers n) × (new.numbers ≡ old.numbers ++ n ∷ []) ×
      (reached_copies new ≡ reached_copies old ++ after x d ∷ []) × IsCopy x)

-- the copy y makes an answer to what the copy x makes, and has only literals of x and what is assigned
pub record IsNextCopy (p : Tree) (c : Packet) (x y : List Lit) : Type 0 where
  pub made : IsIn (answers p (apply x c)) (apply y c)
  pub named : (m : Lit) → IsIn y m → IsIn x m ⊎ Assigns p m
  pub follows : (s : List Lit) → Follows s x → Follows s y

-- Behind the copies of old, new has copies that make the answers to what the copies xs make; and what is asked of
-- these.
pub record Grows (p : Tree) (c : Packet) (xs : List (List Lit)) (old new : Reach) : Type 0 where
  pub more : List (List Lit)
  pub joined : reached_copies new ≡ reached_copies old ++ more
  pub has : (x : List Lit) (q : Packet) → IsIn xs x → IsIn (answers p (apply x c)) q →
      IsIn (outcomes (reached_copies new) c) q
  pub only : (y : List Lit) → IsIn more y → (x : List Lit) × IsIn xs x × IsNextCopy p c x y
  pub late : (y : List Lit) → IsIn more y → ¬ IsIn (outcomes (reached_copies old) c) (apply y c)
  pub kept : (m : Lit) → IsIn (asked_of old) m → IsIn (asked_of new) m
  pub asks : (x : List Lit) (m : Lit) → IsIn xs x → Asks p (apply x c) m → IsIn (asked_of new) m
  pub asked : (m : Lit) → IsIn (asked_of new) m → IsIn (asked_of old) m ⊎
      ((x : List Lit) × IsIn xs x × Asks p (apply x c) m)

-- what p makes of a packet in fewer than n iterations
abbrev pub Fewer : Tree → ℕ → Packet → Packet → Type 0
Fewer p n pk out = (k : ℕ) × (k < n) × Iterates p k pk out

-- After the first copy s and n iterations the copies make exactly what at most n iterations reach from the cell's
-- packet. Those before the place make what fewer do, and what they ask is noted; the others make nothing of that.
pub record IsIterated (s : List Lit) (p : Tree) (c : Packet) (n place : ℕ) (r : Reach) : Type 0 where
  pub within : place ≤ length (reached_copies r)
  pub made : (x : List Lit) → IsIn (reached_copies r) x → Fewer p (suc n) c (apply x c)
  pub all : (q : Packet) → Fewer p (suc n) c q → IsIn (outcomes (reached_copies r) c) q
  pub early : (x : List Lit) → IsIn (take place (reached_copies r)) x → Fewer p n c (apply x c)
  pub late : (x : List Lit) → IsIn (drop place (reached_copies r)) x → ¬ Fewer p n c (apply x c)
  pub named : (x : List Lit) (m : Lit) → IsIn (reached_copies r) x → IsIn x m → IsIn s m ⊎ Assigns p m
  pub follows : (x : List Lit) → IsIn (reached_copies r) x → Follows s x
  pub asks : (x : List Lit) (m : Lit) → IsIn (take place (reached_copies r)) x → Asks p (apply x c) m →
      IsIn (asked_of r) m
  pub is_unset : (m : Lit) → IsIn (asked_of r) m → IsUnset c (lit_field m)
  pub tests : (m : Lit) → IsIn (asked_of r) m → Tests p m

-- All that any number of iterations reach from the cell's packet is reached in 512; what was asked on the way is of
-- fields that are unset in the cell. Each copy begins with the first copy s.
pub record IsClosed (s : List Lit) (p : Tree) (c : Packet) (r : Reach) : Type 0 where
  pub made : (x : List Lit) → IsIn (reached_copies r) x → AtMost p 512 c (apply x c)
  pub all : (n : ℕ) (q : Packet) → Iterates p n c q → IsIn (outcomes (reached_copies r) c) q
  pub named : (x : List Lit) (m : Lit) → IsIn (reached_copies r) x → IsIn x m → IsIn s m ⊎ Assigns p m
  pub follows : (x : List Lit) → IsIn (reached_copies r) x → Follows s x
  pub asks : (x : List Lit) (m : Lit) → IsIn (reached_copies r) x → Asks p (apply x c) m → IsIn (asked_of r) m
  pub is_unset : (m : Lit) → IsIn (asked_of r) m → IsUnset c (lit_field m)
  pub tests : (m : Lit) → IsIn (asked_of r) m → Tests p m

-- a names only what p names
pub record IsNamedBy (p a : Tree) : Type 0 where
  pub tests : (m : Lit) → Tests a m → Tests p m
  pub assigns : (m : Lit) → Assigns a m → Assigns p m

-- a tests only what p tests, and assigns only what p assigns and what s has
pub record NamesOf (s : List Lit) (p a : Tree) : Type 0 where
  pub tests : (m : Lit) → Tests a m → Tests p m
  pub assigns : (m : Lit) → Assigns a m → IsIn s m ⊎ Assigns p m

-- the packet holds none of the literals of fields that the cell leaves open
abbrev pub Misses : Packet → List Lit → Packet → Type 0
Misses c ls pk = (m : Lit) → IsIn ls m → IsUnset c (lit_field m) → ¬ Holds pk m

-- On each packet of the cell that holds none of some literals, r answers as the star of p. On any packet it answers as
-- if the copy s came first.
pub record StarBut (s : List Lit) (p : Tree) (c : Packet) (ls : List Lit) (r : Tree) : Type 0 where
  pub made : (pk out : Packet) → Agrees c pk → Misses c ls pk → IsIn (answers r pk) out → AtMost p 512 pk out
  pub all : (n : ℕ) (pk out : Packet) → Agrees c pk → Misses c ls pk → Iterates p n pk out → IsIn (answers r pk) out
  pub normal : IsNormal r
  pub names : NamesOf s p r
  pub is_unset : (m : Lit) → Tests r m → IsUnset c (lit_field m)
  pub first : (pk : Packet) → SameAnswers (answers r pk) (answers r (apply s pk))
