-- Finite repetition of a diagram.
use Rattle.std.specs.Prelude.{◌≡◌, ◌⊎◌, ℕ, zero, suc, ◌≤◌}
use Rattle.nk_values.specs.declared.packet.Packet.{Packet}
use Rattle.nk_values.specs.declared.lit.Lit.{Lit}
use Rattle.nk_values.specs.Held.{put}
use Rattle.nk_values.specs.Members.{IsIn}
use Rattle.nk_values.specs.Packets.{IsInRange}
use Rattle.fdd_nodes.specs.Trees.{Tree, answers, Tests, Assigns}
use Rattle.fdd_nodes.specs.Normals.{IsNormal}
use Rattle.fdd_star.specs.declared.fault.StarError.{StarError}
use Rattle.fdd_star.specs.declared.fault.StarError.TheVariants.{Fault, Memory}

-- out is what p makes of a packet in exactly n iterations
abbrev pub Iterates : Tree → ℕ → Packet → Packet → Type 0
Iterates p zero pk out = pk ≡ out
Iterates p (suc n) pk out = (q : Packet) × IsIn (answers p pk) q × Iterates p n q out

-- in at most n iterations
abbrev pub AtMost : Tree → ℕ → Packet → Packet → Type 0
AtMost p n pk out = (k : ℕ) × (k ≤ n) × Iterates p k pk out

-- On each packet in range r answers what p makes of it in any number of iterations, of which 512 do. r is normal, and
-- names only what p names.
pub record StarOf (p r : Tree) : Type 0 where
  pub made : (pk out : Packet) → IsIn (answers r pk) out → AtMost p 512 pk out
  pub all : (n : ℕ) (pk out : Packet) → IsInRange pk → Iterates p n pk out → IsIn (answers r pk) out
  pub normal : IsNormal r
  pub tests : (m : Lit) → Tests r m → Tests p m
  pub assigns : (m : Lit) → Assigns r m → Assigns p m

-- p makes out of a packet in range in 513 iterations, and not in 512
pub record IsDeep (p : Tree) (pk out : Packet) : Type 0 where
  pub in_range : IsInRange pk
  pub made : AtMost p 513 pk out
  pub late : ¬ AtMost p 512 pk out

-- some packet in range has an output that takes 513 iterations
abbrev pub IsDeepSomewhere : Tree → Type 0
IsDeepSomewhere p = (pk : Packet) × (out : Packet) × IsDeep p pk out

-- no packet in range has an output that takes 513 iterations
abbrev pub IsShallow : Tree → Type 0
IsShallow p = (pk out : Packet) → ¬ IsDeep p pk out

-- On each packet in range r answers what the assignment l makes of what p makes in any number of iterations, of which
-- 512 do. r is normal, and names only what p names, and l. No packet in range has an output of p that takes 513
-- iterations.
pub record EndedStarOf (p : Tree) (l : Lit) (r : Tree) : Type 0 where
  pub made : (pk out : Packet) → IsIn (answers r pk) out → (q : Packet) × AtMost p 512 pk q × (out ≡ put l q)
  pub all : (n : ℕ) (pk q : Packet) → IsInRange pk → Iterates p n pk q → IsIn (answers r pk) (put l q)
  pub normal : IsNormal r
  pub tests : (m : Lit) → Tests r m → Tests p m
  pub assigns : (m : Lit) → Assigns r m → (l ≡ m) ⊎ Assigns p m
  pub shallow : IsShallow p

-- nothing is said of memory
abbrev pub IsErrorOf : Tree → StarError → Type 0
IsErrorOf p (Fault f) = IsDeep p f.packet f.output
IsErrorOf p Memory = Unit {0}
