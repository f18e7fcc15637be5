-- Copies: what one copy of a packet is assigned, each field at most once, in field order.
use Rattle.std.specs.Prelude.{◌≡◌, ℕ, ◌+◌, ◌≤◌, ◌⊎◌, Bool, Option, Some, None, List, [], ◌∷◌, ◌++◌, length, take, drop}
use Rattle.std.specs.Prelude.{if◌then◌else◌, ◌==◌, nat_lt}
use Rattle.std.specs.Cmp.Lexicographic.{pointwise, slice_cmp}
use Rattle.std.specs.declared.cmp.Ordering.{Ordering}
use Rattle.std.specs.declared.cmp.Ordering.TheVariants.{Less, Greater}
use Rattle.std.specs.List.{AllByRecursion}
use Rattle.std.specs.Hash as fed
use Rattle.nk_values.specs.declared.field.Field.{Field}
use Rattle.nk_values.specs.declared.packet.Packet.{Packet}
use Rattle.nk_values.specs.declared.lit.Lit.{Lit}
use Rattle.nk_values.specs.Lits.{lit_field, lit_value}
use Rattle.nk_values.specs.Members.{IsIn}
use Rattle.nk_values.specs.Packets.{get}
use Rattle.nk_values.specs.Ranges.{place}
use Rattle.nk_values.specs.Ranks.{lit_eq, lit_cmp, lit_input}

-- each field at most once, in field order, from the place k on
abbrev pub IsCopyFrom : ℕ → List Lit → Type 0
IsCopyFrom k [] = Unit {0}
IsCopyFrom k (l ∷ c) = (k ≤ place (lit_field l)) × IsCopyFrom (place (lit_field l) + 1) c

abbrev pub IsCopy : List Lit → Type 0
IsCopy c = IsCopyFrom 0 c

-- the order of copies: by the first literals that differ, and a beginning of another before it
abbrev pub copy_cmp : List Lit → List Lit → Ordering
copy_cmp = slice_cmp lit_cmp

abbrev pub copy_eq : List Lit → List Lit → Bool
copy_eq = pointwise lit_eq

-- what a copy gives a hasher
abbrev pub copy_input : List Lit → List (List ℕ)
copy_input = fed.slice lit_input

-- what a copy assigns to a field
abbrev pub assigned : List Lit → Field → Option ℕ
assigned [] f = None
assigned (l ∷ c) f = if place (lit_field l) == place f then Some (lit_value l) else assigned c f

-- the copy without what a cell fixes
abbrev pub strip : Packet → List Lit → List Lit
strip c [] = []
strip c (l ∷ ls) = if get c (lit_field l) == lit_value l then strip c ls else l ∷ strip c ls

-- what stands before a literal's field, and after it
abbrev pub below : Lit → List Lit → List Lit
below l [] = []
below l (m ∷ c) = if nat_lt (place (lit_field m)) (place (lit_field l)) then m ∷ below l c else below l c

abbrev pub above : Lit → List Lit → List Lit
above l [] = []
above l (m ∷ c) = if nat_lt (place (lit_field l)) (place (lit_field m)) then m ∷ above l c else above l c

-- the copy with a literal in its place
abbrev pub set_lit : Lit → List Lit → List Lit
set_lit l c = below l c ++ l ∷ above l c

-- the copy d after the copy c
abbrev pub after : List Lit → List Lit → List Lit
after c [] = c
after c (l ∷ d) = after (set_lit l c) d

-- the copies before the place i come before c, and the others after it
pub record IsPlace (c : List Lit) (cs : List (List Lit)) (i : ℕ) : Type 0 where
  pub within : i ≤ length cs
  pub before : AllByRecursion (λ x. copy_cmp x c ≡ Less) (take i cs)
  pub behind : AllByRecursion (λ x. copy_cmp x c ≡ Greater) (drop i cs)

-- new has the copy c, beside what old has
pub record PutsCopy (c : List Lit) (old new : List (List Lit)) : Type 0 where
  pub kept : (x : List Lit) → IsIn old x → IsIn new x
  pub has : IsIn new c
  pub only : (x : List Lit) → IsIn new x → IsIn old x ⊎ (c ≡ x)
