-- The keys of rows and their order: the greatest priority first, and then by the bytes of the match.
use Rattle.std.specs.Prelude.{◌≡◌, ℕ, ◌-◌, ◌≤◌, ◌++◌, false, List, [], ◌∷◌, Option, Some, None}
use Rattle.std.specs.Cmp.Lexicographic.{slice_cmp}
use Rattle.std.specs.List.{count_by}
use Rattle.std.specs.Ordering.{nat_cmp, on, is_lt, is_eq}
use Rattle.std.specs.declared.cmp.Ordering.{Ordering}
use Rattle.std.specs.declared.cmp.Ordering.TheVariants.{Less}
use Rattle.nk_values.specs.declared.pattern.Pattern.{Pattern}
use Rattle.nk_values.specs.declared.pattern.Prefix.{Prefix}
use Rattle.nk_values.specs.declared.row.Row.{Row}
use Rattle.nk_values.specs.Members.{IsIn}
use Rattle.openflow_wire.specs.Writing.{wildcards, number_or_zero, address_or_zero, be, match_bytes}

-- how many bits of an address are fixed
abbrev pub length_or_zero : Option Prefix → ℕ
length_or_zero None = 0
length_or_zero (Some p) = p.length

-- the numbers of a match, in the order in which they are written
abbrev pub match_numbers : Pattern → List ℕ
match_numbers p =
    wildcards p ∷ number_or_zero p.in_port ∷ number_or_zero p.dl_src ∷ number_or_zero p.dl_dst ∷ number_or_zero
    p.dl_vlan ∷ number_or_zero p.dl_vlan_pcp
    ∷ number_or_zero p.dl_type ∷ number_or_zero p.nw_tos ∷ number_or_zero p.nw_proto ∷ address_or_zero p.nw_src ∷
    address_or_zero p.nw_dst
    ∷ number_or_zero p.tp_src ∷ number_or_zero p.tp_dst ∷ []

-- The numbers of a key, of which the first that differ decide. The last three are told by the others wherever the row
-- can be written; with them no two keys have the same numbers.
unfoldable pub key_numbers : Row → List ℕ
key_numbers r = (65535 - r.priority) ∷
    (match_numbers r.pattern ++ length_or_zero r.pattern.nw_src ∷ length_or_zero r.pattern.nw_dst ∷ r.priority ∷ [])

abbrev pub key_cmp : Row → Row → Ordering
key_cmp = on key_numbers (slice_cmp nat_cmp)

-- the bytes of a key
abbrev pub key_bytes : Row → List ℕ
key_bytes r = be 2 (65535 - r.priority) ++ match_bytes r.pattern

-- of rows that can be written, the order is that of their bytes
abbrev pub KeysAreBytes : (Row → Type 0) → Type 0
KeysAreBytes IsWritten = (a b : Row) → IsWritten a → IsWritten b →
    key_cmp a b ≡ slice_cmp nat_cmp (key_bytes a) (key_bytes b)

-- ---- rows in the order of their keys

-- no row stands after one of a greater key
abbrev pub IsUp : List Row → Type 0
IsUp [] = Unit {0}
IsUp (x ∷ xs) = ((r : Row) → IsIn xs r → is_lt (key_cmp r x) ≡ false) × IsUp xs

-- each row stands before those of greater keys, and no two have one key
abbrev pub IsRising : List Row → Type 0
IsRising [] = Unit {0}
IsRising (x ∷ xs) = ((r : Row) → IsIn xs r → key_cmp x r ≡ Less) × IsRising xs

-- how many rows have the row's key
abbrev pub key_count : Row → List Row → ℕ
key_count r rows = count_by (λ s. is_eq (key_cmp s r)) rows

-- the row is among them, and its key comes more than once
pub record IsRepeated (rows : List Row) (r : Row) : Type 0 where
  pub among : IsIn rows r
  pub again : 2 ≤ key_count r rows
