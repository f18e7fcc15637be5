-- The order of keys is that of their bytes.
use Rattle.std.proofs.Common.{◌≡◌, ℕ, zero, suc, ◌+◌, ◌*◌, ◌-◌, ◌/◌, ◌%◌, ◌^◌, ◌<◌, ◌≤◌, List, [], ◌∷◌, ◌++◌, length, Option, Some, None, get_or, refl, sym, ap, ◌∙◌, inl, inr, arith, lit<}
use Rattle.std.specs.Prelude.{IfSome}
use Rattle.std.specs.Int.{bytes_high_first, byte_at}
use Rattle.std.specs.Cmp.Lexicographic.{slice_cmp}
use Rattle.std.specs.Ordering.{nat_cmp, ordering_then}
use Rattle.std.specs.declared.cmp.Ordering.{Ordering}
use Rattle.std.specs.declared.cmp.Ordering.TheVariants.{Less, Equal, Greater}
use Rattle.std.proofs.lemmas.Bool.{lt-ltb, le-ltb, eq-eqb, ne_eqb, cases_lt, cases_eq}
use Rattle.std.proofs.Math.Nat.{mul-le-mul_left, one-le-pow, mod-lt, mod-eq_of_lt}
use Rattle.std.specs.Cmp.Lexicographic.{texts_ties, bytes_decides}
use Rattle.std.specs.Ordering.{is_eq}
use Rattle.nk_values.specs.declared.pattern.Pattern.{Pattern}
use Rattle.nk_values.specs.declared.pattern.Prefix.{Prefix}
use Rattle.nk_values.specs.declared.row.Row.{Row}
use Rattle.nk_values.specs.Fitting.{FitsPrefix, FitsPattern, IsWritable}
use Rattle.openflow_wire.specs.Writing.{be, wildcards, wild_bits, number_or_zero, address_or_zero, frame_bytes, network_bytes, match_bytes}
use Rattle.openflow_wire.specs.KeyOrder.{length_or_zero, match_numbers, key_numbers, key_cmp, key_bytes}
use Rattle.openflow_wire.proofs.Wilds.{wilds-digits, wilds-small, number-small}
use Rattle.openflow_wire.proofs.Keys.{reflexive}
use Rattle.byteorder.specs.Endian.{big_bytes}
use Rattle.byteorder.specs.Numbers.{big_from-bytes, big_from-cons}

abbrev cmp : List ℕ → List ℕ → Ordering
cmp = slice_cmp nat_cmp

-- ---- numbers

less : (x y : ℕ) → x < y → nat_cmp x y ≡ Less
less x y h = let a = lt-ltb x y h in rw a refl

same : (x y : ℕ) → x ≡ y → nat_cmp x y ≡ Equal
same x y h = let a = le-ltb x y (omega arith) in let b = eq-eqb x y h in rw (a, b) refl

greater : (x y : ℕ) → y < x → nat_cmp x y ≡ Greater
greater x y h = let a = le-ltb x y (omega arith) in let b = ne_eqb x y (λ e. omega arith) in rw (a, b) refl

data Three (x y : ℕ) : Type 0 where
  below : x < y → nat_cmp x y ≡ Less → Three x y
  level : x ≡ y → nat_cmp x y ≡ Equal → Three x y
  above : y < x → nat_cmp x y ≡ Greater → Three x y

three : (x y : ℕ) → Three x y
three x y =
    elim (cases_lt x y) [
      | inl h ↦ below h (less x y h)
      | inr le ↦ elim (cases_eq x y) [ inl e ↦ level e (same x y e) | inr ne ↦ (let h : y < x = omega arith in above h (greater x y h)) ]
    ]

-- the higher digit decides, and then the lower one
digits-cmp : (a b m r s : ℕ) → r < m → s < m → nat_cmp (a * m + r) (b * m + s) ≡ ordering_then (nat_cmp a b) (nat_cmp r s)
digits-cmp a b m r s lr ls =
    elim (three a b) [
      | below h c ↦ (let k : a + 1 ≤ b = omega arith in rw c (less (a * m + r) (b * m + s) (omega (arith, mul-le-mul_left m k))))
      | above h c ↦ (let k : b + 1 ≤ a = omega arith in rw c (greater (a * m + r) (b * m + s) (omega (arith, mul-le-mul_left m k))))
      | level e c ↦ (let p : b * m ≡ a * m = ap (λ (n : ℕ). n * m) (sym e) in
          elim (three r s) [
            | below h d ↦ rw (c, d) (less (a * m + r) (b * m + s) (omega (arith, p)))
            | above h d ↦ rw (c, d) (greater (a * m + r) (b * m + s) (omega (arith, p)))
            | level q d ↦ rw (c, d) (same (a * m + r) (b * m + s) (omega (arith, p)))
          ])
    ]

then-then : (o p q : Ordering) → ordering_then (ordering_then o p) q ≡ ordering_then o (ordering_then p q)
then-then Less p q = refl
then-then Equal p q = refl
then-then Greater p q = refl

-- ---- bytes

split : (n x : ℕ) → x % 256 ^ suc n ≡ byte_at n x * 256 ^ n + x % 256 ^ n
split n x =
    let a = big_from-cons 0 n (byte_at n x) (bytes_high_first n x ++ []) in
    let b = big_from-bytes n x [] in
    sym (big_from-bytes (suc n) x []) ∙ rw (a, b) refl

power : (n : ℕ) → 0 < 256 ^ n
power n = let h = one-le-pow n 256 (omega arith) in omega arith

bytes-cmp : (n x y : ℕ) (xs ys : List ℕ) → cmp (bytes_high_first n x ++ xs) (bytes_high_first n y ++ ys) ≡ ordering_then (nat_cmp (x % 256 ^ n) (y % 256 ^ n)) (cmp xs ys)
bytes-cmp zero x y xs ys = let e = same (x % 1) (y % 1) (omega arith) in rw e refl
bytes-cmp (suc n) x y xs ys =
    let ih = bytes-cmp n x y xs ys in
    let d = digits-cmp (byte_at n x) (byte_at n y) (256 ^ n) (x % 256 ^ n) (y % 256 ^ n) (mod-lt x (power n)) (mod-lt y (power n)) in
    let a = split n x in
    let b = split n y in
    rw (ih, a, b, d) (sym (then-then (nat_cmp (byte_at n x) (byte_at n y)) (nat_cmp (x % 256 ^ n) (y % 256 ^ n)) (cmp xs ys)))

-- numbers that stand in n bytes
part : (n x y : ℕ) (xs ys : List ℕ) {o : Ordering} → x < 256 ^ n → y < 256 ^ n → cmp xs ys ≡ o → cmp (big_bytes n x ++ xs) (big_bytes n y ++ ys) ≡ ordering_then (nat_cmp x y) o
part n x y xs ys lx ly e =
    let a = mod-eq_of_lt lx in
    let b = mod-eq_of_lt ly in
    bytes-cmp n x y xs ys ∙ rw (a, b, e) refl

-- ---- keys

small : (o : Option ℕ) (limit : ℕ) → 0 < limit → IfSome o (λ n. n < limit) → number_or_zero o < limit
small o limit pos h = number-small o limit pos h

address-small : (o : Option Prefix) → IfSome o FitsPrefix → address_or_zero o < 4294967296
address-small None h = lit< tt
address-small (Some p) h = h.small

-- the lengths of addresses are told by their wildcards
lengths : (o q : Option Prefix) → IfSome o FitsPrefix → IfSome q FitsPrefix → wild_bits o ≡ wild_bits q → length_or_zero o ≡ length_or_zero q
lengths None None h k w = refl
lengths None (Some y) h k w = absurd (omega arith)
lengths (Some x) None h k w = absurd (omega arith)
lengths (Some x) (Some y) h k w = let a = h.prefix.all in let b = k.prefix.all in omega arith

-- the first numbers of a key: its bytes, number by number
abbrev numbers : Row → List ℕ
numbers r = (65535 - r.priority) ∷ match_numbers r.pattern

-- the bytes of a match from each number on
abbrev from14 : Pattern → List ℕ
from14 p = big_bytes 2 (number_or_zero p.tp_dst) ++ []

abbrev from13 : Pattern → List ℕ
from13 p = big_bytes 2 (number_or_zero p.tp_src) ++ from14 p

abbrev from12 : Pattern → List ℕ
from12 p = big_bytes 4 (address_or_zero p.nw_dst) ++ from13 p

abbrev from11 : Pattern → List ℕ
from11 p = big_bytes 4 (address_or_zero p.nw_src) ++ from12 p

abbrev from10 : Pattern → List ℕ
from10 p = big_bytes 2 0 ++ from11 p

abbrev from9 : Pattern → List ℕ
from9 p = big_bytes 1 (number_or_zero p.nw_proto) ++ from10 p

abbrev from8 : Pattern → List ℕ
from8 p = big_bytes 1 (number_or_zero p.nw_tos) ++ from9 p

abbrev from7 : Pattern → List ℕ
from7 p = big_bytes 2 (number_or_zero p.dl_type) ++ from8 p

abbrev from6 : Pattern → List ℕ
from6 p = big_bytes 1 0 ++ from7 p

abbrev from5 : Pattern → List ℕ
from5 p = big_bytes 1 (number_or_zero p.dl_vlan_pcp) ++ from6 p

abbrev from4 : Pattern → List ℕ
from4 p = big_bytes 2 (number_or_zero p.dl_vlan) ++ from5 p

abbrev from3 : Pattern → List ℕ
from3 p = big_bytes 6 (number_or_zero p.dl_dst) ++ from4 p

abbrev from2 : Pattern → List ℕ
from2 p = big_bytes 6 (number_or_zero p.dl_src) ++ from3 p

abbrev from1 : Pattern → List ℕ
from1 p = big_bytes 2 (number_or_zero p.in_port) ++ from2 p

abbrev from0 : Pattern → List ℕ
from0 p = big_bytes 4 (wildcards p) ++ from1 p

bytes-numbers : (a b : Row) → FitsPattern a.pattern → FitsPattern b.pattern → cmp (key_bytes a) (key_bytes b) ≡ cmp (numbers a) (numbers b)
unfolding match_bytes frame_bytes network_bytes be
bytes-numbers a b fa fb =
    let p = a.pattern in
    let q = b.pattern in
    part 2 (65535 - a.priority) (65535 - b.priority) (from0 p) (from0 q) (omega arith) (omega arith)
    (part 4 (wildcards p) (wildcards q) (from1 p) (from1 q) (wilds-small p) (wilds-small q)
    (part 2 (number_or_zero p.in_port) (number_or_zero q.in_port) (from2 p) (from2 q) (small p.in_port 65536 (lit< tt) fa.in_port) (small q.in_port 65536 (lit< tt) fb.in_port)
    (part 6 (number_or_zero p.dl_src) (number_or_zero q.dl_src) (from3 p) (from3 q) (small p.dl_src 281474976710656 (lit< tt) fa.dl_src) (small q.dl_src 281474976710656 (lit< tt) fb.dl_src)
    (part 6 (number_or_zero p.dl_dst) (number_or_zero q.dl_dst) (from4 p) (from4 q) (small p.dl_dst 281474976710656 (lit< tt) fa.dl_dst) (small q.dl_dst 281474976710656 (lit< tt) fb.dl_dst)
    (part 2 (number_or_zero p.dl_vlan) (number_or_zero q.dl_vlan) (from5 p) (from5 q) (small p.dl_vlan 65536 (lit< tt) fa.dl_vlan) (small q.dl_vlan 65536 (lit< tt) fb.dl_vlan)
    (part 1 (number_or_zero p.dl_vlan_pcp) (number_or_zero q.dl_vlan_pcp) (from6 p) (from6 q) (small p.dl_vlan_pcp 256 (lit< tt) fa.dl_vlan_pcp) (small q.dl_vlan_pcp 256 (lit< tt) fb.dl_vlan_pcp)
    (part 1 0 0 (from7 p) (from7 q) (lit< tt) (lit< tt)
    (part 2 (number_or_zero p.dl_type) (number_or_zero q.dl_type) (from8 p) (from8 q) (small p.dl_type 65536 (lit< tt) fa.dl_type) (small q.dl_type 65536 (lit< tt) fb.dl_type)
    (part 1 (number_or_zero p.nw_tos) (number_or_zero q.nw_tos) (from9 p) (from9 q) (small p.nw_tos 256 (lit< tt) fa.nw_tos) (small q.nw_tos 256 (lit< tt) fb.nw_tos)
    (part 1 (number_or_zero p.nw_proto) (number_or_zero q.nw_proto) (from10 p) (from10 q) (small p.nw_proto 256 (lit< tt) fa.nw_proto) (small q.nw_proto 256 (lit< tt) fb.nw_proto)
    (part 2 0 0 (from11 p) (from11 q) (lit< tt) (lit< tt)
    (part 4 (address_or_zero p.nw_src) (address_or_zero q.nw_src) (from12 p) (from12 q) (address-small p.nw_src fa.nw_src) (address-small q.nw_src fb.nw_src)
    (part 4 (address_or_zero p.nw_dst) (address_or_zero q.nw_dst) (from13 p) (from13 q) (address-small p.nw_dst fa.nw_dst) (address-small q.nw_dst fb.nw_dst)
    (part 2 (number_or_zero p.tp_src) (number_or_zero q.tp_src) (from14 p) (from14 q) (small p.tp_src 65536 (lit< tt) fa.tp_src) (small q.tp_src 65536 (lit< tt) fb.tp_src)
    (part 2 (number_or_zero p.tp_dst) (number_or_zero q.tp_dst) [] [] (small p.tp_dst 65536 (lit< tt) fa.tp_dst) (small q.tp_dst 65536 (lit< tt) fb.tp_dst) refl)))))))))))))))

-- what stands after lists of one length
tails : (xs ys t u : List ℕ) → length xs ≡ length ys → cmp (xs ++ t) (ys ++ u) ≡ ordering_then (cmp xs ys) (cmp t u)
tails [] [] t u e = refl
tails [] (y ∷ ys) t u e = absurd (omega arith)
tails (x ∷ xs) [] t u e = absurd (omega arith)
tails (x ∷ xs) (y ∷ ys) t u e =
    let ih = tails xs ys t u (omega arith) in rw ih (sym (then-then (nat_cmp x y) (cmp xs ys) (cmp t u)))

tied : (o p : Ordering) → (o ≡ Equal → p ≡ Equal) → ordering_then o p ≡ o
tied Less p h = refl
tied Equal p h = h refl
tied Greater p h = refl

abbrev last : Row → List ℕ
last r = length_or_zero r.pattern.nw_src ∷ length_or_zero r.pattern.nw_dst ∷ r.priority ∷ []

-- where the first numbers are the same, so are the last ones
same-last : (a b : Row) → FitsPattern a.pattern → FitsPattern b.pattern → a.priority < 65536 → b.priority < 65536 → numbers a ≡ numbers b → last a ≡ last b
same-last a b fa fb pa pb e =
    let p = a.pattern in
    let q = b.pattern in
    let at : (k : ℕ) → get_or (numbers a) k 0 ≡ get_or (numbers b) k 0 = λ k. ap (λ (l : List ℕ). get_or l k 0) e in
    let w : wildcards p ≡ wildcards q = at 1 in
    let d = wilds-digits p in
    let f = wilds-digits q in
    let s = lengths p.nw_src q.nw_src fa.nw_src fb.nw_src (sym d.d8 ∙ ap (λ (n : ℕ). n / 2 ^ 8 % 64) w ∙ f.d8) in
    let t = lengths p.nw_dst q.nw_dst fa.nw_dst fb.nw_dst (sym d.d14 ∙ ap (λ (n : ℕ). n / 2 ^ 14 % 64) w ∙ f.d14) in
    let first : 65535 - a.priority ≡ 65535 - b.priority = at 0 in
    let r : a.priority ≡ b.priority = omega arith in
    rw (s, t, r) refl

last-equal : (a b : Row) → FitsPattern a.pattern → FitsPattern b.pattern → a.priority < 65536 → b.priority < 65536 → cmp (numbers a) (numbers b) ≡ Equal → cmp (last a) (last b) ≡ Equal
last-equal a b fa fb pa pb e =
    let n : numbers a ≡ numbers b = (bytes_decides (numbers a) (numbers b)).0 (texts_ties (numbers a) (numbers b) ∙ ap is_eq e) in
    ap (λ (xs : List ℕ). cmp xs (last b)) (same-last a b fa fb pa pb n) ∙ reflexive (last b)

pub keys-bytes : (a b : Row) → IsWritable a → IsWritable b → key_cmp a b ≡ slice_cmp nat_cmp (key_bytes a) (key_bytes b)
unfolding key_numbers
keys-bytes a b wa wb =
    tails (numbers a) (numbers b) (last a) (last b) refl
    ∙ tied (cmp (numbers a) (numbers b)) (cmp (last a) (last b)) (last-equal a b wa.pattern wb.pattern wa.priority wb.priority)
    ∙ sym (bytes-numbers a b wa.pattern wb.pattern)
