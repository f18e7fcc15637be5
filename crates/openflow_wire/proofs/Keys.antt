-- Keys are told apart by their numbers.
use Rattle.std.proofs.Common.{◌≡◌, ℕ, ◌/◌, ◌%◌, ◌^◌, true, List, Option, Some, None, get_or, refl, sym, ap, ◌∙◌, arith}
use Rattle.std.specs.Cmp.Lexicographic.{slice_cmp, texts_ties, bytes_decides}
use Rattle.std.specs.Ordering.{nat_cmp, is_eq}
use Rattle.std.specs.declared.cmp.Ordering.{Ordering}
use Rattle.std.specs.declared.cmp.Ordering.TheVariants.{Less, Equal, Greater}
use Rattle.nk_values.specs.declared.pattern.Prefix.{Prefix}
use Rattle.nk_values.specs.declared.row.Row.{Row}
use Rattle.nk_values.specs.Tables.{SameKey}
use Rattle.openflow_wire.specs.Writing.{wild, wild_bits, wildcards, number_or_zero, address_or_zero}
use Rattle.openflow_wire.specs.KeyOrder.{length_or_zero, key_numbers, key_cmp}
use Rattle.openflow_wire.proofs.Wilds.{wilds-digits}

option-apart : (o q : Option ℕ) → wild o ≡ wild q → number_or_zero o ≡ number_or_zero q → o ≡ q
option-apart None None w n = refl
option-apart None (Some y) w n = absurd (omega arith)
option-apart (Some x) None w n = absurd (omega arith)
option-apart (Some x) (Some y) w n = ap (λ (k : ℕ). Some k) n

prefix-apart : (o q : Option Prefix) → wild_bits o ≡ wild_bits q → address_or_zero o ≡ address_or_zero q → length_or_zero o ≡ length_or_zero q → o ≡ q
prefix-apart None None w a l = refl
prefix-apart None (Some y) w a l = absurd (omega arith)
prefix-apart (Some x) None w a l = absurd (omega arith)
prefix-apart (Some x) (Some y) w a l = λ i. Some (record { address = a i; length = l i })

-- the numbers of two keys at one place
at : (a b : Row) (k : ℕ) → key_numbers a ≡ key_numbers b → get_or (key_numbers a) k 0 ≡ get_or (key_numbers b) k 0
at a b k e = ap (λ (l : List ℕ). get_or l k 0) e

patterns : (a b : Row) → key_numbers a ≡ key_numbers b → a.pattern ≡ b.pattern
unfolding key_numbers
patterns a b e =
    let p = a.pattern in
    let q = b.pattern in
    let d = wilds-digits p in
    let f = wilds-digits q in
    let w : wildcards p ≡ wildcards q = at a b 1 e in
    let bit : (k : ℕ) → wildcards p / 2 ^ k % 2 ≡ wildcards q / 2 ^ k % 2 = λ k. ap (λ (n : ℕ). n / 2 ^ k % 2) w in
    let six : (k : ℕ) → wildcards p / 2 ^ k % 64 ≡ wildcards q / 2 ^ k % 64 = λ k. ap (λ (n : ℕ). n / 2 ^ k % 64) w in
    let in_port : p.in_port ≡ q.in_port = option-apart p.in_port q.in_port (sym d.d0 ∙ bit 0 ∙ f.d0) (at a b 2 e) in
    let dl_src : p.dl_src ≡ q.dl_src = option-apart p.dl_src q.dl_src (sym d.d2 ∙ bit 2 ∙ f.d2) (at a b 3 e) in
    let dl_dst : p.dl_dst ≡ q.dl_dst = option-apart p.dl_dst q.dl_dst (sym d.d3 ∙ bit 3 ∙ f.d3) (at a b 4 e) in
    let dl_vlan : p.dl_vlan ≡ q.dl_vlan = option-apart p.dl_vlan q.dl_vlan (sym d.d1 ∙ bit 1 ∙ f.d1) (at a b 5 e) in
    let dl_vlan_pcp : p.dl_vlan_pcp ≡ q.dl_vlan_pcp = option-apart p.dl_vlan_pcp q.dl_vlan_pcp (sym d.d20 ∙ bit 20 ∙ f.d20) (at a b 6 e) in
    let dl_type : p.dl_type ≡ q.dl_type = option-apart p.dl_type q.dl_type (sym d.d4 ∙ bit 4 ∙ f.d4) (at a b 7 e) in
    let nw_tos : p.nw_tos ≡ q.nw_tos = option-apart p.nw_tos q.nw_tos (sym d.d21 ∙ bit 21 ∙ f.d21) (at a b 8 e) in
    let nw_proto : p.nw_proto ≡ q.nw_proto = option-apart p.nw_proto q.nw_proto (sym d.d5 ∙ bit 5 ∙ f.d5) (at a b 9 e) in
    let nw_src : p.nw_src ≡ q.nw_src = prefix-apart p.nw_src q.nw_src (sym d.d8 ∙ six 8 ∙ f.d8) (at a b 10 e) (at a b 14 e) in
    let nw_dst : p.nw_dst ≡ q.nw_dst = prefix-apart p.nw_dst q.nw_dst (sym d.d14 ∙ six 14 ∙ f.d14) (at a b 11 e) (at a b 15 e) in
    let tp_src : p.tp_src ≡ q.tp_src = option-apart p.tp_src q.tp_src (sym d.d6 ∙ bit 6 ∙ f.d6) (at a b 12 e) in
    let tp_dst : p.tp_dst ≡ q.tp_dst = option-apart p.tp_dst q.tp_dst (sym d.d7 ∙ bit 7 ∙ f.d7) (at a b 13 e) in
    λ i. record {
      in_port = in_port i;
      dl_src = dl_src i;
      dl_dst = dl_dst i;
      dl_vlan = dl_vlan i;
      dl_vlan_pcp = dl_vlan_pcp i;
      dl_type = dl_type i;
      nw_tos = nw_tos i;
      nw_proto = nw_proto i;
      nw_src = nw_src i;
      nw_dst = nw_dst i;
      tp_src = tp_src i;
      tp_dst = tp_dst i;
    }

priorities : (a b : Row) → key_numbers a ≡ key_numbers b → a.priority ≡ b.priority
unfolding key_numbers
priorities a b e = at a b 16 e

equal-of : (o : Ordering) → is_eq o ≡ true → o ≡ Equal
equal-of Less e = absurd cc
equal-of Equal e = refl
equal-of Greater e = absurd cc

pub equal-same : (a b : Row) → key_cmp a b ≡ Equal → SameKey a b.pattern b.priority
equal-same a b e =
    let n : key_numbers a ≡ key_numbers b = (bytes_decides (key_numbers a) (key_numbers b)).0 (texts_ties (key_numbers a) (key_numbers b) ∙ ap is_eq e) in
    record { same_pattern = patterns a b n; same_priority = priorities a b n }

same-numbers : (a b : Row) → SameKey a b.pattern b.priority → key_numbers a ≡ key_numbers b
unfolding key_numbers
same-numbers a b s = rw (s.same_pattern, s.same_priority) refl

pub reflexive : (xs : List ℕ) → slice_cmp nat_cmp xs xs ≡ Equal
reflexive xs = equal-of (slice_cmp nat_cmp xs xs) (sym (texts_ties xs xs) ∙ (bytes_decides xs xs).1 refl)

pub same-equal : (a b : Row) → SameKey a b.pattern b.priority → key_cmp a b ≡ Equal
same-equal a b s = ap (λ (xs : List ℕ). slice_cmp nat_cmp xs (key_numbers b)) (same-numbers a b s) ∙ reflexive (key_numbers b)
