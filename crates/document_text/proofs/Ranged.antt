-- Numbers in their ranges, by test and as facts.
use Rattle.std.proofs.Common.{◌≡◌, ◌≢◌, ℕ, zero, suc, get_or, length, ◌<◌, ◌≤◌, Bool, true, false, not, ◌&&◌, ◌==◌, nat_le, List, [], ◌∷◌, Option, Some, None, is_some, refl, sym, subst, arith}
use Rattle.std.specs.List.{All, list_all}
use Rattle.std.specs.Option.{option_map}
use Rattle.std.proofs.lemmas.Bool.Decides.{nat_tests}
use Rattle.nk_values.specs.declared.field.Field.{Field}
use Rattle.nk_values.specs.declared.field.Field.TheVariants.{Sw, Pt, EthTyp, IpProto, EthSrc, EthDst, Ip4Src, Ip4Dst, TcpSrcPort, TcpDstPort}
use Rattle.nk_values.specs.Ranges.{place, least_value, greatest, IsValue}
use Rattle.topology_model.specs.Lines.{IsEnd}
use Rattle.netkat_parser.specs.Numbers.{IsUpTo}
use Rattle.document_text.specs.Packets.{GivenFields, is_value, with_number}
use Rattle.document_text.specs.Lines.{is_end_value}

pub left-true : (a b : Bool) → (a && b) ≡ true → a ≡ true
left-true true b h = refl
left-true false b h = h

pub right-true : (a b : Bool) → (a && b) ≡ true → b ≡ true
right-true true b h = h
right-true false b h = absurd (cc)

upto : (m n : ℕ) → nat_le m n ≡ true → m ≤ n
upto m n h = grind (arith, nat_tests)

within : (m n : ℕ) → m ≤ n → nat_le m n ≡ true
within m n h = grind (arith, nat_tests)

apart : (m n : ℕ) → m ≢ n → (m == n) ≡ false
apart m n h = grind (arith, nat_tests)

tag-free : (f : Field) (n : ℕ) → (f ≡ EthTyp → n ≢ 33024) → not ((place f == place EthTyp) && (n == 33024)) ≡ true
tag-free Sw n h = refl
tag-free Pt n h = refl
tag-free EthTyp n h = rw (apart n 33024 (h refl)) refl
tag-free IpProto n h = refl
tag-free EthSrc n h = refl
tag-free EthDst n h = refl
tag-free Ip4Src n h = refl
tag-free Ip4Dst n h = refl
tag-free TcpSrcPort n h = refl
tag-free TcpDstPort n h = refl

tag-from : (f : Field) (n : ℕ) → not ((place f == place EthTyp) && (n == 33024)) ≡ true → f ≡ EthTyp → n ≡ 33024 → ⊥
tag-from f n e q k =
    let at = subst (λ g. not ((place g == place EthTyp) && (n == 33024)) ≡ true) q e in
    let here = subst (λ m. not (m == 33024) ≡ true) k at in cc

pub value_true : (f : Field) (n : ℕ) → IsValue f n → is_value f n ≡ true
value_true f n h = rw (within (least_value f) n h.low, within n (greatest f) h.high, tag-free f n h.no_tag) refl

pub value-from : (f : Field) (n : ℕ) → is_value f n ≡ true → IsValue f n
value-from f n e =
    let both = left-true _ _ e in
    record {
      low = upto (least_value f) n (left-true _ _ both);
      high = upto n (greatest f) (right-true _ _ both);
      no_tag = tag-from f n (right-true _ _ e);
    }

by-no : (b : Bool) → (b ≡ true → ⊥) → b ≡ false
by-no true h = absurd (h refl)
by-no false h = refl

pub value_false : (f : Field) (n : ℕ) → ¬ (IsValue f n) → is_value f n ≡ false
value_false f n h = by-no (is_value f n) (λ e. h (value-from f n e))

great : (f : Field) → greatest f ≤ 281474976710655
great Sw = omega arith
great Pt = omega arith
great EthTyp = omega arith
great IpProto = omega arith
great EthSrc = omega arith
great EthDst = omega arith
great Ip4Src = omega arith
great Ip4Dst = omega arith
great TcpSrcPort = omega arith
great TcpDstPort = omega arith

-- a number above each field's greatest one
pub too_great : (f : Field) (n : ℕ) → 281474976710655 < n → is_value f n ≡ false
too_great f n h = value_false f n (λ v. omega (arith, v.high, great f))

ports-at-each : (ns : List ℕ) → list_all (is_value Pt) ns ≡ true → (k d : ℕ) → k < length ns → IsValue Pt (get_or ns k d)
ports-at-each [] e k d h = absurd (omega (arith, h))
ports-at-each (n ∷ ns) e zero d h = value-from Pt n (left-true _ _ e)
ports-at-each (n ∷ ns) e (suc k) d h = ports-at-each ns (right-true _ _ e) k d (omega (arith, h))

ports-from : (ns : List ℕ) → list_all (is_value Pt) ns ≡ true → All (IsValue Pt) ns
ports-from ns e = ports-at-each ns e

pub switch-at : (n m : ℕ) → is_value Sw n ≡ true → m ≡ n → IsValue Sw m
switch-at n m e k = subst (IsValue Sw) (sym k) (value-from Sw n e)

pub ports-at : (ns ms : List ℕ) → list_all (is_value Pt) ns ≡ true → ms ≡ ns → All (IsValue Pt) ms
ports-at ns ms e k = subst (All (IsValue Pt)) (sym k) (ports-from ns e)

pub end-from : (x : ℕ × ℕ) → is_end_value x ≡ true → IsEnd x
end-from x e = (value-from Sw x.0 (left-true _ _ e), value-from Pt x.1 (right-true _ _ e))

pub end-at : (x y : ℕ × ℕ) → is_end_value x ≡ true → y ≡ x → IsEnd y
end-at x y e k = subst IsEnd (sym k) (end-from x e)

-- a value that is above the greatest one of any field
pub great-outside : (g : GivenFields) (f : Field) (o : Option ℕ) → IsUpTo 281474976710655 o None → is_some o ≡ true
    → option_map (with_number g f) o ≡ Some (record g { outside = true })
great-outside g f None h e = absurd (cc)
great-outside g f (Some n) h e = rw (too_great f n h) refl

pub none-of : (o : Option ℕ) → is_some o ≡ false → o ≡ None
none-of None e = refl
none-of (Some n) e = absurd (cc)
