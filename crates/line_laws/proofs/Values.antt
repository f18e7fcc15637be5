-- The texts of values are told apart.
use Rattle.std.proofs.Common.{◌≡◌, ◌≢◌, ℕ, ◌+◌, ◌-◌, ◌/◌, ◌%◌, ◌<◌, ◌≤◌, ◌^◌, Bool, true, false, ◌==◌, ◌&&◌, not, nat_lt, List, [], ◌∷◌, ◌++◌, get_or, refl, sym, ◌∙◌, ap, arith, if◌then◌else◌}
use Rattle.std.proofs.lemmas.Bool.{ne_eqb}
use Rattle.std.proofs.lemmas.Bool.Decides.{Decides-ltb}
use Rattle.std.proofs.lemmas.Fmt.{decimal_by_steps, decimal_injective}
use Rattle.std.proofs.lemmas.List.{append_assoc}
use Rattle.std.specs.Fmt.{decimal}
use Rattle.nk_values.specs.declared.field.Field.{Field}
use Rattle.nk_values.specs.declared.field.Field.TheVariants.{Sw, Pt, EthTyp, IpProto, EthSrc, EthDst, Ip4Src, Ip4Dst, TcpSrcPort, TcpDstPort}
use Rattle.nk_values.specs.Ranges.{IsValue}
use Rattle.value_text.specs.Values.{hex_digit, hex_byte, hex_half, colon_triple, mac_text, dotted_pair, ip_text, value_text}
use Rattle.line_laws.proofs.Cut.{every, and-left, and-right, and-both, cut, rest, every-append, every-weaker}
use Rattle.line_laws.proofs.Numbers.{mod-small, byte-same, half-same, mac-same, ip-same, byte-small}

-- characters in texts of fields: digits, no comma, no closing brace, neither
abbrev pub digit : ℕ → Bool
digit c = nat_lt 47 c && nat_lt c 58

abbrev pub in_list : ℕ → Bool
in_list c = not (c == 44)

abbrev pub in_braces : ℕ → Bool
in_braces c = not (c == 125)

abbrev pub inner : ℕ → Bool
inner c = in_list c && in_braces c

is-inner : (c : ℕ) → c ≢ 44 → c ≢ 125 → inner c ≡ true
is-inner c a b = and-both (in_list c) (in_braces c) (ap not (ne_eqb c 44 a)) (ap not (ne_eqb c 125 b))

is-digit : (n : ℕ) → n < 10 → digit (48 + n) ≡ true
is-digit n l = and-both (nat_lt 47 (48 + n)) (nat_lt (48 + n) 58) ((Decides-ltb 47 (48 + n)).1 (omega arith)) ((Decides-ltb (48 + n) 58).1 (omega (arith, l)))

digit-inner : (c : ℕ) → digit c ≡ true → inner c ≡ true
digit-inner c h =
    let low = (Decides-ltb 47 c).0 (and-left (nat_lt 47 c) (nat_lt c 58) h) in
    let high = (Decides-ltb c 58).0 (and-right (nat_lt 47 c) (nat_lt c 58) h) in
    is-inner c (λ e. omega (arith, e, low)) (λ e. omega (arith, e, high))

last-digit : (n : ℕ) → n % 10 < 10
last-digit n = omega arith

pub digits : (n : ℕ) → n < 2 ^ 64 → every digit (decimal n) ≡ true
digits n l =
    decimal_by_steps (λ k ds. every digit ds ≡ true) (λ k s. and-both (digit (48 + k)) true (is-digit k s) refl)
    (λ k ds s h. every-append digit ds ((48 + k % 10) ∷ []) h (and-both (digit (48 + k % 10)) true (is-digit (k % 10) (last-digit k)) refl)) n l

decimal-inner : (n : ℕ) → n < 2 ^ 64 → every inner (decimal n) ≡ true
decimal-inner n l = every-weaker digit inner digit-inner (decimal n) (digits n l)

hex-inner : (n : ℕ) → n < 16 → inner (hex_digit n) ≡ true
hex-inner n l = split (nat_lt n 10)
  where
    split : (b : Bool) → inner (if b then 48 + n else 87 + n) ≡ true
    split true = is-inner (48 + n) (λ e. omega (arith, e)) (λ e. omega (arith, e, l))
    split false = is-inner (87 + n) (λ e. omega (arith, e)) (λ e. omega (arith, e, l))

hex-same : (m n : ℕ) → m < 16 → n < 16 → hex_digit m ≡ hex_digit n → m ≡ n
hex-same m n h k e = split (nat_lt m 10) (nat_lt n 10) refl refl e
  where
    split : (a b : Bool) → nat_lt m 10 ≡ a → nat_lt n 10 ≡ b → (if a then 48 + m else 87 + m) ≡ (if b then 48 + n else 87 + n) → m ≡ n
    split true true p q d = omega (arith, d)
    split false false p q d = omega (arith, d)
    split true false p q d = let l = (Decides-ltb m 10).0 p in absurd (other n q l d)
      where
        other : (n : ℕ) → nat_lt n 10 ≡ false → m < 10 → 48 + m ≡ 87 + n → ⊥
        other n q l d = omega (arith, l, d)
    split false true p q d = let l = (Decides-ltb n 10).0 q in omega (arith, l, d)

byte-inner : (n : ℕ) → every inner (hex_byte n) ≡ true
byte-inner n = and-both (inner (hex_digit (n / 16 % 16))) (inner (hex_digit (n % 16)) && true) (hex-inner (n / 16 % 16) (mod-small (n / 16))) (and-both (inner (hex_digit (n % 16))) true (hex-inner (n % 16) (mod-small n)) refl)

half-inner : (n : ℕ) → every inner (hex_half n) ≡ true
half-inner n = every-append inner (hex_byte (n / 256)) (hex_byte n) (byte-inner (n / 256)) (byte-inner n)

triple-inner : (n : ℕ) → every inner (colon_triple n) ≡ true
triple-inner n = every-append inner (hex_byte (n / 65536)) (58 ∷ (hex_byte (n / 256) ++ (58 ∷ hex_byte n))) (byte-inner (n / 65536)) (every-append inner (hex_byte (n / 256)) (58 ∷ hex_byte n) (byte-inner (n / 256)) (byte-inner n))

mac-inner : (n : ℕ) → every inner (mac_text n) ≡ true
mac-inner n = every-append inner (colon_triple (n / 16777216)) (58 ∷ colon_triple n) (triple-inner (n / 16777216)) (triple-inner n)

pair-inner : (n : ℕ) → every inner (dotted_pair n) ≡ true
pair-inner n = every-append inner (decimal (n / 256 % 256)) (46 ∷ decimal (n % 256)) (decimal-inner (n / 256 % 256) (byte-small (n / 256))) (decimal-inner (n % 256) (byte-small n))

ip-inner : (n : ℕ) → every inner (ip_text n) ≡ true
ip-inner n = every-append inner (dotted_pair (n / 65536)) (46 ∷ dotted_pair n) (pair-inner (n / 65536)) (pair-inner n)

pub value-inner : (f : Field) (n : ℕ) → IsValue f n → every inner (value_text f n) ≡ true
value-inner Sw n v = decimal-inner n (omega (arith, v.high))
value-inner Pt n v = decimal-inner n (omega (arith, v.high))
value-inner EthTyp n v = half-inner n
value-inner IpProto n v = decimal-inner n (omega (arith, v.high))
value-inner EthSrc n v = mac-inner n
value-inner EthDst n v = mac-inner n
value-inner Ip4Src n v = ip-inner n
value-inner Ip4Dst n v = ip-inner n
value-inner TcpSrcPort n v = decimal-inner n (omega (arith, v.high))
value-inner TcpDstPort n v = decimal-inner n (omega (arith, v.high))

pub decimal-same : (m n : ℕ) → m ≤ 65535 → n ≤ 65535 → decimal m ≡ decimal n → m ≡ n
decimal-same m n h k e = decimal_injective m n (omega (arith, h)) (omega (arith, k)) e

-- one byte of a text in hexadecimal digits, whose first digit stands at a place
byte-at : (k : ℕ) (m n : ℕ) → hex_digit (m / 16 % 16) ≡ hex_digit (n / 16 % 16) → hex_digit (m % 16) ≡ hex_digit (n % 16) → m % 256 ≡ n % 256
byte-at k m n a b = byte-same m n (hex-same (m / 16 % 16) (n / 16 % 16) (mod-small (m / 16)) (mod-small (n / 16)) a) (hex-same (m % 16) (n % 16) (mod-small m) (mod-small n) b)

abbrev at : List ℕ → ℕ → ℕ
at xs k = get_or xs k 0

half-text-same : (m n : ℕ) → m ≤ 65535 → n ≤ 65535 → hex_half m ≡ hex_half n → m ≡ n
half-text-same m n h k e =
    half-same m n (omega (arith, h)) (omega (arith, k)) (byte-at 0 (m / 256) (n / 256) (ap (λ xs. at xs 0) e) (ap (λ xs. at xs 1) e)) (byte-at 2 m n (ap (λ xs. at xs 2) e) (ap (λ xs. at xs 3) e))

mac-text-same : (m n : ℕ) → m ≤ 2 ^ 48 - 1 → n ≤ 2 ^ 48 - 1 → mac_text m ≡ mac_text n → m ≡ n
mac-text-same m n h k e =
    mac-same m n (omega (arith, h)) (omega (arith, k))
    (byte-at 0 (m / 16777216 / 65536) (n / 16777216 / 65536) (ap (λ xs. at xs 0) e) (ap (λ xs. at xs 1) e))
    (byte-at 3 (m / 16777216 / 256) (n / 16777216 / 256) (ap (λ xs. at xs 3) e) (ap (λ xs. at xs 4) e))
    (byte-at 6 (m / 16777216) (n / 16777216) (ap (λ xs. at xs 6) e) (ap (λ xs. at xs 7) e))
    (byte-at 9 (m / 65536) (n / 65536) (ap (λ xs. at xs 9) e) (ap (λ xs. at xs 10) e))
    (byte-at 12 (m / 256) (n / 256) (ap (λ xs. at xs 12) e) (ap (λ xs. at xs 13) e))
    (byte-at 15 m n (ap (λ xs. at xs 15) e) (ap (λ xs. at xs 16) e))

ip-parts : (n : ℕ) → ip_text n ≡ decimal (n / 65536 / 256 % 256) ++ (46 ∷ (decimal (n / 65536 % 256) ++ (46 ∷ (decimal (n / 256 % 256) ++ (46 ∷ decimal (n % 256))))))
ip-parts n = append_assoc (decimal (n / 65536 / 256 % 256)) (46 ∷ decimal (n / 65536 % 256)) (46 ∷ dotted_pair n)

-- the decimal number in front of a dot
number-same : (m n : ℕ) (us vs : List ℕ) → decimal (m % 256) ++ (46 ∷ us) ≡ decimal (n % 256) ++ (46 ∷ vs) → (m % 256 ≡ n % 256) × (us ≡ vs)
number-same m n us vs e =
    let r = cut digit (decimal (m % 256)) (decimal (n % 256)) (46 ∷ us) (46 ∷ vs) (digits (m % 256) (byte-small m)) (digits (n % 256) (byte-small n)) refl refl e in
    (decimal_injective (m % 256) (n % 256) (byte-small m) (byte-small n) r.0, rest 46 46 us vs r.1)

ip-text-same : (m n : ℕ) → m ≤ 2 ^ 32 - 1 → n ≤ 2 ^ 32 - 1 → ip_text m ≡ ip_text n → m ≡ n
ip-text-same m n h k e =
    let a = number-same (m / 65536 / 256) (n / 65536 / 256) _ _ (sym (ip-parts m) ∙ e ∙ ip-parts n) in
    let b = number-same (m / 65536) (n / 65536) _ _ a.1 in
    let c = number-same (m / 256) (n / 256) _ _ b.1 in
    ip-same m n (omega (arith, h)) (omega (arith, k)) a.0 b.0 c.0 (decimal_injective (m % 256) (n % 256) (byte-small m) (byte-small n) c.1)

pub value-same : (f : Field) (m n : ℕ) → IsValue f m → IsValue f n → value_text f m ≡ value_text f n → m ≡ n
value-same Sw m n v w e = decimal-same m n v.high w.high e
value-same Pt m n v w e = decimal-same m n (omega (arith, v.high)) (omega (arith, w.high)) e
value-same EthTyp m n v w e = half-text-same m n v.high w.high (rest 120 120 _ _ (rest 48 48 _ _ e))
value-same IpProto m n v w e = decimal-same m n (omega (arith, v.high)) (omega (arith, w.high)) e
value-same EthSrc m n v w e = mac-text-same m n v.high w.high e
value-same EthDst m n v w e = mac-text-same m n v.high w.high e
value-same Ip4Src m n v w e = ip-text-same m n v.high w.high e
value-same Ip4Dst m n v w e = ip-text-same m n v.high w.high e
value-same TcpSrcPort m n v w e = decimal-same m n v.high w.high e
value-same TcpDstPort m n v w e = decimal-same m n v.high w.high e
