-- The characters of printed values: no blanks, and no ends of lines.
use Rattle.std.proofs.Common.{◌≡◌, ℕ, ◌+◌, ◌/◌, ◌%◌, ◌<◌, ◌^◌, Bool, true, false, ◌&&◌, nat_lt, List, [], ◌∷◌, ◌++◌, refl, arith, if◌then◌else◌}
use Rattle.std.proofs.lemmas.Bool.Decides.{Decides-ltb}
use Rattle.std.specs.Fmt.{decimal}
use Rattle.nk_values.specs.declared.field.Field.{Field}
use Rattle.nk_values.specs.declared.field.Field.TheVariants.{Sw, Pt, EthTyp, IpProto, EthSrc, EthDst, Ip4Src, Ip4Dst, TcpSrcPort, TcpDstPort}
use Rattle.nk_values.specs.declared.packet.Packet.{Packet}
use Rattle.nk_values.specs.Names.{name_of}
use Rattle.nk_values.specs.Packets.{IsInRange, get}
use Rattle.nk_values.specs.Ranges.{IsValue}
use Rattle.value_text.specs.Values.{hex_digit, hex_byte, hex_half, colon_triple, mac_text, dotted_pair, ip_text, value_text, field_text, fields_text}
use Rattle.line_laws.proofs.Cut.{every, and-left, and-both, every-append, every-weaker}
use Rattle.line_laws.proofs.Numbers.{byte-small}
use Rattle.line_laws.proofs.Values.{digit, digits}

-- above a blank, and above the end of a line
abbrev pub printed : ℕ → Bool
printed c = nat_lt 32 c

abbrev pub in_line : ℕ → Bool
in_line c = nat_lt 10 c

digit-printed : (c : ℕ) → digit c ≡ true → printed c ≡ true
digit-printed c h = (Decides-ltb 32 c).1 (omega (arith, (Decides-ltb 47 c).0 (and-left (nat_lt 47 c) (nat_lt c 58) h)))

printed-line : (c : ℕ) → printed c ≡ true → in_line c ≡ true
printed-line c h = (Decides-ltb 10 c).1 (omega (arith, (Decides-ltb 32 c).0 h))

pub all-line : (as' : List ℕ) → every printed as' ≡ true → every in_line as' ≡ true
all-line as' h = every-weaker printed in_line printed-line as' h

pub decimal-printed : (n : ℕ) → n < 2 ^ 64 → every printed (decimal n) ≡ true
decimal-printed n l = every-weaker digit printed digit-printed (decimal n) (digits n l)

pub decimal-line : (n : ℕ) → n < 2 ^ 64 → every in_line (decimal n) ≡ true
decimal-line n l = all-line (decimal n) (decimal-printed n l)

hex-printed : (n : ℕ) → printed (hex_digit n) ≡ true
hex-printed n = split (nat_lt n 10)
  where
    split : (b : Bool) → printed (if b then 48 + n else 87 + n) ≡ true
    split true = (Decides-ltb 32 (48 + n)).1 (omega arith)
    split false = (Decides-ltb 32 (87 + n)).1 (omega arith)

byte-printed : (n : ℕ) → every printed (hex_byte n) ≡ true
byte-printed n = and-both (printed (hex_digit (n / 16 % 16))) (printed (hex_digit (n % 16)) && true) (hex-printed (n / 16 % 16)) (and-both (printed (hex_digit (n % 16))) true (hex-printed (n % 16)) refl)

half-printed : (n : ℕ) → every printed (hex_half n) ≡ true
half-printed n = every-append printed (hex_byte (n / 256)) (hex_byte n) (byte-printed (n / 256)) (byte-printed n)

triple-printed : (n : ℕ) → every printed (colon_triple n) ≡ true
triple-printed n =
    every-append printed (hex_byte (n / 65536)) (58 ∷ (hex_byte (n / 256) ++ (58 ∷ hex_byte n))) (byte-printed (n / 65536)) (every-append printed (hex_byte (n / 256)) (58 ∷ hex_byte n) (byte-printed (n / 256)) (byte-printed n))

mac-printed : (n : ℕ) → every printed (mac_text n) ≡ true
mac-printed n = every-append printed (colon_triple (n / 16777216)) (58 ∷ colon_triple n) (triple-printed (n / 16777216)) (triple-printed n)

pair-printed : (n : ℕ) → every printed (dotted_pair n) ≡ true
pair-printed n = every-append printed (decimal (n / 256 % 256)) (46 ∷ decimal (n % 256)) (decimal-printed (n / 256 % 256) (byte-small (n / 256))) (decimal-printed (n % 256) (byte-small n))

ip-printed : (n : ℕ) → every printed (ip_text n) ≡ true
ip-printed n = every-append printed (dotted_pair (n / 65536)) (46 ∷ dotted_pair n) (pair-printed (n / 65536)) (pair-printed n)

pub value-printed : (f : Field) (n : ℕ) → IsValue f n → every printed (value_text f n) ≡ true
value-printed Sw n v = decimal-printed n (omega (arith, v.high))
value-printed Pt n v = decimal-printed n (omega (arith, v.high))
value-printed EthTyp n v = half-printed n
value-printed IpProto n v = decimal-printed n (omega (arith, v.high))
value-printed EthSrc n v = mac-printed n
value-printed EthDst n v = mac-printed n
value-printed Ip4Src n v = ip-printed n
value-printed Ip4Dst n v = ip-printed n
value-printed TcpSrcPort n v = decimal-printed n (omega (arith, v.high))
value-printed TcpDstPort n v = decimal-printed n (omega (arith, v.high))

name-line : (f : Field) → every in_line (name_of f) ≡ true
name-line Sw = refl
name-line Pt = refl
name-line EthTyp = refl
name-line IpProto = refl
name-line EthSrc = refl
name-line EthDst = refl
name-line Ip4Src = refl
name-line Ip4Dst = refl
name-line TcpSrcPort = refl
name-line TcpDstPort = refl

pub fields-line : (p : Packet) → IsInRange p → (fs : List Field) → every in_line (fields_text p fs) ≡ true
fields-line p k [] = refl
fields-line p k (f ∷ fs) =
    every-append in_line (field_text f (get p f)) (fields_text p fs)
    (every-append in_line (name_of f) (61 ∷ value_text f (get p f)) (name-line f) (all-line (value_text f (get p f)) (value-printed f (get p f) (k f)))) (fields-line p k fs)
