-- The forms of a value.
use Rattle.std.specs.Prelude.{◌≡◌, ℕ, zero, suc, ◌+◌, ◌*◌, ◌<◌, ◌==◌, nat_eq, nat_le, ◌&&◌, List, drop, length, codes}
use Rattle.std.specs.Prelude.{Option, None, Some, IfSome, if◌then◌else◌, option_map, option_and_then}
use Rattle.std.specs.List.{list_all, starts_with, before_first, after_first}
use Rattle.std.specs.Char.{is_digit, is_ascii_digit}
use Rattle.std.specs.Str.Parse.{digits_value}
use Rattle.nk_values.specs.declared.field.Field.{Field}
use Rattle.nk_values.specs.declared.field.Field.TheVariants.{EthSrc, EthDst, Ip4Src, Ip4Dst}
use Rattle.nk_values.specs.declared.lit.Lit.{Lit}
use Rattle.nk_values.specs.Lits.{lit_field, lit_value}
use Rattle.nk_values.specs.Ranges.{IsLiteralOf}
use Rattle.netkat_parser.specs.declared.number.ByteForm.{ByteForm}
use Rattle.netkat_parser.specs.declared.number.ByteForm.TheVariants.{Pair, Octet}

-- the number that digits in a base write, in letters of either case
abbrev pub digits_form : ℕ → List ℕ → Option ℕ
digits_form base ds = if list_all (λ d. is_digit d base) ds then Some (digits_value base ds) else None

-- the same of `least` to `most` digits
abbrev pub numeral : ℕ → ℕ → ℕ → List ℕ → Option ℕ
numeral base least most ds = if nat_le least (length ds) && nat_le (length ds) most then digits_form base ds else None

-- a number up to a greatest one
abbrev pub at_most : ℕ → Option ℕ → Option ℕ
at_most high o = option_and_then (λ n. if nat_le n high then Some n else None) o

-- 1 to 20 decimal digits
abbrev pub decimal_form : List ℕ → Option ℕ
decimal_form ds = numeral 10 1 20 ds

-- 1 to 16 hexadecimal digits, which stand after `0x`
abbrev pub hexadecimal_form : List ℕ → Option ℕ
hexadecimal_form ds = numeral 16 1 16 ds

-- a byte in two hexadecimal digits
abbrev pub pair_form : List ℕ → Option ℕ
pair_form ds = at_most 255 (numeral 16 2 2 ds)

-- a byte in 1 to 3 decimal digits
abbrev pub octet_form : List ℕ → Option ℕ
octet_form ds = at_most 255 (numeral 10 1 3 ds)

-- a byte of an Ethernet or an IPv4 address
abbrev pub byte_form : ByteForm → List ℕ → Option ℕ
byte_form Pair ds = pair_form ds
byte_form Octet ds = octet_form ds

-- A number in base 256, of which `before` is read: k + 1 more bytes, each in this form, joined by a sign.
abbrev pub joined : (List ℕ → Option ℕ) → ℕ → ℕ → ℕ → List ℕ → Option ℕ
joined form sign zero before text = option_map (λ n. 256 * before + n) (form text)
joined form sign (suc k) before text =
    option_and_then (λ n. joined form sign k (256 * before + n) (after_first (λ b. b == sign) text))
    (form (before_first (λ b. b == sign) text))

-- six pairs of hexadecimal digits joined by `:`
abbrev pub ethernet_form : List ℕ → Option ℕ
ethernet_form text = joined (byte_form Pair) 58 5 0 text

-- four numbers of at most 255 joined by `.`
abbrev pub dotted_form : List ℕ → Option ℕ
dotted_form text = joined (byte_form Octet) 46 3 0 text

-- the form that some fields have besides
abbrev pub address_form : Field → List ℕ → Option ℕ
address_form EthSrc text = ethernet_form text
address_form EthDst text = ethernet_form text
address_form Ip4Src text = dotted_form text
address_form Ip4Dst text = dotted_form text
address_form _ text = None

-- The number that a run writes for a field. No run that begins with `0x`, and none of digits alone, has an address's
-- form.
abbrev pub number : Field → List ℕ → Option ℕ
number f text =
    if starts_with nat_eq text (codes "0x") then hexadecimal_form (drop 2 text) else
    if list_all is_ascii_digit text then decimal_form text else address_form f text

-- the number, unless it is above any field's greatest one
abbrev pub IsUpTo : ℕ → Option ℕ → Option ℕ → Type 0
IsUpTo high written None = IfSome written (λ n. high < n)
IsUpTo high written (Some n) = written ≡ Some n

-- the literal that a run writes for a field, where its number is one
abbrev pub IsWritten : Field → List ℕ → Option Lit → Type 0
IsWritten f text None = IfSome (number f text) (λ n. ¬ (IsLiteralOf f n))
IsWritten f text (Some l) = (lit_field l ≡ f) × (number f text ≡ Some (lit_value l))
