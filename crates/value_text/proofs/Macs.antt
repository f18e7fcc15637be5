-- Hexadecimal digits are ASCII: Ethernet addresses, and two bytes after `0x`.
use Rattle.std.proofs.Common.{◌<◌, ◌/◌, ◌%◌, ℕ, arith, List, [], ◌++◌, ◌∷◌, codes}
use Rattle.std.specs.Str.{IsAscii}
use Rattle.std.proofs.lemmas.Bool.Decides.{nat_tests}
use Rattle.std.proofs.lemmas.Str.Ascii.{IsAscii-nil, IsAscii-cons}
use Rattle.value_text.specs.Values.{hex_digit, hex_byte, hex_half, colon_triple, mac_text}

digit : (d : ℕ) → d < 16 → hex_digit d < 128
digit d h = grind (arith, nat_tests)

pair : (n : ℕ) (bs : List ℕ) → IsAscii bs → IsAscii (hex_byte n ++ bs)
pair n bs h =
    IsAscii-cons (hex_digit (n / 16 % 16)) (hex_digit (n % 16) ∷ bs) (digit (n / 16 % 16) (omega arith))
    (IsAscii-cons (hex_digit (n % 16)) bs (digit (n % 16) (omega arith)) h)

colon : (bs : List ℕ) → IsAscii bs → IsAscii (codes ":" ++ bs)
colon bs h = IsAscii-cons 58 bs (omega arith) h

triple : (n : ℕ) (bs : List ℕ) → IsAscii bs → IsAscii (colon_triple n ++ bs)
triple n bs h =
    pair (n / 65536) (codes ":" ++ (hex_byte (n / 256) ++ (codes ":" ++ (hex_byte n ++ bs))))
    (colon (hex_byte (n / 256) ++ (codes ":" ++ (hex_byte n ++ bs)))
    (pair (n / 256) (codes ":" ++ (hex_byte n ++ bs)) (colon (hex_byte n ++ bs) (pair n bs h))))

pub mac_ascii : (n : ℕ) → IsAscii (mac_text n)
mac_ascii n = triple (n / 16777216) (codes ":" ++ colon_triple n) (colon (colon_triple n) (triple n [] IsAscii-nil))

pub half_ascii : (n : ℕ) → IsAscii (codes "0x" ++ hex_half n)
half_ascii n = IsAscii-cons 48 (120 ∷ hex_half n) (omega arith) (IsAscii-cons 120 (hex_half n) (omega arith) (pair (n / 256) (hex_byte n) (pair n [] IsAscii-nil)))
