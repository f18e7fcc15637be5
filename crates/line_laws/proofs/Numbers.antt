-- Numbers by their bytes and their hexadecimal digits.
use Rattle.std.proofs.Common.{◌≡◌, ℕ, ◌/◌, ◌%◌, ◌<◌, ◌^◌, arith}

pub mod-small : (n : ℕ) → n % 16 < 16
mod-small n = omega arith

-- two numbers with the same last hexadecimal digits
pub byte-same : (m n : ℕ) → m / 16 % 16 ≡ n / 16 % 16 → m % 16 ≡ n % 16 → m % 256 ≡ n % 256
byte-same m n a b = omega (arith, a, b)

pub half-same : (m n : ℕ) → m < 65536 → n < 65536 → m / 256 % 256 ≡ n / 256 % 256 → m % 256 ≡ n % 256 → m ≡ n
half-same m n h k a b = omega (arith, h, k, a, b)

pub mac-same : (m n : ℕ) → m < 2 ^ 48 → n < 2 ^ 48 → m / 16777216 / 65536 % 256 ≡ n / 16777216 / 65536 % 256 → m / 16777216 / 256 % 256 ≡ n / 16777216 / 256 % 256 → m / 16777216 % 256 ≡ n / 16777216 % 256 →
    m / 65536 % 256 ≡ n / 65536 % 256 → m / 256 % 256 ≡ n / 256 % 256 → m % 256 ≡ n % 256 → m ≡ n
mac-same m n h k a b c d e f = omega (arith, h, k, a, b, c, d, e, f)

pub ip-same : (m n : ℕ) → m < 2 ^ 32 → n < 2 ^ 32 → m / 65536 / 256 % 256 ≡ n / 65536 / 256 % 256 → m / 65536 % 256 ≡ n / 65536 % 256 → m / 256 % 256 ≡ n / 256 % 256 → m % 256 ≡ n % 256 → m ≡ n
ip-same m n h k a b c d = omega (arith, h, k, a, b, c, d)

pub byte-small : (n : ℕ) → n % 256 < 2 ^ 64
byte-small n = omega arith
