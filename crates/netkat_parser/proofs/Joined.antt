-- Bytes joined by a sign.
use Rattle.std.proofs.Common.{◌≡◌, ℕ, suc, ◌+◌, ◌-◌, ◌*◌, ◌^◌, ◌<◌, ◌≤◌, ◌==◌, List, Option, Some, None, refl, sym, ◌∙◌, arith}
use Rattle.std.proofs.Math.Pow.{pow_mono, pow-add}
use Rattle.std.specs.List.{before_first, after_first}
use Rattle.netkat_parser.specs.declared.number.ByteForm.{ByteForm}
use Rattle.netkat_parser.specs.Numbers.{joined, byte_form}

joined-suc : (part : ByteForm) (sign k value byte : ℕ) (rest first after : List ℕ)
    → first ≡ before_first (λ b. b == sign) rest → after ≡ after_first (λ b. b == sign) rest → Some byte ≡ byte_form part first
    → joined (byte_form part) sign k (256 * value + byte) after ≡ joined (byte_form part) sign (suc k) value rest
joined-suc part sign k value byte rest first after before behind read = rw (← before, ← behind, ← read) refl

-- one more byte
pub joined-step : (part : ByteForm) (sign more i value byte : ℕ) (rest first after : List ℕ) (whole : Option ℕ) → i < more
    → first ≡ before_first (λ b. b == sign) rest → after ≡ after_first (λ b. b == sign) rest → Some byte ≡ byte_form part first
    → joined (byte_form part) sign (more - i) value rest ≡ whole
    → joined (byte_form part) sign (more - (i + 1)) (256 * value + byte) after ≡ whole
joined-step part sign more i value byte rest first after whole left before behind read h =
    let e : more - i ≡ suc (more - (i + 1)) = omega arith in
    joined-suc part sign (more - (i + 1)) value byte rest first after before behind read ∙ rw e at h

joined-none-suc : (part : ByteForm) (sign k value : ℕ) (rest first : List ℕ) → first ≡ before_first (λ b. b == sign) rest → None ≡ byte_form part first
    → joined (byte_form part) sign (suc k) value rest ≡ None
joined-none-suc part sign k value rest first before read = rw (← before, ← read) refl

-- a part that is no byte
pub joined-none : (part : ByteForm) (sign more i value : ℕ) (rest first : List ℕ) (whole : Option ℕ) → i < more
    → first ≡ before_first (λ b. b == sign) rest → None ≡ byte_form part first
    → joined (byte_form part) sign (more - i) value rest ≡ whole → None ≡ whole
joined-none part sign more i value rest first whole left before read h =
    let e : more - i ≡ suc (more - (i + 1)) = omega arith in
    sym (joined-none-suc part sign (more - (i + 1)) value rest first before read) ∙ rw e at h

byte-more : (i : ℕ) → 2 ^ (8 * (i + 1)) ≡ 2 ^ (8 * i) * 256
byte-more i = let e : 8 * (i + 1) ≡ 8 * i + 8 = omega arith in rw e (pow-add 2 (8 * i) 8)

pub byte-small : (i value byte : ℕ) → value < 2 ^ (8 * i) → byte ≤ 255 → 256 * value + byte < 2 ^ (8 * (i + 1))
byte-small i value byte h k = omega (arith, byte-more i)

-- all parts but one fit 40 bits
pub bytes-small : (i more value : ℕ) → value < 2 ^ (8 * i) → i ≤ more → more ≤ 5 → value < 2 ^ 40
bytes-small i more value h le five = omega (arith, pow_mono {i = 8 * i} {j = 40} (omega arith))
