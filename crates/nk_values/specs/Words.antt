-- Numbers of 32 bits as two of 16.
use Rattle.std.specs.Prelude.{◌≡◌, ℕ, ◌+◌, ◌*◌, ◌/◌, ◌%◌, ◌<◌}
use Rattle.std.proofs.Common.{refl}
use Rattle.std.proofs.lemmas.Nat.{div-mul-add, mod-mul-add}
use Rattle.nk_values.specs.declared.word.Word.TheInside.{Inside}

-- the number
abbrev pub joined : Inside → ℕ
joined w = w.high * 65536 + w.low

-- the low half is one
abbrev pub IsLow : Inside → Type 0
IsLow w = w.low < 65536

-- the halves of a number
abbrev pub halves : ℕ → Inside
halves n = record { low = n % 65536; high = n / 65536 }

-- the halves of their number are they
pub halves_back : (w : Inside) → IsLow w → halves (joined w) ≡ w
halves_back w low = rw (mod-mul-add w.high 65536 w.low low, div-mul-add w.high 65536 w.low low) refl
