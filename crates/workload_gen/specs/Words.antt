-- The words of the generator, each drawn once.
use Rattle.std.specs.Prelude.{ℕ, zero, suc}
use Rattle.rand_pcg.specs.Lcg.{Lcg}
use Rattle.rand_pcg.specs.Pcg.{pcg32}

-- its next word, and the generator after it
unfoldable pub next_word : Lcg → ℕ × Lcg
next_word g = pcg32 g

-- the generator after so many words
abbrev pub behind : ℕ → Lcg → Lcg
behind zero g = g
behind (suc n) g = behind n (next_word g).1
