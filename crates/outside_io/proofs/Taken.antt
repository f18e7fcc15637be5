-- What is taken of known bytes, piece by piece.
use Rattle.std.proofs.Common.{◌≡◌, ℕ, ◌+◌, ◌≤◌, List, ◌++◌, length, Option, Some, None, arith, length-append}
use Rattle.std.specs.Io.KnownBytes.{Consumes}
use Rattle.std.proofs.KnownBytes.{Consumes-trans}
use Rattle.outside_io.specs.Lists.{TakesAtMost}

-- one piece, and another after it
pub takes-two : (limit : ℕ) (a b c : Option (List ℕ)) (xs ys : List ℕ) → Consumes a b xs → Consumes b c ys → length xs + length ys ≤ limit → TakesAtMost limit a c
takes-two limit a b c xs ys p q h = (xs ++ ys, Consumes-trans a b c xs ys p q, omega (arith, h, length-append xs ys))
