-- The pairs of field and value that a policy names.
use Rattle.std.specs.Prelude.{ℕ, List, map}
use Rattle.nk_values.specs.declared.field.Field.{Field}
use Rattle.nk_values.specs.declared.lit.Lit.{Lit}
use Rattle.nk_values.specs.Lits.{lit_field, lit_value}
use Rattle.netkat_parser.specs.declared.named.NamedPairs.{NamedPairs}

abbrev pub pair_of : Lit → Field × ℕ
pair_of l = (lit_field l, lit_value l)

-- the pairs in the order in which they were first named
abbrev pub pairs : NamedPairs → List (Field × ℕ)
pairs n = map pair_of n.lits.keys
