-- Where reading stands.
use Rattle.std.specs.Prelude.{ℕ, List}
use Rattle.nk_values.specs.declared.field.Field.{Field}
use Rattle.netkat_parser.specs.Grammar.{Spot}

abbrev pub spot : List ℕ → List (Field × ℕ) → Spot
spot text named = record { text = text; named = named }
