-- The cells of the rows of a path, as they are handed out.
use Rattle.std.specs.Prelude.{List, [], ◌∷◌}
use Rattle.nk_values.specs.declared.packet.Packet.{Packet}
use Rattle.table_emitter.specs.declared.patterns.RowCells.{RowCells}
use Rattle.table_emitter.specs.declared.patterns.RowCells.TheVariants.{None, One, Both}

abbrev pub cells_in : RowCells → List Packet
cells_in None = []
cells_in (One x) = x ∷ []
cells_in (Both x y) = x ∷ y ∷ []
