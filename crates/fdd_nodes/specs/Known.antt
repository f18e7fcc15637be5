-- What a cell knows of a literal.
use Rattle.nk_values.specs.declared.packet.Packet.{Packet}
use Rattle.nk_values.specs.declared.lit.Lit.{Lit}
use Rattle.nk_values.specs.Held.{Holds}
use Rattle.nk_values.specs.Lits.{lit_field}
use Rattle.fdd_nodes.specs.declared.cell.Knowledge.{Knowledge}
use Rattle.fdd_nodes.specs.declared.cell.Knowledge.TheVariants.{Unset, Yes, No}
use Rattle.fdd_nodes.specs.Cells.{IsUnset}

-- the cell fixes another number in the literal's field
pub record Bars (c : Packet) (l : Lit) : Type 0 where
  pub fixed : ¬ IsUnset c (lit_field l)
  pub other : ¬ Holds c l

abbrev pub Knows : Packet → Lit → Knowledge → Type 0
Knows c l Unset = IsUnset c (lit_field l)
Knows c l Yes = Holds c l
Knows c l No = Bars c l
