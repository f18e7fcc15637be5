-- Cells in a set.
use Rattle.std.proofs.Common.{rules, ◌≡◌, Bool, true}
use Rattle.nk_values.specs.declared.packet.Packet.{Packet}
use Rattle.fdd_nodes.specs.contracts.cell.CellPartialEq.TheImpl.{eq-value}

abbrev pub cell_eq : Packet → Packet → Bool
cell_eq = eq-value.it

pub same_cell : (x y : Packet) → cell_eq x y ≡ true → x ≡ y
same_cell x y h = search rules
