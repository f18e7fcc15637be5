-- Well-shaped packets of a path.
use Rattle.std.specs.Prelude.{if◌then◌else◌, List, [], ◌∷◌}
use Rattle.nk_values.specs.declared.packet.Packet.{Packet}
use Rattle.nk_values.specs.declared.lit.Lit.{Lit}
use Rattle.nk_values.specs.Held.{put}
use Rattle.nk_values.specs.Lits.{lit_field}
use Rattle.nk_values.specs.Packets.{IsWellShaped}
use Rattle.fdd_nodes.specs.Cells.{is_unset}
use Rattle.fdd_nodes.specs.Paths.{Way, IsOnPath}
use Rattle.fdd_differ.specs.declared.frame.Frame.{Frame}
use Rattle.fdd_differ.specs.Frames.{IsFrame}

-- a well-shaped packet of the path
pub record IsWitness (w : Way) (p : Packet) : Type 0 where
  pub shaped : IsWellShaped p
  pub on_path : IsOnPath w p

-- a well-shaped packet of the path, of one kind
pub record IsWitnessOf (w : Way) (k : Frame) (p : Packet) : Type 0 where
  pub shaped : IsWellShaped p
  pub on_path : IsOnPath w p
  pub kind : IsFrame k p

-- the cell with what a literal names, where it leaves its field open
abbrev pub narrowed_by_one : Packet → Lit → Packet
narrowed_by_one c l = if is_unset c (lit_field l) then put l c else c

abbrev pub narrowed : Packet → List Lit → Packet
narrowed c [] = c
narrowed c (l ∷ ls) = narrowed (narrowed_by_one c l) ls
