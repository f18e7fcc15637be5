-- Tests that are passed over, since no well-shaped packet of the path passes them.
use Rattle.std.specs.Prelude.{if◌then◌else◌}
use Rattle.nk_values.specs.Lits.{lit_field}
use Rattle.fdd_nodes.specs.Trees.{Tree, Leaf, Node}
use Rattle.table_emitter.specs.declared.kinds.FrameKinds.{FrameKinds}
use Rattle.table_emitter.specs.FrameKinds.{is_port, bars_ports}

-- where the tests of transport ports lead that stand first, if none holds
abbrev pub past_ports : Tree → Tree
past_ports (Leaf cs) = Leaf cs
past_ports (Node l t e) = if is_port (lit_field l) then past_ports e else Node l t e

-- the same, if these are barred
abbrev pub past_barred : FrameKinds → Tree → Tree
past_barred k d = if bars_ports k then past_ports d else d
