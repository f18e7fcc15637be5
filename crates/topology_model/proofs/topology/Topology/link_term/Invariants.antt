use Rattle.std.proofs.Common.{◌≡◌, map, take}
use Rattle.std.specs.List.{flat_map}
use Rattle.nk_syntax.specs.Views.{term_of}
use Rattle.history_meaning.specs.Network.{along}
use Rattle.topology_model.specs.Layouts.{both_ways}
use Rattle.topology_model.proofs.topology.Topology.link_term.Given as goal

abbrev pub invariant-loop-a : goal.invariant-loop-a
invariant-loop-a l = map term_of l.items.items ≡ map along (flat_map both_ways (take l.a-index l.a-items))
