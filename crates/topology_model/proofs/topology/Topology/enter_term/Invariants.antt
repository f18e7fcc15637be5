use Rattle.std.proofs.Common.{◌≡◌, map, take}
use Rattle.nk_syntax.specs.Views.{term_of}
use Rattle.history_meaning.specs.Network.{at}
use Rattle.topology_model.specs.Layouts.{location_of}
use Rattle.topology_model.proofs.topology.Topology.enter_term.Given as goal

abbrev pub invariant-loop-end : goal.invariant-loop-end
invariant-loop-end l = map term_of l.items.items ≡ map at (map location_of (take l.end-index l.end-items))
