use Rattle.std.proofs.Common.{◌≡◌, ◌++◌, map, take, drop}
use Rattle.update_coordinator.specs.Controls.{begun_peer}
use Rattle.update_coordinator.proofs.peers.begin_phases.Given as goal

abbrev pub invariant-loop-peer : goal.invariant-loop-peer
invariant-loop-peer l = l.peers ≡ map (begun_peer l.fn.works) (take l.peer-index l.fn.peers) ++ drop l.peer-index l.fn.peers
