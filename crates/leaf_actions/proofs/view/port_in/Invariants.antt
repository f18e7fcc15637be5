use Rattle.std.proofs.Common.{◌≡◌, drop}
use Rattle.leaf_actions.specs.Views.{port_in}
use Rattle.leaf_actions.proofs.view.port_in.Given as goal

abbrev pub invariant-loop-port : goal.invariant-loop-port
invariant-loop-port l = port_in (drop l.port-index l.ports) l.n ≡ port_in l.ports l.n
