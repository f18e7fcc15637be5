use Rattle.std.proofs.Common.{◌≡◌, take}
use Rattle.outside_net.specs.Troubles.{listed_calls}
use Rattle.outside_net.proofs.trouble.calls_of.Given as goal

abbrev pub invariant-loop-trouble : goal.invariant-loop-trouble
invariant-loop-trouble l = l.calls.items ≡ listed_calls (take l.trouble-index l.troubles)
