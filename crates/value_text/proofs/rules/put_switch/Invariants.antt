use Rattle.std.proofs.Common.{◌≡◌, ◌++◌, take, string_bytes}
use Rattle.std.specs.List.{flat_map}
use Rattle.value_text.specs.Rules.{port_text}
use Rattle.value_text.proofs.rules.put_switch.Given as goal

abbrev pub invariant-loop-port : goal.invariant-loop-port
invariant-loop-port l = string_bytes l.out ≡ string_bytes l.initial.out ++ flat_map (port_text l.site.sw) (take l.port-index l.ports)
