use Rattle.std.proofs.Common.{◌≡◌, ◌++◌, ◌-◌, ◌*◌}
use Rattle.workload_gen.specs.Documents.{packets}
use Rattle.workload_gen.specs.Words.{behind}
use Rattle.workload_gen.proofs.documents.packets.Given as goal

abbrev pub invariant-loop-drawn : goal.invariant-loop-drawn
invariant-loop-drawn l = record {
  packets : l.packets.items ++ packets l.switches (l.count - l.drawn) l.rng ≡ packets l.switches l.count l.fn.rng;
  words : behind (2 * (l.count - l.drawn)) l.rng ≡ behind (2 * l.count) l.fn.rng;
}
