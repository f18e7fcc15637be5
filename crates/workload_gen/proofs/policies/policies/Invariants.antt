use Rattle.std.proofs.Common.{◌≡◌, ◌++◌, ◌-◌, map}
use Rattle.nk_syntax.specs.Views.{term_of}
use Rattle.workload_gen.specs.Documents.{policies}
use Rattle.workload_gen.specs.Words.{behind}
use Rattle.workload_gen.proofs.policies.policies.Given as goal

abbrev pub invariant-loop-drawn : goal.invariant-loop-drawn
invariant-loop-drawn l = record {
  policies : map term_of l.policies.items ++ policies l.switches (l.count - l.drawn) l.rng ≡ policies l.switches l.count l.fn.rng;
  words : behind (l.count - l.drawn) l.rng ≡ behind l.count l.fn.rng;
}
