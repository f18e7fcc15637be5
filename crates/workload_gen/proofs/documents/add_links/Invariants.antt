use Rattle.std.proofs.Common.{◌≡◌, ◌++◌, ◌-◌, map}
use Rattle.workload_laws.specs.Workload.{numbers}
use Rattle.workload_gen.specs.Documents.{link_line}
use Rattle.workload_gen.proofs.documents.add_links.Given as goal

abbrev pub invariant-loop-switch : goal.invariant-loop-switch
invariant-loop-switch l = l.lines.items ≡ l.fn.lines.items ++ map link_line (numbers 1 (l.switch - 1))
