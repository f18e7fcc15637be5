use Rattle.std.proofs.Common.{◌≡◌, ◌-◌, map}
use Rattle.workload_laws.specs.Workload.{numbers}
use Rattle.workload_gen.specs.Documents.{switch_line}
use Rattle.workload_gen.proofs.documents.switch_lines.Given as goal

abbrev pub invariant-loop-switch : goal.invariant-loop-switch
invariant-loop-switch l = l.lines.items ≡ map switch_line (numbers 1 (l.switch - 1))
