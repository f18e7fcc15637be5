use Rattle.workload_gen.proofs.Readying.{AreSoFar}
use Rattle.workload_gen.proofs.compiling.versions.Given as goal

abbrev pub invariant-loop-place : goal.invariant-loop-place
invariant-loop-place l = AreSoFar l.document.topology l.low l.high l.document.policies.items l.place l.versions.items
