use Rattle.nk_syntax.specs.Views.{term_of}
use Rattle.workload_laws.proofs.Callers.{named_few, not_refused}
use Rattle.workload_laws.proofs.accepted.diagram_of.Goals as goal

pub compile-requires : goal.compile-requires
compile-requires c = named_few (term_of c.args.pol.now) c.requires

pub unreachable-requires : goal.unreachable-requires
unreachable-requires c = not_refused (term_of c.args.pol.now) c.in-Err-Fault.field-0 c.in-Err-Fault.field-0-0 c.requires c.in-Err-Fault.field-0-is c.in-Err-Fault.ensures.told
