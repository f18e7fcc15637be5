use Rattle.document_text.specs.Feeding.{Reaches, left}
use Rattle.document_text.proofs.doc_reader.DocReader.settle.Given as goal

abbrev pub invariant-loop : goal.invariant-loop
invariant-loop l = Reaches l.end l.fn.self l.self

abbrev pub decreases-loop : goal.decreases-loop
decreases-loop l = left l.self
