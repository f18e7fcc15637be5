use Rattle.std.proofs.Common.{Err}
use Rattle.document_text.proofs.Feeding.{read-small, read-large}
use Rattle.document_text.proofs.Readings.{answer-one}
use Rattle.document_text.proofs.doc_reader.DocReader.finish.Goals as goal

pub returns-then-fed-le-MOST_DOCUMENT_BYTES-clause-reads : goal.returns-then-fed-le-MOST_DOCUMENT_BYTES-clause-reads
returns-then-fed-le-MOST_DOCUMENT_BYTES-clause-reads c = λ text h.
    read-small c.args.self c.settle.new.self text c.ended-whole.result c.in_default.ensures.reaches c.ended-whole.ensures c.if-fed-le-MOST_DOCUMENT_BYTES.true h

pub returns-else-fed-le-MOST_DOCUMENT_BYTES-clause-reads : goal.returns-else-fed-le-MOST_DOCUMENT_BYTES-clause-reads
returns-else-fed-le-MOST_DOCUMENT_BYTES-clause-reads c = λ text h.
    read-large c.args.self c.settle.new.self text c.ended-whole.result c.cut_off.result c.in_default.ensures.reaches c.ended-whole.ensures c.if-fed-le-MOST_DOCUMENT_BYTES.false c.cut_off.ensures h

pub returns-then-fed-le-MOST_DOCUMENT_BYTES-clause-each : goal.returns-then-fed-le-MOST_DOCUMENT_BYTES-clause-each
returns-then-fed-le-MOST_DOCUMENT_BYTES-clause-each c = λ text o h.
    answer-one text c.ended-whole.result
    (read-small c.args.self c.settle.new.self text c.ended-whole.result c.in_default.ensures.reaches c.ended-whole.ensures c.if-fed-le-MOST_DOCUMENT_BYTES.true h) o

pub returns-else-fed-le-MOST_DOCUMENT_BYTES-clause-each : goal.returns-else-fed-le-MOST_DOCUMENT_BYTES-clause-each
returns-else-fed-le-MOST_DOCUMENT_BYTES-clause-each c = λ text o h.
    answer-one text (Err c.cut_off.result)
    (read-large c.args.self c.settle.new.self text c.ended-whole.result c.cut_off.result c.in_default.ensures.reaches c.ended-whole.ensures c.if-fed-le-MOST_DOCUMENT_BYTES.false c.cut_off.ensures h) o
