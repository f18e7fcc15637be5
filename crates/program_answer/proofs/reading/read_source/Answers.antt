use Rattle.document_text.specs.Answers.{doc_of}
use Rattle.document_text.specs.Documents.{Refused}
use Rattle.program_answer.specs.Called.{source_of}
use Rattle.program_answer.proofs.Pieces.{feeds-reading, feeds-read, feeds-taken, feeds-ended}
use Rattle.program_answer.proofs.Soundness.{sound}
use Rattle.program_answer.proofs.Stopping.{text_stops}
use Rattle.program_answer.proofs.reading.read_source.Goals as goal

pub returns-in-Ok-clause-reads : goal.returns-in-Ok-clause-reads
returns-in-Ok-clause-reads g c =
    let f = c.in_ok-feed_from.ensures.feeds in
    let read = c.in-Ok.ensures.reads f.bytes f.stands in record {
      ended = feeds-ended _ _ c.feed_from.new.reader c.feed_from.new.lines f (doc_of c.in-Ok.document) read;
      faultless = c.in_ok-feed_from.ensures.same;
      bytes = feeds-read _ _ c.feed_from.new.reader c.feed_from.new.lines f (doc_of c.in-Ok.document) c.line_after.result (c.line_after.ensures f.bytes f.counts) read;
    }

pub returns-in-Ok-clause-sound : goal.returns-in-Ok-clause-sound
returns-in-Ok-clause-sound g c =
    let f = c.in_ok-feed_from.ensures.feeds in
    sound f.bytes (doc_of c.in-Ok.document) (c.in-Ok.ensures.reads f.bytes f.stands)

pub returns-in-Ok-clause-taken : goal.returns-in-Ok-clause-taken
returns-in-Ok-clause-taken g c = feeds-taken _ _ c.feed_from.new.reader c.feed_from.new.lines c.in_ok-feed_from.ensures.feeds

pub returns-in-Err-Fault-clause-stops : goal.returns-in-Err-Fault-clause-stops
returns-in-Err-Fault-clause-stops g c =
    let f = c.in_ok-feed_from.ensures.feeds in
    let S = g.S.Source in
    let read = feeds-reading _ _ c.feed_from.new.reader c.feed_from.new.lines f (Refused c.in-Err-Fault.fault) (rw c.in-Err-Fault.field-0-is at (c.in-Err-Fault.ensures.reads f.bytes f.stands)) in
    text_stops (source_of S.left S.faults c.args.source.now c.feed_from.new.source) c.in-Err-Fault.fault c.placed_fault.result (rw c.in-Err-Fault.field-0-is at c.placed_fault.ensures) (feeds-taken _ _ c.feed_from.new.reader c.feed_from.new.lines f) c.in_ok-feed_from.ensures.same read
