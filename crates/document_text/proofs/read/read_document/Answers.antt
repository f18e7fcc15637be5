use Rattle.std.proofs.Common.{[]}
use Rattle.document_text.proofs.read.read_document.Goals as goal

pub returns-in-Ok : goal.returns-in-Ok
returns-in-Ok c =
    let h = c.in-Ok.ensures.ok [] c.new-reader.ensures in
    record {
      reads = c.finish.ensures.reads c.args.text.now h;
      each = λ o. c.finish.ensures.each c.args.text.now o h;
    }
