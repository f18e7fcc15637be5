use Rattle.std.proofs.Common.{false}
use Rattle.document_text.proofs.Feeding.{stands-on}
use Rattle.document_text.proofs.doc_reader.DocReader.look.Goals as goal

pub returns-in_err-settle : goal.returns-in_err-settle
returns-in_err-settle c = λ text h. stands-on false c.args.self.now c.settle.new.self text c.in_err-settle.ensures.reaches h

pub returns : goal.returns
returns c = λ text h.
    let s = stands-on false c.args.self.now c.settle.new.self text c.in_ok-settle.ensures.reaches h in
    record { fed = s.fed; row = s.row; front = s.front; holds = s.holds; goes = s.goes }
