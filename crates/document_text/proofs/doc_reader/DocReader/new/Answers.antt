use Rattle.std.proofs.Common.{[], refl}
use Rattle.document_text.proofs.doc_reader.DocReader.new.Goals as goal

pub returns : goal.returns
returns c = record {
  fed = refl;
  row = refl;
  front = [];
  holds = tt;
  goes = λ rest o e h. rw (c.new.ensures, c.new-2.ensures.items) at h;
}
