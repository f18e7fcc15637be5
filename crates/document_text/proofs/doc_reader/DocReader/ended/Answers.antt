use Rattle.document_text.proofs.Feeding.{ended-line, ended-text, ended-inside, ended-refused}
use Rattle.document_text.proofs.doc_reader.DocReader.ended.Goals as goal

pub returns-in-Line : goal.returns-in-Line
returns-in-Line c = λ front h. ended-line c.args.self front c.finish.result c.in-Line.is c.requires.pending c.finish.ensures

pub returns-in-Text : goal.returns-in-Text
returns-in-Text c = λ front h. ended-text c.args.self c.in-Text.field-0 front c.unclosed.result c.in-Text.is c.requires.pending c.unclosed.ensures h

pub returns-in-Inside : goal.returns-in-Inside
returns-in-Inside c = λ front h. ended-inside c.args.self c.in-Inside.field-0 front c.unclosed-in-Inside.result c.in-Inside.is c.requires.pending c.unclosed-in-Inside.ensures h

pub returns : goal.returns
returns c = λ front h. ended-refused c.args.self c.in-Refused.fault front c.in-Refused.is c.requires.pending
