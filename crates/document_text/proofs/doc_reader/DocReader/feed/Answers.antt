use Rattle.std.proofs.Common.{ℕ, List, ◌++◌}
use Rattle.document_text.specs.Feeding.{StandsFor}
use Rattle.document_text.proofs.Feeding.{on-err}
use Rattle.document_text.proofs.doc_reader.DocReader.feed.Goals as goal

pub returns-in_err-add-clause-err : goal.returns-in_err-add-clause-err
returns-in_err-add-clause-err c =
    let stays : (text : List ℕ) → StandsFor c.args.self.now text → StandsFor c.add.new.self text = λ text h. c.in_err-add.ensures.err text (c.in_ok-look.ensures text h) in
    on-err _ stays

pub returns-in-Ok-clause-ok : goal.returns-in-Ok-clause-ok
returns-in-Ok-clause-ok c = λ text h. c.look-2.ensures (text ++ c.args.piece.now) (c.in_ok-add.ensures.ok text (c.in_ok-look.ensures text h))

pub returns-in-Ok-2-clause-ok : goal.returns-in-Ok-2-clause-ok
returns-in-Ok-2-clause-ok c = λ text h. c.look-2.ensures (text ++ c.args.piece.now) (c.in_ok-add.ensures.ok text (c.in_ok-look.ensures text h))
