use Rattle.std.proofs.Common.{length, sym, ◌∙◌}
use Rattle.document_text.proofs.Openings.{differs-at, differs-past, lt-false}
use Rattle.document_text.proofs.words.differs.Goals as goal

pub returns-then-place-word : goal.returns-then-place-word
returns-then-place-word c = sym (differs-at c.args.word.now c.args.place 0 c.args.byte c.if-place-word.true)

pub returns-else-place-word : goal.returns-else-place-word
returns-else-place-word c =
    lt-false c.args.place (length c.args.word.now) c.if-place-word.false ∙ sym (differs-past c.args.word.now c.args.place c.args.byte c.if-place-word.false)
