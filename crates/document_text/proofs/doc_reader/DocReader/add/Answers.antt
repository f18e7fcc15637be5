use Rattle.std.proofs.Common.{take, refl, ap, ◌∙◌}
use Rattle.document_text.proofs.Feeding.{on-err, held-on, held-none}
use Rattle.document_text.proofs.doc_reader.DocReader.add.Goals as goal

pub returns-in_err-extend_from_slice-clause-err : goal.returns-in_err-extend_from_slice-clause-err
returns-in_err-extend_from_slice-clause-err c =
    on-err _ (held-none c.args.self.now _ refl refl refl refl refl c.in_err-extend_from_slice.ensures.err refl refl)

pub returns-clause-ok : goal.returns-clause-ok
returns-clause-ok c = λ text h.
    held-on c.args.self.now _ text c.args.piece.now c.first-counted.result.now c.first-allowed.result.now c.first-counted.ensures
    (c.first-allowed.ensures ∙ ap (λ n. take n c.args.piece.now) c.saturating_sub.ensures) refl refl refl refl refl
    c.in_ok-extend_from_slice.ensures.ok refl c.line_behind-self.ensures h
