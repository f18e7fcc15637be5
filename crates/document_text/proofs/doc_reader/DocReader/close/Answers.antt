use Rattle.std.proofs.Common.{map, Err, refl, sym, ap, ◌∙◌, subst}
use Rattle.nk_syntax.specs.Views.{term_of}
use Rattle.document_text.specs.Answers.{state_of}
use Rattle.document_text.specs.Feeding.{HoldsAt}
use Rattle.document_text.specs.Grammar.{line_start}
use Rattle.document_text.proofs.Feeding.{stays}
use Rattle.document_text.proofs.doc_reader.DocReader.close.Goals as goal

pub returns-in-Err-Memory-clause-reaches : goal.returns-in-Err-Memory-clause-reaches
returns-in-Err-Memory-clause-reaches c = λ end.
    let old = c.args.self.now in
    let memory = c.in-Err-Memory.is ∙ ap Err c.in-Err-Memory.field-0-is in
    stays end old _ refl refl refl (ap (λ ps. record (state_of old.reader) { policies = map term_of ps }) c.in_ok-reserve.ensures.items) refl refl
    (λ front h.
    subst (λ z. HoldsAt z c.close.new.self old.behind front) (sym c.requires.1)
    (c.close.ensures.again memory (line_start c.requires.0) front (subst (λ z. HoldsAt z old.policy old.behind front) c.requires.1 h)))
