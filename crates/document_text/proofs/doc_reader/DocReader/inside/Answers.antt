use Rattle.std.proofs.Common.{◌+◌, inr, length, refl, ap, ◌∙◌}
use Rattle.document_text.specs.Answers.{state_of}
use Rattle.document_text.proofs.Feeding.{inside-reaches, inside-piece-reaches, given-none}
use Rattle.document_text.proofs.doc_reader.DocReader.inside.Goals as goal

pub returns-in_err-give-in-Some-clause-reaches : goal.returns-in_err-give-in-Some-clause-reaches
returns-in_err-give-in-Some-clause-reaches c =
    given-none c.args.end c.args.self.now c.give.new.self c.args.begin c.in_err-give-in-Some.ensures.keeps c.in_err-give-in-Some.ensures.err (inr c.requires)

pub returns-in_err-give-in-None-2-clause-reaches : goal.returns-in_err-give-in-None-2-clause-reaches
returns-in_err-give-in-None-2-clause-reaches c =
    given-none c.args.end c.args.self.now c.give-in-None-2.new.self c.args.begin c.in_err-give-in-None-2.ensures.keeps c.in_err-give-in-None-2.ensures.err (inr c.requires)

pub returns-in_ok-give-in-Some-clause-reaches : goal.returns-in_ok-give-in-Some-clause-reaches
returns-in_ok-give-in-Some-clause-reaches c =
    let k = c.in_ok-give-in-Some.ensures.keeps in
    let g = c.in_ok-give-in-Some.ensures.ok in
    let first = rw c.as_slice-text.ensures at c.in-Some.ensures.some in
    inside-reaches c.args.end c.args.self.now _ k.fed k.row c.args.begin c.in-Some.len (ap state_of k.reader) g.pending (g.stands c.args.begin) first.0 first.1 first.2
    c.requires refl (ap (λ n. n + 1) k.line)

pub returns-in_ok-give-in-None-2-clause-reaches : goal.returns-in_ok-give-in-None-2-clause-reaches
returns-in_ok-give-in-None-2-clause-reaches c =
    let k = c.in_ok-give-in-None-2.ensures.keeps in
    let g = c.in_ok-give-in-None-2.ensures.ok in
    let none = rw c.as_slice-text.ensures at c.in-None-2.ensures.none in
    inside-piece-reaches c.args.end c.args.self.now c.give-in-None-2.new.self k.fed k.row c.args.begin _ (ap state_of k.reader) g.pending (g.stands c.args.begin)
    (ap length c.as_slice-text.ensures) k.line (k.spot ∙ c.requires) none.0 c.requires
