use Rattle.std.proofs.Common.{◌+◌, inl, length, refl, sym, ap, ◌∙◌}
use Rattle.document_text.specs.Answers.{state_of}
use Rattle.document_text.proofs.Feeding.{end-reaches, text-reaches, text-piece-reaches, given-none}
use Rattle.document_text.proofs.doc_reader.DocReader.text.Goals as goal

pub returns-in_err-give-in-Some-2-clause-reaches : goal.returns-in_err-give-in-Some-2-clause-reaches
returns-in_err-give-in-Some-2-clause-reaches c =
    given-none c.args.end c.args.self.now c.give.new.self c.args.begin c.in_err-give-in-Some-2.ensures.keeps c.in_err-give-in-Some-2.ensures.err (inl c.requires)

pub returns-in_err-give-in-None-clause-reaches : goal.returns-in_err-give-in-None-clause-reaches
returns-in_err-give-in-None-clause-reaches c =
    given-none c.args.end c.args.self.now c.give-in-None.new.self c.args.begin c.in_err-give-in-None.ensures.keeps c.in_err-give-in-None.ensures.err (inl c.requires)

pub returns-in-Some-clause-reaches : goal.returns-in-Some-clause-reaches
returns-in-Some-clause-reaches c =
    let first = rw c.as_slice-text.ensures at c.in-Some.ensures.some in
    let last = rw c.as_slice-text.ensures at (sym c.is_end_line.ensures ∙ c.if-is_end_line.true) in
    end-reaches c.args.end c.args.self.now _ refl refl c.args.begin c.in-Some.len refl c.advance.ensures.items refl first.0 first.1 first.2 last c.requires refl refl

pub returns-in_ok-give-in-Some-2-clause-reaches : goal.returns-in_ok-give-in-Some-2-clause-reaches
returns-in_ok-give-in-Some-2-clause-reaches c =
    let k = c.in_ok-give-in-Some-2.ensures.keeps in
    let g = c.in_ok-give-in-Some-2.ensures.ok in
    let first = rw c.as_slice-text.ensures at c.in-Some.ensures.some in
    let other = rw c.as_slice-text.ensures at (sym c.is_end_line.ensures ∙ c.if-is_end_line.false) in
    text-reaches c.args.end c.args.self.now _ k.fed k.row c.args.begin c.in-Some.len (ap state_of k.reader) g.pending (g.stands c.args.begin) first.0 first.1 first.2 other
    c.requires (k.spot ∙ c.requires) (ap (λ n. n + 1) k.line)

pub returns-in_ok-give-in-None-clause-reaches : goal.returns-in_ok-give-in-None-clause-reaches
returns-in_ok-give-in-None-clause-reaches c =
    let k = c.in_ok-give-in-None.ensures.keeps in
    let g = c.in_ok-give-in-None.ensures.ok in
    let none = rw c.as_slice-text.ensures at c.in-None.ensures.none in
    let other = rw c.as_slice-text.ensures at c.if-is_no_end.ensures in
    text-piece-reaches c.args.end c.args.self.now _ k.fed k.row c.args.begin _ (ap state_of k.reader) g.pending (g.stands c.args.begin)
    (ap length c.as_slice-text.ensures) k.line refl none.0 other.0 other.1 c.requires
