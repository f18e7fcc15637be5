use Rattle.std.proofs.Common.{◌+◌, [], take, drop, sym, Ok, Err, ap, ◌∙◌, subst}
use Rattle.netkat_parser.specs.Readers.{StandsFor}
use Rattle.document_text.specs.declared.doc_reader.Spot.TheVariants as spot
use Rattle.document_text.specs.Answers.{state_of, IsOpening, TakesLine}
use Rattle.document_text.specs.Grammar.{line_start}
use Rattle.document_text.specs.Steps.{step}
use Rattle.document_text.specs.Texts.{words_of}
use Rattle.document_text.proofs.Feeding.{next-reaches, opening-reaches, stop-reaches}
use Rattle.document_text.proofs.doc_reader.DocReader.line.Goals as goal

pub returns-in-Err-Fault-clause-reaches : goal.returns-in-Err-Fault-clause-reaches
returns-in-Err-Fault-clause-reaches c =
    let old = c.args.self.now in
    let first = rw c.as_slice.ensures at c.in-Some.ensures.some in
    let k = c.in-Err-Fault.ensures.keeps in
    let t = c.in-Err-Fault.fault in
    stop-reaches c.args.end old _ k.fed k.row c.in-Some.len first.0 first.1 first.2 (c.advance.ensures.items ∙ ap (λ b. drop c.in-Some.len b.items) k.pending) c.requires t
    (ap spot.Refused (c.fault_at.ensures ∙ ap (λ f. record { fault = f; line = c.take.new.self.line; column = 1 }) c.in-Err-Fault.fault-is ∙ ap (λ n. record { fault = t; line = n; column = 1 }) k.line))
    (subst (λ x. TakesLine (step (state_of old.reader) old.line (words_of (take c.in-Some.len old.pending.items))) (state_of old.reader) (state_of c.take.new.self.reader) (Err x)) c.in-Err-Fault.field-0-is c.in-Err-Fault.ensures.takes)

pub returns-in-Opening-clause-reaches : goal.returns-in-Opening-clause-reaches
returns-in-Opening-clause-reaches c =
    let old = c.args.self.now in
    let first = rw c.as_slice.ensures at c.in-Some.ensures.some in
    let k = c.in-Ok.ensures.keeps in
    let l = c.open_policy.ensures.keeps in
    let taken = c.in-Ok.ensures.takes in
    opening-reaches c.args.end old c.open_policy.new.self (l.fed ∙ k.fed) (l.row ∙ k.row) c.in-Some.len first.0 first.1 first.2
    (ap (λ b. b.items) l.pending ∙ c.advance-2.ensures.items ∙ ap (λ b. drop c.in-Some.len b.items) k.pending) c.requires
    (c.open_policy.ensures.spot ∙ ap (λ n. spot.Text (n + 1)) k.line) (l.line ∙ ap (λ n. n + 1) k.line)
    (subst (λ n. StandsFor (line_start (n + 1)) c.open_policy.new.self.policy []) k.line c.open_policy.ensures.policy) (c.open_policy.ensures.behind ∙ ap (λ n. line_start (n + 1)) k.line)
    (subst (λ r. IsOpening (step (state_of old.reader) old.line (words_of (take c.in-Some.len old.pending.items))) (state_of r)) (sym l.reader)
    (subst (λ x. TakesLine (step (state_of old.reader) old.line (words_of (take c.in-Some.len old.pending.items))) (state_of old.reader) (state_of c.take.new.self.reader) (Ok x)) c.in-Opening.is taken))

pub returns-in_default-taken-clause-reaches : goal.returns-in_default-taken-clause-reaches
returns-in_default-taken-clause-reaches c =
    let old = c.args.self.now in
    let first = rw c.as_slice.ensures at c.in-Some.ensures.some in
    let k = c.in-Ok.ensures.keeps in
    next-reaches c.args.end old _ k.fed k.row c.in-Some.len first.0 first.1 first.2 (c.advance-2.ensures.items ∙ ap (λ b. drop c.in-Some.len b.items) k.pending) c.requires
    (k.spot ∙ c.requires) (ap (λ n. n + 1) k.line)
    (subst (λ x. TakesLine (step (state_of old.reader) old.line (words_of (take c.in-Some.len old.pending.items))) (state_of old.reader) (state_of c.take.new.self.reader) (Ok x)) c.in_default-taken.is c.in-Ok.ensures.takes)
