use Rattle.std.proofs.Common.{List, map, sym, ap, ◌∙◌, subst}
use Rattle.std.proofs.lemmas.Result.{err_from_is_err_and}
use Rattle.nk_syntax.specs.declared.pol.Pol.{Pol}
use Rattle.nk_syntax.specs.Views.{term_of}
use Rattle.document_text.specs.Answers.{doc_of}
use Rattle.document_text.specs.Documents.{Doc}
use Rattle.program_answer.specs.declared.answer.AnswerError.{AnswerError}
use Rattle.program_answer.specs.Answers.{Reads, Stops}
use Rattle.program_answer.specs.Input.{IsAcceptedAs, IsTextRefusal, TellsFirst}
use Rattle.program_answer.specs.Sound.{IsSound}
use Rattle.program_answer.proofs.Lists.{versions_as, told_as}
use Rattle.program_answer.specs.Called.{source_of}
use Rattle.program_answer.proofs.Stopping.{accepted_reads, document_reads, policy_stops, text_refuses}
use Rattle.program_answer.proofs.input.read_input.Goals as goal

pub returns-clause-reads : goal.returns-clause-reads
returns-clause-reads g c =
    let S = g.S.Source in
    let source = source_of S.left S.faults c.args.source.now c.read_source.new.source in
    let d = doc_of c.in_ok-read.read.document in
    let apart = c.in_ok-document.field-0 in
    let whole = c.in_ok-document.ensures.document in
    let policies = sym (ap (λ (ps : List Pol). map term_of ps) c.in_ok-document.ensures.policies) ∙ ap (λ (x : Doc). x.policies) whole in
    let all = versions_as c.topology.result.now d.layout c.settings.result d.settings (map term_of apart.policies.items) d.policies c.in_ok-versions.versions.items
    (c.topology.ensures ∙ ap (λ (x : Doc). x.layout) whole) (c.settings.ensures ∙ ap (λ (x : Doc). x.settings) whole) policies c.in_ok-versions.ensures.all in
    subst (λ (x : Doc). Reads (λ xs. IsAcceptedAs xs x c.in_ok-versions.versions.items) source) (sym whole)
    (accepted_reads source d c.in_ok-versions.versions.items (document_reads source d _ c.in_ok-read.ensures.reads) all)

pub returns-clause-sound : goal.returns-clause-sound
returns-clause-sound g c = subst IsSound (sym c.in_ok-document.ensures.document) c.in_ok-read.ensures.sound

pub returns-clause-versions : goal.returns-clause-versions
returns-clause-versions g c =
    let apart = c.in_ok-document.field-0 in
    versions_as _ _ _ _ _ _ c.in_ok-versions.versions.items c.topology.ensures c.settings.ensures (sym (ap (λ (ps : List Pol). map term_of ps) c.in_ok-document.ensures.policies)) c.in_ok-versions.ensures.all

pub returns-in_err-read-clause-stops : goal.returns-in_err-read-clause-stops
returns-in_err-read-clause-stops g c =
    let S = g.S.Source in
    let source = source_of S.left S.faults c.args.source.now c.read_source.new.source in
    let p = err_from_is_err_and c.from_residual.result c.from_residual.ensures.1 in
    rw p.1 (text_refuses source p.0 (subst (λ (e : AnswerError). Stops IsTextRefusal source e) (sym p.2) c.in_err-read.ensures.stops))

pub returns-in_err-versions-clause-stops : goal.returns-in_err-versions-clause-stops
returns-in_err-versions-clause-stops g c =
    let S = g.S.Source in
    let source = source_of S.left S.faults c.args.source.now c.read_source.new.source in
    let p = err_from_is_err_and c.from_residual-in_err-versions.result c.from_residual-in_err-versions.ensures.1 in
    let d = doc_of c.in_ok-read.read.document in
    let apart = c.in_ok-document.field-0 in
    let whole = c.in_ok-document.ensures.document in
    let policies = sym (ap (λ (ps : List Pol). map term_of ps) c.in_ok-document.ensures.policies) ∙ ap (λ (x : Doc). x.policies) whole in
    let first = told_as c.topology.result.now d.layout c.settings.result d.settings (map term_of apart.policies.items) d.policies _
    (c.topology.ensures ∙ ap (λ (x : Doc). x.layout) whole) (c.settings.ensures ∙ ap (λ (x : Doc). x.settings) whole) policies c.in_err-versions.ensures.fault in
    let told = subst (λ (e : AnswerError). TellsFirst d.layout d.settings d.policies e) (sym p.2) first in
    rw p.1 (policy_stops source d p.0 (document_reads source d _ c.in_ok-read.ensures.reads) c.in_ok-read.ensures.taken told)
