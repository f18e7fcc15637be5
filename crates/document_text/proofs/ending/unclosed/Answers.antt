use Rattle.std.proofs.Common.{inl, inr, refl, sym, subst, ◌∙◌}
use Rattle.nk_syntax.specs.Views.{term_of}
use Rattle.netkat_parser.proofs.Outcomes.{no-both, fault-one}
use Rattle.document_text.specs.Grammar.{line_start, IsBehind}
use Rattle.document_text.proofs.ending.unclosed.Goals as goal

pub returns-in-Ok : goal.returns-in-Ok
returns-in-Ok c = λ begin front h e.
    rw c.refused.ensures (inr (λ f k. absurd (no-both (line_start begin) front (term_of c.in-Ok.field-0) f (c.in-Ok.ensures (line_start begin) front h) k), refl))

pub returns-then-is_at : goal.returns-then-is_at
returns-then-is_at c = λ begin front h e.
    let here = rw c.in-Err-Fault.field-0-is at (c.in-Err-Fault.ensures (line_start begin) front h) in
    rw c.refused-then-is_at.ensures
    (inr (λ f k. subst (IsBehind begin front) (fault-one (line_start begin) front c.in-Err-Fault.fault f here k) (e ∙ c.if-is_at.ensures), refl))

pub returns : goal.returns
returns c = λ begin front h e.
    let here = rw c.in-Err-Fault.field-0-is at (c.in-Err-Fault.ensures (line_start begin) front h) in
    rw c.fault_in.ensures (inl (c.in-Err-Fault.fault, here, λ k. c.if-is_at.ensures (sym e ∙ k), refl))
