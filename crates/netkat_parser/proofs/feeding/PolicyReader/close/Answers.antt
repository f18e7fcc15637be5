use Rattle.std.proofs.Common.{true, subst}
use Rattle.nk_syntax.specs.Views.{term_of}
use Rattle.netkat_parser.specs.declared.advance.Pause.TheVariants as pause
use Rattle.netkat_parser.specs.Readers.{Settles}
use Rattle.netkat_parser.specs.Views.{view_of, GivesWhole}
use Rattle.netkat_parser.proofs.Standing.{open-of, faulty-of, whole-text, whole-fault, given-still}
use Rattle.netkat_parser.proofs.feeding.PolicyReader.close.Goals as goal

pub returns-in-Some-clause-answer : goal.returns-in-Some-clause-answer
returns-in-Some-clause-answer c = λ begin text h. faulty-of begin c.args.self.now text c.in-Some.fault c.in-Some.is h

pub returns-in-Halt-Fault-clause-answer : goal.returns-in-Halt-Fault-clause-answer
returns-in-Halt-Fault-clause-answer c = λ begin text h.
    let k = c.in-Halt-Fault.ensures.settles begin text (open-of begin c.args.self.now text c.in_default.is h) in
    let f = subst (λ z. Settles true begin text c.settle.new.self (pause.Halt z)) c.in-Halt-Fault.field-0-is k in
    rw c.fault_at.ensures (whole-fault begin c.settle.new.self text c.in-Halt-Fault.fault f)

pub returns-in_ok-reserve-in-Halt-Done-clause-answer : goal.returns-in_ok-reserve-in-Halt-Done-clause-answer
returns-in_ok-reserve-in-Halt-Done-clause-answer c = λ begin text h.
    let k = c.in-Halt-Done.ensures.settles begin text (open-of begin c.args.self.now text c.in_default.is h) in
    whole-text begin c.settle.new.self text (term_of c.policy.result)
    (subst (λ z. Settles true begin text c.settle.new.self (pause.Halt z)) c.in-Halt-Done.field-0-is k)
    (given-still (view_of c.settle.new.self.reading) (view_of c.reserve.new.self) (term_of c.policy.result) c.in_ok-reserve-in-Halt-Done.ensures.keeps
    (subst (λ r. GivesWhole (view_of r) (term_of c.policy.result)) c.replace.ensures.value c.policy.ensures))
