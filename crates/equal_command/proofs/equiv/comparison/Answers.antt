use Rattle.std.proofs.Common.{ℕ, refl, ap}
use Rattle.nk_syntax.specs.Views.{term_of}
use Rattle.value_text.specs.declared.fault.Fault.TheVariants as fault
use Rattle.equal_command.proofs.Comparing.{text-compares}
use Rattle.equal_command.proofs.equiv.comparison.Goals as goal

pub returns-in_ok-text-in-Ok-clause-answer : goal.returns-in_ok-text-in-Ok-clause-answer
returns-in_ok-text-in-Ok-clause-answer c = record {
  status = refl;
  meant = c.in-Ok.ensures.meant;
  compared = text-compares (term_of c.args.first.now) (term_of c.args.second.now) c.in-Ok.found c.in_ok-text-in-Ok.text c.in_ok-text-in-Ok.ensures c.in-Ok.ensures.equal c.in-Ok.ensures.apart c.in-Ok.ensures.histories;
}

pub returns-in-Err-Fault-clause-fault : goal.returns-in-Err-Fault-clause-fault
returns-in-Err-Fault-clause-fault c = record {
  side = c.in-Err-Fault.side;
  reason = c.in-Err-Fault.fault;
  has = rw c.in-Err-Fault.field-0-is at c.in-Err-Fault.ensures.refused;
  is = rw c.in-Err-Fault.field-0-is (ap (λ (n : ℕ). fault.Compile n c.in-Err-Fault.fault) (rw c.in-Err-Fault.field-0-is at c.number_of-policy.ensures));
}
