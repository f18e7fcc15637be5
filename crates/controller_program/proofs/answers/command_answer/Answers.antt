use Rattle.std.proofs.Common.{ap}
use Rattle.program_answer.specs.Called.{SourceSeen, source_of}
use Rattle.controller_program.proofs.Coming.{to_rules, to_trace, to_simulate, to_equiv, to_audit, to_generate}
use Rattle.controller_program.proofs.answers.command_answer.Goals as goal

pub returns-in-Rules-clause-answers : goal.returns-in-Rules-clause-answers
returns-in-Rules-clause-answers g c =
    let S = g.S.Source in
    rw c.in-Rules.is (λ t k e. to_rules k (source_of S.left S.faults c.args.source.now c.rules_answer.new.source) c.rules_answer.result e c.rules_answer.ensures.answer c.rules_answer.ensures.stops)

pub returns-in-Rules-clause-untouched : goal.returns-in-Rules-clause-untouched
returns-in-Rules-clause-untouched g c = rw c.in-Rules.is (λ n. absurd (n (tt, tt)))

pub returns-in-Trace-clause-answers : goal.returns-in-Trace-clause-answers
returns-in-Trace-clause-answers g c =
    let S = g.S.Source in
    rw c.in-Trace.is (λ t k e. to_trace k (source_of S.left S.faults c.args.source.now c.trace_answer.new.source) c.trace_answer.result e c.trace_answer.ensures.answer c.trace_answer.ensures.stops)

pub returns-in-Trace-clause-untouched : goal.returns-in-Trace-clause-untouched
returns-in-Trace-clause-untouched g c = rw c.in-Trace.is (λ n. absurd (n (tt, tt)))

pub returns-in-Simulate-clause-answers : goal.returns-in-Simulate-clause-answers
returns-in-Simulate-clause-answers g c =
    let S = g.S.Source in
    rw c.in-Simulate.is (λ t k e. to_simulate k (source_of S.left S.faults c.args.source.now c.simulate_answer.new.source) c.simulate_answer.result e c.simulate_answer.ensures.answer c.simulate_answer.ensures.stops)

pub returns-in-Simulate-clause-untouched : goal.returns-in-Simulate-clause-untouched
returns-in-Simulate-clause-untouched g c = rw c.in-Simulate.is (λ n. absurd (n (tt, tt)))

pub returns-in-Equiv-clause-answers : goal.returns-in-Equiv-clause-answers
returns-in-Equiv-clause-answers g c =
    let S = g.S.Source in
    rw c.in-Equiv.is (λ t k e. to_equiv k (source_of S.left S.faults c.args.source.now c.equiv_answer.new.source) c.equiv_answer.result e c.equiv_answer.ensures.answer c.equiv_answer.ensures.stops)

pub returns-in-Equiv-clause-untouched : goal.returns-in-Equiv-clause-untouched
returns-in-Equiv-clause-untouched g c = rw c.in-Equiv.is (λ n. absurd (n (tt, tt)))

pub returns-in-Audit-clause-answers : goal.returns-in-Audit-clause-answers
returns-in-Audit-clause-answers g c =
    let S = g.S.Source in
    rw c.in-Audit.is (λ t k e. to_audit k (source_of S.left S.faults c.args.source.now c.audit_answer.new.source) c.audit_answer.result e c.audit_answer.ensures.answer c.audit_answer.ensures.stops)

pub returns-in-Audit-clause-untouched : goal.returns-in-Audit-clause-untouched
returns-in-Audit-clause-untouched g c = rw c.in-Audit.is (λ n. absurd (n (tt, tt)))

pub returns-in-Generate-clause-answers : goal.returns-in-Generate-clause-answers
returns-in-Generate-clause-answers g c =
    rw c.in-Generate.is
    (λ t k e. to_generate k c.in-Generate.number _ c.generate_answer.result (ap (λ (s : SourceSeen). s.faults.before) e) (ap (λ (s : SourceSeen). s.faults.after) e) c.generate_answer.ensures.answer c.generate_answer.ensures.stops)

pub returns-in-Rules-clause-threads : goal.returns-in-Rules-clause-threads
returns-in-Rules-clause-threads g c = rw c.in-Rules.is (λ n. absurd (n tt))

pub returns-in-Trace-clause-threads : goal.returns-in-Trace-clause-threads
returns-in-Trace-clause-threads g c = rw c.in-Trace.is (λ n. absurd (n tt))

pub returns-in-Simulate-clause-threads : goal.returns-in-Simulate-clause-threads
returns-in-Simulate-clause-threads g c = rw c.in-Simulate.is (λ n. absurd (n tt))

pub returns-in-Equiv-clause-threads : goal.returns-in-Equiv-clause-threads
returns-in-Equiv-clause-threads g c = rw c.in-Equiv.is (λ n. absurd (n tt))

pub returns-in-Audit-clause-threads : goal.returns-in-Audit-clause-threads
returns-in-Audit-clause-threads g c = rw c.in-Audit.is (λ n. absurd (n tt))

pub returns-in-Generate-clause-threads : goal.returns-in-Generate-clause-threads
returns-in-Generate-clause-threads g c = rw c.in-Generate.is (λ n. absurd (n tt))
