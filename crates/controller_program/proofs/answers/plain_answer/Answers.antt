use Rattle.std.proofs.Common.{rules, ap, refl}
use Rattle.command_line.specs.Commands.{Asks, IsCommandLine}
use Rattle.program_answer.specs.Called.{source_of}
use Rattle.controller_program.specs.Called.{called}
use Rattle.controller_program.specs.Calls.{no_net, no_reporter, still}
use Rattle.controller_program.specs.Commands.{IsThreadless}
use Rattle.controller_program.specs.Told.{none}
use Rattle.controller_program.proofs.Coming.{no_line, plain_by}
use Rattle.controller_program.proofs.answers.plain_answer.Goals as goal

pub returns-in-Ok-Some-clause-answers : goal.returns-in-Ok-Some-clause-answers
returns-in-Ok-Some-clause-answers g c = λ sink.
    let S = g.S.Source in
    let asks : Asks c.in-Ok-Some.command c.args.words.now = search rules in
    let this = called c.args.words.now (source_of S.left S.faults c.args.source.now c.command_answer.new.source) sink no_net still no_reporter in
    plain_by c.in-Ok-Some.command this c.command_answer.result asks (λ t. c.command_answer.ensures.answers t this refl) c.command_answer.ensures.threads (λ n. ap S.faults (c.command_answer.ensures.untouched n))

pub returns-in-Ok-Some-clause-untouched : goal.returns-in-Ok-Some-clause-untouched
returns-in-Ok-Some-clause-untouched g c = λ n.
    let asks : Asks c.in-Ok-Some.command c.args.words.now = search rules in
    c.command_answer.ensures.untouched (λ p. n (c.in-Ok-Some.command, p.0, p.1, asks))

pub returns-in-Ok-None-clause-answers : goal.returns-in-Ok-None-clause-answers
returns-in-Ok-None-clause-answers g c = λ sink.
    let other : ¬ (IsCommandLine c.args.words.now) = search rules in
    none (no_line IsThreadless c.args.words.now other) refl refl
