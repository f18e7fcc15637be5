use Rattle.std.proofs.Common.{rules, ap, refl, subst}
use Rattle.command_line.specs.declared.command.Command.{Command}
use Rattle.command_line.specs.declared.command.Command.TheVariants.{Run, Watch, Drive}
use Rattle.command_line.specs.Commands.{Asks, IsCommandLine}
use Rattle.program_answer.specs.Called.{change, net_of, source_of}
use Rattle.controller_program.specs.Called.{called, reporter_of}
use Rattle.controller_program.specs.Calls.{no_net, no_reporter, still}
use Rattle.controller_program.specs.Commands.{IsAny}
use Rattle.controller_program.specs.Told.{none}
use Rattle.controller_program.proofs.Coming.{drive_by, no_line, other_by, run_by, same_source, to_drive, to_run, to_watch, watch_by}
use Rattle.controller_program.proofs.answers.any_answer.Goals as goal

-- ---- a run

pub returns-in-Run-clause-answers : goal.returns-in-Run-clause-answers
returns-in-Run-clause-answers g c = λ sink.
    let S = g.S.Source in
    let N = g.N.Net in
    let R = g.Q.Reporter in
    let asks : Asks c.in-Ok-Some.command c.args.words.now = search rules in
    let run = subst (λ (k : Command). Asks k c.args.words.now) c.in-Run.is asks in
    let this = called c.args.words.now (source_of S.left S.faults c.args.source.now c.run_answer.new.source) sink (net_of N.faults N.broken N.gathered c.args.host.now.net c.run_answer.new.host.net) (change g.T.Spawner.faults c.args.host.now.threads c.run_answer.new.host.threads) (reporter_of g.Q.Receipt.Receipt.stamped (change R.faults c.args.reporter.now c.args.reporter.now)) in
    run_by this c.run_answer.result run (to_run this c.run_answer.result c.run_answer.ensures.answer c.run_answer.ensures.stops)

pub returns-in-Run-clause-untouched : goal.returns-in-Run-clause-untouched
returns-in-Run-clause-untouched g c = λ n.
    let asks : Asks c.in-Ok-Some.command c.args.words.now = search rules in
    absurd (n (Run, tt, tt, subst (λ (k : Command). Asks k c.args.words.now) c.in-Run.is asks))

pub returns-in-Run-clause-untouched_net : goal.returns-in-Run-clause-untouched_net
returns-in-Run-clause-untouched_net g c = λ n.
    let asks : Asks c.in-Ok-Some.command c.args.words.now = search rules in
    absurd (n (Run, (λ t. t), subst (λ (k : Command). Asks k c.args.words.now) c.in-Run.is asks))

pub returns-in-Run-clause-untouched_threads : goal.returns-in-Run-clause-untouched_threads
returns-in-Run-clause-untouched_threads g c = λ n.
    let asks : Asks c.in-Ok-Some.command c.args.words.now = search rules in
    absurd (n (Run, (λ t. t), subst (λ (k : Command). Asks k c.args.words.now) c.in-Run.is asks))

-- ---- a watched run

pub returns-in-Watch-clause-answers : goal.returns-in-Watch-clause-answers
returns-in-Watch-clause-answers g c = λ sink.
    let S = g.S.Source in
    let N = g.N.Net in
    let R = g.Q.Reporter in
    let asks : Asks c.in-Ok-Some.command c.args.words.now = search rules in
    let watch = subst (λ (k : Command). Asks k c.args.words.now) c.in-Watch.is asks in
    let this = called c.args.words.now (source_of S.left S.faults c.args.source.now c.watch_answer.new.source) sink (net_of N.faults N.broken N.gathered c.args.host.now.net c.watch_answer.new.host.net) (change g.T.Spawner.faults c.args.host.now.threads c.watch_answer.new.host.threads) (reporter_of g.Q.Receipt.Receipt.stamped (change R.faults c.args.reporter.now c.args.reporter.now)) in
    watch_by this c.watch_answer.result watch (to_watch this c.watch_answer.result c.watch_answer.ensures.answer c.watch_answer.ensures.stops)

pub returns-in-Watch-clause-untouched : goal.returns-in-Watch-clause-untouched
returns-in-Watch-clause-untouched g c = λ n.
    let asks : Asks c.in-Ok-Some.command c.args.words.now = search rules in
    absurd (n (Watch, tt, tt, subst (λ (k : Command). Asks k c.args.words.now) c.in-Watch.is asks))

pub returns-in-Watch-clause-untouched_net : goal.returns-in-Watch-clause-untouched_net
returns-in-Watch-clause-untouched_net g c = λ n.
    let asks : Asks c.in-Ok-Some.command c.args.words.now = search rules in
    absurd (n (Watch, (λ t. t), subst (λ (k : Command). Asks k c.args.words.now) c.in-Watch.is asks))

pub returns-in-Watch-clause-untouched_threads : goal.returns-in-Watch-clause-untouched_threads
returns-in-Watch-clause-untouched_threads g c = λ n.
    let asks : Asks c.in-Ok-Some.command c.args.words.now = search rules in
    absurd (n (Watch, (λ t. t), subst (λ (k : Command). Asks k c.args.words.now) c.in-Watch.is asks))

-- ---- a drive

pub returns-in-Drive-clause-answers : goal.returns-in-Drive-clause-answers
returns-in-Drive-clause-answers g c = λ sink.
    let S = g.S.Source in
    let N = g.N.Net in
    let R = g.Q.Reporter in
    let asks : Asks c.in-Ok-Some.command c.args.words.now = search rules in
    let drive = subst (λ (k : Command). Asks k c.args.words.now) c.in-Drive.is asks in
    let this = called c.args.words.now (source_of S.left S.faults c.args.source.now c.drive_answer.new.source) sink (net_of N.faults N.broken N.gathered c.args.host.now.net c.drive_answer.new.host.net) (change g.T.Spawner.faults c.args.host.now.threads c.drive_answer.new.host.threads) (reporter_of g.Q.Receipt.Receipt.stamped (change R.faults c.args.reporter.now c.drive_answer.new.reporter)) in
    drive_by c.in-Drive.first this c.drive_answer.result drive (to_drive c.in-Drive.first this c.drive_answer.result c.drive_answer.ensures.answer c.drive_answer.ensures.stops)

pub returns-in-Drive-clause-untouched : goal.returns-in-Drive-clause-untouched
returns-in-Drive-clause-untouched g c = λ n.
    let asks : Asks c.in-Ok-Some.command c.args.words.now = search rules in
    absurd (n (Drive c.in-Drive.first, tt, tt, subst (λ (k : Command). Asks k c.args.words.now) c.in-Drive.is asks))

pub returns-in-Drive-clause-untouched_net : goal.returns-in-Drive-clause-untouched_net
returns-in-Drive-clause-untouched_net g c = λ n.
    let asks : Asks c.in-Ok-Some.command c.args.words.now = search rules in
    absurd (n (Drive c.in-Drive.first, (λ t. t), subst (λ (k : Command). Asks k c.args.words.now) c.in-Drive.is asks))

pub returns-in-Drive-clause-untouched_threads : goal.returns-in-Drive-clause-untouched_threads
returns-in-Drive-clause-untouched_threads g c = λ n.
    let asks : Asks c.in-Ok-Some.command c.args.words.now = search rules in
    absurd (n (Drive c.in-Drive.first, (λ t. t), subst (λ (k : Command). Asks k c.args.words.now) c.in-Drive.is asks))

pub returns-in-Drive-clause-untouched_reporter : goal.returns-in-Drive-clause-untouched_reporter
returns-in-Drive-clause-untouched_reporter g c = λ n.
    let asks : Asks c.in-Ok-Some.command c.args.words.now = search rules in
    absurd (n (Drive c.in-Drive.first, (c.in-Drive.first, refl), subst (λ (k : Command). Asks k c.args.words.now) c.in-Drive.is asks))

-- ---- another command

pub returns-in_default-clause-answers : goal.returns-in_default-clause-answers
returns-in_default-clause-answers g c = λ sink.
    let S = g.S.Source in
    let N = g.N.Net in
    let R = g.Q.Reporter in
    let asks : Asks c.in-Ok-Some.command c.args.words.now = search rules in
    let this = called c.args.words.now (source_of S.left S.faults c.args.source.now c.command_answer.new.source) sink (net_of N.faults N.broken N.gathered c.args.host.now.net c.args.host.now.net) (change g.T.Spawner.faults c.args.host.now.threads c.args.host.now.threads) (reporter_of g.Q.Receipt.Receipt.stamped (change R.faults c.args.reporter.now c.args.reporter.now)) in
    let alone = called c.args.words.now this.source sink no_net still no_reporter in
    other_by c.in-Ok-Some.command this c.command_answer.result c.in_default.not-Run c.in_default.not-Watch c.in_default.not-Drive asks (λ t. same_source c.in-Ok-Some.command alone this c.command_answer.result t refl (c.command_answer.ensures.answers t alone refl)) (λ n. ap S.faults (c.command_answer.ensures.untouched n))

pub returns-in_default-clause-untouched : goal.returns-in_default-clause-untouched
returns-in_default-clause-untouched g c = λ n.
    let asks : Asks c.in-Ok-Some.command c.args.words.now = search rules in
    c.command_answer.ensures.untouched (λ p. n (c.in-Ok-Some.command, tt, p.1, asks))

-- ---- no command

pub returns-in-Ok-None-clause-answers : goal.returns-in-Ok-None-clause-answers
returns-in-Ok-None-clause-answers g c = λ sink.
    let other : ¬ (IsCommandLine c.args.words.now) = search rules in
    none (no_line IsAny c.args.words.now other) refl refl
