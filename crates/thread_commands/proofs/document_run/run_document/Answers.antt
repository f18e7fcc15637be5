use Rattle.std.proofs.Common.{◌≡◌, ◌∙◌, List, map, ap, sym, subst, refl}
use Rattle.std.proofs.lemmas.Result.{err_from_is_err_and}
use Rattle.document_text.specs.declared.document.PacketLine.{PacketLine}
use Rattle.document_text.specs.Answers.{doc_of}
use Rattle.world_core.specs.Worlds.{initial_world}
use Rattle.program_answer.specs.Worlds.{world_settings}
use Rattle.outside_io.specs.Causes.{Rose}
use Rattle.program_answer.specs.declared.answer.AnswerError.{AnswerError}
use Rattle.program_answer.specs.Called.{change, net_of}
use Rattle.program_answer.proofs.Starting.{world-hops, world-rejoins, world-versions}
use Rattle.thread_commands.specs.Run.{AreGathered, HasRisenBy, TellsCut, many_broken, lines_of, line_of}
use Rattle.thread_commands.proofs.RunLaws.{ran_by, starts_as}
use Rattle.thread_commands.proofs.document_run.run_document.Goals as goal

pub start-requires-clause-versions : goal.start-requires-clause-versions
start-requires-clause-versions g c =
    let parts = c.into_parts-topology.ensures in
    rw parts.topology (world-versions c.args.document.topology c.args.document.settings c.world_settings.result _ _ (c.world_settings.ensures ∙ ap world_settings parts.settings) c.requires.sound.stamps c.requires.sound.policies c.requires.versions)

pub start-requires-clause-hops : goal.start-requires-clause-hops
start-requires-clause-hops g c = world-hops c.args.document.settings _ (c.world_settings.ensures ∙ ap world_settings c.into_parts-topology.ensures.settings) c.requires.sound.hops

pub start-requires-clause-rejoins : goal.start-requires-clause-rejoins
start-requires-clause-rejoins g c = world-rejoins c.args.document.settings _ (c.world_settings.ensures ∙ ap world_settings c.into_parts-topology.ensures.settings) c.requires.sound.rejoins

pub returns-in-Ok-run_world-clause-ran : goal.returns-in-Ok-run_world-clause-ran
returns-in-Ok-run_world-clause-ran g c =
    let E = g.N.End.Link in
    let N = g.N.Net in
    let d = c.args.document in
    let vs = c.args.versions.items in
    let record' = c.in-Ok-run_world.record in
    let kept = record'.kept.items in
    let journal = record'.journal.items in
    let net = net_of N.faults N.broken N.gathered c.args.host.now.net c.take_back.new.net in
    let is = starts_as d vs c.in_ok-world.world _ (c.in_ok-world.ensures.world ∙ ap (λ t. initial_world t vs c.world_settings.result) c.into_parts-topology.ensures.topology) (c.world_settings.ensures ∙ ap world_settings c.into_parts-topology.ensures.settings) in
    let lines : c.in_ok-lines.lines.items ≡ lines_of (doc_of d) = c.in_ok-lines.ensures ∙ ap (λ (ls : List PacketLine). map line_of ls) (c.deref.ensures.value ∙ c.into_parts-topology.ensures.packets) in
    let first_broken = c.run_world.ensures.net.1 ∙ c.make_pairs.ensures.broken in
    let first_gathered = c.run_world.ensures.net.2 ∙ c.make_pairs.ensures.gathered in
    let gathered = subst (λ o. AreGathered E.received kept (record { before = o; after = N.gathered c.take_back.new.net })) first_gathered c.take_back.ensures.gathered in
    let many = subst (λ b. HasRisenBy (many_broken E.faults kept) (record { before = b; after = N.broken c.take_back.new.net })) first_broken c.take_back.ensures.counted in
    ran_by E.named E.faults E.received net (doc_of d) vs c.in_ok-world.world record'.world journal kept c.in_ok-lines.lines.items c.in_ok-events_of-in-Ok-run_world.field-0.items is c.in_ok-world.ensures.runs c.losses_count.ensures.goes_on c.losses_count.ensures.halts c.halts_stay.ensures c.in-Ok-run_world.ensures.journal
    (λ e i f. subst (λ b. Rose b (N.broken c.take_back.new.net)) first_broken (c.take_back.ensures.broken e i f)) many gathered lines c.in-Ok-run_world.ensures.over c.in_ok-events_of-in-Ok-run_world.ensures

pub returns-in_err-events_of-in-Ok-run_world-clause-cut : goal.returns-in_err-events_of-in-Ok-run_world-clause-cut
returns-in_err-events_of-in-Ok-run_world-clause-cut g c =
    let pairs = change g.N.Net.faults c.args.host.now.net c.take_back.new.net in
    let threads = change g.T.Spawner.faults c.args.host.now.threads c.run_world.new.host.threads in
    let p = err_from_is_err_and c.from_residual-in_err-events_of-in-Ok-run_world.result c.from_residual-in_err-events_of-in-Ok-run_world.ensures.1 in
    rw p.1 (subst (λ (e : AnswerError). TellsCut pairs threads e) (sym p.2) tt)
