use Rattle.std.proofs.Common.{◌∙◌, ap, sym, subst}
use Rattle.std.proofs.lemmas.Result.{err_from_is_err_and}
use Rattle.topology_model.specs.Layouts.{Layout}
use Rattle.update_laws.specs.Settings.{AreVersions}
use Rattle.world_core.specs.Worlds.{initial_world}
use Rattle.program_answer.specs.Worlds.{world_settings}
use Rattle.program_answer.specs.declared.answer.AnswerError.{AnswerError}
use Rattle.program_answer.proofs.Starting.{world-hops, world-rejoins, world-versions}
use Rattle.plain_commands.specs.Told.{TellsStop}
use Rattle.plain_commands.proofs.Simulating.{starts, came, stopped}
use Rattle.plain_commands.proofs.outcome.schedule_outcome.Goals as goal

pub start-requires-clause-versions : goal.start-requires-clause-versions
start-requires-clause-versions c =
    let parts = c.into_parts-topology.ensures in
    subst (λ (t : Layout). AreVersions t c.args.versions.items c.world_settings.result.overlap) (sym parts.topology)
    (world-versions c.args.document.topology c.args.document.settings c.world_settings.result _ _ (c.world_settings.ensures ∙ ap world_settings parts.settings) c.requires.sound.stamps c.requires.sound.policies c.requires.versions)

pub start-requires-clause-hops : goal.start-requires-clause-hops
start-requires-clause-hops c = world-hops c.args.document.settings _ (c.world_settings.ensures ∙ ap world_settings c.into_parts-topology.ensures.settings) c.requires.sound.hops

pub start-requires-clause-rejoins : goal.start-requires-clause-rejoins
start-requires-clause-rejoins c = world-rejoins c.args.document.settings _ (c.world_settings.ensures ∙ ap world_settings c.into_parts-topology.ensures.settings) c.requires.sound.rejoins

pub returns-clause-outcome : goal.returns-clause-outcome
returns-clause-outcome c =
    came c.args.document c.args.versions.items c.in_ok-world.world c.deref.result.now c.deref-2.result.now c.in_ok-events.events.items c.carry_out.new.world
    (starts c.args.document c.args.versions.items c.in_ok-world.world _ c.deref.result.now c.deref-2.result.now (c.in_ok-world.ensures.world ∙ ap (λ (t : Layout). initial_world t c.args.versions.items c.world_settings.result) c.into_parts-topology.ensures.topology) (c.world_settings.ensures ∙ ap world_settings c.into_parts-topology.ensures.settings) c.kept.ensures c.in_ok-world.ensures.runs (c.deref.ensures.value ∙ c.into_parts-topology.ensures.packets) (c.deref-2.ensures.value ∙ c.into_parts-topology.ensures.schedule)) c.in_ok-events.ensures.done

pub returns-in_err-events-clause-stop : goal.returns-in_err-events-clause-stop
returns-in_err-events-clause-stop c =
    let p = err_from_is_err_and c.from_residual-in_err-events.result c.from_residual-in_err-events.ensures.1 in
    rw p.1 (stopped c.args.document c.args.versions.items c.in_ok-world.world c.deref.result.now c.deref-2.result.now p.0
    (starts c.args.document c.args.versions.items c.in_ok-world.world _ c.deref.result.now c.deref-2.result.now (c.in_ok-world.ensures.world ∙ ap (λ (t : Layout). initial_world t c.args.versions.items c.world_settings.result) c.into_parts-topology.ensures.topology) (c.world_settings.ensures ∙ ap world_settings c.into_parts-topology.ensures.settings) c.kept.ensures c.in_ok-world.ensures.runs (c.deref.ensures.value ∙ c.into_parts-topology.ensures.packets) (c.deref-2.ensures.value ∙ c.into_parts-topology.ensures.schedule))
    (subst (λ (e : AnswerError). TellsStop c.in_ok-world.world.topology.switches c.deref.result.now c.in_ok-world.world c.deref-2.result.now e) (sym p.2) c.in_err-events.ensures.stop))
