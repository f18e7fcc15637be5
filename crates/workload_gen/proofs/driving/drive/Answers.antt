use Rattle.std.proofs.Common.{rules, ◌≡◌, List, length, subst, arith}
use Rattle.std.proofs.lemmas.Grind.{common_steps}
use Rattle.topology_model.specs.Wired.{IsTopology}
use Rattle.document_text.specs.Documents.{Doc}
use Rattle.document_text.specs.Answers.{doc_of}
use Rattle.document_text.specs.declared.document.PacketLine.{PacketLine}
use Rattle.world_core.specs.Worlds.{WorldValue}
use Rattle.workload_gen.specs.Documents.{document_of, generator}
use Rattle.workload_gen.specs.Draws.{Draws}
use Rattle.workload_gen.specs.Laws.{start_of}
use Rattle.workload_gen.specs.Versions.{AreVersionsOf}
use Rattle.workload_gen.proofs.driving.drive.Goals as goal

pub returns : goal.returns
returns c =
    let n = c.args.number in
    let versions = c.in_ok-versions.versions.items in
    let events = c.in_ok-events.events.items in
    let last = c.draw.new.world in
    let doc : doc_of c.in_ok-document.document ≡ document_of n = c.in_ok-document.ensures.document in
    let are : AreVersionsOf (document_of n) versions = subst (λ (d : Doc). AreVersionsOf d versions) doc c.in_ok-versions.ensures.versions in
    let world : c.in_ok-world.world ≡ start_of (document_of n) versions =
    subst (λ (d : Doc). c.in_ok-world.world ≡ start_of d versions) doc (grind (arith, common_steps, c.in_ok-world.ensures.world, c.from-hops.ensures)) in
    let packets : c.deref.result.now ≡ (document_of n).packets = subst (λ (d : Doc). c.deref.result.now ≡ d.packets) doc (search (rules, c.deref.ensures)) in
    let draws : Draws (document_of n).packets (generator n) (start_of (document_of n) versions) events last =
    subst (λ (w : WorldValue). Draws (document_of n).packets (generator n) w events last) world
    (rw c.in_ok-document.ensures.generator at (subst (λ (ps : List PacketLine). Draws ps c.in_ok-document.rng c.in_ok-world.world events last) packets c.in_ok-events.ensures.draws)) in
    let topology : IsTopology (document_of n).layout = subst (λ (d : Doc). IsTopology d.layout) doc (search (rules, c.switches-switches.ensures)) in
    record {
      versions = versions;
      are = are;
      draws = draws;
      ended = c.runs_end.ensures n versions events last topology are draws;
      count = subst (λ (d : Doc). c.len.result ≡ length d.packets) doc (search (rules, c.len.ensures));
    }
