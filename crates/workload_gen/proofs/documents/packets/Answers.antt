use Rattle.std.proofs.Common.{◌≡◌, ap, ◌∙◌}
use Rattle.rand_pcg.specs.Lcg.{Lcg}
use Rattle.workload_gen.specs.Documents.{packet, number_by}
use Rattle.workload_gen.specs.Words.{behind}
use Rattle.workload_gen.proofs.Building.{packets-more, pairs-more}
use Rattle.workload_gen.proofs.documents.packets.Goals as goal

pub loop-drawn-preserved : goal.loop-drawn-preserved
loop-drawn-preserved c =
    let g = c.loop-drawn.rng in
    let a = c.number_by-source in
    let b = c.number_by-destination in
    let two : b.new.rng ≡ behind 2 g = b.ensures.behind ∙ ap (λ (x : Lcg). behind 1 x) a.ensures.behind in
    let to : b.result ≡ number_by c.args.switches (behind 1 g) = b.ensures.number ∙ ap (λ (x : Lcg). number_by c.args.switches x) a.ensures.behind in
    record {
      packets = packets-more c.args.switches c.args.count c.loop-drawn.drawn g b.new.rng c.loop-drawn.packets.items c.push.new.self.items _ (record { packet = c.packet.result; tag = c.none.result }) c.loop-drawn-test.true
          c.loop-drawn.invariant.packets c.in_ok-push.ensures.items (λ i. record { packet = (c.packet.ensures ∙ (λ j. packet (a.ensures.number j) (to j))) i; tag = c.none.ensures i }) two;
      words = pairs-more c.args.count c.loop-drawn.drawn g b.new.rng _ c.loop-drawn-test.true c.loop-drawn.invariant.words two;
    }
