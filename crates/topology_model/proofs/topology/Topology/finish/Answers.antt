use Rattle.std.proofs.Common.{◌<◌, length, ap, ◌∙◌, arith}
use Rattle.std.proofs.lemmas.Bool.Decides.{nat_tests}
use Rattle.topology_model.specs.Firsts.{firsts_of}
use Rattle.topology_model.specs.Layouts.{edges_of}
use Rattle.topology_model.proofs.Growth.{some_place}
use Rattle.topology_model.proofs.topology.Topology.finish.Goals as goal

pub invariant_of-result : goal.invariant_of-result
invariant_of-result c =
    let es = c.in_ok-edges.edges in
    let some : 0 < length es.items = grind (arith, nat_tests, es.ok.0) in
    record {
      edges = c.in_ok-edges.ensures.edges;
      topology = record { sound = c.in_ok-edges.ensures.sound; edge = some_place es.items (edges_of c.args.draft) c.in_ok-edges.ensures.edges some };
      firsts = c.in_ok-firsts.ensures ∙ ap (firsts_of 0) c.switches.ensures;
    }
