use Rattle.std.proofs.Common.{◌≡◌, ◌*◌, ◌≤◌, ◌++◌, drop}
use Rattle.topology_model.specs.Firsts.{firsts_of}
use Rattle.topology_model.proofs.topology.building.firsts_of.Given as goal

abbrev pub invariant-loop-site : goal.invariant-loop-site
invariant-loop-site l = record {
  listed : l.firsts.items ++ firsts_of l.total (drop l.site-index l.sites) ≡ firsts_of 0 l.sites;
  few : l.total ≤ 256 * l.site-index;
}
