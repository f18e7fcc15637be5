-- What a topology keeps beside its draft.
use Rattle.std.specs.Prelude.{◌≡◌, map}
use Rattle.topology_model.specs.Layouts.{location_of, edges_of}
use Rattle.topology_model.specs.Firsts.{firsts_of}
use Rattle.topology_model.specs.Wired.{IsTopology}
use Rattle.topology_model.specs.declared.topology.Topology.TheInside.{Inside}

pub record IsFinished (t : Inside) : Type 0 where
  pub edges : map location_of t.edges.items ≡ edges_of t.draft
  pub topology : IsTopology t.draft
  pub firsts : t.firsts.items ≡ firsts_of 0 t.draft.switches
