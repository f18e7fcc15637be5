use Rattle.std.proofs.Common.{◌≡◌, ◌++◌, map, filter, take, not}
use Rattle.topology_model.specs.Layouts.{location_of, is_linked, locations_at}
use Rattle.topology_model.proofs.draft.Draft.add_edges.Given as goal

abbrev pub invariant-loop-port : goal.invariant-loop-port
invariant-loop-port l =
    map location_of l.edges.items ≡ map location_of l.initial.edges.items ++ filter (λ a. not (is_linked l.self a)) (locations_at (record { sw = l.site.sw; ports = take l.port-index l.ports }))
