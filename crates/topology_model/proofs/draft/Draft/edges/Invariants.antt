use Rattle.std.proofs.Common.{◌≡◌, map, filter, take, not}
use Rattle.std.specs.List.{flat_map}
use Rattle.topology_model.specs.Layouts.{location_of, is_linked, locations_at}
use Rattle.topology_model.proofs.draft.Draft.edges.Given as goal

abbrev pub invariant-loop-site : goal.invariant-loop-site
invariant-loop-site l = map location_of l.edges.items ≡ filter (λ a. not (is_linked l.self a)) (flat_map locations_at (take l.site-index l.site-items))
