-- What a draft keeps beside the lists that it shows.
use Rattle.std.specs.Prelude.{◌≡◌, ℕ, nat_eq, is_some, option_map}
use Rattle.std.specs.Option.{option_flatten}
use Rattle.std.specs.List.{flat_map}
use Rattle.std.specs.HashMap.{get}
use Rattle.topology_model.specs.Ends.{entry}
use Rattle.topology_model.specs.Layouts.{Layout, location_of, place_in, has_port, far_end, both_ways}
use Rattle.topology_model.specs.Wired.{IsSound}
use Rattle.topology_model.specs.declared.draft.Draft.TheInside.{Inside}

abbrev pub layout : Inside → Layout
layout d = record { switches = d.switches.items; links = flat_map both_ways d.links.items }

-- the maps tell what the lists do
pub record IsIndexed (d : Inside) : Type 0 where
  pub places : (sw : ℕ) → get nat_eq d.places sw ≡ place_in (layout d).switches sw
  pub live : (e : ℕ × ℕ) → is_some (entry d.far_ends e) ≡ has_port (layout d).switches (location_of e)
  pub far : (e : ℕ × ℕ) →
      option_map location_of (option_flatten (entry d.far_ends e)) ≡ far_end (layout d).links (location_of e)
  pub sound : IsSound (layout d)
