-- Lists of events as clauses see them.
use Rattle.std.specs.Prelude.{ℕ, List}
use Rattle.world_core.specs.declared.event.Event.{Event}
use Rattle.world_core.specs.declared.event_iter.EventRef.{EventRef}
use Rattle.world_core.specs.declared.event_iter.EventRef.TheVariants as from

-- the events, and for how many more there is room
pub record EventList : Type 0 where
  pub items : List Event
  pub room : ℕ

-- an event of a list
abbrev pub listed : EventRef → Event
listed (from.Made e) = e
listed (from.Lent e) = e.now
