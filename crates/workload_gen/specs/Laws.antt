-- What the drawn run of a workload comes to.
use Rattle.std.specs.Prelude.{◌≡◌, ℕ, List, [], length, map, None}
use Rattle.topology_model.specs.Wired.{IsTopology}
use Rattle.document_text.specs.declared.document.PacketLine.{PacketLine}
use Rattle.document_text.specs.Documents.{Doc}
use Rattle.policy_rows.specs.declared.version.Version.{Version}
use Rattle.update_coordinator.specs.declared.phase.Phase.TheVariants as phase
use Rattle.update_laws.specs.Traffic.{Arrived}
use Rattle.world_core.specs.declared.event.Event.{Event}
use Rattle.world_core.specs.Worlds.{WorldValue, initial_world}
use Rattle.workload_gen.specs.Documents.{document_of, generator}
use Rattle.workload_gen.specs.Draws.{Draws}
use Rattle.workload_gen.specs.Versions.{AreVersionsOf}

-- the world of these versions in the document's topology, before anything has happened
abbrev pub start_of : Doc → List Version → WorldValue
start_of d versions = initial_world d.layout versions
    (record { hops = d.settings.hops; capacity = d.settings.capacity; rejoins = 0; overlap = None })

-- the line that an arrival came from
abbrev pub line_of : Arrived → PacketLine
line_of a = record { packet = a.packet; tag = a.tag }

-- The updates have not halted, and all are done; each packet has come in once, in order, and none is in flight.
pub record HasEnded (d : Doc) (w : WorldValue) : Type 0 where
  pub running : w.fleet.control.halt ≡ None
  pub idle : w.fleet.control.phase ≡ phase.Idle (length d.policies)
  pub arrived : map line_of w.arrivals ≡ d.packets
  pub landed : w.flights ≡ []

-- So every drawn run of a number's document ends.
abbrev pub RunsEnd : Type 0
RunsEnd = (n : ℕ) (versions : List Version) (events : List Event) (v : WorldValue) →
    IsTopology (document_of n).layout → AreVersionsOf (document_of n) versions →
    Draws (document_of n).packets (generator n) (start_of (document_of n) versions) events v →
    HasEnded (document_of n) v

-- A run of a number's workload by drawn events: from the world of its document's policies to one where it has ended,
-- with so many packets.
pub record IsRunOf (n packets : ℕ) (v : WorldValue) (events : List Event) : Type 0 where
  pub versions : List Version
  pub are : AreVersionsOf (document_of n) versions
  pub draws : Draws (document_of n).packets (generator n) (start_of (document_of n) versions) events v
  pub ended : HasEnded (document_of n) v
  pub count : packets ≡ length (document_of n).packets
