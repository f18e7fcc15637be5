-- The world of a document's policies, and its report as an answer.
use Rattle.std.specs.Prelude.{◌≡◌, ℕ, ◌+◌, ◌-◌, List, Option, Some, None, is_some, if◌then◌else◌}
use Rattle.document_text.specs.declared.document.Settings.{Settings}
use Rattle.document_text.specs.Documents.{Doc}
use Rattle.policy_rows.specs.declared.version.Version.{Version}
use Rattle.report_text.specs.Reports.{IsWorldReport}
use Rattle.world_core.specs.declared.event.Event.{Event}
use Rattle.world_core.specs.declared.settings.Settings.{Settings as WorldSettings}
use Rattle.world_core.specs.Worlds.{WorldValue, initial_world}
use Rattle.program_answer.specs.declared.answer.Answer.{Answer}
use Rattle.program_answer.specs.Statuses.{report_status}

-- how many stamps go round, if drains overlap: all stamps of the document
abbrev pub round_of : Settings → Option ℕ
round_of s = if s.overlap then Some (s.stamps.1 - s.stamps.0 + 1) else None

-- what a document's settings say of its world
abbrev pub world_settings : Settings → WorldSettings
world_settings s = record { hops = s.hops; capacity = s.capacity; rejoins = s.rejoins; overlap = round_of s }

-- the world of these versions in the document's topology, before anything has happened
abbrev pub start_of : Doc → List Version → WorldValue
start_of d versions = initial_world d.layout versions (world_settings d.settings)

-- the same for a drive: the first loss halts it, and no drains overlap
abbrev pub start_of_drive : Doc → List Version → WorldValue
start_of_drive d versions =
    initial_world d.layout versions
    (record { hops = d.settings.hops; capacity = d.settings.capacity; rejoins = 0; overlap = None })

-- the report of these events and of the world then, and the status by whether the updates are halted
pub record IsWorldAnswer (w : WorldValue) (events : List Event) (a : Answer) : Type 0 where
  pub status : a.status ≡ report_status (is_some w.fleet.control.halt)
  pub report : IsWorldReport w events a.text
