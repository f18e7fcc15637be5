-- Laws of the grammar.
use Rattle.std.specs.Prelude.{◌≡◌, ℕ, true, ◌≤◌, ◌<◌, List, length}
use Rattle.nk_values.specs.Members.{IsIn}
use Rattle.nk_values.specs.Packets.{IsWellShaped}
use Rattle.nk_syntax.specs.Terms.{Term}
use Rattle.netkat_parser.specs.Grammar.{IsText}
use Rattle.topology_model.specs.Layouts.{Layout, is_edge, has_switch, location_of}
use Rattle.document_text.specs.declared.document.ScheduleStep.{ScheduleStep}
use Rattle.document_text.specs.declared.document.ScheduleStep.TheVariants.{Send, Take, Apply, Reply, Heard, Arrive}
use Rattle.document_text.specs.declared.document.ScheduleStep.TheVariants.{Lost, Rejoin}
use Rattle.document_text.specs.declared.document.PacketLine.{PacketLine}
use Rattle.document_text.specs.declared.document.ScheduleLine.{ScheduleLine}
use Rattle.document_text.specs.declared.document.Settings.{Settings}
use Rattle.document_text.specs.Documents.{Doc, Outcome}
use Rattle.document_text.specs.Grammar.{IsReading, IsDocument}

-- A text has one outcome: one document, or one first fault.
abbrev pub OneOutcome : Type 0
OneOutcome = (text : List ℕ) (o o' : Outcome) → IsReading text o → IsReading text o' → o ≡ o'

-- Each text has an outcome.
abbrev pub SomeOutcome : Type 0
SomeOutcome = (text : List ℕ) → (o : Outcome) × IsReading text o

-- the packet is well shaped and arrives at a port without a link
pub record IsArrivalLine (t : Layout) (p : PacketLine) : Type 0 where
  pub shaped : IsWellShaped p.packet
  pub edge : is_edge t (location_of (p.packet.sw, p.packet.pt)) ≡ true

-- the switch that the event names is declared, and the packet line is one of so many
abbrev pub IsNamed : Layout → ℕ → ScheduleStep → Type 0
IsNamed t n (Send sw) = has_switch t.switches sw ≡ true
IsNamed t n (Take sw) = has_switch t.switches sw ≡ true
IsNamed t n (Apply sw k) = has_switch t.switches sw ≡ true
IsNamed t n (Reply sw) = has_switch t.switches sw ≡ true
IsNamed t n (Heard sw) = has_switch t.switches sw ≡ true
IsNamed t n (Lost sw) = has_switch t.switches sw ≡ true
IsNamed t n (Rejoin sw) = has_switch t.switches sw ≡ true
IsNamed t n (Arrive k) = (1 ≤ k) × (k ≤ n)
IsNamed t n _ = Unit {0}

-- the settings are in their ranges
pub record AreSettings (s : Settings) : Type 0 where
  pub hops : (1 ≤ s.hops) × (s.hops ≤ 1000)
  pub capacity : (1 ≤ s.capacity) × (s.capacity ≤ 200000)
  pub stamps : (1 ≤ s.stamps.0) × (s.stamps.0 < s.stamps.1) × (s.stamps.1 ≤ 4094)
  pub rejoins : s.rejoins ≤ 1000

-- the policy is read from some text
abbrev pub IsRead : Term → Type 0
IsRead p = (text : List ℕ) × IsText text p

-- what holds of every document
pub record IsWithin (d : Doc) : Type 0 where
  pub settings : AreSettings d.settings
  pub policies : (1 ≤ length d.policies) × (length d.policies ≤ 64)
  pub packets : length d.packets ≤ 10000
  pub events : length d.schedule ≤ 100000
  pub read : (p : Term) → IsIn d.policies p → IsRead p
  pub arrives : (p : PacketLine) → IsIn d.packets p → IsArrivalLine d.layout p
  pub named : (e : ScheduleLine) → IsIn d.schedule e → IsNamed d.layout (length d.packets) e.event

-- Each document that is read is within the limits, its policies are read from texts, its packets arrive at edge ports,
-- and its events name what there is.
abbrev pub Within : Type 0
Within = (text : List ℕ) (d : Doc) → IsDocument text d → IsWithin d
