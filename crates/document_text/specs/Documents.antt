-- What a document says.
use Rattle.std.specs.Prelude.{List}
use Rattle.nk_syntax.specs.Terms.{Term}
use Rattle.topology_model.specs.Layouts.{Layout}
use Rattle.document_text.specs.declared.document.PacketLine.{PacketLine}
use Rattle.document_text.specs.declared.document.Settings.{Settings}
use Rattle.document_text.specs.declared.document.ScheduleLine.{ScheduleLine}
use Rattle.document_text.specs.declared.fault.DocFault.{DocFault}

-- the topology, the policies from the first on, the packets, the settings and the schedule
pub record Doc : Type 0 where
  pub layout : Layout
  pub policies : List Term
  pub packets : List PacketLine
  pub settings : Settings
  pub schedule : List ScheduleLine

-- what a text is: a document, or refused with its first fault
pub data Outcome : Type 0 where
  Accepted : Doc → Outcome
  Refused : DocFault → Outcome
