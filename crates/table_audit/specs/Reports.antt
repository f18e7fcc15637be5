-- What a switch reports when it is asked for all of its rows (OpenFlow 1.0.0, 5.3.5).
use Rattle.std.specs.Prelude.{List}
use Rattle.nk_values.specs.declared.row.Row.{Row}
use Rattle.nk_values.specs.Members.{SameMembers}
use Rattle.nk_values.specs.Patterns.{any}
use Rattle.openflow_wire.specs.declared.message.Message.{Message}
use Rattle.openflow_wire.specs.declared.message.Message.TheVariants as to
use Rattle.flow_audit.specs.Reports.{all_rows}
use Rattle.flow_audit.specs.Verdicts.{IsReported}

-- the request for the rows of all tables, whatever port they send to
abbrev pub request : Message
request = to.FlowStatsRequest 1 any 255 65535

-- the messages are a report of just these rows
pub record AreReportOf (rows : List Row) (messages : List Message) : Type 0 where
  pub reported : IsReported messages
  pub same : SameMembers rows (all_rows messages)
