-- Flow statistics: what is asked for rows, and an entry for each row that is told (OpenFlow 1.0.0, 5.3.5).
use Rattle.std.specs.Prelude.{◌≡◌, ◌⊎◌, ℕ, ◌+◌, ◌≤◌, ◌<◌, ◌^◌, Bool, List, [], ◌∷◌, length, drop, take}
use Rattle.std.specs.List.{AllByRecursion}
use Rattle.nk_values.specs.declared.pattern.Pattern.{Pattern}
use Rattle.nk_values.specs.Fitting.{FitsPattern, FitsAction, actions_len}
use Rattle.openflow_wire.specs.declared.flow_stats.FlowStats.{FlowStats}
use Rattle.openflow_wire.specs.Places.{number_at, bit}
use Rattle.openflow_wire.specs.Matches.{match_at}
use Rattle.openflow_wire.specs.ActionLists.{AreActions}

-- statistics of the flow kind, in the first two bytes of a body
abbrev pub IsOfFlows : List ℕ → Type 0
IsOfFlows body = number_at 2 0 body ≡ 1

-- what stands after the head of a request; flags and pad may be anything
pub record IsFlowsRequest (body : List ℕ) (pattern : Pattern) (table out_port : ℕ) : Type 0 where
  pub size : length body ≡ 48
  pub form_is : IsOfFlows body
  pub pattern_is : match_at (drop 4 body) ≡ pattern
  pub table_is : number_at 1 44 body ≡ table
  pub out_port_is : number_at 2 46 body ≡ out_port

-- how many bytes an entry takes
abbrev pub entry_len : FlowStats → ℕ
entry_len e = 88 + actions_len e.row.actions

abbrev pub entries_len : List FlowStats → ℕ
entries_len [] = 0
entries_len (e ∷ more) = entry_len e + entries_len more

-- what the bytes of an entry tell beside its row
pub record IsCounted (bytes : List ℕ) (e : FlowStats) : Type 0 where
  pub table_is : number_at 1 2 bytes ≡ e.table
  pub seconds_is : number_at 4 44 bytes ≡ e.seconds
  pub nanoseconds_is : number_at 4 48 bytes ≡ e.nanoseconds
  pub idle_timeout_is : number_at 2 54 bytes ≡ e.idle_timeout
  pub hard_timeout_is : number_at 2 56 bytes ≡ e.hard_timeout
  pub cookie_is : number_at 8 64 bytes ≡ e.cookie
  pub packets_is : number_at 8 72 bytes ≡ e.packets
  pub bytes_is : number_at 8 80 bytes ≡ e.bytes

-- the bytes begin with this entry; its pads are ignored
pub record IsEntry (bytes : List ℕ) (e : FlowStats) : Type 0 where
  pub size : number_at 2 0 bytes ≡ entry_len e
  pub within : entry_len e ≤ length bytes
  pub pattern_is : match_at (drop 4 bytes) ≡ e.row.pattern
  pub priority_is : number_at 2 52 bytes ≡ e.row.priority
  pub counted : IsCounted bytes e
  pub actions_are : AreActions (drop 88 (take (entry_len e) bytes)) e.row.actions

-- the bytes are these entries, one after the other
abbrev pub AreEntries : List ℕ → List FlowStats → Type 0
AreEntries bytes [] = length bytes ≡ 0
AreEntries bytes (e ∷ more) = IsEntry bytes e × AreEntries (drop (entry_len e) bytes) more

-- what stands after the head of a reply; all flags but the lowest, which says that more replies come, may be anything
pub record IsFlowsReply (body : List ℕ) (more : Bool) (entries : List FlowStats) : Type 0 where
  pub long : 4 ≤ length body
  pub form_is : IsOfFlows body
  pub more_is : bit 0 (number_at 2 2 body) ≡ more
  pub entries_are : AreEntries (drop 4 body) entries

-- statistics of another kind: such a body is kept as it is
abbrev pub IsOtherStats : ℕ → List ℕ → Type 0
IsOtherStats number body = (number ≡ 16) ⊎ (number ≡ 17) → (4 ≤ length body) × (¬ IsOfFlows body)

-- an entry that some bytes spell, if its actions aren't too many
pub record FitsEntry (e : FlowStats) : Type 0 where
  pub table : e.table < 2 ^ 8
  pub pattern : FitsPattern e.row.pattern
  pub seconds : e.seconds < 2 ^ 32
  pub nanoseconds : e.nanoseconds < 2 ^ 32
  pub priority : e.row.priority < 2 ^ 16
  pub idle_timeout : e.idle_timeout < 2 ^ 16
  pub hard_timeout : e.hard_timeout < 2 ^ 16
  pub cookie : e.cookie < 2 ^ 64
  pub packets : e.packets < 2 ^ 64
  pub bytes : e.bytes < 2 ^ 64
  pub actions : AllByRecursion FitsAction e.row.actions

-- ---- what is wrong with entries

-- the length at the front is that of an entry which is all there
pub record HasEntryLength (bytes : List ℕ) : Type 0 where
  pub told : 2 ≤ length bytes
  pub least : 88 ≤ number_at 2 0 bytes
  pub within : number_at 2 0 bytes ≤ length bytes
