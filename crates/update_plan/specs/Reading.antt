-- What is read off the rows of a policy for one batch of one switch, port by port.
use Rattle.std.specs.Prelude.{◌≡◌, ◌⊎◌, ◌<◌, ◌≤◌, ℕ, ◌+◌, ◌==◌, min, max, Bool, true, false, List, [], ◌++◌, map, drop}
use Rattle.std.specs.Prelude.{Option, Some, None, slice_get, if◌then◌else◌}
use Rattle.std.specs.List.{flat_map, filter}
use Rattle.nk_values.specs.declared.row.Row.{Row}
use Rattle.nk_values.specs.declared.row.FlowMod.{FlowMod}
use Rattle.nk_values.specs.declared.rows.Band.{Band}
use Rattle.nk_values.specs.declared.rows.PortRows.{PortRows}
use Rattle.nk_values.specs.declared.rows.Rows.{Rows}
use Rattle.openflow_wire.specs.RowChanges.{mod_of}
use Rattle.update_plan.specs.declared.cursor.Share.{Share}
use Rattle.update_plan.specs.declared.cursor.Share.TheVariants.{Bulk, Round, Ingress, Internal}
use Rattle.update_plan.specs.declared.cursor.RowIndex.{RowIndex}
use Rattle.update_plan.specs.declared.cursor.Cursor.{Cursor}
use Rattle.update_plan.specs.declared.cursor.Span.{Span}
use Rattle.update_plan.specs.Batches.{by_rounds, at_once, ingress, internal, row_in, band_of}

-- the rows of a port that come or go: at once, in a round, or of those at once the ingress or the internal ones
abbrev pub share_of : Share → Bool → Band → PortRows → List Row
share_of Bulk adds band p = at_once band p.kind p.rows
share_of (Round r) adds band p = row_in adds r (by_rounds band p.kind p.rows)
share_of Ingress adds band p = ingress band p.kind p.rows
share_of Internal adds band p = internal p.kind p.rows

-- those of a port if it is of this switch
abbrev pub share_at : Share → Bool → Band → ℕ → Option PortRows → List Row
share_at share adds band sw None = []
share_at share adds band sw (Some p) = if p.sw == sw then share_of share adds band p else []

-- those of all ports of the switch from a port on
abbrev pub from_port : Share → Bool → Band → ℕ → List PortRows → List Row
from_port share adds band sw ports = flat_map (λ p. share_of share adds band p) (filter (λ p. p.sw == sw) ports)

-- and from a row of a port on
abbrev pub from_place : Share → Bool → Band → ℕ → List PortRows → RowIndex → List Row
from_place share adds band sw ports at =
    drop at.row (share_at share adds band sw (slice_get ports at.port)) ++ from_port share adds band sw
    (drop (at.port + 1) ports)

abbrev pub ports_of : Option Rows → List PortRows
ports_of None = []
ports_of (Some v) = v.ports

-- the flow mods of one side of a batch, whole, and from a place on
abbrev pub side : Share → Bool → Option Rows → ℕ → List FlowMod
side share adds v sw = map (mod_of adds) (from_port share adds (band_of v) sw (ports_of v))

abbrev pub side_from : Share → Bool → Option Rows → ℕ → RowIndex → List FlowMod
side_from share adds v sw at = map (mod_of adds) (from_place share adds (band_of v) sw (ports_of v) at)

-- a batch: what comes in, and after it what goes
abbrev pub changes : Share → Option Rows → Option Rows → ℕ → List FlowMod
changes share new old sw = side share true new sw ++ side share false old sw

-- what is left of it at a cursor
abbrev pub left_at : Bool → Share → Option Rows → Option Rows → ℕ → RowIndex → List FlowMod
left_at true share new old sw at = side_from share false old sw at
left_at false share new old sw at = side_from share true new sw at ++ side share false old sw

abbrev pub left_by : Cursor → Share → Option Rows → Option Rows → ℕ → List FlowMod
left_by c share new old sw = left_at c.goes share new old sw c.at

-- each of these ports that is of the switch stands between two places
abbrev pub IsSpan : Span → ℕ → List PortRows → Type 0
IsSpan span sw ports = (k : ℕ) (p : PortRows) → slice_get ports k ≡ Some p → ((p.sw == sw) ≡ false) ⊎
    ((span.first ≤ k) × (k < span.end))

-- both spans
abbrev pub joined : Span → Span → Span
joined a b = record { first = min a.first b.first; end = max a.end b.end }

-- where a batch begins
abbrev pub cursor_at : Span → Cursor
cursor_at span = record { goes = false; at = record { port = span.first; row = 0 } }
