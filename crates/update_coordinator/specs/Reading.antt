-- How a batch is read off the rows.
use Rattle.std.specs.Prelude.{◌≡◌, ℕ, ◌+◌, ◌-◌, Bool, true, List, [], ◌∷◌, drop, length, Option, Some, None, slice_get}
use Rattle.std.specs.Prelude.{slice_set}
use Rattle.nk_values.specs.declared.row.FlowMod.{FlowMod}
use Rattle.nk_values.specs.declared.rows.Rows.{Rows}
use Rattle.update_plan.specs.declared.cursor.Share.{Share}
use Rattle.update_plan.specs.declared.cursor.Share.TheVariants.{Bulk, Round, Ingress, Internal}
use Rattle.update_plan.specs.declared.cursor.Cursor.{Cursor}
use Rattle.update_plan.specs.Reading.{left_by, IsSpan, ports_of, cursor_at}
use Rattle.update_plan.specs.declared.cursor.Span.{Span}
use Rattle.session_core.specs.declared.session.Move.{Move}
use Rattle.session_core.specs.declared.session.Move.TheVariants.{Up}
use Rattle.update_coordinator.specs.declared.phase.Phase.{Phase}
use Rattle.update_coordinator.specs.declared.phase.Phase.TheVariants.{Opening, Install, Flip, Clean, Tidy, Sweep}
use Rattle.update_coordinator.specs.Batches.{version_at, wipe, batch}
use Rattle.update_coordinator.specs.Controls.{Control, Peer, batch_at}

-- which rows of a port come or go, of which policy they come and of which they go
abbrev pub share_in : Phase → Share
share_in (Flip i r) = Round r
share_in (Tidy i) = Ingress
share_in (Sweep i v) = Internal
share_in _ = Bulk

abbrev pub coming_in : List Rows → Phase → Option Rows
coming_in versions (Install i) = version_at versions i
coming_in versions (Flip i r) = version_at versions i
coming_in versions _ = None

abbrev pub going_in : List Rows → Phase → Option Rows
going_in versions (Flip i r) = version_at versions (i - 1)
going_in versions (Clean i) = version_at versions (i - 1)
going_in versions (Tidy i) = version_at versions (i - 1)
going_in versions (Sweep i v) = version_at versions v
going_in versions _ = None

-- what is left of the batch of a phase: in Opening by how much of it went out, else at a cursor
abbrev pub left_in : List Rows → Phase → ℕ → ℕ → Cursor → List FlowMod
left_in versions Opening sw next x = drop next (wipe ∷ [])
left_in versions ph sw next x = left_by x (share_in ph) (coming_in versions ph) (going_in versions ph) sw

-- the ports of a switch stand between these places, in the rows of each policy
abbrev pub AreBetween : List Rows → ℕ → Span → Type 0
AreBetween versions sw span = (i : ℕ) → IsSpan span sw (ports_of (version_at versions i))

-- the cursor stands where the batch of this switch is read on
abbrev pub IsRead : Control → Peer → Cursor → Type 0
IsRead c s x = drop s.next (batch c.versions c.phase s.sw) ≡ left_in c.versions c.phase s.sw s.next x

-- So does that of each switch; and between two places stand its ports, in the rows of each policy.
pub record AreRead (c : Control) (spans : List Span) (cursors : List Cursor) : Type 0 where
  pub count : length cursors ≡ length c.peers
  pub many : length spans ≡ length c.peers
  pub each : (k : ℕ) (s : Peer) (x : Cursor) → slice_get c.peers k ≡ Some s → slice_get cursors k ≡ Some x →
      IsRead c s x
  pub between : (k : ℕ) (s : Peer) (span : Span) → slice_get c.peers k ≡ Some s → slice_get spans k ≡ Some span →
      AreBetween c.versions s.sw span

-- nothing is left of the batch of the switch at a place
pub record IsAtEnd (place : ℕ) (c : Control) : Type 0 where
  pub peer : Peer
  pub here : slice_get c.peers place ≡ Some peer
  pub left : drop peer.next (batch_at c peer) ≡ []

-- this flow mod is the next one of it, and this cursor stands after it
pub record IsAtChange (place : ℕ) (m : FlowMod) (x : Cursor) (c : Control) : Type 0 where
  pub peer : Peer
  pub here : slice_get c.peers place ≡ Some peer
  pub left : drop peer.next (batch_at c peer) ≡ m ∷ left_in c.versions c.phase peer.sw (peer.next + 1) x

-- a switch that tells its features gets its batch from the front on, where it is due
abbrev pub begun_again : Bool → Move → ℕ → Span → List Cursor → List Cursor
begun_again true Up place span cursors = slice_set cursors place (cursor_at span)
begun_again due move place span cursors = cursors
