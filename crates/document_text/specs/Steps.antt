-- One line after others.
use Rattle.std.specs.Prelude.{ℕ, Bool, false, not, ◌&&◌, ◌||◌, nat_le, List, [], ◌∷◌, ◌++◌, length, codes}
use Rattle.std.specs.Prelude.{if◌then◌else◌, Result, Ok, Err}
use Rattle.std.specs.Str.{bytes_eq}
use Rattle.nk_values.specs.declared.text_fault.TextFault.{TextFault}
use Rattle.nk_values.specs.declared.text_fault.TextFault.TheVariants.{BadLine, Limit}
use Rattle.document_text.specs.declared.document.ScheduleStep.{ScheduleStep}
use Rattle.document_text.specs.declared.document.PacketLine.{PacketLine}
use Rattle.document_text.specs.declared.declaration.LineKind.TheVariants.{Packet}
use Rattle.document_text.specs.declared.head.Head.{Head}
use Rattle.document_text.specs.declared.head.Head.TheVariants as head
use Rattle.document_text.specs.States.{State}
use Rattle.document_text.specs.Texts.{is_end}
use Rattle.document_text.specs.Schedules.{event_of}
use Rattle.document_text.specs.Lines.{switch_line, link_line, hops_line, capacity_line, stamps_line, rejoins_line}
use Rattle.document_text.specs.Lines.{overlap_line, policy_line, packet_line, schedule_line}

-- What a line does: reading goes on; or it does where the packet is well shaped; or a policy's text begins; or reading
-- stops.
pub data Step : Type 0 where
  Next : State → Step
  Enters : PacketLine → State → Step
  Opens : State → Step
  Stops : TextFault → Step

-- what the first word of a line says that it is
abbrev pub head_of : List ℕ → Head
head_of w =
    if bytes_eq w (codes "switch") then head.Switch else if bytes_eq w (codes "link") then head.Link else
    if bytes_eq w (codes "hops") then head.Hops else if bytes_eq w (codes "capacity") then head.Capacity else
    if bytes_eq w (codes "stamps") then head.Stamps else if bytes_eq w (codes "rejoins") then head.Rejoins else
    if bytes_eq w (codes "overlap") then head.Overlap else
    if bytes_eq w (codes "policy") then head.Policy else if bytes_eq w (codes "packet") then head.Packet else
    if bytes_eq w (codes "schedule") then head.Schedule else head.Unlisted

-- the line is an event too many, the 100,001st
abbrev pub event_too_many : State → List (List ℕ) → Bool
event_too_many s ws = s.inside && not (is_end ws) && nat_le 100000 (length s.events)

-- the line is a policy, a packet or an event too many: the 65th, the 10,001st, the 100,001st
abbrev pub is_too_many : State → Head → List (List ℕ) → Bool
is_too_many s head.Policy ws = nat_le 64 (length s.policies) || event_too_many s ws
is_too_many s head.Packet ws = nat_le 10000 (length s.packets) || event_too_many s ws
is_too_many s _ ws = event_too_many s ws

abbrev pub next : Result State TextFault → Step
next (Ok s) = Next s
next (Err f) = Stops f

abbrev pub opens : Result State TextFault → Step
opens (Ok s) = Opens s
opens (Err f) = Stops f

abbrev pub enters : State → Result PacketLine TextFault → Step
enters s (Ok p) = Enters p (record s { reached = Packet; packets = s.packets ++ p ∷ [] })
enters s (Err f) = Stops f

-- a line of the schedule, which has this number
abbrev pub happens : State → ℕ → Result ScheduleStep TextFault → Step
happens s n (Ok e) = Next (record s { events = s.events ++ record { line = n; event = e } ∷ [] })
happens s n (Err f) = Stops f

-- a line inside the schedule
abbrev pub scheduled : State → ℕ → List (List ℕ) → Step
scheduled s n ws = if is_end ws then Next (record s { inside = false }) else happens s n (event_of s ws)

-- a line outside, by its first word
abbrev pub declares : State → Head → List (List ℕ) → Step
declares s head.Switch ws = next (switch_line s ws)
declares s head.Link ws = next (link_line s ws)
declares s head.Hops ws = next (hops_line s ws)
declares s head.Capacity ws = next (capacity_line s ws)
declares s head.Stamps ws = next (stamps_line s ws)
declares s head.Rejoins ws = next (rejoins_line s ws)
declares s head.Overlap ws = next (overlap_line s ws)
declares s head.Policy ws = opens (policy_line s ws)
declares s head.Packet ws = enters s (packet_line s ws)
declares s head.Schedule ws = next (schedule_line s ws)
declares s head.Unlisted ws = Stops BadLine

-- the words of the line with this number
abbrev pub step : State → ℕ → List (List ℕ) → Step
step s n [] = Next s
step s n (w ∷ ws) =
    if is_too_many s (head_of w) (w ∷ ws) then Stops Limit else
    if s.inside then scheduled s n (w ∷ ws) else declares s (head_of w) ws
