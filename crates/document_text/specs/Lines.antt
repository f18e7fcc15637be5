-- The lines of a document but for those of policies and of the schedule: what each has to be, and what it declares.
-- Where a line has several faults, the first one named here is its fault.
use Rattle.std.specs.Prelude.{ℕ, Bool, true, not, ◌==◌, ◌&&◌, ◌||◌, nat_le, List, [], ◌∷◌, codes, Option, None, Some}
use Rattle.std.specs.Prelude.{is_some, if◌then◌else◌, Result, Ok, Err, option_map, option_and_then}
use Rattle.std.specs.List.{list_all}
use Rattle.std.specs.Str.{bytes_eq}
use Rattle.nk_values.specs.declared.text_fault.TextFault.{TextFault}
use Rattle.nk_values.specs.declared.text_fault.TextFault.TheVariants.{BadLine, NoEdge, NoPolicy, NotEdge, StampRange}
use Rattle.nk_values.specs.declared.text_fault.TextFault.TheVariants.{TooFewStamps, UnknownName, UnknownPort}
use Rattle.nk_values.specs.declared.text_fault.TextFault.TheVariants.{UnknownSwitch, ValueRange}
use Rattle.nk_values.specs.declared.field.Field.TheVariants.{Sw, Pt}
use Rattle.topology_model.specs.Layouts.{location_of, has_switch, has_port, is_linked}
use Rattle.topology_model.specs.Lines.{with_line, line_fault}
use Rattle.topology_model.specs.declared.line.TopoLine.{TopoLine}
use Rattle.topology_model.specs.declared.line.TopoLine.TheVariants as topology
use Rattle.document_text.specs.declared.document.PacketLine.{PacketLine}
use Rattle.document_text.specs.declared.declaration.LineKind.{LineKind}
use Rattle.document_text.specs.declared.declaration.LineKind.TheVariants.{Switch, Link, Setting, Policy, Packet}
use Rattle.document_text.specs.declared.declaration.LineKind.TheVariants.{Schedule}
use Rattle.document_text.specs.States.{State, place_of_kind, is_late, is_empty, has_edge}
use Rattle.document_text.specs.Texts.{numeral, numerals, end_of}
use Rattle.document_text.specs.Packets.{GivenFields, is_value, given_at, with_words}
use Rattle.document_text.specs.Schedules.{refused_if, formed}

-- with one more line of the topology
abbrev pub placed_by : State → Option TextFault → Result State TextFault
placed_by s None = Ok s
placed_by s (Some f) = Err f

abbrev pub placed : State → LineKind → TopoLine → Result State TextFault
placed s k l = placed_by (record s { reached = k; layout = with_line s.layout l }) (line_fault s.layout l)

-- `switch S ports B1 B2 ..`
abbrev pub switch_form : List (List ℕ) → Option (ℕ × List ℕ)
switch_form (w ∷ p ∷ b ∷ bs) =
    if bytes_eq p (codes "ports") then option_and_then (λ sw. option_map (λ ports. (sw, ports)) (numerals (b ∷ bs)))
    (numeral w) else None
switch_form _ = None

abbrev pub switch_line : State → List (List ℕ) → Result State TextFault
switch_line s ws =
    formed (switch_form ws) (λ x.
    refused_if (is_late s Switch) BadLine
    (refused_if (not (is_value Sw x.0 && list_all (is_value Pt) x.1)) ValueRange
    (placed s Switch (topology.Switch x.0 x.1))))

-- `link S:B S:B`
abbrev pub link_form : List (List ℕ) → Option ((ℕ × ℕ) × (ℕ × ℕ))
link_form (a ∷ b ∷ []) = option_and_then (λ x. option_map (λ y. (x, y)) (end_of b)) (end_of a)
link_form _ = None

-- the numbers are a switch's and a port's
abbrev pub is_end_value : ℕ × ℕ → Bool
is_end_value e = is_value Sw e.0 && is_value Pt e.1

abbrev pub link_line : State → List (List ℕ) → Result State TextFault
link_line s ws =
    formed (link_form ws) (λ x.
    refused_if (is_late s Link) BadLine
    (refused_if (not (is_end_value x.0 && is_end_value x.1)) ValueRange
    (placed s Link (topology.Link x.0 x.1))))

-- after the topology, which has to have an edge port
abbrev pub after_topology : {A : Type 0} → State → Result A TextFault → Result A TextFault
after_topology s r = refused_if (not (has_edge s.layout)) NoEdge r

-- a setting, unless it was given before
abbrev pub set_once : State → Bool → Result State TextFault → Result State TextFault
set_once s given r = refused_if (is_late s Setting || given) BadLine (after_topology s r)

abbrev pub one_numeral : List (List ℕ) → Option ℕ
one_numeral (w ∷ []) = numeral w
one_numeral _ = None

abbrev pub two_numerals : List (List ℕ) → Option (ℕ × ℕ)
two_numerals (a ∷ b ∷ []) = option_and_then (λ m. option_map (λ n. (m, n)) (numeral b)) (numeral a)
two_numerals _ = None

-- the number of a setting, from the least to the greatest
abbrev pub new_number : State → Bool → ℕ → ℕ → List (List ℕ) → (ℕ → Result State TextFault) → Result State TextFault
new_number s given least most ws next =
    formed (one_numeral ws) (λ n.
    set_once s given
    (refused_if (not (nat_le least n && nat_le n most)) ValueRange
    (next n)))

-- `hops N`, 1 to 1,000
abbrev pub hops_line : State → List (List ℕ) → Result State TextFault
hops_line s ws = new_number s (is_some s.hops) 1 1000 ws (λ n. Ok (record s { reached = Setting; hops = Some n }))

-- `capacity N`, 1 to 200,000
abbrev pub capacity_line : State → List (List ℕ) → Result State TextFault
capacity_line s ws = new_number s (is_some s.capacity) 1 200000 ws
    (λ n. Ok (record s { reached = Setting; capacity = Some n }))

-- `stamps LO HI`, two or more of 1 to 4094
abbrev pub stamps_line : State → List (List ℕ) → Result State TextFault
stamps_line s ws =
    formed (two_numerals ws) (λ x.
    set_once s (is_some s.stamps)
    (refused_if (not (nat_le 1 x.0 && nat_le x.0 x.1 && nat_le x.1 4094)) StampRange
    (refused_if (x.0 == x.1) TooFewStamps
    (Ok (record s { reached = Setting; stamps = Some x })))))

-- `rejoins N`, 0 to 1,000
abbrev pub rejoins_line : State → List (List ℕ) → Result State TextFault
rejoins_line s ws = new_number s (is_some s.rejoins) 0 1000 ws
    (λ n. Ok (record s { reached = Setting; rejoins = Some n }))

-- `overlap` alone, once
abbrev pub overlap_line : State → List (List ℕ) → Result State TextFault
overlap_line s [] = set_once s s.overlap (Ok (record s { reached = Setting; overlap = true }))
overlap_line s _ = Err BadLine

-- `policy` alone, which begins a policy's text
abbrev pub policy_line : State → List (List ℕ) → Result State TextFault
policy_line s [] = refused_if (is_late s Policy) BadLine (after_topology s (Ok (record s { reached = Policy })))
policy_line s _ = Err BadLine

-- after a policy
abbrev pub after_policies : {A : Type 0} → State → Result A TextFault → Result A TextFault
after_policies s r = after_topology s (refused_if (is_empty s.policies) NoPolicy r)

-- `packet S:B`, and words with the packet's values
abbrev pub packet_form : List (List ℕ) → Option ((ℕ × ℕ) × GivenFields)
packet_form [] = None
packet_form (w ∷ ws) = option_and_then (λ e. option_map (λ g. (e, g)) (with_words (given_at e) ws)) (end_of w)

-- a declared port without a link
abbrev pub at_edge : {A : Type 0} → State → ℕ × ℕ → Result A TextFault → Result A TextFault
at_edge s e r =
    refused_if (not (has_switch s.layout.switches e.0)) UnknownSwitch
    (refused_if (not (has_port s.layout.switches (location_of e))) UnknownPort
    (refused_if (is_linked s.layout (location_of e)) NotEdge r))

abbrev pub packet_line : State → List (List ℕ) → Result PacketLine TextFault
packet_line s ws =
    formed (packet_form ws) (λ x.
    refused_if (is_late s Packet) BadLine
    (after_policies s
    (refused_if x.1.unknown UnknownName
    (refused_if (not (is_end_value x.0) || x.1.outside) ValueRange
    (at_edge s x.0 (Ok (record { packet = x.1.packet; tag = x.1.tag })))))))

-- `schedule` alone, once
abbrev pub schedule_line : State → List (List ℕ) → Result State TextFault
schedule_line s [] =
    refused_if (nat_le 5 (place_of_kind s.reached)) BadLine
    (after_policies s (Ok (record s { reached = Schedule; inside = true })))
schedule_line s _ = Err BadLine
