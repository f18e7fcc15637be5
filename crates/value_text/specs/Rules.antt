-- The texts of rows.
use Rattle.std.specs.Prelude.{ℕ, ◌+◌, ◌==◌, List, [], ◌∷◌, ◌++◌, Option, Some, None, if◌then◌else◌, codes}
use Rattle.std.specs.List.{flat_map}
use Rattle.std.specs.Fmt.{decimal}
use Rattle.nk_values.specs.declared.action.Action.{Action}
use Rattle.nk_values.specs.declared.action.Action.TheVariants.{Output, SetVlanVid, StripVlan, SetDlSrc, SetDlDst}
use Rattle.nk_values.specs.declared.action.Action.TheVariants.{SetNwSrc, SetNwDst, SetTpSrc, SetTpDst}
use Rattle.nk_values.specs.declared.field.Field.{Field}
use Rattle.nk_values.specs.declared.field.Field.TheVariants.{EthTyp, IpProto, EthSrc, EthDst, Ip4Src, Ip4Dst}
use Rattle.nk_values.specs.declared.field.Field.TheVariants.{TcpSrcPort, TcpDstPort}
use Rattle.nk_values.specs.declared.pattern.Pattern.{Pattern}
use Rattle.nk_values.specs.declared.pattern.Prefix.{Prefix}
use Rattle.nk_values.specs.declared.row.Row.{Row}
use Rattle.nk_values.specs.declared.rows.Band.{Band}
use Rattle.nk_values.specs.declared.rows.Band.TheVariants.{High, Low}
use Rattle.nk_values.specs.declared.rows.PortRows.{PortRows}
use Rattle.nk_values.specs.declared.rows.Rows.{Rows}
use Rattle.topology_model.specs.declared.line.DeclaredSwitch.{DeclaredSwitch}
use Rattle.topology_model.specs.Layouts.{Layout}
use Rattle.policy_rows.specs.declared.version.Version.{Version}
use Rattle.nk_values.specs.Names.{name_of}
use Rattle.value_text.specs.Values.{line, field_text, value_text}

-- ` in=B`, where the port is fixed
abbrev pub in_text : Option ℕ → List ℕ
in_text None = []
in_text (Some port) = codes " in=" ++ decimal port

-- ` vlan=V`, where the tag is fixed; 65535 asks for none
abbrev pub vlan_text : Option ℕ → List ℕ
vlan_text None = []
vlan_text (Some v) = if v == 65535 then codes " vlan=none" else codes " vlan=" ++ decimal v

-- ` f=value`, where the field is fixed
abbrev pub fixed_text : Field → Option ℕ → List ℕ
fixed_text f None = []
fixed_text f (Some n) = codes " " ++ field_text f n

-- the address, where bits of it are fixed; the rows of a policy fix all of them
abbrev pub address_of : Option Prefix → Option ℕ
address_of None = None
address_of (Some p) = Some p.address

abbrev pub frame_text : Pattern → List ℕ
frame_text p = fixed_text EthTyp p.dl_type ++
    (fixed_text IpProto p.nw_proto ++ (fixed_text EthSrc p.dl_src ++ fixed_text EthDst p.dl_dst))

abbrev pub network_text : Pattern → List ℕ
network_text p = fixed_text Ip4Src (address_of p.nw_src) ++
    (fixed_text Ip4Dst (address_of p.nw_dst) ++ (fixed_text TcpSrcPort p.tp_src ++ fixed_text TcpDstPort p.tp_dst))

-- what a pattern fixes: the port, the tag, and header fields in field order
abbrev pub pattern_text : Pattern → List ℕ
pattern_text p = in_text p.in_port ++ (vlan_text p.dl_vlan ++ (frame_text p ++ network_text p))

-- `set f value`
abbrev pub set_text : Field → ℕ → List ℕ
set_text f n = codes "set " ++ (name_of f ++ (codes " " ++ value_text f n))

-- the words of it in front of the value
abbrev pub set_words : Field → List ℕ
set_words f = codes "set " ++ (name_of f ++ codes " ")

abbrev pub action_text : Action → List ℕ
action_text (Output n) = codes "output " ++ decimal n
action_text (SetVlanVid n) = codes "vlan " ++ decimal n
action_text StripVlan = codes "strip"
action_text (SetDlSrc n) = set_text EthSrc n
action_text (SetDlDst n) = set_text EthDst n
action_text (SetNwSrc n) = set_text Ip4Src n
action_text (SetNwDst n) = set_text Ip4Dst n
action_text (SetTpSrc n) = set_text TcpSrcPort n
action_text (SetTpDst n) = set_text TcpDstPort n

-- actions, each after a comma and a blank
abbrev pub more_actions : List Action → List ℕ
more_actions [] = []
more_actions (a ∷ as') = codes ", " ++ (action_text a ++ more_actions as')

-- the actions in order, or `drop`
abbrev pub actions_text : List Action → List ℕ
actions_text [] = codes "drop"
actions_text (a ∷ as') = action_text a ++ more_actions as'

abbrev pub row_text : Row → List ℕ
row_text r = decimal r.priority ++ (pattern_text r.pattern ++ (codes " : " ++ actions_text r.actions))

-- rows, a line each
abbrev pub rows_text : List Row → List ℕ
rows_text rows = flat_map (λ (r : Row). line (row_text r)) rows

-- the rows of a port, if it is this switch's
abbrev pub port_text : ℕ → PortRows → List ℕ
port_text sw port = if port.sw == sw then rows_text port.rows else []

-- a switch, and the rows of its ports
abbrev pub switch_text : List PortRows → DeclaredSwitch → List ℕ
switch_text ports s = line (codes "switch " ++ decimal s.sw) ++ flat_map (port_text s.sw) ports

abbrev pub band_text : Band → List ℕ
band_text High = codes " band high"
band_text Low = codes " band low"

-- the line of a policy with its number, stamp and band
abbrev pub head_text : ℕ → Rows → List ℕ
head_text i rows = codes "policy " ++
    (decimal i ++ (codes " stamp " ++ (decimal rows.stamp ++ line (band_text rows.band))))

-- the rows of a policy, switch by switch
abbrev pub version_text : ℕ → Rows → List DeclaredSwitch → List ℕ
version_text i rows sites = head_text i rows ++ flat_map (switch_text rows.ports) sites

-- versions after k others
abbrev pub versions_text : ℕ → List Version → Layout → List ℕ
versions_text k [] t = []
versions_text k (v ∷ vs) t = version_text (k + 1) v.rows t.switches ++ versions_text (k + 1) vs t

-- the rows of all policies, which count from 1
abbrev pub rules_text : List Version → Layout → List ℕ
rules_text versions t = versions_text 0 versions t
