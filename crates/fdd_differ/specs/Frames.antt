-- The four kinds of well-shaped packets.
use Rattle.std.specs.Prelude.{◌≡◌, ◌≢◌, ℕ}
use Rattle.nk_values.specs.declared.field.Field.{Field}
use Rattle.nk_values.specs.declared.field.Field.TheVariants.{EthTyp, IpProto, Ip4Src, Ip4Dst, TcpSrcPort, TcpDstPort}
use Rattle.nk_values.specs.declared.packet.Packet.{Packet}
use Rattle.nk_values.specs.Packets.{with_value}
use Rattle.fdd_nodes.specs.Cells.{whole_cell}
use Rattle.fdd_differ.specs.declared.frame.Frame.{Frame}
use Rattle.fdd_differ.specs.declared.frame.Frame.TheVariants.{NoIp, OtherIp, Tcp, Udp}

-- the packet is of this kind
abbrev pub IsFrame : Frame → Packet → Type 0
IsFrame NoIp p = p.header.eth_typ ≢ 2048
IsFrame OtherIp p = (p.header.eth_typ ≡ 2048) × (p.header.ip_proto ≢ 6) × (p.header.ip_proto ≢ 17)
IsFrame Tcp p = (p.header.eth_typ ≡ 2048) × (p.header.ip_proto ≡ 6)
IsFrame Udp p = (p.header.eth_typ ≡ 2048) × (p.header.ip_proto ≡ 17)

-- what each packet of a kind holds
abbrev pub frame_cell : Frame → Packet
frame_cell NoIp = whole_cell
frame_cell OtherIp = with_value whole_cell EthTyp 2048
frame_cell Tcp = with_value (with_value whole_cell EthTyp 2048) IpProto 6
frame_cell Udp = with_value (with_value whole_cell EthTyp 2048) IpProto 17

-- packets of this kind have no such field, and hold 0 there
abbrev pub Lacks : Frame → Field → Type 0
Lacks NoIp IpProto = Unit {0}
Lacks NoIp Ip4Src = Unit {0}
Lacks NoIp Ip4Dst = Unit {0}
Lacks NoIp TcpSrcPort = Unit {0}
Lacks NoIp TcpDstPort = Unit {0}
Lacks OtherIp TcpSrcPort = Unit {0}
Lacks OtherIp TcpDstPort = Unit {0}
Lacks k f = ⊥

-- the kind leaves this number to the field, where it is a value of the field
abbrev pub Leaves : Frame → Field → ℕ → Type 0
Leaves NoIp EthTyp n = n ≢ 2048
Leaves OtherIp EthTyp n = n ≡ 2048
Leaves Tcp EthTyp n = n ≡ 2048
Leaves Udp EthTyp n = n ≡ 2048
Leaves NoIp IpProto n = n ≡ 0
Leaves OtherIp IpProto n = (n ≢ 6) × (n ≢ 17)
Leaves Tcp IpProto n = n ≡ 6
Leaves Udp IpProto n = n ≡ 17
Leaves NoIp Ip4Src n = n ≡ 0
Leaves NoIp Ip4Dst n = n ≡ 0
Leaves NoIp TcpSrcPort n = n ≡ 0
Leaves NoIp TcpDstPort n = n ≡ 0
Leaves OtherIp TcpSrcPort n = n ≡ 0
Leaves OtherIp TcpDstPort n = n ≡ 0
Leaves k f n = Unit {0}
