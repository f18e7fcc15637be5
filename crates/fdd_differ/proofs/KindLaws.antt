-- A kind of well-shaped packets, field by field.
use Rattle.std.proofs.Common.{inl, inr}
use Rattle.nk_values.specs.declared.field.Field.{Field}
use Rattle.nk_values.specs.declared.field.Field.TheVariants.{EthTyp, IpProto, Ip4Src, Ip4Dst, TcpSrcPort, TcpDstPort}
use Rattle.nk_values.specs.declared.packet.Packet.{Packet}
use Rattle.nk_values.specs.Packets.{get, IsInRange, IsWellShaped}
use Rattle.fdd_differ.specs.declared.frame.Frame.{Frame}
use Rattle.fdd_differ.specs.declared.frame.Frame.TheVariants.{NoIp, OtherIp, Tcp, Udp}
use Rattle.fdd_differ.specs.Frames.{IsFrame, Leaves}

-- a well-shaped packet of a kind holds what the kind leaves to each field
pub left_by_kind : (k : Frame) (p : Packet) → IsFrame k p → IsWellShaped p → (f : Field) → Leaves k f (get p f)
left_by_kind NoIp p h s EthTyp = h
left_by_kind NoIp p h s IpProto = (s.ip_only h).0
left_by_kind NoIp p h s Ip4Src = (s.ip_only h).1
left_by_kind NoIp p h s Ip4Dst = (s.ip_only h).2
left_by_kind NoIp p h s TcpSrcPort = (s.no_ports (inl h)).0
left_by_kind NoIp p h s TcpDstPort = (s.no_ports (inl h)).1
left_by_kind OtherIp p h s EthTyp = h.0
left_by_kind OtherIp p h s IpProto = (h.1, h.2)
left_by_kind OtherIp p h s TcpSrcPort = (s.no_ports (inr (h.1, h.2))).0
left_by_kind OtherIp p h s TcpDstPort = (s.no_ports (inr (h.1, h.2))).1
left_by_kind Tcp p h s EthTyp = h.0
left_by_kind Tcp p h s IpProto = h.1
left_by_kind Udp p h s EthTyp = h.0
left_by_kind Udp p h s IpProto = h.1
left_by_kind k p h s f = tt

-- what holds that is of the kind, and well shaped
pub kind_by_left : (k : Frame) (p : Packet) → ((f : Field) → Leaves k f (get p f)) → IsFrame k p
kind_by_left NoIp p h = h EthTyp
kind_by_left OtherIp p h = (h EthTyp, (h IpProto).0, (h IpProto).1)
kind_by_left Tcp p h = (h EthTyp, h IpProto)
kind_by_left Udp p h = (h EthTyp, h IpProto)

pub shaped_by_left : (k : Frame) (p : Packet) → IsInRange p → ((f : Field) → Leaves k f (get p f)) → IsWellShaped p
shaped_by_left NoIp p r h = record { in_range = r; ip_only = λ n. (h IpProto, h Ip4Src, h Ip4Dst); no_ports = λ n. (h TcpSrcPort, h TcpDstPort) }
shaped_by_left OtherIp p r h = record { in_range = r; ip_only = λ n. absurd (n (h EthTyp)); no_ports = λ n. (h TcpSrcPort, h TcpDstPort) }
shaped_by_left Tcp p r h = record {
  in_range = r;
  ip_only = λ n. absurd (n (h EthTyp));
  no_ports = λ n. elim n [ inl x ↦ absurd (x (h EthTyp)) | inr x ↦ absurd (x.0 (h IpProto)) ];
}
shaped_by_left Udp p r h = record {
  in_range = r;
  ip_only = λ n. absurd (n (h EthTyp));
  no_ports = λ n. elim n [ inl x ↦ absurd (x (h EthTyp)) | inr x ↦ absurd (x.1 (h IpProto)) ];
}
