-- How many fields a cell leaves open: fixing one leaves fewer.
use Rattle.std.proofs.Common.{◌≡◌, ℕ, ◌+◌, ◌<◌, ap, arith, Bool, if◌then◌else◌}
use Rattle.std.proofs.lemmas.Bool.{eq-eqb, ne_eqb}
use Rattle.nk_values.specs.declared.field.Field.{Field}
use Rattle.nk_values.specs.declared.field.Field.TheVariants.{Sw, Pt, EthTyp, IpProto, EthSrc, EthDst, Ip4Src, Ip4Dst, TcpSrcPort, TcpDstPort}
use Rattle.nk_values.specs.declared.packet.Packet.{Packet}
use Rattle.nk_values.specs.declared.lit.Lit.{Lit}
use Rattle.nk_values.specs.Held.{put}
use Rattle.nk_values.specs.Lits.{lit_field, lit_value}
use Rattle.nk_values.specs.Packets.{get, with_value}
use Rattle.fdd_nodes.specs.Cells.{unset, CanFix, IsUnset, is_unset}
use Rattle.fdd_nodes.proofs.CellLaws.{lit_not_free}

abbrev pub one_if : Bool → ℕ
one_if b = if b then 1 else 0

abbrev pub open_fields : Packet → ℕ
open_fields c =
    one_if (is_unset c Sw) + one_if (is_unset c Pt) + one_if (is_unset c EthTyp) + one_if (is_unset c IpProto) + one_if (is_unset c EthSrc)
    + one_if (is_unset c EthDst) + one_if (is_unset c Ip4Src) + one_if (is_unset c Ip4Dst) + one_if (is_unset c TcpSrcPort) + one_if (is_unset c TcpDstPort)

open_one : (c : Packet) (f : Field) → IsUnset c f → one_if (is_unset c f) ≡ 1
open_one c f e = ap one_if (eq-eqb (get c f) unset e)

fixed_none : (c : Packet) (f : Field) → ¬ IsUnset c f → one_if (is_unset c f) ≡ 0
fixed_none c f e = ap one_if (ne_eqb (get c f) unset e)

fewer_with : (c : Packet) (f : Field) (n : ℕ) → IsUnset c f → CanFix n → open_fields (with_value c f n) < open_fields c
fewer_with c Sw n e d = let a = open_one c Sw e in let b = fixed_none (with_value c Sw n) Sw d in omega (arith, a, b)
fewer_with c Pt n e d = let a = open_one c Pt e in let b = fixed_none (with_value c Pt n) Pt d in omega (arith, a, b)
fewer_with c EthTyp n e d = let a = open_one c EthTyp e in let b = fixed_none (with_value c EthTyp n) EthTyp d in omega (arith, a, b)
fewer_with c IpProto n e d = let a = open_one c IpProto e in let b = fixed_none (with_value c IpProto n) IpProto d in omega (arith, a, b)
fewer_with c EthSrc n e d = let a = open_one c EthSrc e in let b = fixed_none (with_value c EthSrc n) EthSrc d in omega (arith, a, b)
fewer_with c EthDst n e d = let a = open_one c EthDst e in let b = fixed_none (with_value c EthDst n) EthDst d in omega (arith, a, b)
fewer_with c Ip4Src n e d = let a = open_one c Ip4Src e in let b = fixed_none (with_value c Ip4Src n) Ip4Src d in omega (arith, a, b)
fewer_with c Ip4Dst n e d = let a = open_one c Ip4Dst e in let b = fixed_none (with_value c Ip4Dst n) Ip4Dst d in omega (arith, a, b)
fewer_with c TcpSrcPort n e d = let a = open_one c TcpSrcPort e in let b = fixed_none (with_value c TcpSrcPort n) TcpSrcPort d in omega (arith, a, b)
fewer_with c TcpDstPort n e d = let a = open_one c TcpDstPort e in let b = fixed_none (with_value c TcpDstPort n) TcpDstPort d in omega (arith, a, b)

-- fixing a field leaves fewer
pub fewer_open : (c : Packet) (l : Lit) → IsUnset c (lit_field l) → open_fields (put l c) < open_fields c
fewer_open c l e = fewer_with c (lit_field l) (lit_value l) e (lit_not_free l)
