use Rattle.nk_values.specs.declared.field.Field.TheVariants.{Sw, Pt, EthTyp, IpProto, EthSrc, EthDst, Ip4Src, Ip4Dst, TcpSrcPort, TcpDstPort}
use Rattle.nk_values.specs.Packets.{get}
use Rattle.fdd_differ.specs.Unnamed.{IsUnnamed}
use Rattle.fdd_differ.proofs.UnnamedLaws.{fresh_by}
use Rattle.fdd_differ.proofs.fresh.unnamed.Goals as goal

pub returns : goal.returns
returns g c = fresh_by (g.N.Names.names c.args.names.now) _ (λ f. elim f as (λ k. IsUnnamed (g.N.Names.names c.args.names.now) k (get (record {
  sw = c.unnamed_at.result;
  pt = c.unnamed_at-2.result;
  header = record {
    eth_typ = c.unnamed_at-3.result;
    ip_proto = c.unnamed_at-4.result;
    eth_src = c.unnamed_at-5.result;
    eth_dst = c.unnamed_at-6.result;
    ip4_src = c.unnamed_at-7.result;
    ip4_dst = c.unnamed_at-8.result;
    tcp_src_port = c.unnamed_at-9.result;
    tcp_dst_port = c.unnamed_at-10.result;
  };
}) k)) [
  | Sw ↦ c.unnamed_at.ensures
  | Pt ↦ c.unnamed_at-2.ensures
  | EthTyp ↦ c.unnamed_at-3.ensures
  | IpProto ↦ c.unnamed_at-4.ensures
  | EthSrc ↦ c.unnamed_at-5.ensures
  | EthDst ↦ c.unnamed_at-6.ensures
  | Ip4Src ↦ c.unnamed_at-7.ensures
  | Ip4Dst ↦ c.unnamed_at-8.ensures
  | TcpSrcPort ↦ c.unnamed_at-9.ensures
  | TcpDstPort ↦ c.unnamed_at-10.ensures
])
