-- Policies that answer well-shaped packets alike have the same histories: packets stay well shaped hop by hop.
use Rattle.std.proofs.Common.{◌≡◌, ℕ, zero, suc, [], ◌∷◌, sym, subst, Option, None, ◌↔◌}
use Rattle.nk_values.specs.declared.field.Field.TheVariants.{Sw, Pt, EthTyp, IpProto, EthSrc, EthDst, Ip4Src, Ip4Dst, TcpSrcPort, TcpDstPort}
use Rattle.nk_values.specs.declared.packet.Packet.{Packet}
use Rattle.nk_values.specs.Members.{IsIn}
use Rattle.nk_values.specs.Packets.{IsWellShaped, IsInRange}
use Rattle.nk_values.specs.Ranges.{IsValue}
use Rattle.nk_values.specs.Trails.{Trail, one_packet}
use Rattle.nk_values.proofs.MemberLaws.{from-flat_map}
use Rattle.nk_syntax.specs.Terms.{Term}
use Rattle.nk_syntax.specs.Views.{term_row}
use Rattle.history_meaning.specs.Meaning.{den, times, IsResult}
use Rattle.history_meaning.specs.Network.{Location, Wiring, hop, rest, edge_term, IsComplete, IsOpen}
use Rattle.history_meaning.specs.Plain.{HasResult, IsPlain}
use Rattle.topology_model.specs.Wired.{IsWiring}
use Rattle.policy_rows.specs.Means.{standing}
use Rattle.packet_tracer.specs.Hops.{moved}
use Rattle.equal_laws.specs.Equals.{HaveSameResults}
use Rattle.packet_tracer.proofs.Links.{leave, from-leave, to-leave, from-hop, to-hop, from-edges}
use Rattle.history_meaning.proofs.Runs.{from-chain}
use Rattle.packet_tracer.proofs.Reaching.{Reaches, Finishes, from-complete, to-complete, from-open, to-open}

-- a packet at another port is as well shaped
moved-range : (q : Packet) (a : Location) → IsInRange q → IsValue Sw a.sw → IsValue Pt a.pt → IsInRange (moved q a)
moved-range q a r s p Sw = s
moved-range q a r s p Pt = p
moved-range q a r s p EthTyp = r EthTyp
moved-range q a r s p IpProto = r IpProto
moved-range q a r s p EthSrc = r EthSrc
moved-range q a r s p EthDst = r EthDst
moved-range q a r s p Ip4Src = r Ip4Src
moved-range q a r s p Ip4Dst = r Ip4Dst
moved-range q a r s p TcpSrcPort = r TcpSrcPort
moved-range q a r s p TcpDstPort = r TcpDstPort

moved-shaped : (q : Packet) (a : Location) → IsWellShaped q → IsValue Sw a.sw → IsValue Pt a.pt → IsWellShaped (moved q a)
moved-shaped q a h s p = record { in_range = moved-range q a h.in_range s p; ip_only = h.ip_only; no_ports = h.no_ports }

abbrev There : Term → Term → Type 0
There p q = (pk x : Packet) → IsWellShaped pk → HasResult p pk x → HasResult q pk x

-- what the one reaches in k hops the other reaches, and it is well shaped
reach : (w : Wiring) (p q : Term) → IsWiring w → IsPlain p → IsPlain q → There p q → (pk : Packet) → IsWellShaped pk → (k : ℕ) (h : Trail) → Reaches w p (one_packet pk) k h
    → Reaches w q (one_packet pk) k h × IsWellShaped h.newest
reach w p q wired a b there pk shaped zero h e = (e, subst (λ (x : Trail). IsWellShaped x.newest) e shaped)
reach w p q wired a b there pk shaped (suc k) h (g, r, l) =
    let before = reach w p q wired a b there pk shaped k g r in
    let n = from-hop w p g h a.bare l in
    let made = there g.newest n.packet before.1 n.made in
    let range = wired.link_range n.end (standing n.packet) (wired.both (standing n.packet) n.end n.link) in
    let on = to-hop w q g n.packet n.end b.bare made n.link in (
      (g, before.0, subst (λ (x : Trail). IsResult (hop w q) g x) (sym n.history) on),
      subst (λ (x : Trail). IsWellShaped x.newest) (sym n.history)
          (moved-shaped n.packet n.end (a.shaped g.newest n.packet before.1 n.made) range.0 range.1),
    )

finish : (w : Wiring) (p q : Term) → IsWiring w → IsPlain p → IsPlain q → There p q → (pk : Packet) → IsWellShaped pk → (h : Trail) → Finishes w p (one_packet pk) h → Finishes w q (one_packet pk) h
finish w p q wired a b there pk shaped h f =
    let r = reach w p q wired a b there pk shaped f.hops f.copy f.reached in
    let n = from-leave w p f.copy h a.bare f.leaves in
    let made = there f.copy.newest n.packet r.1 n.made in
    record {
      hops = f.hops;
      copy = f.copy;
      reached = r.0;
      leaves = subst (λ (x : Trail). IsResult (leave w q) f.copy x) (sym n.history) (to-leave w q f.copy n.packet b.bare made n.edge);
    }

-- a packet with a complete history came in at an edge port, without a tag
came-in : (w : Wiring) (p : Term) (pk : Packet) (tag : Option ℕ) (h : Trail) → IsComplete w p pk tag h → (tag ≡ None) × IsIn w.edges (standing pk)
came-in w p pk tag h (none, (n, m)) =
    let a = from-chain (edge_term w) (term_row (rest w p ∷ [])) n (one_packet pk) h m in (none, (from-edges w.edges n (one_packet pk) a.0 a.1).0)

complete : (w : Wiring) (p q : Term) → IsWiring w → IsPlain p → IsPlain q → There p q → (pk : Packet) (tag : Option ℕ) (h : Trail) → IsWellShaped pk → IsComplete w p pk tag h → IsComplete w q pk tag h
complete w p q wired a b there pk tag h shaped c =
    let i = came-in w p pk tag h c in
    to-complete w q pk tag h i.0 i.1 (finish w p q wired a b there pk shaped h (from-complete w p pk tag h c))

pub complete-alike : (w : Wiring) (p q : Term) → IsWiring w → IsPlain p → IsPlain q → HaveSameResults p q → (pk : Packet) (tag : Option ℕ) (h : Trail) → IsWellShaped pk
    → IsComplete w p pk tag h ↔ IsComplete w q pk tag h
complete-alike w p q wired a b alike pk tag h shaped =
    (complete w p q wired a b alike.there pk tag h shaped, complete w q p wired b a alike.back pk tag h shaped)

-- so did one with an open history
open-from : (w : Wiring) (p : Term) (pk : Packet) (tag : Option ℕ) (k : ℕ) (h : Trail) → IsOpen w p pk tag k h → IsIn w.edges (standing pk)
open-from w p pk tag k h (none, n, m) =
    let a = from-flat_map (times k (den (hop w p) n)) (den (edge_term w) n (one_packet pk)) h m in (from-edges w.edges n (one_packet pk) a.0 a.1).0

flying : (w : Wiring) (p q : Term) → IsWiring w → IsPlain p → IsPlain q → There p q → (pk : Packet) (tag : Option ℕ) (k : ℕ) (h : Trail) → IsWellShaped pk → IsOpen w p pk tag k h → IsOpen w q pk tag k h
flying w p q wired a b there pk tag k h shaped c =
    to-open w q pk tag k h c.0 (open-from w p pk tag k h c) (reach w p q wired a b there pk shaped k h (from-open w p pk tag k h c)).0

pub open-alike : (w : Wiring) (p q : Term) → IsWiring w → IsPlain p → IsPlain q → HaveSameResults p q → (pk : Packet) (tag : Option ℕ) (k : ℕ) (h : Trail) → IsWellShaped pk
    → IsOpen w p pk tag k h ↔ IsOpen w q pk tag k h
open-alike w p q wired a b alike pk tag k h shaped =
    (flying w p q wired a b alike.there pk tag k h shaped, flying w q p wired b a alike.back pk tag k h shaped)
