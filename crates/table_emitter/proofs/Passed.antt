-- Tests of ports that are passed over, since no packet of the path passes them.
use Rattle.std.proofs.Common.{◌≡◌, ◌≤◌, ℕ, refl, sym, subst, arith, Bool, true, false, List, inr}
use Rattle.std.specs.Prelude.{◌&&◌, ◌||◌, ◌==◌, if◌then◌else◌}
use Rattle.nk_values.specs.declared.field.Field.{Field}
use Rattle.nk_values.specs.declared.field.Field.TheVariants.{Sw, Pt, EthTyp, IpProto, EthSrc, EthDst, Ip4Src, Ip4Dst, TcpSrcPort, TcpDstPort}
use Rattle.nk_values.specs.declared.packet.Packet.{Packet}
use Rattle.nk_values.specs.declared.row.Row.{Row}
use Rattle.nk_values.specs.Lits.{lit_field, lit_value}
use Rattle.nk_values.specs.declared.lit.Lit.{Lit}
use Rattle.fdd_nodes.specs.Trees.{Tree, Leaf, Node}
use Rattle.leaf_actions.specs.declared.view.PortView.{PortView}
use Rattle.table_emitter.specs.declared.kinds.FrameKinds.{FrameKinds}
use Rattle.table_emitter.specs.Emission.{CanBeMade}
use Rattle.table_emitter.specs.FrameKinds.{is_ip, is_port, is_type, is_protocol, true_bars, after_true, after_false, bars_ports, is_void}
use Rattle.table_emitter.specs.Passed.{past_ports, past_barred}
use Rattle.table_emitter.proofs.Depths.{tests_in}
use Rattle.table_emitter.proofs.Walking.{IsWalked, walk_over}

-- a port is a field of IPv4 frames, and no type of a frame and no protocol
port_facts : (f : Field) → is_port f ≡ true → (is_ip f ≡ true) × (is_type f ≡ false) × (is_protocol f ≡ false)
port_facts TcpSrcPort e = (refl, refl, refl)
port_facts TcpDstPort e = (refl, refl, refl)
port_facts Sw e = absurd (cc)
port_facts Pt e = absurd (cc)
port_facts EthTyp e = absurd (cc)
port_facts IpProto e = absurd (cc)
port_facts EthSrc e = absurd (cc)
port_facts EthDst e = absurd (cc)
port_facts Ip4Src e = absurd (cc)
port_facts Ip4Dst e = absurd (cc)

unbarred : (x a b : Bool) → a ≡ false → (x || (a && b)) ≡ x
unbarred true a b e = refl
unbarred false false b e = refl
unbarred false true b e = absurd (cc)

-- a test of a port that does not hold says nothing of frames
same_kinds : (k : FrameKinds) (l : Lit) → is_port (lit_field l) ≡ true → after_false k l ≡ k
same_kinds k l p =
    let f = port_facts (lit_field l) p in
    λ i. record {
      ip = k.ip;
      ports = k.ports;
      no_ip = unbarred k.no_ip (is_type (lit_field l)) (lit_value l == 2048) f.1 i;
      no_tcp = unbarred k.no_tcp (is_protocol (lit_field l)) (lit_value l == 6) f.2 i;
      no_udp = unbarred k.no_udp (is_protocol (lit_field l)) (lit_value l == 17) f.2 i;
    }

-- one that holds leaves no packet
void_ports : (ip no_ip ports no_tcp no_udp a b c d e : Bool) → a ≡ true → c ≡ true → no_ip || no_tcp && no_udp ≡ true → (ip || a) && ((no_ip || b) || (ports || c) && (no_tcp || d) && (no_udp || e)) ≡ true
void_ports ip no_ip ports no_tcp no_udp false b c d e p q h = absurd (cc)
void_ports ip no_ip ports no_tcp no_udp true b false d e p q h = absurd (cc)
void_ports true true ports no_tcp no_udp true b true d e p q h = refl
void_ports false true ports no_tcp no_udp true b true d e p q h = refl
void_ports ip false ports false no_udp true b true d e p q h = absurd (cc)
void_ports ip false ports true false true b true d e p q h = absurd (cc)
void_ports true false ports true true true true true d e p q h = refl
void_ports false false ports true true true true true d e p q h = refl
void_ports true false true true true true false true d e p q h = refl
void_ports true false false true true true false true d e p q h = refl
void_ports false false true true true true false true d e p q h = refl
void_ports false false false true true true false true d e p q h = refl

void_port : (k : FrameKinds) (l : Lit) → is_port (lit_field l) ≡ true → bars_ports k ≡ true → is_void (after_true k l) ≡ true
void_port k l p h =
    void_ports k.ip k.no_ip k.ports k.no_tcp k.no_udp (is_ip (lit_field l)) (true_bars is_type 2048 l) (is_port (lit_field l)) (true_bars is_protocol 6 l) (true_bars is_protocol 17 l) (port_facts (lit_field l) p).0 p h

walked_past : (v : PortView) (top : ℕ) (x : Packet) (j k : FrameKinds) (d a : Tree) (old new : List Row) → bars_ports k ≡ true → IsWalked v top x j k d a old new → IsWalked v top x j k d (past_ports a) old new
walked_past v top x j k d (Leaf cs) old new b h = h
walked_past v top x j k d (Node l t e) old new b h = split (is_port (lit_field l)) refl (walked_past v top x j k d e old new b)
  where
    split : (p : Bool) → is_port (lit_field l) ≡ p → (IsWalked v top x j k d e old new → IsWalked v top x j k d (past_ports e) old new) → IsWalked v top x j k d (if p then past_ports e else Node l t e) old new
    split true p r = r (walk_over v top x j k k d (Node l t e) t e e l old new refl refl (void_port k l p b) (sym (same_kinds k l p)) h)
    split false p r = h

made_past : (a : Tree) → CanBeMade a → CanBeMade (past_ports a)
made_past (Leaf cs) h = h
made_past (Node l t e) h = split (is_port (lit_field l)) (made_past e (record { each = λ m i. h.each m (inr i) }))
  where
    split : (p : Bool) → CanBeMade (past_ports e) → CanBeMade (if p then past_ports e else Node l t e)
    split true r = r
    split false r = h

fewer_past : (a : Tree) → tests_in (past_ports a) ≤ tests_in a
fewer_past (Leaf cs) = omega arith
fewer_past (Node l t e) = split (is_port (lit_field l)) (fewer_past e)
  where
    split : (p : Bool) → tests_in (past_ports e) ≤ tests_in e → tests_in (if p then past_ports e else Node l t e) ≤ tests_in (Node l t e)
    split true r = omega (arith, r)
    split false r = omega arith

-- what the walk keeps, where barred tests are passed over
pub record IsPast (v : PortView) (top : ℕ) (x : Packet) (j k : FrameKinds) (d a u : Tree) (old new : List Row) : Type 0 where
  pub walked : IsWalked v top x j k d u old new
  pub made : CanBeMade u
  pub fewer : tests_in u ≤ tests_in a

pub passed : (v : PortView) (top : ℕ) (x : Packet) (j k : FrameKinds) (d a u : Tree) (old new : List Row) → u ≡ past_barred k a → IsWalked v top x j k d a old new → CanBeMade a → IsPast v top x j k d a u old new
passed v top x j k d a u old new e h m = subst (λ (y : Tree). IsPast v top x j k d a y old new) (sym e) (split (bars_ports k) refl)
  where
    split : (b : Bool) → bars_ports k ≡ b → IsPast v top x j k d a (if b then past_ports a else a) old new
    split true b = record { walked = walked_past v top x j k d a old new b h; made = made_past a m; fewer = fewer_past a }
    split false b = record { walked = h; made = m; fewer = omega arith }
