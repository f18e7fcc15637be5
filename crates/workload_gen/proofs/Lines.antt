-- The line of a workload: where its packets come in.
use Rattle.std.proofs.Common.{◌≡◌, ℕ, zero, suc, ◌+◌, ◌-◌, ◌<◌, ◌≤◌, ◌⊎◌, inl, inr, Bool, true, false, not, ◌&&◌, List, [], ◌∷◌, map, refl, sym, ap, subst, Option, None, Some, is_some, arith}
use Rattle.std.proofs.Math.Nat.{mod-lt}
use Rattle.rand_pcg.specs.Lcg.{Lcg}
use Rattle.nk_values.specs.declared.field.Field.TheVariants.{Sw, Pt, EthTyp, IpProto, EthSrc, EthDst, Ip4Src, Ip4Dst, TcpSrcPort, TcpDstPort}
use Rattle.nk_values.specs.Members.{IsIn}
use Rattle.nk_values.specs.Packets.{IsInRange, IsWellShaped}
use Rattle.nk_values.proofs.MemberLaws.{in-left, in-flat_map}
use Rattle.topology_model.specs.Network.{Location}
use Rattle.topology_model.specs.declared.line.DeclaredSwitch.{DeclaredSwitch}
use Rattle.topology_model.specs.Layouts.{Layout, edges_of, has_port, is_linked, far_end}
use Rattle.topology_model.specs.Lines.{layout_of, sites_in}
use Rattle.topology_model.proofs.Ranges.{has, test_edge}
use Rattle.topology_model.proofs.Wires.{joined}
use Rattle.document_text.specs.declared.document.PacketLine.{PacketLine}
use Rattle.policy_rows.specs.Means.{standing}
use Rattle.workload_laws.specs.Workload.{numbers}
use Rattle.workload_gen.specs.Documents.{switch_count, switch_line, link_line, topology_lines, packet, packets, number_by}
use Rattle.workload_gen.specs.Words.{next_word, behind}
use Rattle.workload_gen.proofs.Results.{line-links, distance}

-- ---- edge ports

here-or-behind : (k i : ℕ) → k ≤ i → (k ≡ i) ⊎ (suc k ≤ i)
here-or-behind k i h = grind (arith, h)

number-in : (k n i : ℕ) → k ≤ i → i < k + n → IsIn (numbers k n) i
number-in k zero i l h = absurd (omega (arith, l, h))
number-in k (suc n) i l h = elim (here-or-behind k i l) [ inl e ↦ inl e | inr m ↦ inr (number-in (k + 1) n i (omega (arith, m)) (omega (arith, h))) ]

map-in : {X Y : Type 0} (f : X → Y) (xs : List X) (x : X) → IsIn xs x → IsIn (map f xs) (f x)
map-in f [] x m = absurd m
map-in f (y ∷ ys) x (inl e) = inl (ap f e)
map-in f (y ∷ ys) x (inr m) = inr (map-in f ys x m)

abbrev site : ℕ → DeclaredSwitch
site i = record { sw = i; ports = 1 ∷ 2 ∷ 3 ∷ [] }

site-in : (s i : ℕ) → 1 ≤ i → i ≤ s → IsIn (layout_of (topology_lines s)).switches (site i)
site-in s i l h =
    in-flat_map sites_in (topology_lines s) (switch_line i) (site i)
    (in-left (map switch_line (numbers 1 s)) (map link_line (numbers 1 (s - 1))) (switch_line i) (map-in switch_line (numbers 1 s) i (number-in 1 s i l (omega (arith, h))))) (inl refl)

-- port 3 of a switch has no link
pub host-port : (s : ℕ) (a : Location) → 1 ≤ a.sw → a.sw ≤ s → a.pt ≡ 3 → IsIn (edges_of (layout_of (topology_lines s))) a
host-port s a l h three = test_edge t a (both (has_port t.switches a) (is_linked t a) declared free)
  where
    t : Layout
    t = layout_of (topology_lines s)

    declared : has_port t.switches a ≡ true
    declared = has t.switches (site a.sw) a (site-in s a.sw l h) refl (inr (inr (inl (sym three))))

    none : (o : Option Location) → far_end t.links a ≡ o → is_some o ≡ false
    none None e = refl
    none (Some b) e = elim (line-links s a b (joined t.links a b e)) [ inl u ↦ absurd (omega (arith, three, u.from_port)) | inr u ↦ absurd (omega (arith, three, u.to_port)) ]

    free : is_linked t a ≡ false
    free = none (far_end t.links a) refl

    both : (x y : Bool) → x ≡ true → y ≡ false → (x && not y) ≡ true
    both true false p q = refl
    both true true p q = absurd (cc)
    both false y p q = absurd (cc)

-- ---- packets

packet-range : (a d : ℕ) → 1 ≤ a → a ≤ 32 → d ≤ 32 → IsInRange (packet a d)
packet-range a d l h k Sw = record { low = l; high = omega (arith, h); no_tag = λ e. absurd (cc) }
packet-range a d l h k Pt = record { low = omega arith; high = omega arith; no_tag = λ e. absurd (cc) }
packet-range a d l h k EthTyp = record { low = omega arith; high = omega arith; no_tag = λ e q. omega (arith, q) }
packet-range a d l h k IpProto = record { low = omega arith; high = omega arith; no_tag = λ e. absurd (cc) }
packet-range a d l h k EthSrc = record { low = omega arith; high = omega (arith, h); no_tag = λ e. absurd (cc) }
packet-range a d l h k EthDst = record { low = omega arith; high = omega (arith, k); no_tag = λ e. absurd (cc) }
packet-range a d l h k Ip4Src = record { low = omega arith; high = omega arith; no_tag = λ e. absurd (cc) }
packet-range a d l h k Ip4Dst = record { low = omega arith; high = omega arith; no_tag = λ e. absurd (cc) }
packet-range a d l h k TcpSrcPort = record { low = omega arith; high = omega arith; no_tag = λ e. absurd (cc) }
packet-range a d l h k TcpDstPort = record { low = omega arith; high = omega arith; no_tag = λ e. absurd (cc) }

packet-shaped : (a d : ℕ) → 1 ≤ a → a ≤ 32 → d ≤ 32 → IsWellShaped (packet a d)
packet-shaped a d l h k = record { in_range = packet-range a d l h k; ip_only = λ n. absurd (n refl); no_ports = λ n. (refl, refl) }

-- an untagged packet that comes in at a host's port, and goes to a switch of the line
pub record IsGuest (s : ℕ) (line : PacketLine) : Type 0 where
  pub untagged : line.tag ≡ None
  pub shaped : IsWellShaped line.packet
  pub edge : IsIn (edges_of (layout_of (topology_lines s))) (standing line.packet)
  pub near : distance line.packet.sw line.packet.header.eth_dst < s

abbrev pub AreGuests : ℕ → List PacketLine → Type 0
AreGuests s lines = (line : PacketLine) → IsIn lines line → IsGuest s line

pub drawn-number : (s : ℕ) (g : Lcg) → 1 ≤ s → (1 ≤ number_by s g) × (number_by s g ≤ s)
drawn-number s g l = let r = mod-lt (next_word g).0 {m = s} (omega (arith, l)) in (omega arith, omega (arith, r))

guest : (s a d : ℕ) → s ≤ 32 → (1 ≤ a) × (a ≤ s) → (1 ≤ d) × (d ≤ s) → IsGuest s (record { packet = packet a d; tag = None })
guest s a d few x y = record {
  untagged = refl;
  shaped = packet-shaped a d x.0 (omega (arith, x.1, few)) (omega (arith, y.1, few));
  edge = host-port s (standing (packet a d)) x.0 x.1 refl;
  near = omega (arith, x.0, x.1, y.0, y.1);
}

pub packets-guests : (s n : ℕ) (g : Lcg) → 1 ≤ s → s ≤ 32 → AreGuests s (packets s n g)
packets-guests s zero g one few line m = absurd m
packets-guests s (suc n) g one few line (inl e) = subst (λ (x : PacketLine). IsGuest s x) e (guest s (number_by s g) (number_by s (behind 1 g)) few (drawn-number s g one) (drawn-number s (behind 1 g) one))
packets-guests s (suc n) g one few line (inr m) = packets-guests s n (behind 2 g) one few line m

pub few-switches : (n : ℕ) → (2 ≤ switch_count n) × (switch_count n ≤ 32)
few-switches n = let r = mod-lt n {m = 31} (omega arith) in (omega arith, omega (arith, r))
