-- Copies of a workload's packets go towards their destination: with each hop they are one switch nearer, so none takes the limit.
use Rattle.std.proofs.Common.{◌≡◌, ℕ, suc, ◌+◌, ◌-◌, ◌^◌, ◌<◌, ◌≤◌, inl, inr, List, ◌++◌, length, refl, sym, ◌∙◌, ap, subst, Option, Some, remove, slice_get, arith}
use Rattle.std.proofs.Math.Nat.{min-le_left}
use Rattle.nk_values.specs.declared.packet.Packet.{Packet}
use Rattle.nk_values.specs.declared.sent.SentPacket.{SentPacket}
use Rattle.nk_values.specs.Members.{IsIn}
use Rattle.nk_values.specs.Tags.{IsTag}
use Rattle.nk_values.specs.Trails.{Trail}
use Rattle.nk_values.proofs.MemberLaws.{in-either}
use Rattle.nk_syntax.specs.Views.{term_of}
use Rattle.topology_model.specs.Layouts.{Layout}
use Rattle.topology_model.specs.Lines.{layout_of}
use Rattle.policy_rows.specs.declared.version.Version.{Version}
use Rattle.policy_rows.specs.Means.{standing, sent_packet}
use Rattle.packet_tracer.specs.declared.flight.Flight.{Flight}
use Rattle.packet_tracer.specs.Hops.{all_flights, moved}
use Rattle.packet_tracer.proofs.Stepping.{flights-next}
use Rattle.update_laws.specs.Settings.{policy_in}
use Rattle.update_laws.specs.Traffic.{IsFlight}
use Rattle.update_laws.proofs.Entering.{Answered, Comes, Lost, Taken, comes, flight-answered}
use Rattle.update_laws.proofs.Places.{get-some}
use Rattle.update_laws.proofs.Wiring.{at-in, removed-in}
use Rattle.world_core.specs.Steps.{Arrives, Hops, first_copy}
use Rattle.world_core.specs.Worlds.{WorldValue, setting, Keeps, IsKept}
use Rattle.world_core.proofs.Kept.{set, line-at}
use Rattle.workload_laws.proofs.Sent.{IsSentOn, sent-on}
use Rattle.workload_laws.specs.Workload.{exit, workload}
use Rattle.workload_gen.specs.Documents.{topology_lines}
use Rattle.workload_gen.proofs.Results.{line-links, distance, nearer}

-- a copy on a line of s switches, so near to its destination that it has hops left
pub record IsNear (s : ℕ) (f : Flight) : Type 0 where
  pub first : 1 ≤ f.history.newest.sw
  pub last : f.history.newest.sw ≤ s
  pub near : f.hops + distance f.history.newest.sw f.history.newest.header.eth_dst < s

-- a world of a workload: a line of switches, and policies that send packets on along it
pub record IsLine (s : ℕ) (w : WorldValue) : Type 0 where
  pub topology : w.topology ≡ layout_of (topology_lines s)
  pub policies : (k : ℕ) (v : Version) → slice_get w.versions k ≡ Some v → (b : ℕ) × (term_of v.pol ≡ workload s b)

policy-is : (s : ℕ) (w : WorldValue) → IsLine s w → (u : ℕ) → u < length w.versions → (b : ℕ) × ((setting w).policy (suc u) ≡ workload s b)
policy-is s w l u h =
    let v = get-some u w.versions h in
    let p = l.policies u v.0 v.1 in
    (p.0, ap (λ (o : Option Version). policy_in o) v.1 ∙ p.1)

-- what goes on of a copy that a policy answers
gone-on : (s : ℕ) (w : WorldValue) → IsLine s w → Keeps w → (u : ℕ) (f g : Flight) (sent : List SentPacket) → Answered w.topology (setting w) u f.history.newest f.tag sent → f.hops + distance f.history.newest.sw f.history.newest.header.eth_dst < s →
    IsIn (all_flights w.topology f sent) g → IsNear s g
gone-on s w l k u f g sent a near m =
    let c = setting w in
    let p = policy-is s w l u a.there in
    let plain = ((set w k).versions u a.there).plain in
    let r = flights-next w.topology (c.policy (suc u)) (c.stamp (suc u)) a.rows f k.topology.sound plain.bare a.answers g (subst (λ (xs : List SentPacket). IsIn (all_flights w.topology f xs) g) a.sends m) in
    let q : Packet = sent_packet f.history.newest.sw r.0 in
    let o : IsSentOn s f.history.newest q = sent-on s p.0 _ f.history.newest q p.1 (a.answers.results r.0 r.1) in
    let link : IsIn (layout_of (topology_lines s)).links (standing q, r.2.end) = subst (λ (t : Layout). IsIn t.links (standing q, r.2.end)) l.topology r.2.link in
    let d = f.history.newest.header.eth_dst in
    let port : (standing q).pt ≡ exit (standing q).sw d = ap (λ (x : Packet). x.pt) o.is in
    let n = nearer s d (standing q) r.2.end port (line-links s (standing q) r.2.end link) in
    let there : g.history.newest ≡ moved q r.2.end = ap (λ (h : Trail). h.newest) r.2.history in
    let sw : g.history.newest.sw ≡ r.2.end.sw = ap (λ (x : Packet). x.sw) there in
    let dst : g.history.newest.header.eth_dst ≡ d = ap (λ (x : Packet). x.header.eth_dst) there ∙ ap (λ (x : Packet). x.header.eth_dst) o.is in
    record {
      first = omega (arith, n.0, sw);
      last = omega (arith, n.1, sw);
      near = subst (λ (i : ℕ). g.hops + distance i g.history.newest.header.eth_dst < s) (sym sw) (subst (λ (e : ℕ). g.hops + distance r.2.end.sw e < s) (sym dst)
          (fewer g.hops f.hops (distance r.2.end.sw d) (distance f.history.newest.sw d) (omega (arith, r.2.counted, min-le_left (suc f.hops) (2 ^ 64 - 1))) n.2 near));
    }
  where
    fewer : (m n e d : ℕ) → m ≤ suc n → suc e ≡ d → n + d < s → m + e < s
    fewer m n e d a b c = omega (arith, a, b, c)

abbrev pub AreNear : ℕ → List Flight → Type 0
AreNear s fs = (f : Flight) → IsIn fs f → IsNear s f

-- a copy takes a hop
pub hop-near : (s k : ℕ) (w v : WorldValue) → Hops k w v → IsLine s w → IsKept w → AreNear s w.flights → AreNear s v.flights
unfolding IsKept
hop-near s k w v h l q near = subst (λ (x : WorldValue). AreNear s x.flights) (sym h.now) each
  where
    each : AreNear s (remove w.flights k ++ h.next)
    each g m = elim (in-either (remove w.flights k) h.next g m) [
      | inl x ↦ near g (removed-in k w.flights g x)
      | inr x ↦
          let f = h.may.flight in
          let among = at-in k w.flights f h.may.there in
          let i = (q.traffic.each f.arrival h.arrival h.of).flying f among refl in
          let line = line-at w q h.place h.end_ h.here in
          gone-on s w l q i.older f g h.handled.sent
          (flight-answered w.topology (setting w) refl (set w q) w.fleet.control.swept w.fleet.control.phase q.fleet.within h.end_.switch.sw _ h.end_.switch.table.rows line.2.table.changing f i.older h.handled.sent
          (subst (λ (n : ℕ). IsFlight (setting w) w.fleet.control.swept w.fleet.control.phase n f) i.number i) h.stands h.handled.handled)
          (near f among).near (subst (λ (fs : List Flight). IsIn fs g) h.handled.goes_on x)
    ]

small : (tag : Option ℕ) → IsTag tag → (n : ℕ) → tag ≡ Some n → n ≤ 4094
small tag t n e = (subst IsTag e t).1

-- a packet comes in at a switch of the line
pub arrive-near : (s : ℕ) (pk : Packet) (tag : Option ℕ) (w v : WorldValue) → Arrives pk tag w v → IsLine s w → IsKept w → distance pk.sw pk.header.eth_dst < s → AreNear s w.flights → AreNear s v.flights
unfolding IsKept
arrive-near s pk tag w v h l q here near = subst (λ (x : WorldValue). AreNear s x.flights) (sym h.now) each
  where
    f : Flight
    f = first_copy pk tag (length w.arrivals)

    from : (g : Flight) → Comes w.topology (setting w) w.fleet.control.phase pk tag h.handled.sent → IsIn (all_flights w.topology f h.handled.sent) g → IsNear s g
    from g (Lost n names none e) m = absurd (subst (λ (xs : List SentPacket). IsIn (all_flights w.topology f xs) g) e m)
    from g (Taken u names none a) m = gone-on s w l q u f g h.handled.sent a (omega (arith, here)) m

    each : AreNear s (w.flights ++ h.next)
    each g m = elim (in-either w.flights h.next g m) [
      | inl x ↦ near g x
      | inr x ↦
          let line = line-at w q h.place h.end_ h.here in
          from g
          (comes w.topology (setting w) refl (set w q) w.fleet.control.swept w.fleet.control.phase q.fleet.within h.end_.switch.sw _ h.end_.switch.table.rows line.2.table.changing pk tag h.handled.sent
          (small tag h.may.1) h.may.0 h.may.2 h.stands h.handled.handled)
          (subst (λ (fs : List Flight). IsIn fs g) h.handled.goes_on x)
    ]
