-- What is reached from a packet is a way of it.
use Rattle.std.proofs.Common.{◌≡◌, ℕ, zero, suc, inl, inr, refl, sym, subst}
use Rattle.nk_values.specs.declared.packet.Packet.{Packet}
use Rattle.nk_values.specs.Members.{IsIn}
use Rattle.nk_values.specs.Packets.{IsWellShaped}
use Rattle.nk_values.specs.Trails.{Trail, one_packet, packets}
use Rattle.nk_syntax.specs.Terms.{Term}
use Rattle.history_meaning.specs.Network.{Location}
use Rattle.history_meaning.specs.Plain.{IsPlain}
use Rattle.topology_model.specs.Layouts.{Layout, wiring}
use Rattle.topology_model.specs.Wired.{IsSound}
use Rattle.packet_tracer.specs.Hops.{moved, ended, carried}
use Rattle.packet_tracer.proofs.Links.{from-hop, from-leave}
use Rattle.packet_tracer.proofs.Reaching.{Reaches, from-open, from-complete}
use Rattle.policy_rows.specs.Means.{standing}
use Rattle.packet_tracer.specs.Laws.{WalksAreWays}
use Rattle.packet_tracer.specs.Ways.{oldest, IsWayOf}
use Rattle.packet_tracer.proofs.Placing.{moved_shaped}

-- all packets are well shaped, and the oldest is pk
record Shaped (pk : Packet) (h : Trail) : Type 0 where
  begins : oldest h ≡ pk
  shaped : (q : Packet) → IsIn (packets h) q → IsWellShaped q

ways : (pk : Packet) (h : Trail) → Shaped pk h → IsWayOf pk h
ways pk h s = record { begins = s.begins; ranged = λ q m. (s.shaped q m).in_range }

ended-shaped : (pk : Packet) (h : Trail) (q : Packet) → IsWellShaped q → Shaped pk h → Shaped pk (ended h q)
ended-shaped pk h q k s = record { begins = s.begins; shaped = λ x m. elim m [ inl e ↦ subst (λ (z : Packet). IsWellShaped z) e k | inr n ↦ s.shaped x n ] }

carried-shaped : (pk : Packet) (h : Trail) (q : Packet) (b : Location) → IsWellShaped q → IsWellShaped (moved q b) → Shaped pk h → Shaped pk (carried h q b)
carried-shaped pk h q b k l s = record {
  begins = s.begins;
  shaped = λ x m. elim m [ inl e ↦ subst (λ (z : Packet). IsWellShaped z) e l | inr n ↦ elim n [ inl e ↦ subst (λ (z : Packet). IsWellShaped z) e k | inr o ↦ s.shaped x o ] ];
}

module _ (t : Layout) (p : Term) (sound : IsSound t) (plain : IsPlain p) (pk : Packet) (start_shaped : IsWellShaped pk) where
  reached-shaped : (k : ℕ) (h : Trail) → Reaches (wiring t) p (one_packet pk) k h → Shaped pk h
  reached-shaped zero h e = subst (λ (z : Trail). Shaped pk z) e (record { begins = refl; shaped = λ q m. elim m [ inl d ↦ subst (λ (z : Packet). IsWellShaped z) d start_shaped | inr n ↦ absurd n ] })
  reached-shaped (suc k) h (g, r, m) =
      let s = reached-shaped k g r in
      let l = from-hop (wiring t) p g h plain.bare m in
      let q = plain.shaped g.newest l.packet (s.shaped g.newest (inl refl)) l.made in
      let back = sound.both (standing l.packet) l.end l.link in
      subst (λ (z : Trail). Shaped pk z) (sym l.history) (carried-shaped pk g l.packet l.end q (moved_shaped t l.packet l.end sound (sound.declared l.end (standing l.packet) back) q) s)

pub walks-ways : WalksAreWays
walks-ways t p pk tag hops finished in_flight sound plain shaped w = (
  (λ h m.
      let f = from-complete (wiring t) p pk tag h ((w.done h).0 m).complete in
      let s = reached-shaped t p sound plain pk shaped f.hops f.copy f.reached in
      let l = from-leave (wiring t) p f.copy h plain.bare f.leaves in
      ways pk h (subst (λ (z : Trail). Shaped pk z) (sym l.history) (ended-shaped pk f.copy l.packet (plain.shaped f.copy.newest l.packet (s.shaped f.copy.newest (inl refl)) l.made) s))),
  (λ h m. ways pk h (reached-shaped t p sound plain pk shaped hops h (from-open (wiring t) p pk tag hops h ((w.still h).0 m)))),
)
