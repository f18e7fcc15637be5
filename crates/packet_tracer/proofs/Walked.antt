-- The copies of a packet come apart, hop by hop, so a walk lists each history once.
use Rattle.std.proofs.Common.{◌≡◌, ◌≢◌, ℕ, zero, suc, inl, inr, List, map, sym, subst, arith, Option, None}
use Rattle.std.specs.List.{flat_map}
use Rattle.nk_values.specs.declared.packet.Packet.{Packet}
use Rattle.nk_values.specs.declared.rows.Rows.{Rows}
use Rattle.nk_values.specs.declared.sent.SentPacket.{SentPacket}
use Rattle.nk_values.specs.Members.{IsIn, EachOnce, Pairs}
use Rattle.nk_values.specs.Packets.{IsWellShaped}
use Rattle.nk_values.specs.Trails.{Trail, one_packet, IsPast, HaveParted}
use Rattle.nk_values.proofs.MemberLaws.{in-either, from-flat_map, in-map, from-map}
use Rattle.nk_values.proofs.PairLaws.{pairs-append, pairs-of, pairs-weaker, pairs-map, pairs-flat_map}
use Rattle.nk_values.proofs.PastLaws.{past-self, past-then, parted-none, parted-on}
use Rattle.nk_syntax.specs.Terms.{Term}
use Rattle.topology_model.specs.Layouts.{Layout, wiring}
use Rattle.topology_model.specs.Wired.{IsSound}
use Rattle.packet_tracer.specs.declared.flight.Flight.{Flight}
use Rattle.policy_rows.specs.Means.{RowsMean, standing, rows_at}
use Rattle.packet_tracer.specs.Advances.{sent_on, ends_at, flights_at, flights_after, ends_after, entered}
use Rattle.packet_tracer.specs.Walks.{IsWalk}
use Rattle.packet_tracer.specs.Laws.{ComesApart}
use Rattle.packet_tracer.proofs.Parting.{hops-part}
use Rattle.packet_tracer.proofs.Placing.{IsPlaced, entered-placed, answered}
use Rattle.packet_tracer.proofs.Reaching.{Reaches, from-open, to-open, from-complete, to-complete, finished-length}
use Rattle.packet_tracer.proofs.WalkLaws.{sent-is, after-in, in-after, ends_after-in, in-ends_after}

module _ (rows : Rows) (p : Term) (t : Layout) (sound : IsSound t) (mean : RowsMean rows p t) where
  -- what one hop of a placed copy makes has parted
  placed-parts : (f : Flight) → IsPlaced t rows.stamp f → ComesApart t f (sent_on rows.ports f)
  placed-parts f placed =
      let n = answered rows p t f mean placed in
      subst (λ (xs : List SentPacket). ComesApart t f xs) (sym (sent-is rows p t sound mean f n)) (hops-part t p rows.stamp (rows_at rows.ports (standing f.history.newest)) f n)

  -- the copies after k hops have parted, and from what was finished too
  record Parted (f : Flight) (k : ℕ) : Type 0 where
    flights : Pairs (λ g h. HaveParted g.history h.history) (flights_after rows.ports t f k)
    finished : EachOnce (ends_after rows.ports t f k)
    landed : (g : Flight) (e : Trail) → IsIn (flights_after rows.ports t f k) g → IsIn (ends_after rows.ports t f k) e → ¬ (IsPast g.history e)

  one-hop : (f : Flight) (k : ℕ) → IsPlaced t rows.stamp f → Parted f k → Parted f (suc k)
  one-hop f k placed h = let now = flights_after rows.ports t f k in record {
    flights = pairs-flat_map (flights_at rows.ports t) (λ g z. HaveParted g.history z.history) (λ g z. HaveParted g.history z.history) now h.flights (λ g m. (made g m).flights)
        (λ g z a b m n d i j. parted-on g.history z.history a.history b.history d ((made g m).went_on a i) ((made z n).went_on b j));
    finished = pairs-append (λ a b. a ≢ b) (ends_after rows.ports t f k) (flat_map (ends_at rows.ports t) now) h.finished
        (pairs-flat_map (ends_at rows.ports t) (λ g z. HaveParted g.history z.history) (λ a b. a ≢ b) now h.flights (λ g m. (made g m).finished)
        (λ g z a b m n d i j same. parted-none g.history z.history b d (subst (λ (x : Trail). IsPast g.history x) same ((made g m).ended a i)) ((made z n).ended b j)))
        (λ a b m n same.
        let r = from-flat_map (ends_at rows.ports t) now b n in
        h.landed r.0 a r.1 m (subst (λ (x : Trail). IsPast r.0.history x) (sym same) ((made r.0 r.1).ended b r.2)));
    landed = λ g e m n past.
        let r = from-flat_map (flights_at rows.ports t) now g m in
        let back = past-then r.0.history g.history e ((made r.0 r.1).went_on g r.2) past in
        elim (in-either (ends_after rows.ports t f k) (flat_map (ends_at rows.ports t) now) e n) [
          | inl a ↦ h.landed r.0 e r.1 a back
          | inr b ↦
              let s = from-flat_map (ends_at rows.ports t) now e b in
              let came = (made s.0 s.1).ended e s.2 in
              elim (pairs-of (λ x z. HaveParted x.history z.history) now r.0 s.0 h.flights r.1 s.1) [
                | inl same ↦ (made s.0 s.1).landed g e (subst (λ (x : Flight). IsIn (flights_at rows.ports t x) g) same r.2) s.2 past
                | inr apart ↦ elim apart [
                  | inl d ↦ parted-none r.0.history s.0.history e d back came
                  | inr d ↦ parted-none s.0.history r.0.history e d came back
                ]
              ]
        ];
  }
    where
      made : (g : Flight) → IsIn (flights_after rows.ports t f k) g → ComesApart t g (sent_on rows.ports g)
      made g m = placed-parts g (after-in rows p t sound mean f k g placed m).0

  all-hops : (f : Flight) (k : ℕ) → IsPlaced t rows.stamp f → Parted f k
  all-hops f zero placed = record { flights = ((λ g m. absurd m), tt); finished = tt; landed = λ g e m n. absurd n }
  all-hops f (suc k) placed = one-hop f k placed (all-hops f k placed)

  -- the whole way
  pub walked : (pk : Packet) (tag : Option ℕ) (hops : ℕ) → tag ≡ None → IsWellShaped pk → IsIn (wiring t).edges (standing pk) →
      IsWalk (wiring t) p pk tag hops (ends_after rows.ports t (entered pk tag) hops) (map (λ f. f.history) (flights_after rows.ports t (entered pk tag) hops))
  walked pk tag hops none shaped edge =
      let placed : IsPlaced t rows.stamp (entered pk tag) = entered-placed t rows.stamp (entered pk tag) shaped edge none in
      let all = all-hops (entered pk tag) hops placed in
      record {
        done = λ h. (
          (λ m.
              let r = ends_after-in rows p t sound mean (entered pk tag) hops h placed m in
              record { complete = to-complete (wiring t) p pk tag h none edge r.0; within = omega (arith, r.1, finished-length (wiring t) p pk h mean.plain.bare r.0) }),
          (λ d.
              let f = from-complete (wiring t) p pk tag h d.complete in
              in-ends_after rows p t sound mean (entered pk tag) hops f.hops f.copy h placed (omega (arith, d.within, finished-length (wiring t) p pk h mean.plain.bare f)) f.reached f.leaves),
        );
        still = λ h. (
          (λ m.
              let r = from-map (λ (f : Flight). f.history) (flights_after rows.ports t (entered pk tag) hops) h m in
              let a = after-in rows p t sound mean (entered pk tag) hops r.0 placed r.1 in
              to-open (wiring t) p pk tag hops h none edge (subst (λ (x : Trail). Reaches (wiring t) p (one_packet pk) hops x) r.2 a.1)),
          (λ o.
              let r = in-after rows p t sound mean (entered pk tag) hops h placed (from-open (wiring t) p pk tag hops h o) in
              subst (λ (x : Trail). IsIn (map (λ (f : Flight). f.history) (flights_after rows.ports t (entered pk tag) hops)) x) r.2
              (in-map (λ (f : Flight). f.history) (flights_after rows.ports t (entered pk tag) hops) r.0 r.1)),
        );
        done_once = all.finished;
        still_once = pairs-map (λ (f : Flight). f.history) (λ a b. a ≢ b) (flights_after rows.ports t (entered pk tag) hops)
            (pairs-weaker (λ f g. HaveParted f.history g.history) (λ f g. f.history ≢ g.history) (flights_after rows.ports t (entered pk tag) hops)
            (λ f g m n d same. d.left (subst (λ (x : Trail). IsPast f.history x) same (past-self f.history))) all.flights);
      }
