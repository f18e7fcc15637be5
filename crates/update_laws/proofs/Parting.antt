-- Hops and arrivals keep the copies of each arrival apart, so each history comes once.
use Rattle.std.proofs.Common.{◌≡◌, ◌≢◌, ℕ, suc, ◌<◌, ◌≤◌, ◌⊎◌, inl, inr, List, [], ◌∷◌, ◌++◌, length, refl, sym, ◌∙◌, ap, subst, Option, Some, remove, slice_get, slice_set, arith}
use Rattle.std.proofs.lemmas.Bool.{cases_lt}
use native.Mathlib.Decide.{ℕ_discrete}
use Rattle.nk_values.specs.declared.packet.Packet.{Packet}
use Rattle.nk_values.specs.declared.row.Row.{Row}
use Rattle.nk_values.specs.declared.sent.SentPacket.{SentPacket}
use Rattle.nk_values.specs.Members.{IsIn, EachOnce, Pairs}
use Rattle.nk_values.specs.Packets.{IsWellShaped}
use Rattle.nk_values.specs.Trails.{Trail, one_packet, IsPast, HaveParted}
use Rattle.nk_values.proofs.MemberLaws.{in-either}
use Rattle.nk_values.proofs.PairLaws.{pairs-append, pairs-right, pairs-across, pairs-weaker, pairs-without, pairs-at}
use Rattle.nk_values.proofs.PastLaws.{past-self, past-then, parted-sym, parted-none, parted-on}
use Rattle.history_meaning.specs.Network.{Wiring, IsFuture}
use Rattle.history_meaning.proofs.Growing.{future-past}
use Rattle.topology_model.specs.Layouts.{Layout, edges_of, wiring}
use Rattle.policy_rows.specs.Means.{standing}
use Rattle.packet_tracer.specs.declared.flight.Flight.{Flight}
use Rattle.packet_tracer.specs.Hops.{all_ends, all_flights, IsHop}
use Rattle.packet_tracer.specs.Laws.{ComesApart}
use Rattle.packet_tracer.proofs.Parting.{hops-part, parts}
use Rattle.update_laws.specs.Lines.{Changing}
use Rattle.update_laws.specs.Updates.{Setting, IsSetting, Phase, Within, Base, batch, adds, entry}
use Rattle.update_laws.specs.Traffic.{Arrived, IsCovered, IsGood, HaveForked, AreApart, IsFlight, IsTraffic}
use Rattle.update_laws.proofs.Entering.{Answered, Comes, Lost, Taken, flight-answered, comes}
use Rattle.update_laws.proofs.Flying.{own-arrival}
use Rattle.update_laws.proofs.Places.{put-set, parted, among, Last, Earlier}
use Rattle.update_laws.proofs.Wiring.{some-is, none-some, at-in, removed-in}

pub start-apart : AreApart [] []
start-apart = record { finished_once = λ n a e. none-some a e; flights_apart = tt; landed_apart = λ n a f e there m. absurd m }

-- ---- each history comes once

-- two flights of an arrival with a future in common stand at one place
one-place : (w : Wiring) (c : Setting) (q : ℕ) (flights : List Flight) (n j k : ℕ) (f g : Flight) (e : Trail) → Pairs HaveForked flights → slice_get flights j ≡ Some f → slice_get flights k ≡ Some g → f.arrival ≡ n → g.arrival ≡ n →
    IsFuture w (c.policy q) f.history e → IsFuture w (c.policy q) g.history e → j ≡ k
one-place w c q flights n j k f g e h a b d i u v = elim (ℕ_discrete j k) [
  | yes same ↦ same
  | no other ↦ elim (cases_lt j k) [
    | inl l ↦ absurd (parted-none f.history g.history e (pairs-at HaveForked flights j k f g h a b l (d ∙ sym i)) past there)
    | inr l ↦ absurd (parted-none g.history f.history e (pairs-at HaveForked flights k j g f h b a (less l other) (i ∙ sym d)) there past)
  ]
]
  where
    past : IsPast f.history e
    past = future-past w (c.policy q) f.history e u

    there : IsPast g.history e
    there = future-past w (c.policy q) g.history e v

    less : k ≤ j → j ≢ k → k < j
    less l other = grind (arith, l, other)

pub good-once : (t : Layout) (c : Setting) (flights : List Flight) (arrivals : List Arrived) (n : ℕ) (a : Arrived) → slice_get arrivals n ≡ Some a → IsCovered t c flights n a → AreApart flights arrivals → IsGood t c flights n a
good-once t c flights arrivals n a there i h = record {
  version = i.version;
  entered = i.entered;
  holds = i.holds;
  once = record {
    finished_once = h.finished_once n a there;
    no_future = λ f e m k d u. h.landed_apart n a f e there k d m (future-past (wiring t) (c.policy i.version) f.history e u);
    one_flight = λ j k f g e. one-place (wiring t) c i.version flights n j k f g e h.flights_apart;
  };
}

-- ---- Hop

forked-sym : (f g : Flight) → HaveForked f g → HaveForked g f
forked-sym f g h = λ e. parted-sym f.history g.history (h (sym e))

-- the flight in the middle has parted from all others
from-others : (before : List Flight) (f : Flight) (after : List Flight) → Pairs HaveForked (before ++ f ∷ after) → (g : Flight) → IsIn (before ++ after) g → HaveForked g f
from-others before f after h g m = elim (in-either before after g m) [
  | inl x ↦ pairs-across HaveForked before (f ∷ after) g f h x (inl refl)
  | inr x ↦ forked-sym f g ((pairs-right HaveForked before (f ∷ after) h).0 g x)
]

-- what a flight becomes has parted from what it had parted from
next-forked : (t : Layout) (f : Flight) (sent : List SentPacket) (g h : Flight) → ComesApart t f sent → HaveForked g f → IsIn (all_flights t f sent) h → HaveForked g h
next-forked t f sent g h s k m = λ e. parted-on g.history f.history g.history h.history (k (e ∙ own-arrival t f sent h m)) (past-self g.history) (s.went_on h m)

flights-forked : (t : Layout) (f : Flight) (sent : List SentPacket) → ComesApart t f sent → Pairs HaveForked (all_flights t f sent)
flights-forked t f sent s = pairs-weaker (λ g h. HaveParted g.history h.history) HaveForked (all_flights t f sent) (λ g h m n d e. d) s.flights

-- the arrival at a place when one has changed
one-changed : (arrivals : List Arrived) (m : ℕ) (a b : Arrived) → slice_get arrivals m ≡ Some a → (n : ℕ) (x : Arrived) → slice_get (slice_set arrivals m b) n ≡ Some x → ((n ≡ m) × (b ≡ x)) ⊎ ((n ≢ m) × (slice_get arrivals n ≡ Some x))
one-changed arrivals m a b there n x e =
    let put = put-set m arrivals a b there in
    elim (ℕ_discrete n m) [
      | yes d ↦ inl (d, some-is b x (sym put.at ∙ ap (λ (i : ℕ). slice_get (slice_set arrivals m b) i) (sym d) ∙ e))
      | no d ↦ inr (d, sym (put.others n d) ∙ e)
    ]

-- what rows that answer send of a copy parts
answered-parts : (t : Layout) (c : Setting) (u : ℕ) (f : Flight) (sent : List SentPacket) → Answered t c u f.history.newest f.tag sent → ComesApart t f sent
answered-parts t c u f sent a = subst (λ (xs : List SentPacket). ComesApart t f xs) (sym a.sends) (hops-part t (c.policy (suc u)) (c.stamp (suc u)) a.rows f a.answers)

module _ (t : Layout) (k : ℕ) (flights : List Flight) (f : Flight) (a : Arrived) (sent : List SentPacket) (arrivals : List Arrived) (here : slice_get flights k ≡ Some f) (there : slice_get arrivals f.arrival ≡ Some a) (s : ComesApart t f sent) (h : AreApart flights arrivals) where
  -- the other flights are apart from it
  others-forked : (g : Flight) → IsIn (remove flights k) g → HaveForked g f
  others-forked g m =
      let p = parted k flights f here in
      from-others p.before f p.after (subst (λ (fs : List Flight). Pairs HaveForked fs) p.all h.flights_apart) g (subst (λ (fs : List Flight). IsIn fs g) p.others m)

  now-forked : Pairs HaveForked (remove flights k ++ all_flights t f sent)
  now-forked =
      let p = parted k flights f here in
      pairs-append HaveForked (remove flights k) (all_flights t f sent)
      (subst (λ (fs : List Flight). Pairs HaveForked fs) (sym p.others) (pairs-without HaveForked p.before f p.after (subst (λ (fs : List Flight). Pairs HaveForked fs) p.all h.flights_apart)))
      (flights-forked t f sent s)
      (λ g x m n. next-forked t f sent g x s (others-forked g m) n)

  -- the histories of its own arrival
  own-once : EachOnce (a.finished ++ all_ends t f sent)
  own-once = pairs-append (λ x y. x ≢ y) a.finished (all_ends t f sent) (h.finished_once f.arrival a there) s.finished
      (λ x y m n same. h.landed_apart f.arrival a f x there (at-in k flights f here) refl m (subst (λ (z : Trail). IsPast f.history z) (sym same) (s.ended y n)))

  own-landed : (g : Flight) (e : Trail) → IsIn (remove flights k ++ all_flights t f sent) g → g.arrival ≡ f.arrival → IsIn (a.finished ++ all_ends t f sent) e → ¬ (IsPast g.history e)
  own-landed g e m d n past = elim (in-either (remove flights k) (all_flights t f sent) g m) [
    | inl x ↦ elim (in-either a.finished (all_ends t f sent) e n) [
      | inl y ↦ h.landed_apart f.arrival a g e there (removed-in k flights g x) d y past
      | inr y ↦ parted-none g.history f.history e (others-forked g x d) past (s.ended e y)
    ]
    | inr x ↦ elim (in-either a.finished (all_ends t f sent) e n) [
      | inl y ↦ h.landed_apart f.arrival a f e there (at-in k flights f here) refl y (past-then f.history g.history e (s.went_on g x) past)
      | inr y ↦ s.landed g e x y past
    ]
  ]

  -- and all together
  hop-parts : AreApart (remove flights k ++ all_flights t f sent) (slice_set arrivals f.arrival (record a { finished = a.finished ++ all_ends t f sent }))
  hop-parts =
      let b : Arrived = record a { finished = a.finished ++ all_ends t f sent } in
      record {
        finished_once = λ n x e. elim (one-changed arrivals f.arrival a b there n x e) [
          | inl w ↦ subst (λ (z : Arrived). EachOnce z.finished) w.1 own-once
          | inr w ↦ h.finished_once n x w.1
        ];
        flights_apart = now-forked;
        landed_apart = λ n x g e e' m d y past. elim (one-changed arrivals f.arrival a b there n x e') [
          | inl w ↦ own-landed g e m (d ∙ w.0) (subst (λ (z : Arrived). IsIn z.finished e) (sym w.1) y) past
          | inr w ↦ elim (in-either (remove flights k) (all_flights t f sent) g m) [
            | inl z ↦ h.landed_apart n x g e w.1 (removed-in k flights g z) d y past
            | inr z ↦ w.0 (sym d ∙ own-arrival t f sent g z)
          ]
        ];
      }

pub hop-apart : (t : Layout) (c : Setting) → c.wiring ≡ wiring t → IsSetting c → (swept : ℕ) (ph : Phase) → Within c swept ph → (sw : ℕ) (left : Row → Type 0) (rows : List Row) →
    Changing (adds c ph) (Base c swept ph sw) (batch c ph sw) left rows →
    (k : ℕ) (f : Flight) (a : Arrived) (finished : List Trail) (next flights : List Flight) (arrivals : List Arrived) →
    slice_get flights k ≡ Some f → sw ≡ f.history.newest.sw → IsHop rows t f finished next → slice_get arrivals f.arrival ≡ Some a → IsTraffic t c swept ph flights arrivals → AreApart flights arrivals →
    AreApart (remove flights k ++ next) (slice_set arrivals f.arrival (record a { finished = a.finished ++ finished }))
hop-apart t c same s swept ph within sw left rows table k f a finished next flights arrivals here at h there i apart =
    subst (λ (es : List Trail). AreApart (remove flights k ++ next) (slice_set arrivals f.arrival (record a { finished = a.finished ++ es }))) (sym h.ends)
    (subst (λ (fs : List Flight). AreApart (remove flights k ++ fs) (slice_set arrivals f.arrival (record a { finished = a.finished ++ all_ends t f h.sent }))) (sym h.goes_on)
    (hop-parts t k flights f a h.sent arrivals here there sent-parts apart))
  where
    sent-parts : ComesApart t f h.sent
    sent-parts =
        let l = (i.each f.arrival a there).flying f (at-in k flights f here) refl in
        answered-parts t c l.older f h.sent (flight-answered t c same s swept ph within sw left rows table f l.older h.sent (subst (λ (q : ℕ). IsFlight c swept ph q f) l.number l) at h.handled)

-- ---- Arrive

arrive-parts : (t : Layout) (f : Flight) (a : Arrived) (sent : List SentPacket) (flights : List Flight) (arrivals : List Arrived) → f.arrival ≡ length arrivals → a.finished ≡ all_ends t f sent → ((g : Flight) → IsIn flights g → g.arrival < length arrivals) →
    ComesApart t f sent → AreApart flights arrivals → AreApart (flights ++ all_flights t f sent) (arrivals ++ a ∷ [])
arrive-parts t f a sent flights arrivals number ends known s h = record {
  finished_once = λ n x e. elim (among arrivals a n x e) [
    | Last d same ↦ subst (λ (z : Arrived). EachOnce z.finished) same (subst (λ (es : List Trail). EachOnce es) (sym ends) s.finished)
    | Earlier e' l ↦ h.finished_once n x e'
  ];
  flights_apart = pairs-append HaveForked flights (all_flights t f sent) h.flights_apart (flights-forked t f sent s)
      (λ g x m n d. absurd (omega (arith, known g m, d, own-arrival t f sent x n, number)));
  landed_apart = λ n x g e e' m d y past. elim (among arrivals a n x e') [
    | Last p same ↦ elim (in-either flights (all_flights t f sent) g m) [
      | inl z ↦ absurd (omega (arith, known g z, d, p))
      | inr z ↦ s.landed g e z (subst (λ (es : List Trail). IsIn es e) ends (subst (λ (b : Arrived). IsIn b.finished e) (sym same) y)) past
    ]
    | Earlier e'' l ↦ elim (in-either flights (all_flights t f sent) g m) [
      | inl z ↦ h.landed_apart n x g e e'' z d y past
      | inr z ↦ absurd (omega (arith, d, own-arrival t f sent g z, number, l))
    ]
  ];
}

comes-parts : (t : Layout) (c : Setting) (ph : Phase) (f : Flight) (sent : List SentPacket) → Comes t c ph f.history.newest f.tag sent → ComesApart t f sent
comes-parts t c ph f sent (Lost q names none e) = subst (λ (xs : List SentPacket). ComesApart t f xs) (sym e) (parts t f [] tt)
comes-parts t c ph f sent (Taken u names none a) = answered-parts t c u f sent a

pub arrive-apart : (t : Layout) (c : Setting) → c.wiring ≡ wiring t → IsSetting c → (swept : ℕ) (ph : Phase) → Within c swept ph → (sw : ℕ) (left : Row → Type 0) (rows : List Row) →
    Changing (adds c ph) (Base c swept ph sw) (batch c ph sw) left rows → (pk : Packet) (tag : Option ℕ) (finished : List Trail) (next flights : List Flight) (arrivals : List Arrived) →
    ((v : ℕ) → tag ≡ Some v → v ≤ 4094) → IsWellShaped pk → IsIn (edges_of t) (standing pk) → sw ≡ pk.sw → IsHop rows t (record { history = one_packet pk; tag = tag; hops = 0; arrival = length arrivals }) finished next →
    ((g : Flight) → IsIn flights g → g.arrival < length arrivals) → AreApart flights arrivals →
    AreApart (flights ++ next) (arrivals ++ record { packet = pk; tag = tag; entry = entry ph; finished = finished } ∷ [])
arrive-apart t c same s swept ph within sw left rows table pk tag finished next flights arrivals small shaped edge at h known apart =
    let f : Flight = record { history = one_packet pk; tag = tag; hops = 0; arrival = length arrivals } in
    let a : Arrived = record { packet = pk; tag = tag; entry = entry ph; finished = finished } in
    subst (λ (fs : List Flight). AreApart (flights ++ fs) (arrivals ++ a ∷ [])) (sym h.goes_on)
    (arrive-parts t f a h.sent flights arrivals refl h.ends known (comes-parts t c ph f h.sent (comes t c same s swept ph within sw left rows table pk tag h.sent small shaped edge at h.handled)) apart)
