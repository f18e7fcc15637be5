-- Drawn runs of workloads end where all is done.
use Rattle.std.proofs.Common.{◌≡◌, true, false, ℕ, zero, suc, ◌+◌, ◌-◌, ◌<◌, ◌≤◌, inl, inr, List, [], ◌∷◌, ◌++◌, length, map, drop, refl, sym, ◌∙◌, ap, subst, Option, None, Some, slice_get, slice_set, arith}
use Rattle.std.proofs.lemmas.List.{length-map}
use Rattle.nk_values.specs.declared.packet.Packet.{Packet}
use Rattle.nk_values.specs.Members.{IsIn}
use Rattle.nk_values.proofs.MemberLaws.{in-left, in-right}
use Rattle.nk_syntax.specs.Terms.{Term}
use Rattle.nk_syntax.specs.Views.{term_of}
use Rattle.topology_model.specs.Layouts.{Layout, edges_of}
use Rattle.nk_values.specs.Tags.{IsTag}
use Rattle.openflow_wire.specs.declared.message.Message.TheVariants as to
use Rattle.topology_model.specs.declared.line.DeclaredSwitch.{DeclaredSwitch}
use Rattle.topology_model.specs.Lines.{layout_of}
use Rattle.document_text.specs.declared.document.PacketLine.{PacketLine}
use Rattle.policy_rows.specs.declared.version.Version.{Version}
use Rattle.policy_rows.specs.Means.{standing}
use Rattle.packet_tracer.specs.declared.flight.Flight.{Flight}
use Rattle.rand_pcg.specs.Lcg.{Lcg}
use Rattle.update_coordinator.specs.declared.phase.Phase.TheVariants as phase
use Rattle.update_coordinator.specs.Calls.{drain_refusal, leaving}
use Rattle.update_coordinator.specs.Controls.{Peer}
use Rattle.update_coordinator.specs.Starts.{new_peer}
use Rattle.update_laws.specs.Fleets.{WiredSwitch, Fleet}
use Rattle.update_laws.proofs.Places.{get-within, get-map}
use Rattle.update_laws.proofs.Wiring.{some-is, get-mapped}
use Rattle.world_core.specs.declared.event.Event.{Event}
use Rattle.world_core.specs.declared.event.Event.TheVariants as event
use Rattle.world_core.specs.declared.event.ControllerEvent.TheVariants as of_controller
use Rattle.world_core.specs.declared.event.PacketEvent.TheVariants as of_packet
use Rattle.world_core.specs.declared.event.SwitchEvent.TheVariants as of_switch
use Rattle.world_core.specs.Laws.{HasTableRoom, IsStill, IsBarred, NoDeadEnd}
use Rattle.world_core.specs.Settling.{NoneIs, hops_from}
use Rattle.world_core.specs.Steps.{InFleet, IsEnabled, Stands, Step}
use Rattle.world_core.specs.Ends.{new_end}
use Rattle.world_core.proofs.Presence.{ArePresent}
use Rattle.world_core.specs.Worlds.{WorldValue, IsKept, numbers_of}
use Rattle.workload_gen.specs.Draws.{AreEnabled, IsDrawn, Drawn, Draws, applies_from, pending_at, arrival, due, left_by, left_behind, report, tried, tried_at, tried_from, tried_last}
use Rattle.workload_gen.specs.Documents.{document_of, generator, number_by, packet_count, policies, policy_count, seeded, switch_count, topology_lines}
use Rattle.workload_gen.specs.Laws.{line_of, start_of, HasEnded}
use Rattle.workload_gen.specs.Versions.{policies_of}
use Rattle.workload_gen.specs.Words.{next_word, behind}
use Rattle.workload_laws.specs.Workload.{workload}
use Rattle.workload_gen.proofs.Lines.{AreGuests, packets-guests, few-switches}
use Rattle.workload_gen.proofs.Nearing.{AreNear, IsLine, hop-near, arrive-near}
use Rattle.workload_gen.proofs.Enabled.{append-none, due-at}
use Rattle.workload_gen.proofs.Unhalted.{IsFree, IsDrivable, AreMute, free-step, no-error}

-- ---- what is drawn was tried

-- an event that may be drawn while these packets are left: none that halts or loses a session, and of arrivals that of the first of them
abbrev IsTried : List PacketLine → Event → Type 0
IsTried lines (event.Controller (of_controller.Lost s)) = ⊥
IsTried lines (event.Controller (of_controller.Rejoin s)) = ⊥
IsTried lines (event.Packet (of_packet.Stuck k)) = ⊥
IsTried lines (event.Foreign s side got) = ⊥
IsTried lines (event.Packet (of_packet.Arrive pk tag)) = (line : PacketLine) × (rest : List PacketLine) × (lines ≡ line ∷ rest) × (line.packet ≡ pk) × (line.tag ≡ tag)
IsTried lines _ = Unit {0}

abbrev AreTried : List PacketLine → List Event → Type 0
AreTried lines [] = Unit {0}
AreTried lines (c ∷ cs) = IsTried lines c × AreTried lines cs

tried-both : (lines : List PacketLine) (cs ds : List Event) → AreTried lines cs → AreTried lines ds → AreTried lines (cs ++ ds)
tried-both lines [] ds a b = b
tried-both lines (c ∷ cs) ds a b = (a.0, tried-both lines cs ds a.1 b)

tried-applies : (lines : List PacketLine) (s k n : ℕ) → AreTried lines (applies_from s k n)
tried-applies lines s k zero = tt
tried-applies lines s k (suc n) = (tt, tried-applies lines s (k + 1) n)

tried-hops : (lines : List PacketLine) (k n : ℕ) → AreTried lines (hops_from k n)
tried-hops lines k zero = tt
tried-hops lines k (suc n) = (tt, tried-hops lines (k + 1) n)

tried-switches : (lines : List PacketLine) (w : WorldValue) (s n : ℕ) → AreTried lines (tried_from w s n)
tried-switches lines w s zero = tt
tried-switches lines w s (suc n) = tried-both lines (tried_at w s) (tried_from w (s + 1) n)
    (tt, (tt, tried-both lines (applies_from s 0 (pending_at (slice_get w.fleet.wired s))) (event.Switch (of_switch.Take s) ∷ event.Controller (of_controller.Send s) ∷ []) (tried-applies lines s 0 (pending_at (slice_get w.fleet.wired s))) (tt, (tt, tt))))
    (tried-switches lines w (s + 1) n)

tried-arrival : (lines : List PacketLine) → AreTried lines (arrival lines)
tried-arrival [] = tt
tried-arrival (line ∷ rest) = ((line, rest, refl, refl, refl), tt)

tried-report : (lines : List PacketLine) (o : Option ℕ) → AreTried lines (report o)
tried-report lines None = tt
tried-report lines (Some stamp) = (tt, tt)

are-tried : (lines : List PacketLine) (w : WorldValue) → AreTried lines (tried lines w)
are-tried lines w =
    let o = due w.fleet.control in
    tried-both lines (tried_from w 0 (length w.topology.switches)) (hops_from 0 (length w.flights) ++ tried_last lines w) (tried-switches lines w 0 (length w.topology.switches))
    (tried-both lines (hops_from 0 (length w.flights)) (tried_last lines w) (tried-hops lines 0 (length w.flights))
    (tried-both lines (arrival lines) ((event.Controller of_controller.Begin) ∷ report o) (tried-arrival lines) (tt, tried-report lines o)))

by_place : (lines : List PacketLine) (c : Event) (rest : List Event) (i : ℕ) (e : Event) → IsTried lines c → ((j : ℕ) → slice_get rest j ≡ Some e → IsTried lines e) → slice_get (c ∷ rest) i ≡ Some e → IsTried lines e
by_place lines c rest zero e h f p = subst (λ (x : Event). IsTried lines x) (some-is c e p) h
by_place lines c rest (suc i) e h f p = f i p

enabled-tried : (lines : List PacketLine) (w : WorldValue) (cs es : List Event) (i : ℕ) (e : Event) → AreTried lines cs → AreEnabled w cs es → slice_get es i ≡ Some e → IsTried lines e
enabled-tried lines w [] es i e t a q = absurd (let none : None ≡ Some e = ap (λ (xs : List Event). slice_get xs i) (sym a) ∙ q in cc)
enabled-tried lines w (c ∷ cs) es i e t (inl a) q = by_place lines c a.1 i e t.0 (λ j p. enabled-tried lines w cs a.1 j e t.1 a.3 p) (ap (λ (xs : List Event). slice_get xs i) (sym a.2) ∙ q)
enabled-tried lines w (c ∷ cs) es i e t (inr a) q = enabled-tried lines w cs es i e t.1 a.1 q

drawn-tried : (lines : List PacketLine) (w : WorldValue) (g : Lcg) (e : Event) → IsDrawn lines w g e → IsTried lines e
drawn-tried lines w g e d = enabled-tried lines w (tried lines w) d.events _ e (are-tried lines w) d.enabled d.drawn

drivable : (lines : List PacketLine) (e : Event) → IsTried lines e → IsDrivable e
drivable lines (event.Controller (of_controller.Lost s)) t = t
drivable lines (event.Controller (of_controller.Rejoin s)) t = t
drivable lines (event.Packet (of_packet.Stuck k)) t = t
drivable lines (event.Foreign s side got) t = t
drivable lines _ t = tt

-- ---- on the way

-- so far nothing halts, each copy is near its destination, and the packets that came in are the first ones
pub record IsOnWay (s : ℕ) (versions : List Version) (all left : List PacketLine) (w : WorldValue) : Type 0 where
  pub free : IsFree w
  pub line : IsLine s w
  pub versions_are : w.versions ≡ versions
  pub limit : w.limit ≡ 64
  pub near : AreNear s w.flights
  pub guests : AreGuests s left
  pub arrived : map line_of w.arrivals ++ left ≡ all

-- the topology, the versions and the limit stay
record IsSame (w v : WorldValue) : Type 0 where
  topology : v.topology ≡ w.topology
  versions : v.versions ≡ w.versions
  limit : v.limit ≡ w.limit

line-same : (s : ℕ) (w v : WorldValue) → IsSame w v → IsLine s w → IsLine s v
line-same s w v i l = record { topology = i.topology ∙ l.topology; policies = λ k x e. l.policies k x (ap (λ (vs : List Version). slice_get vs k) (sym i.versions) ∙ e) }

same-in : (Does : Fleet → Fleet → Type 0) (w v : WorldValue) → InFleet Does w v → IsSame w v
same-in Does w v h = record { topology = ap (λ (x : WorldValue). x.topology) h.now; versions = ap (λ (x : WorldValue). x.versions) h.now; limit = ap (λ (x : WorldValue). x.limit) h.now }

way-in : (Does : Fleet → Fleet → Type 0) (s : ℕ) (versions : List Version) (all left : List PacketLine) (w v : WorldValue) → InFleet Does w v → IsFree v → IsOnWay s versions all left w → IsOnWay s versions all left v
way-in Does s versions all left w v h f o =
    let i = same-in Does w v h in
    record {
      free = f;
      line = line-same s w v i o.line;
      versions_are = i.versions ∙ o.versions_are;
      limit = i.limit ∙ o.limit;
      near = subst (λ (x : WorldValue). AreNear s x.flights) (sym h.now) o.near;
      guests = o.guests;
      arrived = ap (λ (x : WorldValue). map line_of x.arrivals ++ left) h.now ∙ o.arrived;
    }

map-last : {X Y : Type 0} (f : X → Y) (xs : List X) (x : X) (ys : List Y) → map f (xs ++ x ∷ []) ++ ys ≡ map f xs ++ f x ∷ ys
map-last f [] x ys = refl
map-last f (z ∷ zs) x ys = ap (λ us. f z ∷ us) (map-last f zs x ys)

map-put : {X Y : Type 0} (f : X → Y) (k : ℕ) (xs : List X) (x y : X) → slice_get xs k ≡ Some x → f y ≡ f x → map f (slice_set xs k y) ≡ map f xs
map-put f k [] x y g e = absurd (cc)
map-put f zero (z ∷ zs) x y g e = ap (λ u. u ∷ map f zs) (e ∙ sym (ap f (some-is z x g)))
map-put f (suc k) (z ∷ zs) x y g e = ap (λ us. f z ∷ us) (map-put f k zs x y g e)

way-arrive : (s : ℕ) (versions : List Version) (all left : List PacketLine) (pk : Packet) (tag : Option ℕ) (w v : WorldValue) → Step w (event.Packet (of_packet.Arrive pk tag)) v → IsTried left (event.Packet (of_packet.Arrive pk tag)) → IsFree v → IsOnWay s versions all left w → IsOnWay s versions all (drop 1 left) v
way-arrive s versions all left pk tag w v h (line, rest, is, packet, tagged) f o =
    let i : IsSame w v = record { topology = ap (λ (x : WorldValue). x.topology) h.now; versions = ap (λ (x : WorldValue). x.versions) h.now; limit = ap (λ (x : WorldValue). x.limit) h.now } in
    let there : IsIn left line = subst (λ (ls : List PacketLine). IsIn ls line) (sym is) (inl refl) in
    let gone : drop 1 left ≡ rest = ap (λ (ls : List PacketLine). drop 1 ls) is in
    record {
      free = f;
      line = line-same s w v i o.line;
      versions_are = i.versions ∙ o.versions_are;
      limit = i.limit ∙ o.limit;
      near = arrive-near s pk tag w v h o.line o.free.kept (subst (λ (p : Packet). Close p) packet (o.guests line there).near) o.near;
      guests = λ l m. o.guests l (subst (λ (ls : List PacketLine). IsIn ls l) (sym is) (inr (subst (λ (ls : List PacketLine). IsIn ls l) gone m)));
      arrived = ap (λ (x : WorldValue). map line_of x.arrivals ++ drop 1 left) h.now
          ∙ map-last line_of w.arrivals _ (drop 1 left)
          ∙ (λ j. map line_of w.arrivals ++ record { packet = sym packet j; tag = sym tagged j } ∷ gone j)
          ∙ ap (λ (ls : List PacketLine). map line_of w.arrivals ++ ls) (sym is)
          ∙ o.arrived;
    }
  where
    Close : Packet → Type 0
    Close p = ((p.sw - p.header.eth_dst) + (p.header.eth_dst - p.sw)) < s

way-hop : (s k : ℕ) (versions : List Version) (all left : List PacketLine) (w v : WorldValue) → Step w (event.Packet (of_packet.Hop k)) v → IsFree v → IsOnWay s versions all left w → IsOnWay s versions all left v
way-hop s k versions all left w v h f o =
    let i : IsSame w v = record { topology = ap (λ (x : WorldValue). x.topology) h.now; versions = ap (λ (x : WorldValue). x.versions) h.now; limit = ap (λ (x : WorldValue). x.limit) h.now } in
    record {
      free = f;
      line = line-same s w v i o.line;
      versions_are = i.versions ∙ o.versions_are;
      limit = i.limit ∙ o.limit;
      near = hop-near s k w v h o.line o.free.kept o.near;
      guests = o.guests;
      arrived = ap (λ (x : WorldValue). map line_of x.arrivals ++ left) h.now ∙ ap (λ (ls : List PacketLine). ls ++ left) (map-put line_of h.may.flight.arrival w.arrivals h.arrival _ h.of refl) ∙ o.arrived;
    }

way-step : HasTableRoom → (s : ℕ) (versions : List Version) (all left : List PacketLine) (w : WorldValue) (e : Event) (v : WorldValue) → IsTried left e → Step w e v → IsOnWay s versions all left w → IsOnWay s versions all (left_by e left) v
way-step room s versions all left w (event.Controller of_controller.Begin) v t h o = way-in _ s versions all left w v h (free-step room w (event.Controller of_controller.Begin) v tt h o.free) o
way-step room s versions all left w (event.Controller (of_controller.Send p)) v t h o = way-in _ s versions all left w v h (free-step room w (event.Controller (of_controller.Send p)) v tt h o.free) o
way-step room s versions all left w (event.Switch (of_switch.Take p)) v t h o = way-in _ s versions all left w v h (free-step room w (event.Switch (of_switch.Take p)) v tt h o.free) o
way-step room s versions all left w (event.Switch (of_switch.Apply p n)) v t h o = way-in _ s versions all left w v h (free-step room w (event.Switch (of_switch.Apply p n)) v tt h o.free) o
way-step room s versions all left w (event.Switch (of_switch.Reply p)) v t h o = way-in _ s versions all left w v h (free-step room w (event.Switch (of_switch.Reply p)) v tt h o.free) o
way-step room s versions all left w (event.Controller (of_controller.Heard p)) v t h o = way-in _ s versions all left w v h (free-step room w (event.Controller (of_controller.Heard p)) v tt h o.free) o
way-step room s versions all left w (event.Packet (of_packet.Arrive pk tag)) v t h o = way-arrive s versions all left pk tag w v h t (free-step room w (event.Packet (of_packet.Arrive pk tag)) v tt h o.free) o
way-step room s versions all left w (event.Packet (of_packet.Hop k)) v t h o = way-hop s k versions all left w v h (free-step room w (event.Packet (of_packet.Hop k)) v tt h o.free) o
way-step room s versions all left w (event.Controller (of_controller.Drained stamp)) v t h o = way-in _ s versions all left w v h.step (free-step room w (event.Controller (of_controller.Drained stamp)) v tt h o.free) o
way-step room s versions all left w (event.Controller (of_controller.Lost p)) v t h o = absurd t
way-step room s versions all left w (event.Controller (of_controller.Rejoin p)) v t h o = absurd t
way-step room s versions all left w (event.Packet (of_packet.Stuck k)) v t h o = absurd t
way-step room s versions all left w (event.Foreign p side got) v t h o = absurd t

pub way-run : HasTableRoom → (s : ℕ) (versions : List Version) (all left : List PacketLine) (g : Lcg) (w : WorldValue) (es : List Event) (v : WorldValue) → Drawn left g w es v → IsOnWay s versions all left w → IsOnWay s versions all (left_behind es left) v
way-run room s versions all left g w [] v d o = subst (λ (x : WorldValue). IsOnWay s versions all left x) d o
way-run room s versions all left g w (e ∷ es) v d o =
    way-run room s versions all (left_by e left) (next_word g).1 d.0 es v d.3 (way-step room s versions all left w e d.0 (drawn-tried left w g e d.1) d.2 o)

-- ---- where nothing that is tried can happen

none-of : (w : WorldValue) (cs : List Event) (e : Event) → NoneIs w cs → IsIn cs e → ¬ (IsEnabled w e)
none-of w [] e n m = absurd m
none-of w (c ∷ cs) e n (inl q) = subst (λ (x : Event). ¬ (IsEnabled w x)) q n.0
none-of w (c ∷ cs) e n (inr m) = none-of w cs e n.1 m

apply-in : (s k n j : ℕ) → j < n → IsIn (applies_from s k n) (event.Switch (of_switch.Apply s (k + j)))
apply-in s k zero j l = absurd (omega (arith, l))
apply-in s k (suc n) zero l = inl (ap (λ (i : ℕ). event.Switch (of_switch.Apply s i)) (omega arith))
apply-in s k (suc n) (suc j) l = inr (subst (λ (i : ℕ). IsIn (applies_from s (k + 1) n) (event.Switch (of_switch.Apply s i))) (omega arith) (apply-in s (k + 1) n j (omega (arith, l))))

hop-in : (k n j : ℕ) → j < n → IsIn (hops_from k n) (event.Packet (of_packet.Hop (k + j)))
hop-in k zero j l = absurd (omega (arith, l))
hop-in k (suc n) zero l = inl (ap (λ (i : ℕ). event.Packet (of_packet.Hop i)) (omega arith))
hop-in k (suc n) (suc j) l = inr (subst (λ (i : ℕ). IsIn (hops_from (k + 1) n) (event.Packet (of_packet.Hop i))) (omega arith) (hop-in (k + 1) n j (omega (arith, l))))

switch-in : (w : WorldValue) (s n j : ℕ) (e : Event) → j < n → IsIn (tried_at w (s + j)) e → IsIn (tried_from w s n) e
switch-in w s zero j e l m = absurd (omega (arith, l))
switch-in w s (suc n) zero e l m = in-left (tried_at w s) (tried_from w (s + 1) n) e (subst (λ (i : ℕ). IsIn (tried_at w i) e) (omega arith) m)
switch-in w s (suc n) (suc j) e l m = in-right (tried_at w s) (tried_from w (s + 1) n) e (switch-in w (s + 1) n j e (omega (arith, l)) (subst (λ (i : ℕ). IsIn (tried_at w i) e) (omega arith) m))

module _ (lines : List PacketLine) (w : WorldValue) (long : length w.fleet.wired ≡ length w.topology.switches) (peers : length w.fleet.wired ≡ length w.fleet.control.peers) (present : ArePresent w.fleet.control.peers) (over : NoneIs w (tried lines w)) where
  -- an event of a switch
  at-switch : (s : ℕ) (e : Event) → s < length w.fleet.wired → IsIn (tried_at w s) e → ¬ (IsEnabled w e)
  at-switch s e l m = none-of w (tried lines w) e over
      (in-left (tried_from w 0 (length w.topology.switches)) (hops_from 0 (length w.flights) ++ tried_last lines w) e
      (switch-in w 0 (length w.topology.switches) s e (omega (arith, l, long)) (subst (λ (i : ℕ). IsIn (tried_at w i) e) (omega arith) m)))

  pub last-of : (e : Event) → IsIn (tried_last lines w) e → ¬ (IsEnabled w e)
  last-of e m = none-of w (tried lines w) e over
      (in-right (tried_from w 0 (length w.topology.switches)) (hops_from 0 (length w.flights) ++ tried_last lines w) e (in-right (hops_from 0 (length w.flights)) (tried_last lines w) e m))

  of-end : (s : ℕ) (Is : WiredSwitch → Type 0) → Stands s w Is → s < length w.fleet.wired
  of-end s Is h = get-within s w.fleet.wired h.end_ h.here

  pub still : IsStill w
  still = record {
    heard = λ s h. at-switch s (event.Controller (of_controller.Heard s)) (of-end s _ h.1) (inl refl) h;
    reply = λ s h. at-switch s (event.Switch (of_switch.Reply s)) (of-end s _ h) (inr (inl refl)) h;
    apply = λ s k h. at-switch s (event.Switch (of_switch.Apply s k)) (of-end s _ h) (inr (inr (applies s k h))) h;
    take = λ s h. at-switch s (event.Switch (of_switch.Take s)) (of-end s _ h) (behind s (event.Switch (of_switch.Take s)) (inl refl)) h;
    send = λ s h. at-switch s (event.Controller (of_controller.Send s)) (sends s h) (behind s (event.Controller (of_controller.Send s)) (inr (inl refl))) h;
    begin = last-of (event.Controller of_controller.Begin) (in-right (arrival lines) ((event.Controller of_controller.Begin) ∷ report (due w.fleet.control)) (event.Controller of_controller.Begin) (inl refl));
    drained = λ stamp h. last-of (event.Controller (of_controller.Drained stamp)) (in-right (arrival lines) ((event.Controller of_controller.Begin) ∷ report (due w.fleet.control)) (event.Controller (of_controller.Drained stamp)) (inr (reported stamp h.0))) h;
    rejoin = λ s h. let none : true ≡ false = sym h.away ∙ present s h.peer h.here in cc;
    hop = λ k h. none-of w (tried lines w) (event.Packet (of_packet.Hop k)) over
        (in-right (tried_from w 0 (length w.topology.switches)) (hops_from 0 (length w.flights) ++ tried_last lines w) (event.Packet (of_packet.Hop k))
        (in-left (hops_from 0 (length w.flights)) (tried_last lines w) (event.Packet (of_packet.Hop k))
        (subst (λ (i : ℕ). IsIn (hops_from 0 (length w.flights)) (event.Packet (of_packet.Hop i))) (omega arith) (hop-in 0 (length w.flights) k (get-within k w.flights h.flight h.there))))) h;
  }
    where
      behind : (s : ℕ) (e : Event) → IsIn (event.Switch (of_switch.Take s) ∷ event.Controller (of_controller.Send s) ∷ []) e → IsIn (tried_at w s) e
      behind s e m = inr (inr (in-right (applies_from s 0 (pending_at (slice_get w.fleet.wired s))) (event.Switch (of_switch.Take s) ∷ event.Controller (of_controller.Send s) ∷ []) e m))

      applies : (s k : ℕ) → Stands s w (λ e. k < length e.switch.pending) → IsIn (applies_from s 0 (pending_at (slice_get w.fleet.wired s)) ++ event.Switch (of_switch.Take s) ∷ event.Controller (of_controller.Send s) ∷ []) (event.Switch (of_switch.Apply s k))
      applies s k h =
          in-left (applies_from s 0 (pending_at (slice_get w.fleet.wired s))) (event.Switch (of_switch.Take s) ∷ event.Controller (of_controller.Send s) ∷ []) (event.Switch (of_switch.Apply s k))
          (subst (λ (o : Option WiredSwitch). IsIn (applies_from s 0 (pending_at o)) (event.Switch (of_switch.Apply s k))) (sym h.here)
          (subst (λ (i : ℕ). IsIn (applies_from s 0 (length h.end_.switch.pending)) (event.Switch (of_switch.Apply s i))) (omega arith) (apply-in s 0 (length h.end_.switch.pending) k h.is)))

      sends : (s : ℕ) → IsEnabled w (event.Controller (of_controller.Send s)) → s < length w.fleet.wired
      sends s h = omega (arith, peers, get-within s w.fleet.control.peers h.peer h.here)

      reported : (stamp : ℕ) → drain_refusal w.fleet.control stamp ≡ None → IsIn (report (due w.fleet.control)) (event.Controller (of_controller.Drained stamp))
      reported stamp h =
          let c = w.fleet.control in
          subst (λ (o : Option ℕ). IsIn (report o) (event.Controller (of_controller.Drained stamp))) (sym (due-at c.halt (leaving c.overlap c.swept c.phase c.versions) stamp h)) (inl refl)

-- ---- the start

pub policies-at : (s k n : ℕ) (g : Lcg) (p : Term) → slice_get (policies s n g) k ≡ Some p → (b : ℕ) × (p ≡ workload s b)
policies-at s k zero g p e = absurd (cc)
policies-at s zero (suc n) g p e = (number_by s g, sym (some-is _ p e))
policies-at s (suc k) (suc n) g p e = policies-at s k n (behind 1 g) p e

start-mute : (capacity : ℕ) (numbers : List ℕ) → AreMute (map (new_end capacity) numbers)
start-mute capacity numbers place e at m i r =
    let x = get-map (new_end capacity) place numbers e at in
    no-error (to.Hello 1 0) m e.back (ap (λ (z : WiredSwitch). z.back) (sym x.2)) (λ z. z) i r

start-present : (numbers : List ℕ) → ArePresent (map new_peer numbers)
start-present numbers k s at = let x = get-map new_peer k numbers s at in sym (ap (λ (y : Peer). y.away) x.2)

begins : (n : ℕ) (versions : List Version) → IsKept (start_of (document_of n) versions) → map (λ (x : Version). term_of x.pol) versions ≡ (document_of n).policies →
    IsOnWay (switch_count n) versions (document_of n).packets (document_of n).packets (start_of (document_of n) versions)
begins n versions kept pols = record {
  free = record { kept = kept; room = (refl, omega arith); running = refl; present = start-present (numbers_of (document_of n).layout.switches); mute = start-mute 200000 (numbers_of (document_of n).layout.switches) };
  line = record {
    topology = refl;
    policies = λ k v e. policies-at (switch_count n) k (policy_count n) (seeded n) (term_of v.pol)
        (ap (λ (ps : List Term). slice_get ps k) (sym pols) ∙ get-mapped (λ (x : Version). term_of x.pol) k versions v e);
  };
  versions_are = refl;
  limit = refl;
  near = λ f m. absurd m;
  guests = let few = few-switches n in packets-guests (switch_count n) (packet_count n) (behind (policy_count n) (seeded n)) (omega (arith, few.0)) few.1;
  arrived = refl;
}

-- ---- the end

as-long : (w : WorldValue) → IsKept w → length w.fleet.wired ≡ length w.topology.switches
unfolding IsKept
as-long w k = sym (length-map w.fleet.wired (λ (e : WiredSwitch). e.switch.sw)) ∙ ap (λ (ns : List ℕ). length ns) k.places ∙ length-map w.topology.switches (λ (s : DeclaredSwitch). s.sw)

as-many : (w : WorldValue) → IsKept w → length w.fleet.wired ≡ length w.fleet.control.peers
unfolding IsKept
as-many w k = k.fleet.wired

no-flight : (s : ℕ) (w : WorldValue) (fs : List Flight) → s ≤ 32 → w.limit ≡ 64 → AreNear s fs → w.flights ≡ fs → ((k : ℕ) → ¬ (IsEnabled w (event.Packet (of_packet.Hop k)))) → fs ≡ []
no-flight s w [] few limit near e n = refl
no-flight s w (f ∷ fs) few limit near e n =
    let close = (near f (inl refl)).near in
    absurd (n 0 (record { flight = f; there = ap (λ (xs : List Flight). slice_get xs 0) e; limit = omega (arith, close, few, limit) }))

no-packet : (s : ℕ) (w : WorldValue) (left : List PacketLine) → w.topology ≡ layout_of (topology_lines s) → AreGuests s left → ((e : Event) → IsIn (arrival left) e → ¬ (IsEnabled w e)) → left ≡ []
no-packet s w [] t guests n = refl
no-packet s w (line ∷ rest) t guests n =
    let g = guests line (inl refl) in
    absurd (n (event.Packet (of_packet.Arrive line.packet line.tag)) (inl refl)
    (g.shaped, subst IsTag (sym g.untagged) tt, subst (λ (x : Layout). IsIn (edges_of x) (standing line.packet)) (sym t) g.edge))

not-barred : (s : ℕ) (w : WorldValue) → s ≤ 32 → w.limit ≡ 64 → AreNear s w.flights → IsBarred w → ⊥
not-barred s w few limit near b = let close = (near b.flight b.flies).near in omega (arith, close, few, limit, b.limit)

-- a run from a world that keeps what every world keeps
pub kept-end : HasTableRoom → NoDeadEnd → (n : ℕ) (versions : List Version) (events : List Event) (v : WorldValue) → IsKept (start_of (document_of n) versions) → policies_of versions ≡ (document_of n).policies →
    Draws (document_of n).packets (generator n) (start_of (document_of n) versions) events v → HasEnded (document_of n) v
kept-end room dead n versions events v kept pols draws = record {
  running = o.free.running;
  idle = elim (dead v o.free.kept o.free.running quiet) [
    | inl e ↦ e.0 ∙ ap (λ (k : ℕ). phase.Idle k) (ap (λ (vs : List Version). length vs) o.versions_are ∙ sym (length-map versions (λ (x : Version). term_of x.pol)) ∙ ap (λ (ps : List Term). length ps) pols)
    | inr b ↦ absurd (not-barred (switch_count n) v (few-switches n).1 o.limit o.near b)
  ];
  arrived = sym (append-none (map line_of v.arrivals)) ∙ ap (λ (ls : List PacketLine). map line_of v.arrivals ++ ls) (sym none) ∙ o.arrived;
  landed = no-flight (switch_count n) v v.flights (few-switches n).1 o.limit o.near refl quiet.hop;
}
  where
    o : IsOnWay (switch_count n) versions (document_of n).packets (left_behind events (document_of n).packets) v
    o = way-run room (switch_count n) versions (document_of n).packets (document_of n).packets (generator n) (start_of (document_of n) versions) events v draws.done (begins n versions kept pols)

    quiet : IsStill v
    quiet = still (left_behind events (document_of n).packets) v (as-long v o.free.kept) (as-many v o.free.kept) o.free.present draws.over

    none : left_behind events (document_of n).packets ≡ []
    none = no-packet (switch_count n) v (left_behind events (document_of n).packets) o.line.topology o.guests
        (λ e m. last-of (left_behind events (document_of n).packets) v (as-long v o.free.kept) (as-many v o.free.kept) o.free.present draws.over e
        (in-left (arrival (left_behind events (document_of n).packets)) ((event.Controller of_controller.Begin) ∷ report (due v.fleet.control)) e m))
