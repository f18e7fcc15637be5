-- The history of each copy begins with the packet that came in.
use Rattle.std.proofs.Common.{◌≡◌, ℕ, ◌+◌, ◌<◌, inl, inr, List, [], ◌∷◌, ◌++◌, length, refl, sym, ◌∙◌, ap, subst, Option, None, Some, slice_get, slice_set, remove, arith}
use Rattle.std.proofs.lemmas.List.{length-append, length-set}
use native.Mathlib.Decide.{ℕ_discrete}
use Rattle.nk_values.specs.declared.packet.Packet.{Packet}
use Rattle.nk_values.specs.declared.sent.SentPacket.{SentPacket}
use Rattle.nk_values.specs.Members.{IsIn}
use Rattle.nk_values.proofs.MemberLaws.{in-either, from-flat_map}
use Rattle.history_meaning.specs.Network.{Location}
use Rattle.topology_model.specs.Layouts.{Layout, far_end}
use Rattle.policy_rows.specs.Means.{standing, sent_packet}
use Rattle.packet_tracer.specs.declared.flight.Flight.{Flight}
use Rattle.packet_tracer.specs.Hops.{next_flight, flights_of, all_flights}
use Rattle.packet_tracer.specs.Ways.{oldest}
use Rattle.update_coordinator.specs.Phases.{entry}
use Rattle.update_laws.specs.Fleets.{Fleet}
use Rattle.update_laws.specs.Traffic.{Arrived}
use Rattle.update_laws.proofs.Flying.{own-arrival}
use Rattle.update_laws.proofs.Places.{Put, put-set, among, Last, Earlier, get-within}
use Rattle.update_laws.proofs.Wiring.{some-is, at-in, removed-in}
use Rattle.world_core.specs.declared.event.Event.{Event}
use Rattle.world_core.specs.declared.event.Event.TheVariants as event
use Rattle.world_core.specs.declared.event.ControllerEvent.TheVariants as of_controller
use Rattle.world_core.specs.declared.event.PacketEvent.TheVariants as of_packet
use Rattle.world_core.specs.declared.event.SwitchEvent.TheVariants as of_switch
use Rattle.world_core.specs.Worlds.{WorldValue}
use Rattle.world_core.specs.Steps.{first_copy, Arrives, Hops, Runs, Step}

-- what goes on has the oldest packet of its copy
own-oldest : (t : Layout) (f : Flight) (sent : List SentPacket) (g : Flight) → IsIn (all_flights t f sent) g → oldest g.history ≡ oldest f.history
own-oldest t f sent g m = let r = from-flat_map (flights_of t f) sent g m in next (far_end t.links (standing (sent_packet f.history.newest.sw r.0))) (sent_packet f.history.newest.sw r.0) r.0.tag r.2
  where
    next : (o : Option Location) (q : Packet) (tag : Option ℕ) → IsIn (next_flight f q tag o) g → oldest g.history ≡ oldest f.history
    next None q tag m = absurd m
    next (Some b) q tag (inl e) = ap (λ (z : Flight). oldest z.history) (sym e)
    next (Some b) q tag (inr m) = absurd m

-- each copy is one of an arrival, with whose packet its history begins
pub record Begin (flights : List Flight) (arrivals : List Arrived) : Type 0 where
  pub known : (f : Flight) → IsIn flights f → f.arrival < length arrivals
  pub begins : (f : Flight) (a : Arrived) → IsIn flights f → slice_get arrivals f.arrival ≡ Some a → oldest f.history ≡ a.packet

abbrev pub BeginIn : WorldValue → Type 0
BeginIn w = Begin w.flights w.arrivals

-- ---- Arrive

arrive-begin : (t : Layout) (f : Flight) (a : Arrived) (sent : List SentPacket) (flights : List Flight) (arrivals : List Arrived) → f.arrival ≡ length arrivals → oldest f.history ≡ a.packet → Begin flights arrivals → Begin (flights ++ all_flights t f sent) (arrivals ++ a ∷ [])
arrive-begin t f a sent flights arrivals number first h = record {
  known = λ g m. elim (in-either flights (all_flights t f sent) g m) [
    | inl x ↦ omega (arith, h.known g x, more)
    | inr x ↦ omega (arith, own-arrival t f sent g x, number, more)
  ];
  begins = λ g b m e. elim (among arrivals a g.arrival b e) [
    | Last d same ↦ elim (in-either flights (all_flights t f sent) g m) [
      | inl x ↦ absurd (omega (arith, h.known g x, d))
      | inr x ↦ own-oldest t f sent g x ∙ first ∙ ap (λ (z : Arrived). z.packet) same
    ]
    | Earlier e' l ↦ elim (in-either flights (all_flights t f sent) g m) [
      | inl x ↦ h.begins g b x e'
      | inr x ↦ absurd (omega (arith, own-arrival t f sent g x, number, l))
    ]
  ];
}
  where
    more : length (arrivals ++ a ∷ []) ≡ length arrivals + 1
    more = length-append arrivals (a ∷ [])

arrives-begin : (pk : Packet) (tag : Option ℕ) (w v : WorldValue) → Arrives pk tag w v → BeginIn w → BeginIn v
arrives-begin pk tag w v s h =
    let a : Arrived = record { packet = pk; tag = tag; entry = entry w.fleet.control.phase; finished = s.finished } in
    let f : Flight = first_copy pk tag (length w.arrivals) in
    subst BeginIn (sym s.now)
    (subst (λ (fs : List Flight). Begin (w.flights ++ fs) (w.arrivals ++ a ∷ [])) (sym s.handled.goes_on) (arrive-begin w.topology f a s.handled.sent w.flights w.arrivals refl refl h))

-- ---- Hop

hop-begin : (t : Layout) (k : ℕ) (f : Flight) (a b : Arrived) (sent : List SentPacket) (flights : List Flight) (arrivals : List Arrived) → slice_get flights k ≡ Some f → slice_get arrivals f.arrival ≡ Some a → b.packet ≡ a.packet → Begin flights arrivals →
    Begin (remove flights k ++ all_flights t f sent) (slice_set arrivals f.arrival b)
hop-begin t k f a b sent flights arrivals there of same h = record {
  known = λ g m. elim (in-either (remove flights k) (all_flights t f sent) g m) [
    | inl x ↦ omega (arith, h.known g (removed-in k flights g x), as_many)
    | inr x ↦ omega (arith, own-arrival t f sent g x, get-within f.arrival arrivals a of, as_many)
  ];
  begins = λ g c m e. elim (ℕ_discrete g.arrival f.arrival) [
    | yes d ↦
        let packet : a.packet ≡ c.packet = sym same ∙ ap (λ (z : Arrived). z.packet) (some-is b c (sym put.at ∙ ap (λ (i : ℕ). slice_get (slice_set arrivals f.arrival b) i) (sym d) ∙ e)) in
        elim (in-either (remove flights k) (all_flights t f sent) g m) [
          | inl x ↦ h.begins g a (removed-in k flights g x) (ap (λ (i : ℕ). slice_get arrivals i) d ∙ of) ∙ packet
          | inr x ↦ own-oldest t f sent g x ∙ h.begins f a (at-in k flights f there) of ∙ packet
        ]
    | no d ↦ elim (in-either (remove flights k) (all_flights t f sent) g m) [
      | inl x ↦ h.begins g c (removed-in k flights g x) (sym (put.others g.arrival d) ∙ e)
      | inr x ↦ absurd (d (own-arrival t f sent g x))
    ]
  ];
}
  where
    put : Put f.arrival arrivals b (slice_set arrivals f.arrival b)
    put = put-set f.arrival arrivals a b of

    as_many : length (slice_set arrivals f.arrival b) ≡ length arrivals
    as_many = length-set arrivals f.arrival b

hops-begin : (k : ℕ) (w v : WorldValue) → Hops k w v → BeginIn w → BeginIn v
hops-begin k w v s h =
    let b : Arrived = record s.arrival { finished = s.arrival.finished ++ s.finished } in
    subst BeginIn (sym s.now)
    (subst (λ (fs : List Flight). Begin (remove w.flights k ++ fs) (slice_set w.arrivals s.may.flight.arrival b)) (sym s.handled.goes_on)
    (hop-begin w.topology k s.may.flight s.arrival b s.handled.sent w.flights w.arrivals s.may.there s.of refl h))

-- ---- any event

-- an event of the coordinator and the switches alone
in-fleet : (w v : WorldValue) (f : Fleet) → v ≡ record w { fleet = f } → BeginIn w → BeginIn v
in-fleet w v f now h = subst BeginIn (sym now) h

step-begin : (w : WorldValue) (e : Event) (v : WorldValue) → Step w e v → BeginIn w → BeginIn v
step-begin w (event.Controller of_controller.Begin) v s h = in-fleet w v s.fleet s.now h
step-begin w (event.Controller (of_controller.Send p)) v s h = in-fleet w v s.fleet s.now h
step-begin w (event.Switch (of_switch.Take p)) v s h = in-fleet w v s.fleet s.now h
step-begin w (event.Switch (of_switch.Apply p k)) v s h = in-fleet w v s.fleet s.now h
step-begin w (event.Switch (of_switch.Reply p)) v s h = in-fleet w v s.fleet s.now h
step-begin w (event.Controller (of_controller.Heard p)) v s h = in-fleet w v s.fleet s.now h
step-begin w (event.Packet (of_packet.Arrive pk tag)) v s h = arrives-begin pk tag w v s h
step-begin w (event.Packet (of_packet.Hop k)) v s h = hops-begin k w v s h
step-begin w (event.Controller (of_controller.Drained stamp)) v s h = in-fleet w v s.step.fleet s.step.now h
step-begin w (event.Controller (of_controller.Lost p)) v s h = in-fleet w v s.fleet s.now h
step-begin w (event.Controller (of_controller.Rejoin p)) v s h = in-fleet w v s.fleet s.now h
step-begin w (event.Packet (of_packet.Stuck k)) v s h = subst BeginIn (sym s.now) h
step-begin w (event.Foreign p side got) v s h = subst BeginIn (sym s.now) h

pub runs-begin : (w : WorldValue) (es : List Event) (v : WorldValue) → Runs w es v → BeginIn w → BeginIn v
runs-begin w [] v r h = subst BeginIn r h
runs-begin w (e ∷ es) v r h = runs-begin r.0 es v r.2 (step-begin w e r.0 r.1 h)
