-- What holds of the lines so far, and is kept by each line.
use Rattle.std.proofs.Common.{◌≡◌, ◌≢◌, ℕ, ◌<◌, ◌≤◌, ◌⊎◌, inl, inr, Bool, true, false, not, ◌&&◌, ◌||◌, ◌==◌, nat_le, nat_lt, cond, List, [], ◌∷◌, ◌++◌, length, Option, Some, None, Result, Ok, Err, refl, sym, ap, subst, arith, length-append}
use Rattle.std.proofs.lemmas.Bool.Decides.{nat_tests}
use Rattle.std.specs.Prelude.{IfSome}
use Rattle.std.specs.Option.{option_map, option_and_then}
use Rattle.event_words.specs.declared.word.EventWord.{EventWord}
use Rattle.event_words.specs.declared.word.EventWord.TheVariants as word
use Rattle.event_words.specs.Words.{word_of}
use Rattle.nk_values.specs.declared.text_fault.TextFault.{TextFault}
use Rattle.nk_values.specs.declared.text_fault.TextFault.TheVariants.{BadLine, Limit, NoEdge, NoPolicy, UnknownName, UnknownSwitch, ValueRange}
use Rattle.nk_values.specs.Members.{IsIn}
use Rattle.nk_values.proofs.MemberLaws.{in-either}
use Rattle.nk_values.specs.declared.field.Field.TheVariants.{Sw}
use Rattle.nk_syntax.specs.Terms.{Term}
use Rattle.topology_model.specs.Layouts.{Layout, has_switch, is_edge, location_of}
use Rattle.document_text.specs.declared.document.ScheduleStep.{ScheduleStep}
use Rattle.document_text.specs.declared.document.ScheduleStep.TheVariants as event
use Rattle.document_text.specs.declared.document.PacketLine.{PacketLine}
use Rattle.document_text.specs.declared.document.ScheduleLine.{ScheduleLine}
use Rattle.document_text.specs.declared.head.Head.{Head}
use Rattle.document_text.specs.declared.head.Head.TheVariants as head
use Rattle.document_text.specs.declared.declaration.LineKind.{LineKind}
use Rattle.document_text.specs.declared.declaration.LineKind.TheVariants as kind
use Rattle.document_text.specs.Packets.{GivenFields, is_value, is_vlan_id, with_words, given_at}
use Rattle.document_text.specs.Texts.{numeral, end_of, is_end}
use Rattle.document_text.specs.States.{State, initial_state, place_of_kind, is_late, is_empty, has_edge, with_policy}
use Rattle.document_text.specs.Schedules.{refused_if, formed, at_switch, arrival, event_alone, event_of_one, event_of_two, event_of, is_index}
use Rattle.document_text.specs.Lines.{is_end_value, at_edge, placed_by, switch_form, switch_line, link_form, link_line, after_policies, one_numeral, two_numerals, hops_line, capacity_line, stamps_line, rejoins_line, overlap_line, policy_line, packet_form, packet_line, schedule_line}
use Rattle.document_text.specs.Steps.{Next, Stops, head_of, event_too_many, is_too_many, next, opens, enters, happens, scheduled, declares, step}
use Rattle.document_text.specs.Answers.{IsNextState, IsOpening}
use Rattle.document_text.specs.Laws.{IsArrivalLine, IsNamed, IsRead}
use Rattle.document_text.proofs.Sound.{Stays, formed-ok, refused-ok, words-keep, edge-ok}

abbrev pub InHops : ℕ → Type 0
InHops n = (1 ≤ n) × (n ≤ 1000)

abbrev pub InRows : ℕ → Type 0
InRows n = (1 ≤ n) × (n ≤ 200000)

abbrev pub InRejoins : ℕ → Type 0
InRejoins n = n ≤ 1000

abbrev pub AreStamps : ℕ × ℕ → Type 0
AreStamps x = (1 ≤ x.0) × (x.0 < x.1) × (x.1 ≤ 4094)

pub record Holds (s : State) : Type 0 where
  pub hops : IfSome s.hops InHops
  pub capacity : IfSome s.capacity InRows
  pub stamps : IfSome s.stamps AreStamps
  pub rejoins : IfSome s.rejoins InRejoins
  pub policies : length s.policies ≤ 64
  pub packets : length s.packets ≤ 10000
  pub events : length s.events ≤ 100000
  pub read : (p : Term) → IsIn s.policies p → IsRead p
  pub arrives : (p : PacketLine) → IsIn s.packets p → IsArrivalLine s.layout p
  pub named : (e : ScheduleLine) → IsIn s.events e → IsNamed s.layout (length s.packets) e.event
  pub no_packets : place_of_kind s.reached < 4 → s.packets ≡ []
  pub no_events : place_of_kind s.reached < 5 → s.events ≡ []
  pub inside : s.inside ≡ true → 5 ≤ place_of_kind s.reached

pub start-holds : Holds initial_state
start-holds = record {
  hops = tt;
  capacity = tt;
  stamps = tt;
  rejoins = tt;
  policies = omega arith;
  packets = omega arith;
  events = omega arith;
  read = λ p m. absurd m;
  arrives = λ p m. absurd m;
  named = λ e m. absurd m;
  no_packets = λ l. refl;
  no_events = λ l. refl;
  inside = λ i. absurd (cc);
}

not-below : (m n : ℕ) → nat_lt m n ≡ false → n ≤ m
not-below m n h = grind (arith, nat_tests)

below : (m n : ℕ) → nat_le m n ≡ false → n < m
below m n h = grind (arith, nat_tests)

upto : (m n : ℕ) → nat_le m n ≡ true → m ≤ n
upto m n h = grind (arith, nat_tests)

left-false : (a b : Bool) → (a || b) ≡ false → a ≡ false
left-false false b h = refl
left-false true b h = h

right-false : (a b : Bool) → (a || b) ≡ false → b ≡ false
right-false false b h = h
right-false true b h = absurd (cc)

both-true : (a b : Bool) → not (a && b) ≡ false → (a ≡ true) × (b ≡ true)
both-true true true h = (refl, refl)
both-true true false h = absurd (cc)
both-true false b h = absurd (cc)

one-true : (a : Bool) → not a ≡ false → a ≡ true
one-true true h = refl
one-true false h = absurd (cc)

both-of : (a b : Bool) → (a && b) ≡ true → (a ≡ true) × (b ≡ true)
both-of true b h = (refl, h)
both-of false b h = absurd (cc)

on-time : (s : State) (k : LineKind) → is_late s k ≡ false → place_of_kind s.reached ≤ place_of_kind k
on-time s k h = not-below (place_of_kind k) (place_of_kind s.reached) h

-- the topology's lines
layout-holds : (s : State) (k : LineKind) (t : Layout) → Holds s → place_of_kind s.reached ≤ place_of_kind k → place_of_kind k < 2 → Holds (record s { reached = k; layout = t })
layout-holds s k t h late low = record {
  hops = h.hops;
  capacity = h.capacity;
  stamps = h.stamps;
  rejoins = h.rejoins;
  policies = h.policies;
  packets = h.packets;
  events = h.events;
  read = h.read;
  arrives = λ p m. absurd (subst (λ ps. IsIn ps p) (h.no_packets (omega (arith, late, low))) m);
  named = λ e m. absurd (subst (λ es. IsIn es e) (h.no_events (omega (arith, late, low))) m);
  no_packets = λ l. h.no_packets (omega (arith, late, low));
  no_events = λ l. h.no_events (omega (arith, late, low));
  inside = λ i. absurd (omega (arith, h.inside i, late, low));
}

placed-by : (s t : State) (o : Option TextFault) → Holds s → placed_by s o ≡ Ok t → Holds t
placed-by s t None h e = let same : s ≡ t = cc in subst Holds same h
placed-by s t (Some f) h e = absurd (cc)

-- a later kind
kind-holds : (s : State) (k : LineKind) → Holds s → place_of_kind s.reached ≤ place_of_kind k → Holds (record s { reached = k })
kind-holds s k h late = record {
  hops = h.hops;
  capacity = h.capacity;
  stamps = h.stamps;
  rejoins = h.rejoins;
  policies = h.policies;
  packets = h.packets;
  events = h.events;
  read = h.read;
  arrives = h.arrives;
  named = h.named;
  no_packets = λ l. h.no_packets (omega (arith, late, l));
  no_events = λ l. h.no_events (omega (arith, late, l));
  inside = λ i. omega (arith, h.inside i, late);
}

hops-holds : (s : State) (o : Option ℕ) → Holds s → IfSome o InHops → Holds (record s { hops = o })
hops-holds s o h k = record { hops = k; capacity = h.capacity; stamps = h.stamps; rejoins = h.rejoins; policies = h.policies; packets = h.packets; events = h.events; read = h.read; arrives = h.arrives; named = h.named; no_packets = h.no_packets; no_events = h.no_events; inside = h.inside }

capacity-holds : (s : State) (o : Option ℕ) → Holds s → IfSome o InRows → Holds (record s { capacity = o })
capacity-holds s o h k = record { hops = h.hops; capacity = k; stamps = h.stamps; rejoins = h.rejoins; policies = h.policies; packets = h.packets; events = h.events; read = h.read; arrives = h.arrives; named = h.named; no_packets = h.no_packets; no_events = h.no_events; inside = h.inside }

stamps-holds : (s : State) (o : Option (ℕ × ℕ)) → Holds s → IfSome o AreStamps → Holds (record s { stamps = o })
stamps-holds s o h k = record { hops = h.hops; capacity = h.capacity; stamps = k; rejoins = h.rejoins; policies = h.policies; packets = h.packets; events = h.events; read = h.read; arrives = h.arrives; named = h.named; no_packets = h.no_packets; no_events = h.no_events; inside = h.inside }

rejoins-holds : (s : State) (o : Option ℕ) → Holds s → IfSome o InRejoins → Holds (record s { rejoins = o })
rejoins-holds s o h k = record { hops = h.hops; capacity = h.capacity; stamps = h.stamps; rejoins = k; policies = h.policies; packets = h.packets; events = h.events; read = h.read; arrives = h.arrives; named = h.named; no_packets = h.no_packets; no_events = h.no_events; inside = h.inside }

overlap-holds : (s : State) → Holds s → Holds (record s { overlap = true })
overlap-holds s h = record { hops = h.hops; capacity = h.capacity; stamps = h.stamps; rejoins = h.rejoins; policies = h.policies; packets = h.packets; events = h.events; read = h.read; arrives = h.arrives; named = h.named; no_packets = h.no_packets; no_events = h.no_events; inside = h.inside }

inside-holds : (s : State) (b : Bool) → Holds s → (b ≡ true → 5 ≤ place_of_kind s.reached) → Holds (record s { inside = b })
inside-holds s b h k = record { hops = h.hops; capacity = h.capacity; stamps = h.stamps; rejoins = h.rejoins; policies = h.policies; packets = h.packets; events = h.events; read = h.read; arrives = h.arrives; named = h.named; no_packets = h.no_packets; no_events = h.no_events; inside = k }

pub policy-holds : (s : State) (p : Term) → Holds s → length s.policies < 64 → IsRead p → Holds (with_policy s p)
policy-holds s p h few r = record {
  hops = h.hops;
  capacity = h.capacity;
  stamps = h.stamps;
  rejoins = h.rejoins;
  policies = omega (arith, few, length-append s.policies (p ∷ []));
  packets = h.packets;
  events = h.events;
  read = λ q m. elim (in-either s.policies (p ∷ []) q m) [ inl k ↦ h.read q k | inr k ↦ elim k [ inl e ↦ subst IsRead e r | inr n ↦ absurd n ] ];
  arrives = h.arrives;
  named = h.named;
  no_packets = h.no_packets;
  no_events = h.no_events;
  inside = h.inside;
}

-- each line
switch-holds : (s t : State) (ws : List (List ℕ)) → Holds s → switch_line s ws ≡ Ok t → Holds t
switch-holds s t ws h e =
    let x = formed-ok (switch_form ws) _ t e in
    let a = refused-ok _ _ _ t x.2 in
    let b = refused-ok _ _ _ t a.1 in
    placed-by _ t _ (layout-holds s kind.Switch _ h (on-time s kind.Switch a.0) (omega arith)) b.1

link-holds : (s t : State) (ws : List (List ℕ)) → Holds s → link_line s ws ≡ Ok t → Holds t
link-holds s t ws h e =
    let x = formed-ok (link_form ws) _ t e in
    let a = refused-ok _ _ _ t x.2 in
    let b = refused-ok _ _ _ t a.1 in
    placed-by _ t _ (layout-holds s kind.Link _ h (on-time s kind.Link a.0) (omega arith)) b.1

pub ok-is : (s t : State) → ◌≡◌ {A = Result State TextFault} (Ok s) (Ok t) → s ≡ t
ok-is s t e = cc

hops-line-holds : (s t : State) (ws : List (List ℕ)) → Holds s → hops_line s ws ≡ Ok t → Holds t
hops-line-holds s t ws h e =
    let x = formed-ok (one_numeral ws) _ t e in
    let a = refused-ok _ _ _ t x.2 in
    let b = refused-ok _ _ _ t a.1 in
    let c = refused-ok _ _ _ t b.1 in
    let range = both-true (nat_le 1 x.0) (nat_le x.0 1000) c.0 in
    subst Holds (ok-is _ t c.1)
    (kind-holds (record s { hops = Some x.0 }) kind.Setting (hops-holds s (Some x.0) h (upto 1 x.0 range.0, upto x.0 1000 range.1)) (on-time s kind.Setting (left-false _ _ a.0)))

capacity-line-holds : (s t : State) (ws : List (List ℕ)) → Holds s → capacity_line s ws ≡ Ok t → Holds t
capacity-line-holds s t ws h e =
    let x = formed-ok (one_numeral ws) _ t e in
    let a = refused-ok _ _ _ t x.2 in
    let b = refused-ok _ _ _ t a.1 in
    let c = refused-ok _ _ _ t b.1 in
    let range = both-true (nat_le 1 x.0) (nat_le x.0 200000) c.0 in
    subst Holds (ok-is _ t c.1)
    (kind-holds (record s { capacity = Some x.0 }) kind.Setting (capacity-holds s (Some x.0) h (upto 1 x.0 range.0, upto x.0 200000 range.1)) (on-time s kind.Setting (left-false _ _ a.0)))

rejoins-line-holds : (s t : State) (ws : List (List ℕ)) → Holds s → rejoins_line s ws ≡ Ok t → Holds t
rejoins-line-holds s t ws h e =
    let x = formed-ok (one_numeral ws) _ t e in
    let a = refused-ok _ _ _ t x.2 in
    let b = refused-ok _ _ _ t a.1 in
    let c = refused-ok _ _ _ t b.1 in
    let range = both-true (nat_le 0 x.0) (nat_le x.0 1000) c.0 in
    subst Holds (ok-is _ t c.1)
    (kind-holds (record s { rejoins = Some x.0 }) kind.Setting (rejoins-holds s (Some x.0) h (upto x.0 1000 range.1)) (on-time s kind.Setting (left-false _ _ a.0)))

overlap-line-holds : (s t : State) (ws : List (List ℕ)) → Holds s → overlap_line s ws ≡ Ok t → Holds t
overlap-line-holds s t [] h e =
    let a = refused-ok _ _ _ t e in
    let b = refused-ok _ _ _ t a.1 in
    subst Holds (ok-is _ t b.1) (kind-holds (record s { overlap = true }) kind.Setting (overlap-holds s h) (on-time s kind.Setting (left-false _ _ a.0)))
overlap-line-holds s t (w ∷ ws) h e = absurd (cc)

apart : (m n : ℕ) → (m == n) ≡ false → m ≢ n
apart m n h = grind (arith, nat_tests)

strictly : (m n : ℕ) → m ≤ n → m ≢ n → m < n
strictly m n h k = grind arith

stamps-line-holds : (s t : State) (ws : List (List ℕ)) → Holds s → stamps_line s ws ≡ Ok t → Holds t
stamps-line-holds s t ws h e =
    let x = formed-ok (two_numerals ws) _ t e in
    let a = refused-ok _ _ _ t x.2 in
    let b = refused-ok _ _ _ t a.1 in
    let c = refused-ok _ _ _ t b.1 in
    let d = refused-ok _ _ _ t c.1 in
    let range = both-true (nat_le 1 x.0.0 && nat_le x.0.0 x.0.1) (nat_le x.0.1 4094) c.0 in
    let low = both-of (nat_le 1 x.0.0) (nat_le x.0.0 x.0.1) range.0 in
    let two = strictly x.0.0 x.0.1 (upto x.0.0 x.0.1 low.1) (apart x.0.0 x.0.1 d.0) in
    subst Holds (ok-is _ t d.1)
    (kind-holds (record s { stamps = Some x.0 }) kind.Setting (stamps-holds s (Some x.0) h (upto 1 x.0.0 low.0, two, upto x.0.1 4094 range.1)) (on-time s kind.Setting (left-false _ _ a.0)))

-- after the topology and a policy
pub policies-ok : {A : Type 0} (s : State) (r : Result A TextFault) (t : A) → after_policies s r ≡ Ok t → r ≡ Ok t
policies-ok s r t e =
    (refused-ok (is_empty s.policies) NoPolicy r t (refused-ok (not (has_edge s.layout)) NoEdge (refused_if (is_empty s.policies) NoPolicy r) t e).1).1

policy-line-holds : (s t : State) (ws : List (List ℕ)) → Holds s → policy_line s ws ≡ Ok t → Holds t × (t.policies ≡ s.policies)
policy-line-holds s t [] h e =
    let a = refused-ok _ _ _ t e in
    let b = refused-ok _ _ _ t a.1 in
    let same = ok-is _ t b.1 in
    (subst Holds same (kind-holds s kind.Policy h (on-time s kind.Policy a.0)), subst (λ u. u.policies ≡ s.policies) same refl)
policy-line-holds s t (w ∷ ws) h e = absurd (cc)

schedule-line-holds : (s t : State) (ws : List (List ℕ)) → Holds s → schedule_line s ws ≡ Ok t → Holds t
schedule-line-holds s t [] h e =
    let a = refused-ok _ _ _ t e in
    let c = policies-ok s (Ok (record s { reached = kind.Schedule; inside = true })) t a.1 in
    let early = below 5 (place_of_kind s.reached) a.0 in
    subst Holds (ok-is _ t c) (inside-holds (record s { reached = kind.Schedule }) true (kind-holds s kind.Schedule h (omega (arith, early))) (λ i. omega arith))
schedule-line-holds s t (w ∷ ws) h e = absurd (cc)

-- a packet line
pub line-is : (p q : PacketLine) → ◌≡◌ {A = Result PacketLine TextFault} (Ok p) (Ok q) → p ≡ q
line-is p q e = cc

-- a form has its place, and the packet stands there
form-at : (w : List ℕ) (ws : List (List ℕ)) (o : Option (ℕ × ℕ)) (x : (ℕ × ℕ) × GivenFields)
    → option_and_then (λ e. option_map (λ g. (e, g)) (with_words (given_at e) ws)) o ≡ Some x → (x.1.packet.sw ≡ x.0.0) × (x.1.packet.pt ≡ x.0.1)
form-at w ws None x e = absurd (cc)
form-at w ws (Some d) x e = given-at d (with_words (given_at d) ws) x (words-keep ws (given_at d)) e
  where
    given-at : (d : ℕ × ℕ) (o : Option GivenFields) (x : (ℕ × ℕ) × GivenFields) → IfSome o (Stays (given_at d)) → option_map (λ g. (d, g)) o ≡ Some x → (x.1.packet.sw ≡ x.0.0) × (x.1.packet.pt ≡ x.0.1)
    given-at d None x h e = absurd (cc)
    given-at d (Some g) x h e = let same : (d, g) ≡ x = cc in subst (λ y. (y.1.packet.sw ≡ y.0.0) × (y.1.packet.pt ≡ y.0.1)) same (h.sw, h.pt)

packet-at : (s : State) (p : PacketLine) (ws : List (List ℕ)) → packet_line s ws ≡ Ok p → (place_of_kind s.reached ≤ 4) × (is_edge s.layout (location_of (p.packet.sw, p.packet.pt)) ≡ true)
packet-at s p [] e = absurd (cc)
packet-at s p (w ∷ ws) e =
    let x = formed-ok (packet_form (w ∷ ws)) _ p e in
    let a = refused-ok _ _ _ p x.2 in
    let made : Result PacketLine TextFault = Ok (record { packet = x.0.1.packet; tag = x.0.1.tag }) in
    let ranged = refused_if (not (is_end_value x.0.0) || x.0.1.outside) ValueRange (at_edge s x.0.0 made) in
    let c = policies-ok s (refused_if x.0.1.unknown UnknownName ranged) p a.1 in
    let d = refused-ok x.0.1.unknown UnknownName ranged p c in
    let f = refused-ok (not (is_end_value x.0.0) || x.0.1.outside) ValueRange (at_edge s x.0.0 made) p d.1 in
    let g = edge-ok s x.0.0 made p f.1 in
    let at = form-at w ws (end_of w) x.0 x.1 in
    let here = subst (λ n. is_edge s.layout (location_of (n, x.0.0.1)) ≡ true) (sym at.0) g.0 in
    let there = subst (λ n. is_edge s.layout (location_of (x.0.1.packet.sw, n)) ≡ true) (sym at.1) here in
    (on-time s kind.Packet a.0, subst (λ q. is_edge s.layout (location_of (q.packet.sw, q.packet.pt)) ≡ true) (line-is (record { packet = x.0.1.packet; tag = x.0.1.tag }) p g.1) there)

in-last : {A : Type 0} (xs : List A) (y z : A) → IsIn (xs ++ y ∷ []) z → IsIn xs z ⊎ (y ≡ z)
in-last xs y z m = elim (in-either xs (y ∷ []) z m) [ inl k ↦ inl k | inr k ↦ elim k [ inl e ↦ inr e | inr n ↦ absurd n ] ]

packet-holds : (s : State) (p : PacketLine) → Holds s → length s.packets < 10000 → place_of_kind s.reached ≤ 4 → IsArrivalLine s.layout p
    → Holds (record s { reached = kind.Packet; packets = s.packets ++ p ∷ [] })
packet-holds s p h few early at = record {
  hops = h.hops;
  capacity = h.capacity;
  stamps = h.stamps;
  rejoins = h.rejoins;
  policies = h.policies;
  packets = omega (arith, few, length-append s.packets (p ∷ []));
  events = h.events;
  read = h.read;
  arrives = λ q m. elim (in-last s.packets p q m) [ inl k ↦ h.arrives q k | inr k ↦ subst (IsArrivalLine s.layout) k at ];
  named = λ e m. absurd (subst (λ es. IsIn es e) (h.no_events (omega (arith, early))) m);
  no_packets = λ l. absurd (omega (arith, l));
  no_events = λ l. h.no_events (omega (arith, early));
  inside = λ i. absurd (omega (arith, h.inside i, early));
}

event-holds : (s : State) (e : ScheduleLine) → Holds s → length s.events < 100000 → 5 ≤ place_of_kind s.reached → IsNamed s.layout (length s.packets) e.event
    → Holds (record s { events = s.events ++ e ∷ [] })
event-holds s e h few late name = record {
  hops = h.hops;
  capacity = h.capacity;
  stamps = h.stamps;
  rejoins = h.rejoins;
  policies = h.policies;
  packets = h.packets;
  events = omega (arith, few, length-append s.events (e ∷ []));
  read = h.read;
  arrives = h.arrives;
  named = λ f m. elim (in-last s.events e f m) [ inl k ↦ h.named f k | inr k ↦ subst (λ x. IsNamed s.layout (length s.packets) x.event) k name ];
  no_packets = h.no_packets;
  no_events = λ l. absurd (omega (arith, late, l));
  inside = h.inside;
}

-- the event of a line
event-is : (x y : ScheduleStep) → ◌≡◌ {A = Result ScheduleStep TextFault} (Ok x) (Ok y) → x ≡ y
event-is x y e = cc

none-such : (P : ScheduleStep → Type 0) (e : ScheduleStep) → ◌≡◌ {A = Result ScheduleStep TextFault} (Err BadLine) (Ok e) → P e
none-such P e q = absurd (cc)

plain : (P : ScheduleStep → Type 0) (x : ScheduleStep) → P x → (e : ScheduleStep) → ◌≡◌ {A = Result ScheduleStep TextFault} (Ok x) (Ok e) → P e
plain P x h e q = subst P (event-is x e q) h

ranged : (P : ScheduleStep → Type 0) (b : Bool) (f : TextFault) (x : ScheduleStep) → P x → (e : ScheduleStep) → refused_if b f (Ok x) ≡ Ok e → P e
ranged P b f x h e q = plain P x h e (refused-ok b f (Ok x) e q).1

at-switch : (s : State) (P : ScheduleStep → Type 0) (sw : ℕ) (x : ScheduleStep) → (has_switch s.layout.switches sw ≡ true → P x) → (e : ScheduleStep) → at_switch s sw x ≡ Ok e → P e
at-switch s P sw x h e q =
    let a = refused-ok (not (is_value Sw sw)) ValueRange (refused_if (not (has_switch s.layout.switches sw)) UnknownSwitch (Ok x)) e q in
    let b = refused-ok (not (has_switch s.layout.switches sw)) UnknownSwitch (Ok x) e a.1 in
    plain P x (h (one-true (has_switch s.layout.switches sw) b.0)) e b.1

at-packet : (s : State) (P : ScheduleStep → Type 0) (n : ℕ) → ((1 ≤ n) × (n ≤ length s.packets) → P (event.Arrive n)) → (e : ScheduleStep) → arrival s n ≡ Ok e → P e
at-packet s P n h e q =
    let a = refused-ok (not (nat_le 1 n && nat_le n (length s.packets))) BadLine (Ok (event.Arrive n)) e q in
    let both = both-true (nat_le 1 n) (nat_le n (length s.packets)) a.0 in
    plain P (event.Arrive n) (h (upto 1 n both.0, upto n (length s.packets) both.1)) e a.1

abbrev Names : State → ScheduleStep → Type 0
Names s e = IsNamed s.layout (length s.packets) e

alone-named : (s : State) (w : EventWord) (e : ScheduleStep) → event_alone w ≡ Ok e → Names s e
alone-named s word.Begin = plain (Names s) event.Begin tt
alone-named s word.Settle = plain (Names s) event.Settle tt
alone-named s word.Flow = plain (Names s) event.Flow tt
alone-named s _ = none-such (Names s)

one-named : (s : State) (w : EventWord) (n : ℕ) (e : ScheduleStep) → event_of_one s w n ≡ Ok e → Names s e
one-named s word.Send n = at-switch s (Names s) n (event.Send n) (λ h. h)
one-named s word.Take n = at-switch s (Names s) n (event.Take n) (λ h. h)
one-named s word.Reply n = at-switch s (Names s) n (event.Reply n) (λ h. h)
one-named s word.Heard n = at-switch s (Names s) n (event.Heard n) (λ h. h)
one-named s word.Lost n = at-switch s (Names s) n (event.Lost n) (λ h. h)
one-named s word.Rejoin n = at-switch s (Names s) n (event.Rejoin n) (λ h. h)
one-named s word.Arrive n = at-packet s (Names s) n (λ h. h)
one-named s word.Hop n = ranged (Names s) (not (is_index n)) ValueRange (event.Hop n) tt
one-named s word.Stuck n = ranged (Names s) (not (is_index n)) ValueRange (event.Stuck n) tt
one-named s word.Drained n = ranged (Names s) (not (is_vlan_id n)) ValueRange (event.Drained n) tt
one-named s _ n = none-such (Names s)

two-named : (s : State) (w : EventWord) (sw k : ℕ) (e : ScheduleStep) → event_of_two s w sw k ≡ Ok e → Names s e
two-named s word.Apply sw k e q = at-switch s (Names s) sw (event.Apply sw k) (λ h. h) e (refused-ok (not (is_index k)) ValueRange (at_switch s sw (event.Apply sw k)) e q).1
two-named s _ sw k e q = none-such (Names s) e q

event-named : (s : State) (ws : List (List ℕ)) (e : ScheduleStep) → event_of s ws ≡ Ok e → Names s e
event-named s [] e q = absurd (cc)
event-named s (w ∷ []) e q = let x = formed-ok (word_of w) event_alone e q in alone-named s x.0 e x.2
event-named s (w ∷ a ∷ []) e q =
    let x = formed-ok (word_of w) (λ v. formed (numeral a) (event_of_one s v)) e q in
    let y = formed-ok (numeral a) (event_of_one s x.0) e x.2 in
    one-named s x.0 y.0 e y.2
event-named s (w ∷ a ∷ b ∷ []) e q =
    let x = formed-ok (word_of w) (λ v. formed (numeral a) (λ m. formed (numeral b) (event_of_two s v m))) e q in
    let y = formed-ok (numeral a) (λ m. formed (numeral b) (event_of_two s x.0 m)) e x.2 in
    let z = formed-ok (numeral b) (event_of_two s x.0 y.0) e y.2 in
    two-named s x.0 y.0 z.0 e z.2
event-named s (w ∷ a ∷ b ∷ c ∷ ws) e q = absurd (cc)

-- one step
pub next-is : (r : Result State TextFault) (t : State) → IsNextState (next r) t → r ≡ Ok t
next-is (Ok u) t h = ap (λ x. Ok x) (sym h)
next-is (Err f) t h = absurd h

pub opens-no-next : (r : Result State TextFault) (t : State) → IsNextState (opens r) t → ⊥
opens-no-next (Ok u) t h = h
opens-no-next (Err f) t h = h

enters-holds : (s t : State) (ws : List (List ℕ)) (r : Result PacketLine TextFault) → packet_line s ws ≡ r → Holds s → length s.packets < 10000 → IsNextState (enters s r) t → Holds t
enters-holds s t ws (Err f) e h few k = absurd k
enters-holds s t ws (Ok p) e h few k =
    let at = packet-at s p ws e in
    subst Holds (sym k.1) (packet-holds s p h few at.0 (record { shaped = k.0; edge = at.1 }))

few-events : (s : State) (d : Head) (ws : List (List ℕ)) → is_too_many s d ws ≡ false → event_too_many s ws ≡ false
few-events s head.Policy ws e = right-false _ _ e
few-events s head.Packet ws e = right-false _ _ e
few-events s head.Switch ws e = e
few-events s head.Link ws e = e
few-events s head.Hops ws e = e
few-events s head.Capacity ws e = e
few-events s head.Stamps ws e = e
few-events s head.Rejoins ws e = e
few-events s head.Overlap ws e = e
few-events s head.Schedule ws e = e
few-events s head.Unlisted ws e = e

declares-holds : (s t : State) (d : Head) (all ws : List (List ℕ)) → Holds s → is_too_many s d all ≡ false → IsNextState (declares s d ws) t → Holds t
declares-holds s t head.Switch all ws h few k = switch-holds s t ws h (next-is (switch_line s ws) t k)
declares-holds s t head.Link all ws h few k = link-holds s t ws h (next-is (link_line s ws) t k)
declares-holds s t head.Hops all ws h few k = hops-line-holds s t ws h (next-is (hops_line s ws) t k)
declares-holds s t head.Capacity all ws h few k = capacity-line-holds s t ws h (next-is (capacity_line s ws) t k)
declares-holds s t head.Stamps all ws h few k = stamps-line-holds s t ws h (next-is (stamps_line s ws) t k)
declares-holds s t head.Rejoins all ws h few k = rejoins-line-holds s t ws h (next-is (rejoins_line s ws) t k)
declares-holds s t head.Overlap all ws h few k = overlap-line-holds s t ws h (next-is (overlap_line s ws) t k)
declares-holds s t head.Policy all ws h few k = absurd (opens-no-next (policy_line s ws) t k)
declares-holds s t head.Packet all ws h few k = enters-holds s t ws (packet_line s ws) refl h (below 10000 (length s.packets) (left-false _ _ few)) k
declares-holds s t head.Schedule all ws h few k = schedule-line-holds s t ws h (next-is (schedule_line s ws) t k)
declares-holds s t head.Unlisted all ws h few k = absurd k

happens-holds : (s t : State) (n : ℕ) (ws : List (List ℕ)) (r : Result ScheduleStep TextFault) → event_of s ws ≡ r → Holds s → s.inside ≡ true → length s.events < 100000 → IsNextState (happens s n r) t → Holds t
happens-holds s t n ws (Err f) e h i few k = absurd k
happens-holds s t n ws (Ok x) e h i few k = subst Holds (sym k) (event-holds s (record { line = n; event = x }) h few (h.inside i) (event-named s ws x e))

room : (i b c : Bool) → i ≡ true → b ≡ false → (i && not b && c) ≡ false → c ≡ false
room true false c p q e = e
room true true c p q e = absurd (cc)
room false b c p q e = absurd (cc)

scheduled-by : (s t : State) (n : ℕ) (ws : List (List ℕ)) (b : Bool) → is_end ws ≡ b → Holds s → s.inside ≡ true → event_too_many s ws ≡ false
    → IsNextState (cond b (Next (record s { inside = false })) (happens s n (event_of s ws))) t → Holds t
scheduled-by s t n ws true e h i few k = subst Holds (sym k) (inside-holds s false h (λ x. absurd (cc)))
scheduled-by s t n ws false e h i few k =
    happens-holds s t n ws (event_of s ws) refl h i (below 100000 (length s.events) (room s.inside (is_end ws) (nat_le 100000 (length s.events)) i e few)) k

step-by : (s t : State) (n : ℕ) (w : List ℕ) (ws : List (List ℕ)) (b i : Bool) → is_too_many s (head_of w) (w ∷ ws) ≡ b → s.inside ≡ i → Holds s
    → IsNextState (cond b (Stops Limit) (cond i (scheduled s n (w ∷ ws)) (declares s (head_of w) ws))) t → Holds t
step-by s t n w ws true i e f h k = absurd k
step-by s t n w ws false true e f h k = scheduled-by s t n (w ∷ ws) (is_end (w ∷ ws)) refl h f (few-events s (head_of w) (w ∷ ws) e) k
step-by s t n w ws false false e f h k = declares-holds s t (head_of w) (w ∷ ws) ws h e k

pub step-holds : (s t : State) (n : ℕ) (ws : List (List ℕ)) → Holds s → IsNextState (step s n ws) t → Holds t
step-holds s t n [] h k = subst Holds (sym k) h
step-holds s t n (w ∷ ws) h k = step-by s t n w ws (is_too_many s (head_of w) (w ∷ ws)) s.inside refl refl h k

-- a policy's text begins where there is room for the policy
abbrev pub HasRoom : State → Type 0
HasRoom s = Holds s × (length s.policies < 64)

opens-holds : (s t : State) (ws : List (List ℕ)) (r : Result State TextFault) → policy_line s ws ≡ r → Holds s → length s.policies < 64 → IsOpening (opens r) t → HasRoom t
opens-holds s t ws (Err f) e h few k = absurd k
opens-holds s t ws (Ok u) e h few k =
    let x = policy-line-holds s u ws h e in
    subst HasRoom (sym k) (x.0, subst (λ ps. length ps < 64) (sym x.1) few)

pub next-no-opening : (r : Result State TextFault) (t : State) → IsOpening (next r) t → ⊥
next-no-opening (Ok u) t h = h
next-no-opening (Err f) t h = h

pub enters-no-opening : (s : State) (r : Result PacketLine TextFault) (t : State) → IsOpening (enters s r) t → ⊥
enters-no-opening s (Ok p) t h = h
enters-no-opening s (Err f) t h = h

declares-opens : (s t : State) (d : Head) (all ws : List (List ℕ)) → Holds s → is_too_many s d all ≡ false → IsOpening (declares s d ws) t → HasRoom t
declares-opens s t head.Switch all ws h few k = absurd (next-no-opening (switch_line s ws) t k)
declares-opens s t head.Link all ws h few k = absurd (next-no-opening (link_line s ws) t k)
declares-opens s t head.Hops all ws h few k = absurd (next-no-opening (hops_line s ws) t k)
declares-opens s t head.Capacity all ws h few k = absurd (next-no-opening (capacity_line s ws) t k)
declares-opens s t head.Stamps all ws h few k = absurd (next-no-opening (stamps_line s ws) t k)
declares-opens s t head.Rejoins all ws h few k = absurd (next-no-opening (rejoins_line s ws) t k)
declares-opens s t head.Overlap all ws h few k = absurd (next-no-opening (overlap_line s ws) t k)
declares-opens s t head.Policy all ws h few k = opens-holds s t ws (policy_line s ws) refl h (below 64 (length s.policies) (left-false _ _ few)) k
declares-opens s t head.Packet all ws h few k = absurd (enters-no-opening s (packet_line s ws) t k)
declares-opens s t head.Schedule all ws h few k = absurd (next-no-opening (schedule_line s ws) t k)
declares-opens s t head.Unlisted all ws h few k = absurd k

happens-no-opening : (s : State) (n : ℕ) (r : Result ScheduleStep TextFault) (t : State) → IsOpening (happens s n r) t → ⊥
happens-no-opening s n (Ok x) t h = h
happens-no-opening s n (Err f) t h = h

pub scheduled-no-opening : (s : State) (n : ℕ) (ws : List (List ℕ)) (b : Bool) (t : State) → IsOpening (cond b (Next (record s { inside = false })) (happens s n (event_of s ws))) t → ⊥
scheduled-no-opening s n ws true t h = h
scheduled-no-opening s n ws false t h = happens-no-opening s n (event_of s ws) t h

opens-by : (s t : State) (n : ℕ) (w : List ℕ) (ws : List (List ℕ)) (b i : Bool) → is_too_many s (head_of w) (w ∷ ws) ≡ b → Holds s
    → IsOpening (cond b (Stops Limit) (cond i (scheduled s n (w ∷ ws)) (declares s (head_of w) ws))) t → HasRoom t
opens-by s t n w ws true i e h k = absurd k
opens-by s t n w ws false true e h k = absurd (scheduled-no-opening s n (w ∷ ws) (is_end (w ∷ ws)) t k)
opens-by s t n w ws false false e h k = declares-opens s t (head_of w) (w ∷ ws) ws h e k

pub step-opens : (s t : State) (n : ℕ) (ws : List (List ℕ)) → Holds s → IsOpening (step s n ws) t → HasRoom t
step-opens s t n [] h k = absurd k
step-opens s t n (w ∷ ws) h k = opens-by s t n w ws (is_too_many s (head_of w) (w ∷ ws)) s.inside refl h k
