-- Lines of events give the events back.
use Rattle.std.proofs.Common.{◌≡◌, ◌<◌, ◌≤◌, ◌^◌, ◌==◌, inl, inr, ℕ, Bool, true, List, [], ◌∷◌, ◌++◌, length, map, take, codes, refl, sym, ◌∙◌, ap, subst, Option, Some, slice_get, arith, append-nil, if◌then◌else◌, false}
use Rattle.std.proofs.lemmas.Bool.{false≢true, cases_lt}
use Rattle.std.proofs.lemmas.Fmt.{decimal_injective}
use Rattle.std.proofs.lemmas.List.{append_assoc, append_cancel_left}
use Rattle.std.proofs.lemmas.Slice.Eq.{bytes_eq-Decides}
use Rattle.std.specs.Fmt.{decimal}
use Rattle.std.specs.List.{AllByRecursion, list_any}
use Rattle.std.specs.Str.{bytes_eq}
use native.Mathlib.Decide.{ℕ_discrete}
use Rattle.topology_model.specs.Layouts.{Layout}
use Rattle.topology_model.specs.Wired.{IsTopology}
use Rattle.topology_model.specs.declared.line.DeclaredSwitch.{DeclaredSwitch}
use Rattle.nk_values.proofs.PairLaws.{pairs-at}
use Rattle.update_coordinator.specs.declared.cause.Side.{Side}
use Rattle.update_coordinator.specs.declared.cause.Side.TheVariants.{Controller, Switch}
use Rattle.update_laws.proofs.Places.{get-some}
use Rattle.update_laws.proofs.Wiring.{at-in, get-mapped}
use Rattle.world_core.specs.declared.event.Event.{Event}
use Rattle.world_core.specs.declared.event.Event.TheVariants as event
use Rattle.world_core.specs.declared.event.ControllerEvent.{ControllerEvent}
use Rattle.world_core.specs.declared.event.PacketEvent.{PacketEvent}
use Rattle.world_core.specs.declared.event.SwitchEvent.{SwitchEvent}
use Rattle.world_core.specs.declared.event.ControllerEvent.TheVariants as of_controller
use Rattle.world_core.specs.declared.event.PacketEvent.TheVariants as of_packet
use Rattle.world_core.specs.declared.event.SwitchEvent.TheVariants as of_switch
use Rattle.report_text.specs.Events.{number_text, number_at, side_text, event_text, events_text}
use Rattle.report_text.specs.Causes.{state_text}
use Rattle.line_laws.proofs.Cut.{every, stops, cut, rest, every-append}
use Rattle.line_laws.proofs.Values.{digit, digits, decimal-same}
use Rattle.report_laws.specs.Laws.{IsInWords, shown, LinesTell, ReportsTell}
use Rattle.report_laws.proofs.Incoming.{incoming-same, incoming-line}
use Rattle.report_laws.proofs.Printed.{in_line, decimal-line}

-- ---- numbers of switches

-- the number of a switch that is there
record Numbered (t : Layout) (place : ℕ) : Type 0 where
  site : DeclaredSwitch
  here : slice_get t.switches place ≡ Some site
  high : site.sw ≤ 65535

numbered : (t : Layout) → IsTopology t → (place : ℕ) → place < length t.switches → Numbered t place
numbered t k place l =
    let s = get-some place t.switches l in
    record { site = s.0; here = s.1; high = (k.sound.sites s.0 (at-in place t.switches s.0 s.1)).switch.high }

text-is : (t : Layout) (place : ℕ) (n : Numbered t place) → number_at t.switches place ≡ decimal n.site.sw
text-is t place n = ap (λ (o : Option DeclaredSwitch). number_text o) n.here

wide : (n : ℕ) → n ≤ 65535 → n < 2 ^ 64
wide n h = omega (arith, h)

number-digits : (t : Layout) → IsTopology t → (place : ℕ) → place < length t.switches → every digit (number_at t.switches place) ≡ true
number-digits t k place l = let n = numbered t k place l in subst (λ (xs : List ℕ). every digit xs ≡ true) (sym (text-is t place n)) (digits n.site.sw (wide n.site.sw n.high))

number-line : (t : Layout) → IsTopology t → (place : ℕ) → place < length t.switches → every in_line (number_at t.switches place) ≡ true
number-line t k place l = let n = numbered t k place l in subst (λ (xs : List ℕ). every in_line xs ≡ true) (sym (text-is t place n)) (decimal-line n.site.sw (wide n.site.sw n.high))

-- no two switches have one number
number-same : (t : Layout) → IsTopology t → (j k : ℕ) → j < length t.switches → k < length t.switches → number_at t.switches j ≡ number_at t.switches k → j ≡ k
number-same t topology j k l m e =
    let a = numbered t topology j l in
    let b = numbered t topology k m in
    let same : a.site.sw ≡ b.site.sw = decimal-same a.site.sw b.site.sw a.high b.high (sym (text-is t j a) ∙ e ∙ text-is t k b) in
    let numbers : List ℕ = map (λ (s : DeclaredSwitch). s.sw) t.switches in
    let at_j : slice_get numbers j ≡ Some a.site.sw = get-mapped (λ (s : DeclaredSwitch). s.sw) j t.switches a.site a.here in
    let at_k : slice_get numbers k ≡ Some b.site.sw = get-mapped (λ (s : DeclaredSwitch). s.sw) k t.switches b.site b.here in
    elim (ℕ_discrete j k) [
      | yes d ↦ d
      | no d ↦ elim (cases_lt j k) [
        | inl x ↦ absurd (pairs-at _ numbers j k a.site.sw b.site.sw topology.sound.differ at_j at_k x same)
        | inr x ↦ absurd (pairs-at _ numbers k j b.site.sw a.site.sw topology.sound.differ at_k at_j (less x d) (sym same))
      ]
    ]
  where
    less : k ≤ j → (j ≡ k → ⊥) → k < j
    less x d = grind (arith, x, d)

-- ---- one event

-- the first three characters
abbrev front : List DeclaredSwitch → Event → List ℕ
front switches e = take 3 (event_text switches e)

side-same : (a b : Side) → side_text a ≡ side_text b → a ≡ b
side-same Controller Controller e = refl
side-same Switch Switch e = refl
side-same Controller Switch e = absurd (false≢true ((bytes_eq-Decides (side_text Controller) (side_text Switch)).1 e))
side-same Switch Controller e = absurd (false≢true ((bytes_eq-Decides (side_text Switch) (side_text Controller)).1 e))

-- a switch and what follows after a blank
parts-same : (t : Layout) → IsTopology t → (j k : ℕ) (xs ys : List ℕ) → j < length t.switches → k < length t.switches → number_at t.switches j ++ (32 ∷ xs) ≡ number_at t.switches k ++ (32 ∷ ys) → (j ≡ k) × (xs ≡ ys)
parts-same t topology j k xs ys l m e =
    let c = cut digit (number_at t.switches j) (number_at t.switches k) (32 ∷ xs) (32 ∷ ys) (number-digits t topology j l) (number-digits t topology k m) refl refl e in
    (number-same t topology j k l m c.0, rest 32 32 xs ys c.1)

-- the kind of an event, and the kind that its first three characters tell
abbrev kind_of : Event → ℕ
kind_of (event.Controller e) = 0
kind_of (event.Switch e) = 1
kind_of (event.Packet e) = 2
kind_of (event.Foreign s side got) = 3

abbrev is_one : List ℕ → List (List ℕ) → Bool
is_one xs words = list_any (λ w. bytes_eq xs w) words

abbrev kind_told : List ℕ → ℕ
kind_told xs =
    if is_one xs (codes "beg" ∷ codes "sen" ∷ codes "hea" ∷ codes "dra" ∷ codes "los" ∷ codes "rej" ∷ []) then 0 else (
    if is_one xs (codes "tak" ∷ codes "app" ∷ codes "rep" ∷ []) then 1 else (
    if is_one xs (codes "arr" ∷ codes "hop" ∷ codes "stu" ∷ []) then 2 else 3))

kind-told : (switches : List DeclaredSwitch) (e : Event) → kind_told (front switches e) ≡ kind_of e
kind-told switches (event.Controller of_controller.Begin) = refl
kind-told switches (event.Controller (of_controller.Send s)) = refl
kind-told switches (event.Controller (of_controller.Heard s)) = refl
kind-told switches (event.Controller (of_controller.Drained v)) = refl
kind-told switches (event.Controller (of_controller.Lost s)) = refl
kind-told switches (event.Controller (of_controller.Rejoin s)) = refl
kind-told switches (event.Switch (of_switch.Take s)) = refl
kind-told switches (event.Switch (of_switch.Apply s k)) = refl
kind-told switches (event.Switch (of_switch.Reply s)) = refl
kind-told switches (event.Packet (of_packet.Arrive p tag)) = refl
kind-told switches (event.Packet (of_packet.Hop k)) = refl
kind-told switches (event.Packet (of_packet.Stuck k)) = refl
kind-told switches (event.Foreign s side got) = refl

controller-same : (t : Layout) → IsTopology t → (e f : ControllerEvent) → IsInWords t (event.Controller e) → IsInWords t (event.Controller f) → event_text t.switches (event.Controller e) ≡ event_text t.switches (event.Controller f) → shown (event.Controller e) ≡ shown (event.Controller f)
controller-same t topology of_controller.Begin of_controller.Begin k l h = refl
controller-same t topology (of_controller.Send a) (of_controller.Send b) k l h = ap (λ (n : ℕ). event.Controller (of_controller.Send n)) (number-same t topology a b k l (append_cancel_left (codes "send ") _ _ h))
controller-same t topology (of_controller.Heard a) (of_controller.Heard b) k l h = ap (λ (n : ℕ). event.Controller (of_controller.Heard n)) (number-same t topology a b k l (append_cancel_left (codes "heard ") _ _ h))
controller-same t topology (of_controller.Drained m) (of_controller.Drained n) k l h = ap (λ (x : ℕ). event.Controller (of_controller.Drained x)) (decimal_injective m n k l (append_cancel_left (codes "drained ") _ _ h))
controller-same t topology (of_controller.Lost a) (of_controller.Lost b) k l h = ap (λ (n : ℕ). event.Controller (of_controller.Lost n)) (number-same t topology a b k l (append_cancel_left (codes "lost ") _ _ h))
controller-same t topology (of_controller.Rejoin a) (of_controller.Rejoin b) k l h = ap (λ (n : ℕ). event.Controller (of_controller.Rejoin n)) (number-same t topology a b k l (append_cancel_left (codes "rejoin ") _ _ h))
controller-same t topology e f k l h = absurd (false≢true ((bytes_eq-Decides (front t.switches (event.Controller e)) (front t.switches (event.Controller f))).1 (ap (λ (xs : List ℕ). take 3 xs) h)))

switch-same : (t : Layout) → IsTopology t → (e f : SwitchEvent) → IsInWords t (event.Switch e) → IsInWords t (event.Switch f) → event_text t.switches (event.Switch e) ≡ event_text t.switches (event.Switch f) → shown (event.Switch e) ≡ shown (event.Switch f)
switch-same t topology (of_switch.Take a) (of_switch.Take b) k l h = ap (λ (n : ℕ). event.Switch (of_switch.Take n)) (number-same t topology a b k l (append_cancel_left (codes "take ") _ _ h))
switch-same t topology (of_switch.Apply a m) (of_switch.Apply b n) k l h =
    let c = parts-same t topology a b (decimal m) (decimal n) k.0 l.0 (append_cancel_left (codes "apply ") _ _ h) in
    let d = decimal_injective m n k.1 l.1 c.1 in
    λ i. event.Switch (of_switch.Apply (c.0 i) (d i))
switch-same t topology (of_switch.Reply a) (of_switch.Reply b) k l h = ap (λ (n : ℕ). event.Switch (of_switch.Reply n)) (number-same t topology a b k l (append_cancel_left (codes "reply ") _ _ h))
switch-same t topology e f k l h = absurd (false≢true ((bytes_eq-Decides (front t.switches (event.Switch e)) (front t.switches (event.Switch f))).1 (ap (λ (xs : List ℕ). take 3 xs) h)))

packet-same : (t : Layout) → IsTopology t → (e f : PacketEvent) → IsInWords t (event.Packet e) → IsInWords t (event.Packet f) → event_text t.switches (event.Packet e) ≡ event_text t.switches (event.Packet f) → shown (event.Packet e) ≡ shown (event.Packet f)
packet-same t topology (of_packet.Arrive p tag) (of_packet.Arrive q u) k l h =
    let c = incoming-same p q tag u k.0 l.0 k.1 l.1 (append_cancel_left (codes "arrive ") _ _ h) in
    λ i. event.Packet (of_packet.Arrive (c.0 i) (c.1 i))
packet-same t topology (of_packet.Hop m) (of_packet.Hop n) k l h = ap (λ (x : ℕ). event.Packet (of_packet.Hop x)) (decimal_injective m n k l (append_cancel_left (codes "hop ") _ _ h))
packet-same t topology (of_packet.Stuck m) (of_packet.Stuck n) k l h = ap (λ (x : ℕ). event.Packet (of_packet.Stuck x)) (decimal_injective m n k l (append_cancel_left (codes "stuck ") _ _ h))
packet-same t topology e f k l h = absurd (false≢true ((bytes_eq-Decides (front t.switches (event.Packet e)) (front t.switches (event.Packet f))).1 (ap (λ (xs : List ℕ). take 3 xs) h)))

event-same : (t : Layout) → IsTopology t → (e f : Event) → IsInWords t e → IsInWords t f → event_text t.switches e ≡ event_text t.switches f → shown e ≡ shown f
event-same t topology (event.Controller e) (event.Controller f) k l h = controller-same t topology e f k l h
event-same t topology (event.Switch e) (event.Switch f) k l h = switch-same t topology e f k l h
event-same t topology (event.Packet e) (event.Packet f) k l h = packet-same t topology e f k l h
event-same t topology (event.Foreign a side got) (event.Foreign b face bytes) k l h =
    let c = parts-same t topology a b (side_text side) (side_text face) k l (append_cancel_left (codes "foreign ") _ _ h) in
    let d = side-same side face c.1 in
    λ i. event.Foreign (c.0 i) (d i) []
event-same t topology e f k l h =
    let same : kind_of e ≡ kind_of f = sym (kind-told t.switches e) ∙ ap (λ (xs : List ℕ). kind_told (take 3 xs)) h ∙ kind-told t.switches f in
    absurd (false≢true (subst (λ (n : ℕ). (kind_of e == n) ≡ true) same refl))

-- ---- lines

event-line : (t : Layout) → IsTopology t → (e : Event) → IsInWords t e → every in_line (event_text t.switches e) ≡ true
event-line t topology (event.Controller of_controller.Begin) k = refl
event-line t topology (event.Controller (of_controller.Send a)) k = number-line t topology a k
event-line t topology (event.Switch (of_switch.Take a)) k = number-line t topology a k
event-line t topology (event.Switch (of_switch.Apply a m)) k = every-append in_line (number_at t.switches a) (32 ∷ decimal m) (number-line t topology a k.0) (decimal-line m k.1)
event-line t topology (event.Switch (of_switch.Reply a)) k = number-line t topology a k
event-line t topology (event.Controller (of_controller.Heard a)) k = number-line t topology a k
event-line t topology (event.Packet (of_packet.Arrive p tag)) k = incoming-line p tag k.0 k.1
event-line t topology (event.Packet (of_packet.Hop m)) k = decimal-line m k
event-line t topology (event.Controller (of_controller.Drained m)) k = decimal-line m k
event-line t topology (event.Controller (of_controller.Lost a)) k = number-line t topology a k
event-line t topology (event.Controller (of_controller.Rejoin a)) k = number-line t topology a k
event-line t topology (event.Packet (of_packet.Stuck m)) k = decimal-line m k
event-line t topology (event.Foreign a side got) k = every-append in_line (number_at t.switches a) (32 ∷ side_text side) (number-line t topology a k) (side-line side)
  where
    side-line : (s : Side) → every in_line (side_text s) ≡ true
    side-line Controller = refl
    side-line Switch = refl

-- the letter `e`, with which the line of an event begins, and that of no phase
abbrev is_e : ℕ → Bool
is_e c = c == 101

line-is : (switches : List DeclaredSwitch) (e : Event) (es : List Event) (u : List ℕ) → events_text switches (e ∷ es) ++ u ≡ (codes "e " ++ event_text switches e) ++ (10 ∷ (events_text switches es ++ u))
line-is switches e es u =
    append_assoc ((codes "e " ++ event_text switches e) ++ 10 ∷ []) (events_text switches es) u
    ∙ append_assoc (codes "e " ++ event_text switches e) (10 ∷ []) (events_text switches es ++ u)

none-more : (switches : List DeclaredSwitch) (e : Event) (es : List Event) (u v : List ℕ) → stops is_e u ≡ true → u ≡ events_text switches (e ∷ es) ++ v → ⊥
none-more switches e es u v s h = false≢true (subst (λ (xs : List ℕ). stops is_e xs ≡ true) (h ∙ line-is switches e es v) s)

pub lines-same : (t : Layout) → IsTopology t → (es fs : List Event) (u v : List ℕ) → AllByRecursion (IsInWords t) es → AllByRecursion (IsInWords t) fs → stops is_e u ≡ true → stops is_e v ≡ true →
    events_text t.switches es ++ u ≡ events_text t.switches fs ++ v → map shown es ≡ map shown fs
lines-same t topology [] [] u v k l a b h = refl
lines-same t topology [] (f ∷ fs) u v k l a b h = absurd (none-more t.switches f fs u v a h)
lines-same t topology (e ∷ es) [] u v k l a b h = absurd (none-more t.switches e es v u b (sym h))
lines-same t topology (e ∷ es) (f ∷ fs) u v k l a b h =
    let c = cut in_line (codes "e " ++ event_text t.switches e) (codes "e " ++ event_text t.switches f) (10 ∷ (events_text t.switches es ++ u)) (10 ∷ (events_text t.switches fs ++ v))
    (event-line t topology e k.0) (event-line t topology f l.0) refl refl (sym (line-is t.switches e es u) ∙ h ∙ line-is t.switches f fs v) in
    let d = event-same t topology e f k.0 l.0 (append_cancel_left (codes "e ") _ _ c.0) in
    let more = lines-same t topology es fs u v k.1 l.1 a b (rest 10 10 _ _ c.1) in
    λ i. d i ∷ more i

pub lines-tell : LinesTell
lines-tell t es fs topology k l h =
    lines-same t topology es fs [] [] k l refl refl (append-nil (events_text t.switches es) ∙ h ∙ sym (append-nil (events_text t.switches fs)))

pub reports-tell : ReportsTell
reports-tell t es fs text topology k l a b =
    lines-same t topology es fs (state_text a.stamps a.draining a.phase a.halt ++ a.is.fates) (state_text b.stamps b.draining b.phase b.halt ++ b.is.fates) k l refl refl (sym a.is.whole ∙ b.is.whole)
