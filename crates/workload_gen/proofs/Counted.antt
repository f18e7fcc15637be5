-- Counts of what can happen.
use Rattle.std.proofs.Common.{◌≡◌, Bool, true, false, IsTrue, ◌↔◌, ℕ, zero, suc, ◌+◌, ◌-◌, ◌^◌, ◌<◌, ◌≤◌, inl, inr, min, List, [], ◌∷◌, ◌++◌, length, refl, sym, ◌∙◌, ap, subst, Option, None, Some, slice_get, slice_set, get_or, take, arith}
use Rattle.std.specs.Int.{from_bool}
use Rattle.std.proofs.lemmas.List.{length-append}
use Rattle.document_text.specs.declared.document.PacketLine.{PacketLine}
use Rattle.update_laws.specs.Fleets.{WiredSwitch}
use Rattle.update_laws.proofs.Wiring.{some-is}
use Rattle.world_core.specs.declared.event.Event.{Event}
use Rattle.world_core.specs.declared.event.Event.TheVariants as event
use Rattle.world_core.specs.declared.event.ControllerEvent.TheVariants as of_controller
use Rattle.world_core.specs.declared.event.PacketEvent.TheVariants as of_packet
use Rattle.world_core.specs.declared.event.SwitchEvent.TheVariants as of_switch
use Rattle.world_core.specs.Settling.{hops_from}
use Rattle.world_core.specs.Steps.{IsEnabled}
use Rattle.world_core.specs.Worlds.{WorldValue}
use Rattle.workload_gen.specs.Draws.{AreEnabled, applies_from, arrival, due, pending_at, report, tried, tried_at, tried_from, tried_last}
use Rattle.workload_gen.specs.Counts.{AreCounts, IsCount, sum_of, sum_to_limit}
use Rattle.workload_gen.proofs.Enabled.{enabled-both}

bit-small : (b : Bool) → from_bool b ≤ 1
bit-small true = omega arith
bit-small false = omega arith

pub bit-of-small : (b : Bool) (k : ℕ) → k ≡ from_bool b → k ≤ 1
bit-of-small b k e = let x = bit-small b in omega (arith, e, x)

-- ---- counts

pub count-none : (w : WorldValue) → IsCount w [] 0
count-none w = record { events = []; enabled = refl; count = omega arith }

pub count-one : (w : WorldValue) (c : Event) (b : Bool) → (IsTrue b ↔ IsEnabled w c) → IsCount w (c ∷ []) (from_bool b)
count-one w c true h = record { events = c ∷ []; enabled = inl (h.0 refl, [], refl, refl); count = omega arith }
count-one w c false h = record { events = []; enabled = inr ((λ p. let t : true ≡ false = sym (h.1 p) in cc), refl); count = omega arith }

pub count-both : (w : WorldValue) (cs ds : List Event) (n m k : ℕ) → IsCount w cs n → IsCount w ds m → k ≡ min (n + m) (2 ^ 64 - 1) → IsCount w (cs ++ ds) k
count-both w cs ds n m k a b e = record {
  events = a.events ++ b.events;
  enabled = enabled-both w cs ds a.events b.events a.enabled b.enabled;
  count = let l = length-append a.events b.events in let x = a.count in let y = b.count in omega (arith, l, x, y, e);
}

-- as long as it does not reach the limit, a sum does not
pub count-sum : (w : WorldValue) (cs ds : List Event) (n m : ℕ) → IsCount w cs n → IsCount w ds m → n + m < 2 ^ 64 → IsCount w (cs ++ ds) (n + m)
count-sum w cs ds n m a b l = count-both w cs ds n m (n + m) a b (omega (arith, l))

pub count-is : (w : WorldValue) (cs : List Event) (m k : ℕ) → IsCount w cs m → k ≡ m → IsCount w cs k
count-is w cs m k c e = subst (λ (i : ℕ). IsCount w cs i) (sym e) c

pub count-bit : (w : WorldValue) (c : Event) (b : Bool) (k : ℕ) → (IsTrue b ↔ IsEnabled w c) → k ≡ from_bool b → IsCount w (c ∷ []) k
count-bit w c b k h e = subst (λ (i : ℕ). IsCount w (c ∷ []) i) (sym e) (count-one w c b h)

-- ---- the flow mods that are pending at a switch

pub length-applies : (place k n : ℕ) → length (applies_from place k n) ≡ n
length-applies place k zero = refl
length-applies place k (suc n) = ap (λ (m : ℕ). suc m) (length-applies place (k + 1) n)

pub get-applies : (place k n i : ℕ) → i < n → slice_get (applies_from place k n) i ≡ Some (event.Switch (of_switch.Apply place (k + i)))
get-applies place k zero i l = absurd (omega (arith, l))
get-applies place k (suc n) zero l = ap (λ (j : ℕ). Some (event.Switch (of_switch.Apply place j))) (omega arith)
get-applies place k (suc n) (suc i) l = get-applies place (k + 1) n i (omega (arith, l)) ∙ ap (λ (j : ℕ). Some (event.Switch (of_switch.Apply place j))) (omega arith)

all-can : (w : WorldValue) (place k n : ℕ) → ((j : ℕ) → j < k + n → IsEnabled w (event.Switch (of_switch.Apply place j))) → AreEnabled w (applies_from place k n) (applies_from place k n)
all-can w place k zero h = refl
all-can w place k (suc n) h = inl (h k (omega arith), applies_from place (k + 1) n, refl, all-can w place (k + 1) n (λ j l. h j (omega (arith, l))))

applies-can : (w : WorldValue) (place j : ℕ) (o : Option WiredSwitch) → slice_get w.fleet.wired place ≡ o → j < pending_at o → IsEnabled w (event.Switch (of_switch.Apply place j))
applies-can w place j None e l = absurd (omega (arith, l))
applies-can w place j (Some x) e l = record { end_ = x; here = e; is = l }

abbrev pub pending : WorldValue → ℕ → ℕ
pending w place = pending_at (slice_get w.fleet.wired place)

pub pending-can : (w : WorldValue) (place : ℕ) → AreEnabled w (applies_from place 0 (pending w place)) (applies_from place 0 (pending w place))
pending-can w place = all-can w place 0 (pending w place) (λ j l. applies-can w place j _ refl (omega (arith, l)))

pub count-pending : (w : WorldValue) (place n : ℕ) → n ≡ pending w place → n < 2 ^ 64 → IsCount w (applies_from place 0 (pending w place)) n
count-pending w place n e l = record {
  events = applies_from place 0 (pending w place);
  enabled = pending-can w place;
  count = let m = length-applies place 0 (pending w place) in omega (arith, e, l, m);
}

-- ---- a switch

-- how many of two other events can happen, and of so many flow mods
pub count-switch : (w : WorldValue) (place : ℕ) (h r t s : Bool) (n h' r' t' s' k : ℕ) → (IsTrue h ↔ IsEnabled w (event.Controller (of_controller.Heard place))) → (IsTrue r ↔ IsEnabled w (event.Switch (of_switch.Reply place))) →
    (IsTrue t ↔ IsEnabled w (event.Switch (of_switch.Take place))) → (IsTrue s ↔ IsEnabled w (event.Controller (of_controller.Send place))) → n ≡ pending w place → n < 2 ^ 64 →
    h' ≡ from_bool h → r' ≡ from_bool r → t' ≡ from_bool t → s' ≡ from_bool s → k ≡ min (n + (h' + r' + t' + s')) (2 ^ 64 - 1) → IsCount w (tried_at w place) k
count-switch w place h r t s n h' r' t' s' k hears replies takes sends e l a b c d f =
    count-both w (heard ∷ []) (reply ∷ (applies ++ take_ ∷ send ∷ [])) (from_bool h) (min (from_bool r + min (n + (from_bool t + from_bool s)) (2 ^ 64 - 1)) (2 ^ 64 - 1)) k (count-one w heard h hears)
    (count-both w (reply ∷ []) (applies ++ take_ ∷ send ∷ []) (from_bool r) (min (n + (from_bool t + from_bool s)) (2 ^ 64 - 1)) _ (count-one w reply r replies)
    (count-both w applies (take_ ∷ send ∷ []) n (from_bool t + from_bool s) _ (count-pending w place n e l)
    (count-sum w (take_ ∷ []) (send ∷ []) (from_bool t) (from_bool s) (count-one w take_ t takes) (count-one w send s sends) (let x = bit-small t in let y = bit-small s in omega (arith, x, y))) refl) refl) (omega (arith, a, b, c, d, f))
  where
    heard : Event
    heard = event.Controller (of_controller.Heard place)

    reply : Event
    reply = event.Switch (of_switch.Reply place)

    applies : List Event
    applies = applies_from place 0 (pending w place)

    take_ : Event
    take_ = event.Switch (of_switch.Take place)

    send : Event
    send = event.Controller (of_controller.Send place)

-- ---- the others

pub count-arrival : (w : WorldValue) (lines : List PacketLine) (line : PacketLine) (b : Bool) → slice_get lines 0 ≡ Some line → (IsTrue b ↔ IsEnabled w (event.Packet (of_packet.Arrive line.packet line.tag))) → IsCount w (arrival lines) (from_bool b)
count-arrival w [] line b e h = absurd (let none : None ≡ Some line = e in cc)
count-arrival w (x ∷ lines) line b e h = subst (λ (l : PacketLine). IsCount w (event.Packet (of_packet.Arrive l.packet l.tag) ∷ []) (from_bool b)) (sym (some-is x line e)) (count-one w (event.Packet (of_packet.Arrive line.packet line.tag)) b h)

pub count-report : (w : WorldValue) (o : Option ℕ) (stamp : ℕ) (b : Bool) → o ≡ Some stamp → (IsTrue b ↔ IsEnabled w (event.Controller (of_controller.Drained stamp))) → IsCount w (report o) (from_bool b)
count-report w o stamp b e h = subst (λ (x : Option ℕ). IsCount w (report x) (from_bool b)) (sym e) (count-one w (event.Controller (of_controller.Drained stamp)) b h)

pub count-last : (w : WorldValue) (lines : List PacketLine) (a b d : Bool) (a' b' d' : ℕ) → IsCount w (arrival lines) (from_bool a) → (IsTrue b ↔ IsEnabled w (event.Controller of_controller.Begin)) → IsCount w (report (due w.fleet.control)) (from_bool d) →
    a' ≡ from_bool a → b' ≡ from_bool b → d' ≡ from_bool d → IsCount w (tried_last lines w) (a' + b' + d')
count-last w lines a b d a' b' d' arrives begins drains x y z =
    count-both w (arrival lines) (begin ∷ report (due w.fleet.control)) (from_bool a) (from_bool b + from_bool d) (a' + b' + d') arrives
    (count-sum w (begin ∷ []) (report (due w.fleet.control)) (from_bool b) (from_bool d) (count-one w begin b begins) drains (let k = bit-small b in let m = bit-small d in omega (arith, k, m)))
    (let j = bit-small a in let k = bit-small b in let m = bit-small d in omega (arith, j, k, m, x, y, z))
  where
    begin : Event
    begin = event.Controller of_controller.Begin

-- ---- one place more

hops-more : (k n : ℕ) → hops_from k (suc n) ≡ hops_from k n ++ event.Packet (of_packet.Hop (k + n)) ∷ []
hops-more k zero = ap (λ (j : ℕ). event.Packet (of_packet.Hop j) ∷ []) (omega arith)
hops-more k (suc n) = ap (λ (xs : List Event). event.Packet (of_packet.Hop k) ∷ xs) (hops-more (k + 1) n) ∙ ap (λ (j : ℕ). event.Packet (of_packet.Hop k) ∷ (hops_from (k + 1) n ++ event.Packet (of_packet.Hop j) ∷ [])) (omega arith)

hops-next : (n : ℕ) → hops_from 0 (n + 1) ≡ hops_from 0 n ++ event.Packet (of_packet.Hop n) ∷ []
hops-next n = ap (λ (k : ℕ). hops_from 0 k) (let e : n + 1 ≡ suc n = omega arith in e) ∙ hops-more 0 n ∙ ap (λ (k : ℕ). hops_from 0 n ++ event.Packet (of_packet.Hop k) ∷ []) (omega arith)

pub count-hop : (w : WorldValue) (n m k : ℕ) (b : Bool) → IsCount w (hops_from 0 n) m → m ≤ n → n < 2 ^ 64 - 1 → k ≡ from_bool b → (IsTrue b ↔ IsEnabled w (event.Packet (of_packet.Hop n))) → IsCount w (hops_from 0 (n + 1)) (m + k)
count-hop w n m k b c few l e h =
    subst (λ (cs : List Event). IsCount w cs (m + k)) (sym (hops-next n))
    (count-sum w (hops_from 0 n) (event.Packet (of_packet.Hop n) ∷ []) m k c (subst (λ (i : ℕ). IsCount w (event.Packet (of_packet.Hop n) ∷ []) i) (sym e) (count-one w (event.Packet (of_packet.Hop n)) b h)) (let x = bit-small b in omega (arith, few, l, e, x)))

-- ---- all switches

pub count-all : (w : WorldValue) (place : ℕ) (counts : List ℕ) → ((k n : ℕ) → slice_get counts k ≡ Some n → IsCount w (tried_at w (place + k)) n) → IsCount w (tried_from w place (length counts)) (sum_to_limit counts)
count-all w place [] each = count-none w
count-all w place (n ∷ counts) each =
    count-both w (tried_at w place) (tried_from w (place + 1) (length counts)) n (sum_to_limit counts) _ (subst (λ (s : ℕ). IsCount w (tried_at w s) n) (let e : place + 0 ≡ place = omega arith in e) (each 0 n refl))
    (count-all w (place + 1) counts (λ k m e. subst (λ (s : ℕ). IsCount w (tried_at w s) m) (let d : place + suc k ≡ place + 1 + k = omega arith in d) (each (suc k) m e))) (omega arith)

all-counts : (w : WorldValue) (counts : List ℕ) → AreCounts w counts → IsCount w (tried_from w 0 (length w.topology.switches)) (sum_to_limit counts)
all-counts w counts c =
    subst (λ (n : ℕ). IsCount w (tried_from w 0 n) (sum_to_limit counts)) c.all
    (count-all w 0 counts (λ k n e. subst (λ (s : ℕ). IsCount w (tried_at w s) n) (let d : k ≡ 0 + k = omega arith in d) (c.each k n e)))

pub total-counts : (w : WorldValue) (counts : List ℕ) (k : ℕ) → AreCounts w counts → k ≡ sum_to_limit counts → IsCount w (tried_from w 0 (length w.topology.switches)) k
total-counts w counts k c e = subst (λ (n : ℕ). IsCount w (tried_from w 0 (length w.topology.switches)) n) (sym e) (all-counts w counts c)

-- ---- all that is tried

abbrev pub others : List PacketLine → WorldValue → List Event
others lines w = hops_from 0 (length w.flights) ++ tried_last lines w

pub count-tried : (w : WorldValue) (lines : List PacketLine) (k h l m n : ℕ) → IsCount w (tried_from w 0 (length w.topology.switches)) k → IsCount w (hops_from 0 (length w.flights)) h → IsCount w (tried_last lines w) l →
    m ≡ min (h + l) (2 ^ 64 - 1) → n ≡ min (k + m) (2 ^ 64 - 1) → IsCount w (tried lines w) n
count-tried w lines k h l m n a b c d e = count-both w (tried_from w 0 (length w.topology.switches)) (others lines w) k m n a (count-both w (hops_from 0 (length w.flights)) (tried_last lines w) h l m b c d) e
