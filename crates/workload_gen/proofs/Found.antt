-- The event with a number, of those that can happen.
use Rattle.std.proofs.Common.{◌≡◌, Bool, IsTrue, ◌↔◌, ℕ, zero, suc, ◌+◌, ◌-◌, ◌^◌, ◌<◌, ◌≤◌, inl, inr, List, [], ◌∷◌, ◌++◌, length, refl, sym, ◌∙◌, ap, subst, Option, None, Some, slice_get, get_or, take, arith}
use Rattle.std.specs.Int.{from_bool}
use Rattle.std.proofs.lemmas.List.{append_assoc}
use Rattle.std.proofs.lemmas.Option.{slice_get_past}
use Rattle.document_text.specs.declared.document.PacketLine.{PacketLine}
use Rattle.world_core.specs.declared.event.Event.{Event}
use Rattle.world_core.specs.declared.event.Event.TheVariants as event
use Rattle.world_core.specs.declared.event.ControllerEvent.TheVariants as of_controller
use Rattle.world_core.specs.declared.event.PacketEvent.TheVariants as of_packet
use Rattle.world_core.specs.declared.event.SwitchEvent.TheVariants as of_switch
use Rattle.world_core.specs.Settling.{hops_from}
use Rattle.world_core.specs.Steps.{IsEnabled}
use Rattle.world_core.specs.Worlds.{WorldValue}
use Rattle.workload_gen.specs.Draws.{applies_from, arrival, due, report, tried, tried_at, tried_from, tried_last}
use Rattle.workload_gen.specs.Counts.{AreCounts, Finds, IsCount, sum_of, sum_to_limit}
use Rattle.workload_gen.proofs.Counted.{count-all, count-one, count-pending, get-applies, others, pending, pending-can}
use Rattle.workload_gen.proofs.Enabled.{enabled-parts, enabled-same, get-left, get-right}

-- ---- the event with a number

pub finds-none : (w : WorldValue) (n : ℕ) → Finds w [] n None
finds-none w n es a = ap (λ (xs : List Event). slice_get xs n) (sym a)

pub finds-within : (w : WorldValue) (cs ds : List Event) (k n : ℕ) (o : Option Event) → IsCount w cs k → n < k → Finds w cs n o → Finds w (cs ++ ds) n o
finds-within w cs ds k n o c l f es a =
    let b = enabled-parts w cs ds es a in
    let m = c.count in
    let same = ap (λ (xs : List Event). length xs) (enabled-same w cs c.events b.left c.enabled b.ones) in
    f b.left b.ones ∙ sym (get-left b.left b.right n (omega (arith, l, m, same))) ∙ ap (λ (xs : List Event). slice_get xs n) (sym b.is)

pub finds-beyond : (w : WorldValue) (cs ds : List Event) (k n : ℕ) (o : Option Event) → IsCount w cs k → n < 2 ^ 64 - 1 → k ≤ n → Finds w ds (n - k) o → Finds w (cs ++ ds) n o
finds-beyond w cs ds k n o c small l f es a =
    let b = enabled-parts w cs ds es a in
    let m = c.count in
    let same = ap (λ (xs : List Event). length xs) (enabled-same w cs c.events b.left c.enabled b.ones) in
    f b.right b.others ∙ sym (get-right b.left b.right n (n - k) (omega (arith, l, m, small, same))) ∙ ap (λ (xs : List Event). slice_get xs n) (sym b.is)

pub finds-is : (w : WorldValue) (cs : List Event) (n : ℕ) (o p : Option Event) → p ≡ o → Finds w cs n o → Finds w cs n p
finds-is w cs n o p e f es a = e ∙ f es a

-- of one event at most
pub finds-only : (w : WorldValue) (cs : List Event) (k n : ℕ) → length cs ≤ 1 → IsCount w cs k → n < k → Finds w cs n (slice_get cs 0)
finds-only w [] k n few c l es a = absurd (let e = ap (λ (xs : List Event). length xs) c.enabled in let m = c.count in omega (arith, l, m, e))
finds-only w (c ∷ []) k n few h l es (inl a) = elim-first (a.2 ∙ ap (λ (xs : List Event). c ∷ xs) a.3)
  where
    one : es ≡ c ∷ [] → length h.events ≡ 1
    one e = ap (λ (xs : List Event). length xs) (enabled-same w (c ∷ []) h.events es h.enabled (inl a) ∙ e)

    elim-first : es ≡ c ∷ [] → Some c ≡ slice_get es n
    elim-first e = let m = h.count in let o = one e in let z : n ≡ 0 = omega (arith, l, m, o) in sym (ap (λ (i : ℕ). slice_get es i) z ∙ ap (λ (xs : List Event). slice_get xs 0) e)
finds-only w (c ∷ []) k n few h l es (inr a) = absurd (let none = ap (λ (xs : List Event). length xs) (enabled-same w (c ∷ []) h.events es h.enabled (inr a) ∙ a.1) in let m = h.count in omega (arith, l, m, none))
finds-only w (c ∷ d ∷ cs) k n few h l es a = absurd (omega (arith, few))

-- ---- one event

pub finds-first : (w : WorldValue) (c : Event) (cs : List Event) (b : Bool) (k n : ℕ) → k ≡ from_bool b → (IsTrue b ↔ IsEnabled w c) → n < k → Finds w (c ∷ cs) n (Some c)
finds-first w c cs b k n e h l =
    let one = count-one w c b h in
    let below : n < from_bool b = omega (arith, l, e) in
    finds-within w (c ∷ []) cs (from_bool b) n (Some c) one below (finds-only w (c ∷ []) (from_bool b) n (omega arith) one below)

pub finds-later : (w : WorldValue) (c : Event) (cs : List Event) (b : Bool) (k n : ℕ) (o : Option Event) → k ≡ from_bool b → (IsTrue b ↔ IsEnabled w c) → n < 2 ^ 64 - 1 → k ≤ n → Finds w cs (n - k) o → Finds w (c ∷ cs) n o
finds-later w c cs b k n o e h small l f = finds-beyond w (c ∷ []) cs k n o (subst (λ (i : ℕ). IsCount w (c ∷ []) i) (sym e) (count-one w c b h)) small l f

pub finds-pending : (w : WorldValue) (place n i : ℕ) → n ≡ pending w place → i < n → Finds w (applies_from place 0 (pending w place)) i (Some (event.Switch (of_switch.Apply place i)))
finds-pending w place n i e l es a =
    sym (get-applies place 0 (pending w place) i (omega (arith, l, e)) ∙ ap (λ (j : ℕ). Some (event.Switch (of_switch.Apply place j))) (omega arith))
    ∙ ap (λ (xs : List Event). slice_get xs i) (enabled-same w _ _ _ (pending-can w place) a)

few-arrivals : (lines : List PacketLine) → length (arrival lines) ≤ 1
few-arrivals [] = omega arith
few-arrivals (line ∷ lines) = omega arith

few-reports : (o : Option ℕ) → length (report o) ≤ 1
few-reports None = omega arith
few-reports (Some stamp) = omega arith

pub finds-arrival : (w : WorldValue) (lines : List PacketLine) (k n : ℕ) → IsCount w (arrival lines) k → n < k → Finds w (arrival lines) n (slice_get (arrival lines) 0)
finds-arrival w lines k n c l = finds-only w (arrival lines) k n (few-arrivals lines) c l

pub finds-report : (w : WorldValue) (o : Option ℕ) (k n : ℕ) → IsCount w (report o) k → n < k → Finds w (report o) n (slice_get (report o) 0)
finds-report w o k n c l = finds-only w (report o) k n (few-reports o) c l

-- past all that can happen there is none
pub finds-past : (w : WorldValue) (cs : List Event) (k n : ℕ) → IsCount w cs k → n < 2 ^ 64 - 1 → k ≤ n → Finds w cs n None
finds-past w cs k n c small l es a =
    let m = c.count in
    let same = ap (λ (xs : List Event). length xs) (enabled-same w cs c.events es c.enabled a) in
    sym (slice_get_past es n (omega (arith, small, l, m, same)))

-- the hops from a place on, of which there is one
hops-at : (place n : ℕ) → place < n → hops_from place (n - place) ≡ event.Packet (of_packet.Hop place) ∷ hops_from (place + 1) (n - (place + 1))
hops-at place n l = ap (λ (k : ℕ). hops_from place k) (let e : n - place ≡ suc (n - (place + 1)) = omega (arith, l) in e)

tried-from : (w : WorldValue) (place n : ℕ) → place < n → tried_from w place (n - place) ≡ tried_at w place ++ tried_from w (place + 1) (n - (place + 1))
tried-from w place n l = ap (λ (k : ℕ). tried_from w place k) (let e : n - place ≡ suc (n - (place + 1)) = omega (arith, l) in e)

-- what finds a number among the rest finds it among all
abbrev pub FindsAlong : WorldValue → List Event → ℕ → List Event → ℕ → Type 0
FindsAlong w rest k all n = (o : Option Event) → Finds w rest k o → Finds w all n o

pub along-hops : (w : WorldValue) (n number : ℕ) → FindsAlong w (hops_from 0 (n - 0)) number (hops_from 0 n) number
along-hops w n number o f = subst (λ (k : ℕ). Finds w (hops_from 0 k) number o) (let e : n - 0 ≡ n = omega arith in e) f

-- those from a place on, after so many
tried-split : (w : WorldValue) (s k n : ℕ) → tried_from w s (k + n) ≡ tried_from w s k ++ tried_from w (s + k) n
tried-split w s zero n = ap (λ (m : ℕ). tried_from w s m) (let e : 0 + n ≡ n = omega arith in e) ∙ ap (λ (m : ℕ). tried_from w m n) (let e : s ≡ s + 0 = omega arith in e)
tried-split w s (suc k) n =
    ap (λ (m : ℕ). tried_from w s m) (let e : suc k + n ≡ suc (k + n) = omega arith in e)
    ∙ ap (λ (cs : List Event). tried_at w s ++ cs) (tried-split w (s + 1) k n ∙ ap (λ (m : ℕ). tried_from w (s + 1) k ++ tried_from w m n) (let e : s + 1 + k ≡ s + suc k = omega arith in e))
    ∙ sym (append_assoc (tried_at w s) (tried_from w (s + 1) k) (tried_from w (s + suc k) n))

get-taken : (ns : List ℕ) (i k n : ℕ) → slice_get (take i ns) k ≡ Some n → slice_get ns k ≡ Some n
get-taken ns zero k n e = absurd (let none : None ≡ Some n = e in cc)
get-taken [] (suc i) k n e = e
get-taken (m ∷ ns) (suc i) zero n e = e
get-taken (m ∷ ns) (suc i) (suc k) n e = get-taken ns i k n e

length-taken : (ns : List ℕ) (i : ℕ) → i ≤ length ns → length (take i ns) ≡ i
length-taken ns zero l = refl
length-taken [] (suc i) l = absurd (omega (arith, l))
length-taken (m ∷ ns) (suc i) l = ap (λ (k : ℕ). suc k) (length-taken ns i (omega (arith, l)))

-- the first switches are skipped, with as many events as can happen there
pub along-skip : (w : WorldValue) (counts : List ℕ) (start left number : ℕ) → AreCounts w counts → start ≤ length counts → left + sum_of (take start counts) ≡ number → number < 2 ^ 64 - 1 →
    FindsAlong w (tried_from w start (length counts - start)) left (tried_from w 0 (length counts)) number
along-skip w counts start left number c l e small o f =
    let first = take start counts in
    let many = length-taken counts start l in
    let counted : IsCount w (tried_from w 0 start) (sum_to_limit first) =
    subst (λ (k : ℕ). IsCount w (tried_from w 0 k) (sum_to_limit first)) many
    (count-all w 0 first (λ k n at. subst (λ (s : ℕ). IsCount w (tried_at w s) n) (let d : k ≡ 0 + k = omega arith in d) (c.each k n (get-taken counts start k n at)))) in
    let rest = tried_from w start (length counts - start) in
    let whole : tried_from w 0 (length counts) ≡ tried_from w 0 start ++ rest =
    ap (λ (m : ℕ). tried_from w 0 m) (let d : length counts ≡ start + (length counts - start) = omega (arith, l) in d) ∙ tried-split w 0 start (length counts - start)
    ∙ ap (λ (m : ℕ). tried_from w 0 start ++ tried_from w m (length counts - start)) (let d : 0 + start ≡ start = omega arith in d) in
    let same : left ≡ number - sum_to_limit first = omega (arith, e, small) in
    subst (λ (cs : List Event). Finds w cs number o) (sym whole)
    (finds-beyond w (tried_from w 0 start) rest (sum_to_limit first) number o counted small (omega (arith, e, small)) (subst (λ (m : ℕ). Finds w rest m o) same f))

pub past-hop : (w : WorldValue) (place n k number : ℕ) (b : Bool) (all : List Event) (first : ℕ) → FindsAlong w (hops_from place (n - place)) number all first → place < n → k ≡ from_bool b → (IsTrue b ↔ IsEnabled w (event.Packet (of_packet.Hop place))) →
    number < 2 ^ 64 - 1 → k ≤ number → FindsAlong w (hops_from (place + 1) (n - (place + 1))) (number - k) all first
past-hop w place n k number b all first along l e h small past o f =
    along o (subst (λ (cs : List Event). Finds w cs number o) (sym (hops-at place n l)) (finds-later w (event.Packet (of_packet.Hop place)) (hops_from (place + 1) (n - (place + 1))) b k number o e h small past f))

pub at-hop : (w : WorldValue) (place n k number : ℕ) (b : Bool) (all : List Event) (first : ℕ) → FindsAlong w (hops_from place (n - place)) number all first → place < n → k ≡ from_bool b → (IsTrue b ↔ IsEnabled w (event.Packet (of_packet.Hop place))) →
    number < k → Finds w all first (Some (event.Packet (of_packet.Hop place)))
at-hop w place n k number b all first along l e h within =
    along _ (subst (λ (cs : List Event). Finds w cs number (Some (event.Packet (of_packet.Hop place)))) (sym (hops-at place n l)) (finds-first w (event.Packet (of_packet.Hop place)) (hops_from (place + 1) (n - (place + 1))) b k number e h within))

pub past-switch : (w : WorldValue) (place n k number : ℕ) (all : List Event) (first : ℕ) → FindsAlong w (tried_from w place (n - place)) number all first → place < n → IsCount w (tried_at w place) k → number < 2 ^ 64 - 1 → k ≤ number →
    FindsAlong w (tried_from w (place + 1) (n - (place + 1))) (number - k) all first
past-switch w place n k number all first along l c small past o f =
    along o (subst (λ (cs : List Event). Finds w cs number o) (sym (tried-from w place n l)) (finds-beyond w (tried_at w place) (tried_from w (place + 1) (n - (place + 1))) k number o c small past f))

pub at-switch : (w : WorldValue) (place n k number : ℕ) (all : List Event) (first : ℕ) (o : Option Event) → FindsAlong w (tried_from w place (n - place)) number all first → place < n → IsCount w (tried_at w place) k → number < k → Finds w (tried_at w place) number o →
    Finds w all first o
at-switch w place n k number all first o along l c within f =
    along o (subst (λ (cs : List Event). Finds w cs number o) (sym (tried-from w place n l)) (finds-within w (tried_at w place) (tried_from w (place + 1) (n - (place + 1))) k number o c within f))

pub over-hops : (w : WorldValue) (place n number : ℕ) (all : List Event) (first : ℕ) → FindsAlong w (hops_from place (n - place)) number all first → n ≤ place → Finds w all first None
over-hops w place n number all first along l = along None (subst (λ (k : ℕ). Finds w (hops_from place k) number None) (let e : 0 ≡ n - place = omega (arith, l) in e) (finds-none w number))

pub over-tried : (w : WorldValue) (place n number : ℕ) (all : List Event) (first : ℕ) → FindsAlong w (tried_from w place (n - place)) number all first → n ≤ place → Finds w all first None
over-tried w place n number all first along l = along None (subst (λ (k : ℕ). Finds w (tried_from w place k) number None) (let e : 0 ≡ n - place = omega (arith, l) in e) (finds-none w number))

-- ---- a switch

abbrev heard : ℕ → Event
heard place = event.Controller (of_controller.Heard place)

abbrev reply : ℕ → Event
reply place = event.Switch (of_switch.Reply place)

abbrev taken : ℕ → Event
taken place = event.Switch (of_switch.Take place)

abbrev sent : ℕ → Event
sent place = event.Controller (of_controller.Send place)

abbrev on_channels : ℕ → List Event
on_channels place = taken place ∷ sent place ∷ []

abbrev after_reply : WorldValue → ℕ → List Event
after_reply w place = applies_from place 0 (pending w place) ++ on_channels place

pub at-heard : (w : WorldValue) (place : ℕ) (h : Bool) (h' n : ℕ) → (IsTrue h ↔ IsEnabled w (heard place)) → h' ≡ from_bool h → n < h' → Finds w (tried_at w place) n (Some (heard place))
at-heard w place h h' n hears a l = finds-first w (heard place) (reply place ∷ after_reply w place) h h' n a hears l

-- what is known of the first two events at a switch, and that neither has the number
pub record ArePast (w : WorldValue) (place h' r' n : ℕ) : Type 0 where
  pub hears : IsCount w (heard place ∷ []) h'
  pub replies : IsCount w (reply place ∷ []) r'
  pub small : n < 2 ^ 64 - 1
  pub past : h' ≤ n
  pub past_both : r' ≤ n - h'

pub at-reply : (w : WorldValue) (place : ℕ) (h r : Bool) (h' r' n : ℕ) → (IsTrue h ↔ IsEnabled w (heard place)) → (IsTrue r ↔ IsEnabled w (reply place)) → h' ≡ from_bool h → r' ≡ from_bool r →
    n < 2 ^ 64 - 1 → h' ≤ n → n - h' < r' → Finds w (tried_at w place) n (Some (reply place))
at-reply w place h r h' r' n hears replies a b small k l =
    finds-later w (heard place) (reply place ∷ after_reply w place) h h' n (Some (reply place)) a hears small k (finds-first w (reply place) (after_reply w place) r r' (n - h') b replies l)

past-reply : (w : WorldValue) (place h' r' n : ℕ) (o : Option Event) → ArePast w place h' r' n → Finds w (after_reply w place) (n - h' - r') o → Finds w (tried_at w place) n o
past-reply w place h' r' n o p f =
    let small = p.small in
    finds-beyond w (heard place ∷ []) (reply place ∷ after_reply w place) h' n o p.hears small p.past
    (finds-beyond w (reply place ∷ []) (after_reply w place) r' (n - h') o p.replies (omega (arith, small)) p.past_both f)

pub at-pending : (w : WorldValue) (place h' r' m n : ℕ) → ArePast w place h' r' n → m ≡ pending w place → m < 2 ^ 64 → n - h' - r' < m → Finds w (tried_at w place) n (Some (event.Switch (of_switch.Apply place (n - h' - r'))))
at-pending w place h' r' m n p e fits within =
    let k = n - h' - r' in
    let found = Some (event.Switch (of_switch.Apply place k)) in
    past-reply w place h' r' n found p
    (finds-within w (applies_from place 0 (pending w place)) (on_channels place) m k found (count-pending w place m e fits) within (finds-pending w place m k e within))

pub past-pending : (w : WorldValue) (place h' r' m n : ℕ) (o : Option Event) → ArePast w place h' r' n → m ≡ pending w place → m < 2 ^ 64 → m ≤ n - h' - r' → Finds w (on_channels place) (n - h' - r' - m) o → Finds w (tried_at w place) n o
past-pending w place h' r' m n o p e fits past f =
    let small = p.small in
    past-reply w place h' r' n o p (finds-beyond w (applies_from place 0 (pending w place)) (on_channels place) m (n - h' - r') o (count-pending w place m e fits) (omega (arith, small)) past f)

pub at-take : (w : WorldValue) (place : ℕ) (t : Bool) (t' n : ℕ) → (IsTrue t ↔ IsEnabled w (taken place)) → t' ≡ from_bool t → n < t' → Finds w (on_channels place) n (Some (taken place))
at-take w place t t' n takes a l = finds-first w (taken place) (sent place ∷ []) t t' n a takes l

pub at-send : (w : WorldValue) (place : ℕ) (t s : Bool) (t' s' n : ℕ) → (IsTrue t ↔ IsEnabled w (taken place)) → (IsTrue s ↔ IsEnabled w (sent place)) → t' ≡ from_bool t → s' ≡ from_bool s → n < 2 ^ 64 - 1 → t' ≤ n → n - t' < s' →
    Finds w (on_channels place) n (Some (sent place))
at-send w place t s t' s' n takes sends a b small k l =
    finds-later w (taken place) (sent place ∷ []) t t' n (Some (sent place)) a takes small k (finds-first w (sent place) [] s s' (n - t') b sends l)

pub past-send : (w : WorldValue) (place : ℕ) (t s : Bool) (t' s' n : ℕ) → (IsTrue t ↔ IsEnabled w (taken place)) → (IsTrue s ↔ IsEnabled w (sent place)) → t' ≡ from_bool t → s' ≡ from_bool s → n < 2 ^ 64 - 1 → t' ≤ n → s' ≤ n - t' →
    Finds w (on_channels place) n None
past-send w place t s t' s' n takes sends a b small k l =
    finds-later w (taken place) (sent place ∷ []) t t' n None a takes small k
    (finds-later w (sent place) [] s s' (n - t') None b sends (omega (arith, small)) l (finds-none w (n - t' - s')))

-- ---- the others

-- the list after an arrival
abbrev after_arrival : WorldValue → List Event
after_arrival w = (event.Controller of_controller.Begin) ∷ report (due w.fleet.control)

pub at-report : (w : WorldValue) (lines : List PacketLine) (b : Bool) (a b' d n : ℕ) → IsCount w (arrival lines) a → (IsTrue b ↔ IsEnabled w (event.Controller of_controller.Begin)) → b' ≡ from_bool b → IsCount w (report (due w.fleet.control)) d →
    n < 2 ^ 64 - 1 → a ≤ n → b' ≤ n - a → n - a - b' < d → Finds w (tried_last lines w) n (slice_get (report (due w.fleet.control)) 0)
at-report w lines b a b' d n arrives begins e drains small l k within =
    let found = slice_get (report (due w.fleet.control)) 0 in
    finds-beyond w (arrival lines) (after_arrival w) a n found arrives small l
    (finds-later w (event.Controller of_controller.Begin) (report (due w.fleet.control)) b b' (n - a) found e begins (omega (arith, small)) k (finds-report w (due w.fleet.control) d (n - a - b') drains within))

pub past-last : (w : WorldValue) (lines : List PacketLine) (b : Bool) (a b' d n : ℕ) → IsCount w (arrival lines) a → (IsTrue b ↔ IsEnabled w (event.Controller of_controller.Begin)) → b' ≡ from_bool b → IsCount w (report (due w.fleet.control)) d →
    n < 2 ^ 64 - 1 → a ≤ n → b' ≤ n - a → d ≤ n - a - b' → Finds w (tried_last lines w) n None
past-last w lines b a b' d n arrives begins e drains small l k past =
    finds-beyond w (arrival lines) (after_arrival w) a n None arrives small l
    (finds-later w (event.Controller of_controller.Begin) (report (due w.fleet.control)) b b' (n - a) None e begins (omega (arith, small)) k (finds-past w (report (due w.fleet.control)) d (n - a - b') drains (omega (arith, small)) past))

-- ---- all that is tried

pub at-switches : (w : WorldValue) (lines : List PacketLine) (k n : ℕ) (o : Option Event) → IsCount w (tried_from w 0 (length w.topology.switches)) k → n < k → Finds w (tried_from w 0 (length w.topology.switches)) n o → Finds w (tried lines w) n o
at-switches w lines k n o c l f = finds-within w (tried_from w 0 (length w.topology.switches)) (others lines w) k n o c l f

pub at-hops : (w : WorldValue) (lines : List PacketLine) (k h n : ℕ) (o : Option Event) → IsCount w (tried_from w 0 (length w.topology.switches)) k → IsCount w (hops_from 0 (length w.flights)) h → n < 2 ^ 64 - 1 → k ≤ n → n - k < h →
    Finds w (hops_from 0 (length w.flights)) (n - k) o → Finds w (tried lines w) n o
at-hops w lines k h n o c d small past l f =
    finds-beyond w (tried_from w 0 (length w.topology.switches)) (others lines w) k n o c small past (finds-within w (hops_from 0 (length w.flights)) (tried_last lines w) h (n - k) o d l f)

pub at-last : (w : WorldValue) (lines : List PacketLine) (k h n : ℕ) (o : Option Event) → IsCount w (tried_from w 0 (length w.topology.switches)) k → IsCount w (hops_from 0 (length w.flights)) h → n < 2 ^ 64 - 1 → k ≤ n → h ≤ n - k →
    Finds w (tried_last lines w) (n - k - h) o → Finds w (tried lines w) n o
at-last w lines k h n o c d small past beyond f =
    finds-beyond w (tried_from w 0 (length w.topology.switches)) (others lines w) k n o c small past (finds-beyond w (hops_from 0 (length w.flights)) (tried_last lines w) h (n - k) o d (omega (arith, small)) beyond f)

pub finds-all : (w : WorldValue) (counts : List ℕ) (n : ℕ) (o : Option Event) → AreCounts w counts → Finds w (tried_from w 0 (length counts)) n o → Finds w (tried_from w 0 (length w.topology.switches)) n o
finds-all w counts n o c f = subst (λ (k : ℕ). Finds w (tried_from w 0 k) n o) c.all f

pub get-at : (ns : List ℕ) (i : ℕ) → i < length ns → slice_get ns i ≡ Some (get_or ns i 0)
get-at [] i l = absurd (omega (arith, l))
get-at (n ∷ ns) zero l = refl
get-at (n ∷ ns) (suc i) l = get-at ns i (omega (arith, l))
