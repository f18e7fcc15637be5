-- The lines of events that reports print are read by the grammar of documents.
use Rattle.std.proofs.Common.{◌≡◌, ◌<◌, ◌≤◌, ◌^◌, inl, inr, ℕ, Bool, true, false, not, ◌&&◌, ◌||◌, ◌==◌, nat_le, cond, List, [], ◌∷◌, ◌++◌, length, codes, refl, sym, ◌∙◌, ap, subst, Option, Some, slice_get, Result, Ok, Err, arith}
use Rattle.std.proofs.lemmas.Bool.Decides.{Decides-eqb, nat_tests}
use Rattle.std.specs.Fmt.{decimal}
use Rattle.std.specs.List.{list_any}
use Rattle.event_words.specs.declared.word.EventWord.{EventWord}
use Rattle.event_words.specs.declared.word.EventWord.TheVariants as word
use Rattle.event_words.specs.Words.{text_of}
use Rattle.event_words.proofs.Reading.{read-again}
use Rattle.nk_values.specs.declared.text_fault.TextFault.{TextFault}
use Rattle.nk_values.specs.declared.text_fault.TextFault.TheVariants.{Limit, UnknownSwitch, ValueRange}
use Rattle.nk_values.specs.declared.field.Field.TheVariants.{Sw}
use Rattle.nk_values.specs.Members.{IsIn}
use Rattle.nk_values.specs.Ranges.{IsValue}
use Rattle.topology_model.specs.Layouts.{has_switch}
use Rattle.topology_model.specs.Wired.{IsTopology}
use Rattle.topology_model.specs.declared.line.DeclaredSwitch.{DeclaredSwitch}
use Rattle.update_laws.proofs.Wiring.{at-in}
use Rattle.world_core.specs.declared.event.Event.TheVariants as event
use Rattle.world_core.specs.declared.event.ControllerEvent.TheVariants as of_controller
use Rattle.world_core.specs.declared.event.PacketEvent.TheVariants as of_packet
use Rattle.world_core.specs.declared.event.SwitchEvent.TheVariants as of_switch
use Rattle.value_text.specs.Values.{line}
use Rattle.report_text.specs.Events.{number_text, number_at}
use Rattle.document_text.specs.declared.document.ScheduleStep.{ScheduleStep}
use Rattle.document_text.specs.declared.document.ScheduleStep.TheVariants as command
use Rattle.document_text.specs.declared.head.Head.{Head}
use Rattle.document_text.specs.declared.head.Head.TheVariants.{Unlisted}
use Rattle.document_text.specs.Packets.{is_value}
use Rattle.document_text.specs.Schedules.{formed, at_switch, event_of, event_of_one, event_of_two}
use Rattle.document_text.specs.States.{State}
use Rattle.document_text.specs.Steps.{Next, Stops, head_of, is_too_many, happens, scheduled, declares, step}
use Rattle.document_text.specs.Texts.{is_end, is_filled, words_of, numeral}
use Rattle.line_laws.proofs.Cut.{every}
use Rattle.report_laws.specs.Laws.{Names, PrintedIsRead}
use Rattle.report_laws.proofs.Wording.{in_word, two-words, three-words, numeral-decimal}

within : (m n : ℕ) → m ≤ n → nat_le m n ≡ true
within m n h = grind (arith, nat_tests)

beyond : (m n : ℕ) → n < m → nat_le m n ≡ false
beyond m n h = grind (arith, nat_tests)

-- the state with one more event
abbrev more : State → ℕ → ScheduleStep → State
more s n d = record s { events = s.events ++ record { line = n; event = d } ∷ [] }

-- the line with these words is read as this event
abbrev Reads : State → ℕ → List (List ℕ) → ScheduleStep → Type 0
Reads s n ws d = step s n ws ≡ Next (more s n d)

last-false : (a b : Bool) → (a && b && false) ≡ false
last-false true true = refl
last-false true false = refl
last-false false true = refl
last-false false false = refl

few : (s : State) (w : List ℕ) (ws : List (List ℕ)) → length s.events < 100000 → head_of w ≡ Unlisted → is_too_many s (head_of w) (w ∷ ws) ≡ false
few s w ws l h =
    ap (λ (x : Head). is_too_many s x (w ∷ ws)) h ∙ ap (λ (b : Bool). s.inside && not (is_end (w ∷ ws)) && b) (beyond 100000 (length s.events) l) ∙ last-false s.inside (not (is_end (w ∷ ws)))

-- a line of the schedule whose first word begins no line of another kind
reads : (s : State) (n : ℕ) (w : List ℕ) (ws : List (List ℕ)) (d : ScheduleStep) → s.inside ≡ true → length s.events < 100000 → head_of w ≡ Unlisted → is_end (w ∷ ws) ≡ false → event_of s (w ∷ ws) ≡ Ok d → Reads s n (w ∷ ws) d
reads s n w ws d i l h e o =
    ap (λ (b : Bool). cond b (Stops Limit) (cond s.inside (scheduled s n (w ∷ ws)) (declares s (head_of w) ws))) (few s w ws l h)
    ∙ ap (λ (b : Bool). cond b (scheduled s n (w ∷ ws)) (declares s (head_of w) ws)) i
    ∙ ap (λ (b : Bool). cond b (Next (record s { inside = false })) (happens s n (event_of s (w ∷ ws)))) e
    ∙ ap (λ (r : Result ScheduleStep TextFault). happens s n r) o

-- ---- a switch by its number

all-three : (a b : Bool) → a ≡ true → b ≡ true → (a && b && true) ≡ true
all-three true true p q = refl
all-three true false p q = q
all-three false b p q = p

any-in : {X : Type 0} (p : X → Bool) (xs : List X) (x : X) → IsIn xs x → p x ≡ true → list_any p xs ≡ true
any-in p [] x m e = absurd m
any-in p (y ∷ ys) x (inl d) e = here (p y) (ap p d ∙ e)
  where
    here : (b : Bool) → b ≡ true → (b || list_any p ys) ≡ true
    here true q = refl
    here false q = absurd (cc)
any-in p (y ∷ ys) x (inr m) e = there (p y) (any-in p ys x m e)
  where
    there : (b : Bool) → list_any p ys ≡ true → (b || list_any p ys) ≡ true
    there true q = refl
    there false q = q

value-ok : (n : ℕ) → IsValue Sw n → is_value Sw n ≡ true
value-ok n v = all-three (nat_le 1 n) (nat_le n 65535) (within 1 n v.low) (within n 65535 v.high)

at-switch : (s : State) (place : ℕ) (x : DeclaredSwitch) (d : ScheduleStep) → IsTopology s.layout → slice_get s.layout.switches place ≡ Some x → at_switch s x.sw d ≡ Ok d
at-switch s place x d k here =
    let m = at-in place s.layout.switches x here in
    let value : is_value Sw x.sw ≡ true = value-ok x.sw (k.sound.sites x m).switch in
    let known : has_switch s.layout.switches x.sw ≡ true = any-in (λ (y : DeclaredSwitch). y.sw == x.sw) s.layout.switches x m ((Decides-eqb x.sw x.sw).1 refl) in
    ap (λ (b : Bool). cond (not b) (Err ValueRange) (cond (not (has_switch s.layout.switches x.sw)) (Err UnknownSwitch) (Ok d))) value
    ∙ ap (λ (b : Bool). cond (not b) (Err UnknownSwitch) (Ok d)) known

small : (n : ℕ) → n ≤ 65535 → n ≤ 4294967295
small n h = omega (arith, h)

wide : (n : ℕ) → n ≤ 4294967295 → n < 2 ^ 64
wide n h = omega (arith, h)

sw-small : (s : State) (place : ℕ) (x : DeclaredSwitch) → IsTopology s.layout → slice_get s.layout.switches place ≡ Some x → x.sw ≤ 4294967295
sw-small s place x k here = small x.sw (k.sound.sites x (at-in place s.layout.switches x here)).switch.high

text-is : (s : State) (place : ℕ) (x : DeclaredSwitch) → slice_get s.layout.switches place ≡ Some x → number_at s.layout.switches place ≡ decimal x.sw
text-is s place x here = ap (λ (o : Option DeclaredSwitch). number_text o) here

-- ---- commands

module _ (s : State) (n : ℕ) (topology : IsTopology s.layout) (inside : s.inside ≡ true) (room : length s.events < 100000) where
  -- a command with one number
  numbered : (w : EventWord) (k : ℕ) (d : ScheduleStep) → k ≤ 4294967295 → every in_word (text_of w) ≡ true → is_filled (text_of w) ≡ true → head_of (text_of w) ≡ Unlisted → event_of_one s w k ≡ Ok d → Reads s n (words_of (line (text_of w ++ 32 ∷ decimal k))) d
  numbered w k d l plain some h o =
      ap (λ (ws : List (List ℕ)). step s n ws) (two-words (text_of w) k (wide k l) plain some)
      ∙ reads s n (text_of w) (decimal k ∷ []) d inside room h refl
      (ap (λ (x : Option EventWord). formed x (λ v. formed (numeral (decimal k)) (event_of_one s v))) (read-again w) ∙ ap (λ (m : Option ℕ). formed m (event_of_one s w)) (numeral-decimal k l) ∙ o)

  -- a command that names a switch
  named : (w : EventWord) (place : ℕ) (of : ℕ → ScheduleStep) (d : ScheduleStep) → Names s.layout.switches place of d → every in_word (text_of w) ≡ true → is_filled (text_of w) ≡ true → head_of (text_of w) ≡ Unlisted → ((m : ℕ) → event_of_one s w m ≡ at_switch s m (of m)) →
      Reads s n (words_of (line (text_of w ++ 32 ∷ number_at s.layout.switches place))) d
  named w place of d names plain some h go =
      ap (λ (ds : List ℕ). step s n (words_of (line (text_of w ++ 32 ∷ ds)))) (text-is s place names.0 names.1)
      ∙ subst (λ (c : ScheduleStep). Reads s n (words_of (line (text_of w ++ 32 ∷ decimal names.0.sw))) c) (sym names.2)
      (numbered w names.0.sw (of names.0.sw) (sw-small s place names.0 topology names.1) plain some h (go names.0.sw ∙ at-switch s place names.0 (of names.0.sw) topology names.1))

  applies : (place k : ℕ) (d : ScheduleStep) → k ≤ 4294967295 → Names s.layout.switches place (λ m. command.Apply m k) d → Reads s n (words_of (line (codes "apply" ++ 32 ∷ (number_at s.layout.switches place ++ 32 ∷ decimal k)))) d
  applies place k d l names =
      let sw : ℕ = names.0.sw in
      let low = sw-small s place names.0 topology names.1 in
      let index : nat_le k 4294967295 ≡ true = within k 4294967295 l in
      ap (λ (ds : List ℕ). step s n (words_of (line (codes "apply" ++ 32 ∷ (ds ++ 32 ∷ decimal k))))) (text-is s place names.0 names.1)
      ∙ ap (λ (ws : List (List ℕ)). step s n ws) (three-words (codes "apply") sw k (wide sw low) (wide k l) refl refl)
      ∙ subst (λ (c : ScheduleStep). Reads s n (codes "apply" ∷ decimal sw ∷ decimal k ∷ []) c) (sym names.2)
      (reads s n (codes "apply") (decimal sw ∷ decimal k ∷ []) (command.Apply sw k) inside room refl refl
      (ap (λ (x : Option EventWord). formed x (λ v. formed (numeral (decimal sw)) (λ i. formed (numeral (decimal k)) (event_of_two s v i)))) (read-again word.Apply)
      ∙ ap (λ (m : Option ℕ). formed m (λ i. formed (numeral (decimal k)) (event_of_two s word.Apply i))) (numeral-decimal sw low)
      ∙ ap (λ (m : Option ℕ). formed m (event_of_two s word.Apply sw)) (numeral-decimal k l)
      ∙ ap (λ (b : Bool). cond (not b) (Err ValueRange) (at_switch s sw (command.Apply sw k))) index
      ∙ at-switch s place names.0 (command.Apply sw k) topology names.1))

  index : (k : ℕ) (d : ScheduleStep) → k ≤ 4294967295 → cond (not (nat_le k 4294967295)) (Err ValueRange) (Ok d) ≡ Ok d
  index k d l = ap (λ (b : Bool). cond (not b) (Err ValueRange) (Ok d)) (within k 4294967295 l)

pub printed-is-read : PrintedIsRead
printed-is-read s n (event.Controller of_controller.Begin) d k i l p = subst (λ (c : ScheduleStep). Reads s n (codes "begin" ∷ []) c) (sym p) (reads s n (codes "begin") [] command.Begin i l refl refl refl)
printed-is-read s n (event.Controller (of_controller.Send place)) d k i l p = named s n k i l word.Send place command.Send d p refl refl refl (λ m. refl)
printed-is-read s n (event.Switch (of_switch.Take place)) d k i l p = named s n k i l word.Take place command.Take d p refl refl refl (λ m. refl)
printed-is-read s n (event.Switch (of_switch.Apply place m)) d k i l p = applies s n k i l place m d p.0 p.1
printed-is-read s n (event.Switch (of_switch.Reply place)) d k i l p = named s n k i l word.Reply place command.Reply d p refl refl refl (λ m. refl)
printed-is-read s n (event.Controller (of_controller.Heard place)) d k i l p = named s n k i l word.Heard place command.Heard d p refl refl refl (λ m. refl)
printed-is-read s n (event.Packet (of_packet.Arrive pk tag)) d k i l p = absurd p
printed-is-read s n (event.Packet (of_packet.Hop m)) d k i l p =
    subst (λ (c : ScheduleStep). Reads s n (words_of (line (codes "hop" ++ 32 ∷ decimal m))) c) (sym p.1) (numbered s n k i l word.Hop m (command.Hop m) p.0 refl refl refl (index s n k i l m (command.Hop m) p.0))
printed-is-read s n (event.Controller (of_controller.Drained stamp)) d k i l p =
    subst (λ (c : ScheduleStep). Reads s n (words_of (line (codes "drained" ++ 32 ∷ decimal stamp))) c) (sym p.1)
    (numbered s n k i l word.Drained stamp (command.Drained stamp) (id stamp p.0.1) refl refl refl (vlan stamp p.0))
  where
    id : (v : ℕ) → v ≤ 4094 → v ≤ 4294967295
    id v h = omega (arith, h)

    vlan : (v : ℕ) → (1 ≤ v) × (v ≤ 4094) → cond (not (nat_le 1 v && nat_le v 4094)) (Err ValueRange) (Ok (command.Drained v)) ≡ Ok (command.Drained v)
    vlan v h = ap (λ (b : Bool). cond (not (b && nat_le v 4094)) (Err ValueRange) (Ok (command.Drained v))) (within 1 v h.0) ∙ ap (λ (b : Bool). cond (not b) (Err ValueRange) (Ok (command.Drained v))) (within v 4094 h.1)
printed-is-read s n (event.Controller (of_controller.Lost place)) d k i l p = named s n k i l word.Lost place command.Lost d p refl refl refl (λ m. refl)
printed-is-read s n (event.Controller (of_controller.Rejoin place)) d k i l p = named s n k i l word.Rejoin place command.Rejoin d p refl refl refl (λ m. refl)
printed-is-read s n (event.Packet (of_packet.Stuck m)) d k i l p =
    subst (λ (c : ScheduleStep). Reads s n (words_of (line (codes "stuck" ++ 32 ∷ decimal m))) c) (sym p.1) (numbered s n k i l word.Stuck m (command.Stuck m) p.0 refl refl refl (index s n k i l m (command.Stuck m) p.0))
printed-is-read s n (event.Foreign place side got) d k i l p = absurd p
