-- Sessions, one after the other.
use Rattle.std.proofs.Common.{◌≡◌, ◌⊎◌, inl, inr, ℕ, zero, suc, ◌+◌, ◌==◌, Bool, true, false, List, [], ◌∷◌, ◌++◌, length, replicate, Option, None, Some, slice_get, slice_set, cond, Result, Ok, Err, OnOk, OnErr, refl, sym, ap, subst, ◌∙◌, arith, length-append}
use Rattle.std.specs.Prelude.{if◌then◌else◌}
use Rattle.std.specs.List.{filter}
use Rattle.std.proofs.lemmas.List.{length-set, length-replicate}
use Rattle.std.proofs.lemmas.List.Elements.{filter-append}
use Rattle.std.proofs.lemmas.Bool.Decides.{nat_tests}
use Rattle.update_coordinator.specs.declared.cause.Side.{Side}
use Rattle.world_core.specs.declared.event.Event.{Event}
use Rattle.world_core.specs.declared.event.Event.TheVariants as event
use Rattle.world_core.specs.declared.event.ControllerEvent.TheVariants as of_controller
use Rattle.world_core.specs.declared.event.PacketEvent.TheVariants as of_packet
use Rattle.world_core.specs.declared.event.SwitchEvent.TheVariants as of_switch
use Rattle.world_journal.specs.declared.entry.Entry.{Entry}
use Rattle.world_journal.specs.Journals.{HeldValue, MetBy, entry, events_of, is_return, is_told, session, since, told}
use Rattle.world_journal.specs.Arriving.{is_arrival}
use Rattle.world_journal.specs.Makers.{is_rejoin}
use Rattle.world_journal.specs.Runs.{AreNumbers, AreOut, HasSessions, IsNewEnd}
use Rattle.world_journal.proofs.Growing.{events-more}

some-is : {X : Type 0} (x y : X) → Some x ≡ Some y → x ≡ y
some-is x y e = cc

-- an element of a list with another at one place
pub get-set : {X : Type 0} (xs : List X) (i : ℕ) (v : X) (j : ℕ) (y : X) → slice_get (slice_set xs i v) j ≡ Some y → ((i ≡ j) × (v ≡ y)) ⊎ (slice_get xs j ≡ Some y)
get-set [] i v j y h = inr h
get-set (x ∷ xs) zero v zero y h = inl (refl, some-is v y h)
get-set (x ∷ xs) zero v (suc j) y h = inr h
get-set (x ∷ xs) (suc i) v zero y h = inr h
get-set (x ∷ xs) (suc i) v (suc j) y h = later (get-set xs i v j y h)
  where
    later : ((i ≡ j) × (v ≡ y)) ⊎ (slice_get xs j ≡ Some y) → ((suc i ≡ suc j) × (v ≡ y)) ⊎ (slice_get xs j ≡ Some y)
    later (inl e) = inl (ap suc e.0, e.1)
    later (inr h) = inr h

get-same : {X : Type 0} (xs : List X) (i : ℕ) (x y : X) → slice_get xs i ≡ Some x → slice_get xs i ≡ Some y → x ≡ y
get-same xs i x y a b = some-is x y (sym a ∙ b)

pub get-replicate : {X : Type 0} (n i : ℕ) (x y : X) → slice_get (replicate n x) i ≡ Some y → x ≡ y
get-replicate zero i x y h = cc
get-replicate (suc n) zero x y h = some-is x y h
get-replicate (suc n) (suc i) x y h = get-replicate n i x y h

-- ---- one event more

pub no-return : (s : ℕ) (e : Event) → is_rejoin e ≡ false → is_return s e ≡ false
no-return s (event.Controller of_controller.Begin) f = refl
no-return s (event.Controller (of_controller.Send t)) f = refl
no-return s (event.Switch (of_switch.Take t)) f = refl
no-return s (event.Switch (of_switch.Apply t k)) f = refl
no-return s (event.Switch (of_switch.Reply t)) f = refl
no-return s (event.Controller (of_controller.Heard t)) f = refl
no-return s (event.Packet (of_packet.Arrive pk tag)) f = refl
no-return s (event.Packet (of_packet.Hop k)) f = refl
no-return s (event.Controller (of_controller.Drained stamp)) f = refl
no-return s (event.Controller (of_controller.Lost t)) f = refl
no-return s (event.Controller (of_controller.Rejoin t)) f = cc
no-return s (event.Packet (of_packet.Stuck k)) f = refl
no-return s (event.Foreign t side got) f = refl

session-more : (s : ℕ) (es : List Event) (e : Event) → session s (es ++ e ∷ []) ≡ session s es + session s (e ∷ [])
session-more s es e = ap length (filter-append (is_return s) es (e ∷ [])) ∙ length-append (filter (is_return s) es) (filter (is_return s) (e ∷ []))

session-one : (s : ℕ) (e : Event) (b : Bool) → is_return s e ≡ b → (b ≡ false) → session s (e ∷ []) ≡ 0
session-one s e true is f = cc
session-one s e false is f = rw is refl

pub session-same : (s : ℕ) (es : List Event) (e : Event) → is_return s e ≡ false → session s (es ++ e ∷ []) ≡ session s es
session-same s es e stays = let one : session s (e ∷ []) ≡ 0 = session-one s e false stays refl in omega (arith, session-more s es e, one)

pub session-next : (s : ℕ) (es : List Event) (e : Event) → is_return s e ≡ true → session s (es ++ e ∷ []) ≡ session s es + 1
session-next s es e goes = let one : session s (e ∷ []) ≡ 1 = rw goes refl in omega (arith, session-more s es e, one)

-- ---- what was told in the present session

if-true : {X : Type 0} (b : Bool) (x y : X) → b ≡ true → cond b x y ≡ x
if-true true x y e = refl
if-true false x y e = cc

if-false : {X : Type 0} (b : Bool) (x y : X) → b ≡ false → cond b x y ≡ y
if-false true x y e = cc
if-false false x y e = refl

some-first : (n : ℕ) → (n + 1 == 0) ≡ false
some-first n = grind (arith, nat_tests)

since-step : (s : ℕ) (x : Event) (es : List Event) (e : Event) (b c : Bool) → (session s es == 0) ≡ b → is_return s x ≡ c → is_return s e ≡ false → since s (es ++ e ∷ []) ≡ since s es ++ e ∷ [] → since s (x ∷ es ++ e ∷ []) ≡ since s (x ∷ es) ++ e ∷ []
since-step s x es e true true bs cs stays same = rw (session-same s es e stays, bs, cs) refl
since-step s x es e true false bs cs stays same = rw (session-same s es e stays, bs, cs) refl
since-step s x es e false true bs cs stays same = rw (session-same s es e stays, bs) same
since-step s x es e false false bs cs stays same = rw (session-same s es e stays, bs) same

since-more : (s : ℕ) (es : List Event) (e : Event) → is_return s e ≡ false → since s (es ++ e ∷ []) ≡ since s es ++ e ∷ []
since-more s [] e stays = rw stays refl
since-more s (x ∷ es) e stays = since-step s x es e (session s es == 0) (is_return s x) refl refl stays (since-more s es e stays)

since-return : (s : ℕ) (es : List Event) (e : Event) → is_return s e ≡ true → since s (es ++ e ∷ []) ≡ []
since-return s [] e goes = rw goes refl
since-return s (x ∷ es) e goes =
    let some : (session s (es ++ e ∷ []) == 0) ≡ false = ap (λ n. n == 0) (session-next s es e goes) ∙ some-first (session s es) in
    rw some (since-return s es e goes)

told-more : (s : ℕ) (side : Side) (es : List Event) (e : Event) (b : Bool) → is_told s side e ≡ b → is_return s e ≡ false → told s side (es ++ e ∷ []) ≡ cond b (told s side es + 1) (told s side es)
told-more s side es e true is stays =
    ap (λ xs. length (filter (is_told s side) xs)) (since-more s es e stays) ∙ ap length (filter-append (is_told s side) (since s es) (e ∷ [])) ∙ length-append (filter (is_told s side) (since s es)) (filter (is_told s side) (e ∷ []))
    ∙ rw is refl
told-more s side es e false is stays =
    ap (λ xs. length (filter (is_told s side) xs)) (since-more s es e stays) ∙ ap length (filter-append (is_told s side) (since s es) (e ∷ [])) ∙ length-append (filter (is_told s side) (since s es)) (filter (is_told s side) (e ∷ []))
    ∙ rw is (omega arith)

-- how many were told once one event more was, if so many were before it
abbrev pub told_on : ℕ → Side → Event → ℕ → ℕ
told_on s side e count = if is_return s e then 0 else (if is_told s side e then count + 1 else count)

told-by : (s : ℕ) (side : Side) (es : List Event) (e : Event) (b : Bool) → is_return s e ≡ b → told s side (es ++ e ∷ []) ≡ told_on s side e (told s side es)
told-by s side es e true is = ap (λ xs. length (filter (is_told s side) xs)) (since-return s es e is) ∙ rw is refl
told-by s side es e false is = told-more s side es e (is_told s side e) refl is ∙ rw is refl

pub told-last : (s : ℕ) (side : Side) (es : List Event) (e : Event) → told s side (es ++ e ∷ []) ≡ told_on s side e (told s side es)
told-last s side es e = told-by s side es e (is_return s e) refl

-- ---- the numbers of sessions, and the ends that are laid out

numbers-same : (numbers : List ℕ) (journal : List Entry) (w : ℕ) (e : Event) → is_rejoin e ≡ false → AreNumbers numbers journal → AreNumbers numbers (journal ++ entry w e ∷ [])
numbers-same numbers journal w e stays h = λ s number at. h s number at ∙ sym (ap (session s) (events-more journal (entry w e)) ∙ session-same s (events_of journal) e (no-return s e stays))

returns-here : (s : ℕ) → is_return s (event.Controller (of_controller.Rejoin s)) ≡ true
returns-here s = grind (arith, nat_tests)

-- what was put there
pub set-get : {X : Type 0} (xs : List X) (i : ℕ) (x v : X) → slice_get xs i ≡ Some x → slice_get (slice_set xs i v) i ≡ Some v
set-get [] i x v h = cc
set-get (y ∷ ys) zero x v h = refl
set-get (y ∷ ys) (suc i) x v h = set-get ys i x v h

next-number : (journal : List Entry) (w s : ℕ) → session s (events_of (journal ++ entry w (event.Controller (of_controller.Rejoin s)) ∷ [])) ≡ session s (events_of journal) + 1
next-number journal w s = ap (session s) (events-more journal (entry w (event.Controller (of_controller.Rejoin s)))) ∙ session-next s (events_of journal) (event.Controller (of_controller.Rejoin s)) (returns-here s)

same-number : (journal : List Entry) (w s t : ℕ) → is_return t (event.Controller (of_controller.Rejoin s)) ≡ false → session t (events_of (journal ++ entry w (event.Controller (of_controller.Rejoin s)) ∷ [])) ≡ session t (events_of journal)
same-number journal w s t stays = ap (session t) (events-more journal (entry w (event.Controller (of_controller.Rejoin s)))) ∙ session-same t (events_of journal) (event.Controller (of_controller.Rejoin s)) stays

numbers-other : (numbers : List ℕ) (journal : List Entry) (w s next t k : ℕ) → AreNumbers numbers journal → (s == t) ≡ false → ((s ≡ t) × (next ≡ k)) ⊎ (slice_get numbers t ≡ Some k) → k ≡ session t (events_of (journal ++ entry w (event.Controller (of_controller.Rejoin s)) ∷ []))
numbers-other numbers journal w s next t k h stays (inl e) = absurd (grind (arith, nat_tests))
numbers-other numbers journal w s next t k h stays (inr at) = h t k at ∙ sym (same-number journal w s t stays)

numbers-case : (numbers : List ℕ) (journal : List Entry) (w s number next t k : ℕ) → AreNumbers numbers journal → slice_get numbers s ≡ Some number → next ≡ number + 1 → slice_get (slice_set numbers s next) t ≡ Some k → (b : Bool) → (s == t) ≡ b
    → k ≡ session t (events_of (journal ++ entry w (event.Controller (of_controller.Rejoin s)) ∷ []))
numbers-case numbers journal w s number next t k h at more now true is =
    let same : s ≡ t = grind (arith, nat_tests) in
    let mine : next ≡ k = some-is next k (sym (set-get numbers s number next at) ∙ subst (λ x. slice_get (slice_set numbers s next) x ≡ Some k) (sym same) now) in
    subst (λ x. k ≡ session x (events_of (journal ++ entry w (event.Controller (of_controller.Rejoin s)) ∷ []))) same (sym mine ∙ more ∙ ap (λ n. n + 1) (h s number at) ∙ sym (next-number journal w s))
numbers-case numbers journal w s number next t k h at more now false is = numbers-other numbers journal w s next t k h is (get-set numbers s next t k now)

numbers-next : (numbers : List ℕ) (journal : List Entry) (w s number next : ℕ) → AreNumbers numbers journal → slice_get numbers s ≡ Some number → next ≡ number + 1 → AreNumbers (slice_set numbers s next) (journal ++ entry w (event.Controller (of_controller.Rejoin s)) ∷ [])
numbers-next numbers journal w s number next h at more = λ t k now. numbers-case numbers journal w s number next t k h at more now (s == t) refl

out-case : {E : Type 0} (n : ℕ) (named : E → ℕ) (received : E → Option (List ℕ)) (ends : List (Option E)) (s : ℕ) (v : Option E) (t : ℕ) (e : E) → AreOut n named received ends → ((x : E) → v ≡ Some x → IsNewEnd n named received s x) → ((s ≡ t) × (v ≡ Some e)) ⊎ (slice_get ends t ≡ Some (Some e)) → IsNewEnd n named received t e
out-case n named received ends s v t e h new (inl i) = subst (λ x. IsNewEnd n named received x e) i.0 (new e i.1)
out-case n named received ends s v t e h new (inr at) = h t e at

-- another end is laid out there, or none
pub out-set : {E : Type 0} (n : ℕ) (named : E → ℕ) (received : E → Option (List ℕ)) (ends : List (Option E)) (s : ℕ) (v : Option E) → AreOut n named received ends → ((x : E) → v ≡ Some x → IsNewEnd n named received s x) → AreOut n named received (slice_set ends s v)
out-set n named received ends s v h new = λ t e at. out-case n named received ends s v t e h new (get-set ends s v t (Some e) at)

none-new : {E : Type 0} (n : ℕ) (named : E → ℕ) (received : E → Option (List ℕ)) (s : ℕ) (x : E) → None ≡ Some x → IsNewEnd n named received s x
none-new n named received s x e = cc

one-new : {E : Type 0} (n : ℕ) (named : E → ℕ) (received : E → Option (List ℕ)) (s : ℕ) (e x : E) → IsNewEnd n named received s e → Some e ≡ Some x → IsNewEnd n named received s x
one-new n named received s e x new is = subst (λ y. IsNewEnd n named received s y) (some-is e x is) new

pub out-none : {E : Type 0} (n : ℕ) (named : E → ℕ) (received : E → Option (List ℕ)) (ends : List (Option E)) (s : ℕ) → AreOut n named received ends → AreOut n named received (slice_set ends s None)
out-none n named received ends s h = out-set n named received ends s None h (none-new n named received s)

none-out : {E : Type 0} (n count : ℕ) (named : E → ℕ) (received : E → Option (List ℕ)) (s : ℕ) (e : E) → slice_get (replicate count None) s ≡ Some (Some e) → IsNewEnd n named received s e
none-out n count named received s e at = none-new n named received s e (get-replicate count s None (Some e) at)

-- ---- what a run keeps of them

pub sessions-start : {E : Type 0} (n : ℕ) (named : E → ℕ) (received : E → Option (List ℕ)) (journal : List Entry) (numbers : List ℕ) (to_ends back_ends : List (Option E))
    → journal ≡ [] → numbers ≡ replicate n 0 → to_ends ≡ replicate n None → back_ends ≡ replicate n None → HasSessions n named received journal numbers to_ends back_ends
sessions-start n named received journal numbers to_ends back_ends none zeros to back = record {
  many = ap length zeros ∙ length-replicate n 0;
  numbered = λ s number at. sym (get-replicate n s 0 number (subst (λ xs. slice_get xs s ≡ Some number) zeros at)) ∙ ap (λ es. session s (events_of es)) (sym none);
  to_many = ap length to ∙ length-replicate n None;
  back_many = ap length back ∙ length-replicate n None;
  to_new = λ s e at. none-out n n named received s e (subst (λ xs. slice_get xs s ≡ Some (Some e)) to at);
  back_new = λ s e at. none-out n n named received s e (subst (λ xs. slice_get xs s ≡ Some (Some e)) back at);
}

-- a step by which no switch returns
pub sessions-step : {E : Type 0} (n : ℕ) (named : E → ℕ) (received : E → Option (List ℕ)) (journal now : List Entry) (numbers : List ℕ) (to_ends back_ends : List (Option E)) (w : ℕ) (e : Event)
    → HasSessions n named received journal numbers to_ends back_ends → now ≡ journal ++ entry w e ∷ [] → is_rejoin e ≡ false → HasSessions n named received now numbers to_ends back_ends
sessions-step n named received journal now numbers to_ends back_ends w e h is stays = record {
  many = h.many;
  numbered = subst (λ es. AreNumbers numbers es) (sym is) (numbers-same numbers journal w e stays h.numbered);
  to_many = h.to_many;
  back_many = h.back_many;
  to_new = h.to_new;
  back_new = h.back_new;
}

-- the same of a call that makes it or leaves all as it was
pub sessions-call : {E T F : Type 0} (n : ℕ) (named : E → ℕ) (received : E → Option (List ℕ)) (old new : HeldValue E) (numbers : List ℕ) (to_ends back_ends : List (Option E)) (w : ℕ) (e : Event) (Q : Type 0) (r : Result T F)
    → HasSessions n named received old.journal numbers to_ends back_ends → OnOk r (new.journal ≡ old.journal ++ entry w e ∷ []) → OnErr r ((new ≡ old) × Q) → is_rejoin e ≡ false → HasSessions n named received new.journal numbers to_ends back_ends
sessions-call n named received old new numbers to_ends back_ends w e Q (Ok x) h is same stays = sessions-step n named received old.journal new.journal numbers to_ends back_ends w e h is stays
sessions-call n named received old new numbers to_ends back_ends w e Q (Err x) h is same stays = subst (λ held. HasSessions n named received held.journal numbers to_ends back_ends) (sym same.0) h

-- switch s returned over a new pair
pub sessions-next : {E : Type 0} (n : ℕ) (named : E → ℕ) (received : E → Option (List ℕ)) (journal now : List Entry) (numbers : List ℕ) (to_ends back_ends : List (Option E)) (w s number next : ℕ) (here there : E)
    → HasSessions n named received journal numbers to_ends back_ends → now ≡ journal ++ entry w (event.Controller (of_controller.Rejoin s)) ∷ [] → slice_get numbers s ≡ Some number → next ≡ number + 1
    → IsNewEnd n named received s here → IsNewEnd n named received s there → HasSessions n named received now (slice_set numbers s next) (slice_set to_ends s (Some here)) (slice_set back_ends s (Some there))
sessions-next n named received journal now numbers to_ends back_ends w s number next here there h is at more to back = record {
  many = length-set numbers s next ∙ h.many;
  numbered = subst (λ es. AreNumbers (slice_set numbers s next) es) (sym is) (numbers-next numbers journal w s number next h.numbered at more);
  to_many = length-set to_ends s (Some here) ∙ h.to_many;
  back_many = length-set back_ends s (Some there) ∙ h.back_many;
  to_new = out-set n named received to_ends s (Some here) h.to_new (λ x e. one-new n named received s here x to e);
  back_new = out-set n named received back_ends s (Some there) h.back_new (λ x e. one-new n named received s there x back e);
}

-- an end was taken, or none is laid out for a switch any more
pub sessions-taken : {E : Type 0} (n : ℕ) (named : E → ℕ) (received : E → Option (List ℕ)) (journal : List Entry) (numbers : List ℕ) (to_ends back_ends : List (Option E)) (s : ℕ) (v : Option E)
    → v ≡ None → HasSessions n named received journal numbers to_ends back_ends → HasSessions n named received journal numbers (slice_set to_ends s v) back_ends
sessions-taken n named received journal numbers to_ends back_ends s v none h = record {
  many = h.many;
  numbered = h.numbered;
  to_many = length-set to_ends s v ∙ h.to_many;
  back_many = h.back_many;
  to_new = subst (λ x. AreOut n named received (slice_set to_ends s x)) (sym none) (out-none n named received to_ends s h.to_new);
  back_new = h.back_new;
}

pub sessions-taken-back : {E : Type 0} (n : ℕ) (named : E → ℕ) (received : E → Option (List ℕ)) (journal : List Entry) (numbers : List ℕ) (to_ends back_ends : List (Option E)) (s : ℕ) (v : Option E)
    → v ≡ None → HasSessions n named received journal numbers to_ends back_ends → HasSessions n named received journal numbers to_ends (slice_set back_ends s v)
sessions-taken-back n named received journal numbers to_ends back_ends s v none h = record {
  many = h.many;
  numbered = h.numbered;
  to_many = h.to_many;
  back_many = length-set back_ends s v ∙ h.back_many;
  to_new = h.to_new;
  back_new = subst (λ x. AreOut n named received (slice_set back_ends s x)) (sym none) (out-none n named received back_ends s h.back_new);
}

-- ---- what ends a session

-- an event for which an end is kept is no arrival and no return
pub met-plain : {E : Type 0} (n : ℕ) (named faults : E → ℕ) (received : E → Option (List ℕ)) (journal : List Entry) (e : Event) (end : E) → MetBy n named faults received journal e end → (is_arrival e ≡ false) × (is_rejoin e ≡ false)
met-plain n named faults received journal (event.Controller of_controller.Begin) end met = absurd met
met-plain n named faults received journal (event.Controller (of_controller.Send t)) end met = absurd met
met-plain n named faults received journal (event.Switch (of_switch.Take t)) end met = absurd met
met-plain n named faults received journal (event.Switch (of_switch.Apply t k)) end met = absurd met
met-plain n named faults received journal (event.Switch (of_switch.Reply t)) end met = absurd met
met-plain n named faults received journal (event.Controller (of_controller.Heard t)) end met = absurd met
met-plain n named faults received journal (event.Packet (of_packet.Arrive pk tag)) end met = absurd met
met-plain n named faults received journal (event.Packet (of_packet.Hop k)) end met = absurd met
met-plain n named faults received journal (event.Controller (of_controller.Drained stamp)) end met = absurd met
met-plain n named faults received journal (event.Controller (of_controller.Lost t)) end met = (refl, refl)
met-plain n named faults received journal (event.Controller (of_controller.Rejoin t)) end met = absurd met
met-plain n named faults received journal (event.Packet (of_packet.Stuck k)) end met = absurd met
met-plain n named faults received journal (event.Foreign t side got) end met = (refl, refl)

-- the number of a session, by what a run keeps of it
pub number-is : {E : Type 0} (n : ℕ) (named : E → ℕ) (received : E → Option (List ℕ)) (journal : List Entry) (numbers : List ℕ) (to_ends back_ends : List (Option E)) (s number : ℕ) → HasSessions n named received journal numbers to_ends back_ends → slice_get numbers s ≡ Some number → number ≡ session s (events_of journal)
number-is n named received journal numbers to_ends back_ends s number h at = h.numbered s number at
