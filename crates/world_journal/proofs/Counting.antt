-- How many messages were told in the present sessions.
use Rattle.std.proofs.Common.{◌≡◌, ◌⊎◌, inl, inr, ℕ, ◌+◌, ◌<◌, ◌==◌, Bool, true, false, List, [], ◌∷◌, ◌++◌, length, replicate, None, Some, Result, Ok, Err, OnOk, OnErr, slice_get, slice_set, refl, sym, ap, subst, ◌∙◌, arith}
use Rattle.std.proofs.lemmas.List.{length-set, length-replicate}
use Rattle.std.proofs.lemmas.Option.{slice_get-get_or}
use Rattle.std.proofs.lemmas.Bool.Decides.{nat_tests}
use Rattle.update_coordinator.specs.declared.cause.Side.{Side}
use Rattle.update_coordinator.specs.declared.cause.Side.TheVariants as side
use Rattle.world_core.specs.declared.event.Event.{Event}
use Rattle.world_core.specs.declared.event.Event.TheVariants as event
use Rattle.world_core.specs.declared.event.ControllerEvent.TheVariants as of_controller
use Rattle.world_core.specs.declared.event.SwitchEvent.TheVariants as of_switch
use Rattle.world_journal.specs.declared.entry.Entry.{Entry}
use Rattle.world_journal.specs.Journals.{HeldValue, entry, is_return, is_told, told, told_at, told_before, events_of}
use Rattle.world_journal.specs.Makers.{is_rejoin}
use Rattle.world_journal.specs.Runs.{AreCounts, HasCounts}
use Rattle.world_journal.proofs.Growing.{events-more}
use Rattle.world_journal.proofs.Returning.{get-replicate, get-set, no-return, set-get, told-last, told_on}
use Rattle.world_journal.proofs.Telling.{is-heard, is-taken, tells-none-back, tells-none-to}

-- ---- one event more, of one side of one switch

on-same : (s : ℕ) (side : Side) (e : Event) (count : ℕ) → is_return s e ≡ false → is_told s side e ≡ false → told_on s side e count ≡ count
on-same s side e count stays none = rw (stays, none) refl

on-more : (s : ℕ) (side : Side) (e : Event) (count : ℕ) → is_return s e ≡ false → is_told s side e ≡ true → told_on s side e count ≡ count + 1
on-more s side e count stays tells = rw (stays, tells) refl

on-return : (s : ℕ) (side : Side) (e : Event) (count : ℕ) → is_return s e ≡ true → told_on s side e count ≡ 0
on-return s side e count goes = rw goes refl

before-more : (s : ℕ) (side : Side) (journal : List Entry) (w : ℕ) (e : Event) → told_before s side (journal ++ entry w e ∷ []) ≡ told_on s side e (told_before s side journal)
before-more s side journal w e = ap (told s side) (events-more journal (entry w e)) ∙ told-last s side (events_of journal) e

-- ---- the counts of one side

counts-same : (side : Side) (counts : List ℕ) (journal : List Entry) (w : ℕ) (e : Event) → is_rejoin e ≡ false → ((s : ℕ) → is_told s side e ≡ false) → AreCounts side counts journal → AreCounts side counts (journal ++ entry w e ∷ [])
counts-same side counts journal w e stays none h =
    λ s k at. h s k at ∙ sym (before-more s side journal w e ∙ on-same s side e (told_before s side journal) (no-return s e stays) (none s))

-- these counts fit a journal at all switches but t
abbrev FitOthers : Side → List ℕ → List Entry → ℕ → Type 0
FitOthers side counts now t = (s k : ℕ) → (t == s) ≡ false → slice_get counts s ≡ Some k → k ≡ told_before s side now

set-other : (side : Side) (counts : List ℕ) (now : List Entry) (t next s k : ℕ) → FitOthers side counts now t → (t == s) ≡ false → ((t ≡ s) × (next ≡ k)) ⊎ (slice_get counts s ≡ Some k) → k ≡ told_before s side now
set-other side counts now t next s k others is (inl e) = absurd (grind (arith, nat_tests))
set-other side counts now t next s k others is (inr at) = others s k is at

some-is : {X : Type 0} (x y : X) → Some x ≡ Some y → x ≡ y
some-is x y e = cc

set-case : (side : Side) (counts : List ℕ) (now : List Entry) (t next s k : ℕ) → t < length counts → next ≡ told_before t side now → FitOthers side counts now t → slice_get (slice_set counts t next) s ≡ Some k → (b : Bool) → (t == s) ≡ b → k ≡ told_before s side now
set-case side counts now t next s k within mine others got true is =
    let same : t ≡ s = grind (arith, nat_tests) in
    let put : next ≡ k = some-is next k (sym (set-get counts t _ next (slice_get-get_or counts t 0 within)) ∙ subst (λ x. slice_get (slice_set counts t next) x ≡ Some k) (sym same) got) in
    subst (λ x. k ≡ told_before x side now) same (sym put ∙ mine)
set-case side counts now t next s k within mine others got false is = set-other side counts now t next s k others is (get-set counts t next s k got)

-- the count of one switch is put there
counts-set : (side : Side) (counts : List ℕ) (now : List Entry) (t next : ℕ) → t < length counts → next ≡ told_before t side now → FitOthers side counts now t → AreCounts side (slice_set counts t next) now
counts-set side counts now t next within mine others = λ s k got. set-case side counts now t next s k within mine others got (t == s) refl

-- a message was told at this side of switch t
counts-told : (side : Side) (counts : List ℕ) (journal : List Entry) (w : ℕ) (e : Event) (t next : ℕ) → is_rejoin e ≡ false → ((s : ℕ) → is_told s side e ≡ (t == s)) → AreCounts side counts journal → t < length counts → next ≡ told_before t side journal + 1 → AreCounts side (slice_set counts t next) (journal ++ entry w e ∷ [])
counts-told side counts journal w e t next stays tells h within more =
    let same : (t == t) ≡ true = grind (arith, nat_tests) in
    counts-set side counts (journal ++ entry w e ∷ []) t next within
    (more ∙ sym (before-more t side journal w e ∙ on-more t side e (told_before t side journal) (no-return t e stays) (tells t ∙ same)))
    (λ s k other got. h s k got ∙ sym (before-more s side journal w e ∙ on-same s side e (told_before s side journal) (no-return s e stays) (tells s ∙ other)))

none-told : (s : ℕ) (side : Side) (t : ℕ) → is_told s side (event.Controller (of_controller.Rejoin t)) ≡ false
none-told s side.Controller t = refl
none-told s side.Switch t = refl

-- switch t returned
counts-return : (side : Side) (counts : List ℕ) (journal : List Entry) (w t : ℕ) → AreCounts side counts journal → t < length counts → AreCounts side (slice_set counts t 0) (journal ++ entry w (event.Controller (of_controller.Rejoin t)) ∷ [])
counts-return side counts journal w t h within =
    let same : (t == t) ≡ true = grind (arith, nat_tests) in
    counts-set side counts (journal ++ entry w (event.Controller (of_controller.Rejoin t)) ∷ []) t 0 within
    (sym (before-more t side journal w (event.Controller (of_controller.Rejoin t)) ∙ on-return t side (event.Controller (of_controller.Rejoin t)) (told_before t side journal) same))
    (λ s k other got. h s k got ∙ sym (before-more s side journal w (event.Controller (of_controller.Rejoin t)) ∙ on-same s side (event.Controller (of_controller.Rejoin t)) (told_before s side journal) other (none-told s side t)))

-- ---- the counts of both sides

pub counts-start : (n : ℕ) (journal : List Entry) (to_told back_told : List ℕ) → journal ≡ [] → to_told ≡ replicate n 0 → back_told ≡ replicate n 0 → HasCounts n journal to_told back_told
counts-start n journal to_told back_told none to back = record {
  to_many = ap length to ∙ length-replicate n 0;
  back_many = ap length back ∙ length-replicate n 0;
  to_counts = λ s k at. sym (get-replicate n s 0 k (subst (λ xs. slice_get xs s ≡ Some k) to at)) ∙ ap (told_before s side.Controller) (sym none);
  back_counts = λ s k at. sym (get-replicate n s 0 k (subst (λ xs. slice_get xs s ≡ Some k) back at)) ∙ ap (told_before s side.Switch) (sym none);
}

-- no message was told
pub counts-plain : (n : ℕ) (journal now : List Entry) (to_told back_told : List ℕ) (w : ℕ) (e : Event) → HasCounts n journal to_told back_told → now ≡ journal ++ entry w e ∷ [] → told_at e ≡ None → is_rejoin e ≡ false → HasCounts n now to_told back_told
counts-plain n journal now to_told back_told w e h is none stays = record {
  to_many = h.to_many;
  back_many = h.back_many;
  to_counts = subst (λ es. AreCounts side.Controller to_told es) (sym is) (counts-same side.Controller to_told journal w e stays (tells-none-to e none) h.to_counts);
  back_counts = subst (λ es. AreCounts side.Switch back_told es) (sym is) (counts-same side.Switch back_told journal w e stays (tells-none-back e none) h.back_counts);
}

-- the same of a call that makes such a step or leaves all as it was
pub counts-call : {E T F : Type 0} (n : ℕ) (old new : HeldValue E) (to_told back_told : List ℕ) (w : ℕ) (e : Event) (Q : Type 0) (r : Result T F)
    → HasCounts n old.journal to_told back_told → OnOk r (new.journal ≡ old.journal ++ entry w e ∷ []) → OnErr r ((new ≡ old) × Q) → told_at e ≡ None → is_rejoin e ≡ false → HasCounts n new.journal to_told back_told
counts-call n old new to_told back_told w e Q (Ok x) h is same none stays = counts-plain n old.journal new.journal to_told back_told w e h is none stays
counts-call n old new to_told back_told w e Q (Err x) h is same none stays = subst (λ held. HasCounts n held.journal to_told back_told) (sym same.0) h

-- one more than was told at a side, where that side is known
one-more : (s : ℕ) (at is : Side) (journal : List Entry) (count next : ℕ) → at ≡ is → count ≡ told_before s at journal → next ≡ count + 1 → next ≡ told_before s is journal + 1
one-more s at is journal count next same counted more = more ∙ ap (λ k. k + 1) (counted ∙ ap (λ x. told_before s x journal) same)

-- a session heard a message
pub counts-heard : (n : ℕ) (journal now : List Entry) (to_told back_told : List ℕ) (w : ℕ) (e : Event) (at : Side) (t count next : ℕ)
    → HasCounts n journal to_told back_told → now ≡ journal ++ entry w e ∷ [] → at ≡ side.Controller → told_at e ≡ Some (at, t) → t < n → count ≡ told_before t at journal → next ≡ count + 1 → HasCounts n now (slice_set to_told t next) back_told
counts-heard n journal now to_told back_told w e at t count next h is same tells place counted more =
    let one = subst (λ (x : Event). now ≡ journal ++ entry w x ∷ []) (sym (is-heard e t (subst (λ x. told_at e ≡ Some (x, t)) same tells))) is in record {
      to_many = length-set to_told t next ∙ h.to_many;
      back_many = h.back_many;
      to_counts = subst (λ es. AreCounts side.Controller (slice_set to_told t next) es) (sym one)
          (counts-told side.Controller to_told journal w (event.Controller (of_controller.Heard t)) t next refl (λ s. refl) h.to_counts (omega (arith, place, h.to_many)) (one-more t at side.Controller journal count next same counted more));
      back_counts = subst (λ es. AreCounts side.Switch back_told es) (sym one) (counts-same side.Switch back_told journal w (event.Controller (of_controller.Heard t)) refl (λ s. refl) h.back_counts);
    }

-- a switch took one
pub counts-taken : (n : ℕ) (journal now : List Entry) (to_told back_told : List ℕ) (w : ℕ) (e : Event) (at : Side) (t count next : ℕ)
    → HasCounts n journal to_told back_told → now ≡ journal ++ entry w e ∷ [] → at ≡ side.Switch → told_at e ≡ Some (at, t) → t < n → count ≡ told_before t at journal → next ≡ count + 1 → HasCounts n now to_told (slice_set back_told t next)
counts-taken n journal now to_told back_told w e at t count next h is same tells place counted more =
    let one = subst (λ (x : Event). now ≡ journal ++ entry w x ∷ []) (sym (is-taken e t (subst (λ x. told_at e ≡ Some (x, t)) same tells))) is in record {
      to_many = h.to_many;
      back_many = length-set back_told t next ∙ h.back_many;
      to_counts = subst (λ es. AreCounts side.Controller to_told es) (sym one) (counts-same side.Controller to_told journal w (event.Switch (of_switch.Take t)) refl (λ s. refl) h.to_counts);
      back_counts = subst (λ es. AreCounts side.Switch (slice_set back_told t next) es) (sym one)
          (counts-told side.Switch back_told journal w (event.Switch (of_switch.Take t)) t next refl (λ s. refl) h.back_counts (omega (arith, place, h.back_many)) (one-more t at side.Switch journal count next same counted more));
    }

-- a switch returned
pub counts-returned : (n : ℕ) (journal now : List Entry) (to_told back_told : List ℕ) (w t : ℕ) → HasCounts n journal to_told back_told → now ≡ journal ++ entry w (event.Controller (of_controller.Rejoin t)) ∷ [] → t < n → HasCounts n now (slice_set to_told t 0) (slice_set back_told t 0)
counts-returned n journal now to_told back_told w t h is place = record {
  to_many = length-set to_told t 0 ∙ h.to_many;
  back_many = length-set back_told t 0 ∙ h.back_many;
  to_counts = subst (λ es. AreCounts side.Controller (slice_set to_told t 0) es) (sym is) (counts-return side.Controller to_told journal w t h.to_counts (omega (arith, place, h.to_many)));
  back_counts = subst (λ es. AreCounts side.Switch (slice_set back_told t 0) es) (sym is) (counts-return side.Switch back_told journal w t h.back_counts (omega (arith, place, h.back_many)));
}
