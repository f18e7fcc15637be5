-- How many messages of each switch were heard.
use Rattle.std.proofs.Common.{◌≡◌, ◌≤◌, inl, inr, ℕ, ◌+◌, Bool, true, false, List, [], ◌∷◌, ◌++◌, length, Some, slice_get, slice_set, replicate, refl, sym, ap, subst, ◌∙◌, arith, length-append}
use Rattle.std.specs.List.{filter}
use Rattle.std.specs.Prelude.{not}
use Rattle.std.proofs.lemmas.Bool.{eq-eqb, ne_eqb}
use Rattle.std.proofs.lemmas.List.Elements.{filter-append}
use Rattle.std.proofs.lemmas.List.Filters.{length-filter_both}
use Rattle.openflow_wire.specs.declared.message.Message.{Message}
use Rattle.update_coordinator.proofs.Places.{set_cases, get_replicate}
use Rattle.drive_journal.specs.declared.steering.Steering.{Steering}
use Rattle.drive_journal.specs.declared.steering.Steering.TheVariants.{Heard}
use Rattle.drive_journal.specs.Journals.{AreCounts, is_told, told_before}

one-in : (p : Steering → Bool) (e : Steering) → p e ≡ true → length (filter p (e ∷ [])) ≡ 1
one-in p e q = rw q refl

none-in : (p : Steering → Bool) (e : Steering) → p e ≡ false → length (filter p (e ∷ [])) ≡ 0
none-in p e q = rw q refl

more-in : (p : Steering → Bool) (es : List Steering) (e : Steering) → length (filter p (es ++ e ∷ [])) ≡ length (filter p es) + length (filter p (e ∷ []))
more-in p es e = ap length (filter-append p es (e ∷ [])) ∙ length-append (filter p es) (filter p (e ∷ []))

told-one : (s : ℕ) (es : List Steering) (e : Steering) → is_told s e ≡ true → told_before s (es ++ e ∷ []) ≡ told_before s es + 1
told-one s es e q = omega (arith, more-in (is_told s) es e, one-in (is_told s) e q)

told-none : (s : ℕ) (es : List Steering) (e : Steering) → is_told s e ≡ false → told_before s (es ++ e ∷ []) ≡ told_before s es
told-none s es e q = omega (arith, more-in (is_told s) es e, none-in (is_told s) e q)

pub told-few : (s : ℕ) (es : List Steering) → told_before s es ≤ length es
told-few s es = omega (arith, length-filter_both (is_told s) (λ e. not (is_told s e)) (λ e. refl) es)

pub none-told : (n : ℕ) → AreCounts [] (replicate n 0)
none-told n s k e = get_replicate n s 0 k e

-- a message more of the switch at a place
pub counts-heard : (es : List Steering) (counts : List ℕ) (p n : ℕ) (m : Message) → AreCounts es counts → slice_get counts p ≡ Some n → AreCounts (es ++ Heard p m ∷ []) (slice_set counts p (n + 1))
counts-heard es counts p n m h here s k at =
    elim (set_cases counts p s (n + 1) k at) [
      | inl q ↦ q.0 ∙ ap (λ (i : ℕ). i + 1) (h p n here) ∙ sym (subst (λ (t : ℕ). told_before t (es ++ Heard p m ∷ []) ≡ told_before p es + 1) (sym q.1) (told-one p es (Heard p m) (eq-eqb p p refl)))
      | inr q ↦ h s k q.1 ∙ sym (told-none s es (Heard p m) (ne_eqb p s (λ e. q.0 (sym e))))
    ]

-- any other event
pub counts-other : (es : List Steering) (counts : List ℕ) (e : Steering) → AreCounts es counts → ((s : ℕ) → is_told s e ≡ false) → AreCounts (es ++ e ∷ []) counts
counts-other es counts e h plain s k at = h s k at ∙ sym (told-none s es e (plain s))
