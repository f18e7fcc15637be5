-- For each event that ends a session an end was kept.
use Rattle.std.proofs.Common.{◌≡◌, ◌⊎◌, inl, inr, ℕ, Bool, true, false, List, [], ◌∷◌, ◌++◌, Option, refl, sym, ap, subst, ◌∙◌}
use Rattle.nk_values.specs.Members.{IsIn}
use Rattle.world_core.specs.declared.event.Event.{Event}
use Rattle.world_journal.specs.declared.entry.Entry.{Entry}
use Rattle.world_journal.specs.Makers.{is_cut}
use Rattle.world_journal.specs.Journals.{events_of, Kept, MetBy}

-- one of these ends met the conditions of an event
abbrev pub IsKeptFor : {E : Type 0} → ℕ → (E → ℕ) → (E → ℕ) → (E → Option (List ℕ)) → List E → Event → Type 0
IsKeptFor {E} n named faults received ends x = (e : E) × (before : List Entry) × IsIn ends e × MetBy n named faults received before x e

in-front : {X : Type 0} (xs ys : List X) (x : X) → IsIn xs x → IsIn (xs ++ ys) x
in-front [] ys x i = absurd i
in-front (z ∷ xs) ys x (inl e) = inl e
in-front (z ∷ xs) ys x (inr i) = inr (in-front xs ys x i)

in-last : {X : Type 0} (xs : List X) (x : X) → IsIn (xs ++ x ∷ []) x
in-last [] x = inl refl
in-last (z ∷ xs) x = inr (in-last xs x)

event-last : (es : List Entry) (e : Entry) (x : Event) → IsIn (events_of (es ++ e ∷ [])) x → IsIn (events_of es) x ⊎ (e.event ≡ x)
event-last [] e x (inl is) = inr is
event-last [] e x (inr n) = absurd n
event-last (y ∷ es) e x (inl is) = inl (inl is)
event-last (y ∷ es) e x (inr i) = later (event-last es e x i)
  where
    later : IsIn (events_of es) x ⊎ (e.event ≡ x) → IsIn (events_of (y ∷ es)) x ⊎ (e.event ≡ x)
    later (inl i) = inl (inr i)
    later (inr is) = inr is

no-cut : (b : Bool) (P : Type 0) → b ≡ true → b ≡ false → P
no-cut true P t f = cc
no-cut false P t f = cc

cut-goes : {E : Type 0} (n : ℕ) (named faults : E → ℕ) (received : E → Option (List ℕ)) (es : List Entry) (ends : List E) (e : Entry) (x : Event) → (IsIn (events_of es) x → IsKeptFor n named faults received ends x) → is_cut x ≡ true → is_cut e.event ≡ false
    → IsIn (events_of es) x ⊎ (e.event ≡ x) → IsKeptFor n named faults received ends x
cut-goes n named faults received es ends e x before cut plain (inl i) = before i
cut-goes n named faults received es ends e x before cut plain (inr is) = no-cut (is_cut x) (IsKeptFor n named faults received ends x) cut (ap is_cut (sym is) ∙ plain)

cut-more : {E : Type 0} (n : ℕ) (named faults : E → ℕ) (received : E → Option (List ℕ)) (es : List Entry) (ends : List E) (e : Entry) (end : E) (x : Event) → (IsIn (events_of es) x → IsKeptFor n named faults received ends x) → MetBy n named faults received es e.event end
    → IsIn (events_of es) x ⊎ (e.event ≡ x) → IsKeptFor n named faults received (ends ++ end ∷ []) x
cut-more n named faults received es ends e end x before met (inl i) = let r = before i in (r.0, r.1, in-front ends (end ∷ []) r.0 r.2, r.3)
cut-more n named faults received es ends e end x before met (inr is) = (end, es, in-last ends end, subst (λ (y : Event). MetBy n named faults received es y end) is met)

pub kept-cut : {E : Type 0} (n : ℕ) (named faults : E → ℕ) (received : E → Option (List ℕ)) (es : List Entry) (ends : List E) → Kept n named faults received es ends → (x : Event) → is_cut x ≡ true → IsIn (events_of es) x → IsKeptFor n named faults received ends x
kept-cut n named faults received es ends Kept.none x cut i = absurd i
kept-cut n named faults received es ends (Kept.goes fs xs e plain k) x cut i =
    cut-goes n named faults received fs xs e x (λ j. kept-cut n named faults received fs xs k x cut j) cut plain (event-last fs e x i)
kept-cut n named faults received es ends (Kept.cuts fs xs e end met k) x cut i =
    cut-more n named faults received fs xs e end x (λ j. kept-cut n named faults received fs xs k x cut j) met (event-last fs e x i)
