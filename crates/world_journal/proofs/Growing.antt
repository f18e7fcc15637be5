-- A journal with one entry more.
use Rattle.std.proofs.Common.{◌≡◌, ℕ, ◌+◌, false, List, [], ◌∷◌, ◌++◌, length, Option, refl, sym, ap, subst, arith, length-append}
use Rattle.std.specs.List.{AllByRecursion}
use Rattle.world_core.specs.Worlds.{WorldValue}
use Rattle.world_core.specs.Steps.{Step, Runs}
use Rattle.world_core.specs.declared.event.Event.{Event}
use Rattle.world_journal.specs.declared.entry.Entry.{Entry}
use Rattle.world_journal.specs.Makers.{MayMake, is_cut}
use Rattle.world_journal.specs.Journals.{entry, events_of, switches, IsJournal, Kept, MetBy}

runs-more : (w : WorldValue) (es : List Event) (e : Event) (u v : WorldValue) → Runs w es u → Step u e v → Runs w (es ++ e ∷ []) v
runs-more w [] e u v r s = (v, subst (λ (x : WorldValue). Step x e v) (sym r) s, refl)
runs-more w (x ∷ es) e u v r s = (r.0, r.1, runs-more r.0 es e u v r.2 s)

pub events-more : (es : List Entry) (e : Entry) → events_of (es ++ e ∷ []) ≡ events_of es ++ e.event ∷ []
events-more [] e = refl
events-more (x ∷ es) e = ap (λ (ys : List Event). x.event ∷ ys) (events-more es e)

all-more : {X : Type 0} (P : X → Type 0) (xs : List X) (x : X) → AllByRecursion P xs → P x → AllByRecursion P (xs ++ x ∷ [])
all-more P [] x a p = (p, tt)
all-more P (y ∷ xs) x a p = (a.0, all-more P xs x a.1 p)

-- a journal with its book
abbrev pub Books : {E : Type 0} → (E → ℕ) → (E → ℕ) → (E → Option (List ℕ)) → WorldValue → WorldValue → List Entry → List E → ℕ → Type 0
Books named faults received start world journal ends total = IsJournal named faults received start world journal ends × (total ≡ length journal)

runs-on : {E : Type 0} (named faults : E → ℕ) (received : E → Option (List ℕ)) (start world next : WorldValue) (journal : List Entry) (ends : List E) (w : ℕ) (e : Event)
    → IsJournal named faults received start world journal ends → Step world e next → Runs start (events_of (journal ++ entry w e ∷ [])) next
runs-on named faults received start world next journal ends w e h s =
    subst (λ (es : List Event). Runs start es next) (sym (events-more journal (entry w e))) (runs-more start (events_of journal) e world next h.runs s)

makes-on : {E : Type 0} (named faults : E → ℕ) (received : E → Option (List ℕ)) (start world : WorldValue) (journal : List Entry) (ends : List E) (w : ℕ) (e : Event)
    → IsJournal named faults received start world journal ends → MayMake (switches start) w e → AllByRecursion (λ (e : Entry). MayMake (switches start) e.worker e.event) (journal ++ entry w e ∷ [])
makes-on named faults received start world journal ends w e h may = all-more (λ (e : Entry). MayMake (switches start) e.worker e.event) journal (entry w e) h.makers may

books-on : (journal : List Entry) (w : ℕ) (e : Event) (total : ℕ) → total ≡ length journal → total + 1 ≡ length (journal ++ entry w e ∷ [])
books-on journal w e total is = omega (arith, is, length-append journal (entry w e ∷ []))

-- a step for which no end is kept
pub goes-held : {E : Type 0} (named faults : E → ℕ) (received : E → Option (List ℕ)) (start world next : WorldValue) (journal room now : List Entry) (ends : List E) (w : ℕ) (e : Event) (total booked : ℕ)
    → Books named faults received start world journal ends total → room ≡ journal → now ≡ room ++ entry w e ∷ [] → booked ≡ total + 1
    → Step world e next → MayMake (switches start) w e → is_cut e ≡ false → Books named faults received start next now ends booked
goes-held named faults received start world next journal room now ends w e total booked h same pushed book s may plain =
    let is : now ≡ journal ++ entry w e ∷ [] = rw (← same) pushed in
    subst (λ (es : List Entry). Books named faults received start next es ends booked) (sym is) (
      record {
        runs = runs-on named faults received start world next journal ends w e h.0 s;
        makers = makes-on named faults received start world journal ends w e h.0 may;
        kept = Kept.goes journal ends (entry w e) plain h.0.kept;
      },
      omega (arith, book, books-on journal w e total h.1),
    )

-- a step for which an end is kept
pub cuts-held : {E : Type 0} (named faults : E → ℕ) (received : E → Option (List ℕ)) (start world next : WorldValue) (journal room now : List Entry) (ends place all : List E) (w : ℕ) (e : Event) (end : E) (total booked : ℕ)
    → Books named faults received start world journal ends total → room ≡ journal → now ≡ room ++ entry w e ∷ [] → place ≡ ends → all ≡ place ++ end ∷ [] → booked ≡ total + 1
    → Step world e next → MayMake (switches start) w e → MetBy (switches start) named faults received journal e end → Books named faults received start next now all booked
cuts-held named faults received start world next journal room now ends place all w e end total booked h same pushed same_ends added book s may met =
    let is : now ≡ journal ++ entry w e ∷ [] = rw (← same) pushed in
    let are : all ≡ ends ++ end ∷ [] = rw (← same_ends) added in
    subst (λ (es : List Entry). Books named faults received start next es all booked) (sym is) (subst (λ xs. Books named faults received start next (journal ++ entry w e ∷ []) xs booked) (sym are) (
      record {
        runs = runs-on named faults received start world next journal ends w e h.0 s;
        makers = makes-on named faults received start world journal ends w e h.0 may;
        kept = Kept.cuts journal ends (entry w e) end met h.0.kept;
      },
      omega (arith, book, books-on journal w e total h.1),
    ))

-- a journal without entries
pub none-held : {E : Type 0} (named faults : E → ℕ) (received : E → Option (List ℕ)) (start world : WorldValue) (journal : List Entry) (ends : List E) (total : ℕ)
    → world ≡ start → journal ≡ [] → ends ≡ [] → total ≡ 0 → Books named faults received start world journal ends total
none-held named faults received start world journal ends total begins no_entry no_end zero =
    subst (λ (es : List Entry). Books named faults received start world es ends total) (sym no_entry) (
      record {
        runs = sym begins;
        makers = tt;
        kept = subst (λ es. Kept (switches start) named faults received [] es) (sym no_end) Kept.none;
      },
      zero,
    )
