-- The end that was kept for foreign bytes is the last one, with what was told before them.
use Rattle.std.proofs.Common.{◌≡◌, ◌⊎◌, inl, inr, ℕ, suc, Bool, true, false, List, [], ◌∷◌, ◌++◌, Option, None, Some, refl, sym, ap, subst, ◌∙◌}
use Rattle.world_journal.specs.Side.{Side}
use Rattle.world_core.specs.declared.event.Event.{Event}
use Rattle.world_core.specs.declared.event.Event.TheVariants as event
use Rattle.world_core.specs.declared.event.ControllerEvent.TheVariants as of_controller
use Rattle.world_core.specs.declared.event.PacketEvent.TheVariants as of_packet
use Rattle.world_core.specs.declared.event.SwitchEvent.TheVariants as of_switch
use Rattle.world_core.specs.Laws.{HaltsStay}
use Rattle.world_core.specs.Steps.{Step, Runs}
use Rattle.world_core.specs.Worlds.{WorldValue}
use Rattle.world_journal.specs.declared.entry.Entry.{Entry}
use Rattle.world_journal.specs.Makers.{is_cut}
use Rattle.world_journal.specs.Journals.{events_of, Kept, MetBy}

-- ---- lists with one more at their end

-- either it is the one asked for, and the others stand before it, or it stands after that one
abbrev IsSplit : {X : Type 0} → List X → X → List X → X → List X → Type 0
IsSplit {X} ys y before x rest = ((ys ≡ before) × (y ≡ x)) ⊎ ((more : List X) × (ys ≡ before ++ x ∷ more))

head-is : {X : Type 0} (a b : X) (as' bs : List X) → a ∷ as' ≡ b ∷ bs → a ≡ b
head-is a b as' bs e = cc

tail-is : {X : Type 0} (a b : X) (as' bs : List X) → a ∷ as' ≡ b ∷ bs → as' ≡ bs
tail-is a b as' bs e = cc

none-is : {X : Type 0} (bs : List X) (x : X) (rest : List X) (P : Type 0) → [] ≡ bs ++ x ∷ rest → P
none-is [] x rest P e = absurd (cc)
none-is (b ∷ bs) x rest P e = absurd (cc)

split-next : {X : Type 0} (z b : X) (zs bs : List X) (y x : X) (rest : List X) → z ≡ b → IsSplit zs y bs x rest → IsSplit (z ∷ zs) y (b ∷ bs) x rest
split-next z b zs bs y x rest is (inl (same, last)) = inl ((λ i. is i ∷ same i), last)
split-next z b zs bs y x rest is (inr (more, same)) = inr (more, (λ i. is i ∷ same i))

split-last : {X : Type 0} (ys : List X) (y : X) (before : List X) (x : X) (rest : List X) → ys ++ y ∷ [] ≡ before ++ x ∷ rest → IsSplit ys y before x rest
split-last [] y [] x rest e = inl (refl, head-is y x [] rest e)
split-last [] y (b ∷ bs) x rest e = none-is bs x rest _ (tail-is y b [] (bs ++ x ∷ rest) e)
split-last (z ∷ zs) y [] x rest e = inr (zs, ap (λ w. w ∷ zs) (head-is z x (zs ++ y ∷ []) rest e))
split-last (z ∷ zs) y (b ∷ bs) x rest e = split-next z b zs bs y x rest (head-is z b (zs ++ y ∷ []) (bs ++ x ∷ rest) e) (split-last zs y bs x rest (tail-is z b (zs ++ y ∷ []) (bs ++ x ∷ rest) e))

-- ---- the end

pub events-last : (es : List Entry) (e : Entry) → events_of (es ++ e ∷ []) ≡ events_of es ++ e.event ∷ []
events-last [] e = refl
events-last (x ∷ es) e = ap (λ (ys : List Event). x.event ∷ ys) (events-last es e)

-- ---- a halt

halt-same : (w v : WorldValue) → v.fleet.control ≡ w.fleet.control → v.fleet.control.halt ≡ w.fleet.control.halt
halt-same w v same = λ i. (same i).halt

halted-stays : HaltsStay → (w : WorldValue) (es : List Event) (v : WorldValue) → ¬ (w.fleet.control.halt ≡ None) → Runs w es v → ¬ (v.fleet.control.halt ≡ None)
halted-stays stay w [] v halts r = λ none. halts (ap (λ (x : WorldValue). x.fleet.control.halt) r ∙ none)
halted-stays stay w (e ∷ es) v halts r = halted-stays stay r.0 es v (λ none. halts (sym (halt-same w r.0 (stay w e r.0 halts r.1)) ∙ none)) r.2

some-none : {X : Type 0} (x : X) → Some x ≡ None → ⊥
some-none x e = cc

foreign-halts : (w : WorldValue) (s : ℕ) (side : Side) (got : List ℕ) (v : WorldValue) → Step w (event.Foreign s side got) v → ¬ (v.fleet.control.halt ≡ None)
foreign-halts w s side got v step = λ none. some-none _ (sym (ap (λ (x : WorldValue). x.fleet.control.halt) step.now) ∙ none)

halts-after : HaltsStay → (w : WorldValue) (before : List Event) (s : ℕ) (side : Side) (got : List ℕ) (rest : List Event) (v : WorldValue) → Runs w (before ++ event.Foreign s side got ∷ rest) v → ¬ (v.fleet.control.halt ≡ None)
halts-after stay w [] s side got rest v r = halted-stays stay r.0 rest v (foreign-halts w s side got r.0 r.1) r.2
halts-after stay w (b ∷ bs) s side got rest v r = halts-after stay r.0 bs s side got rest v r.2

-- an end is kept only for what happens before a halt
cut-runs : {E : Type 0} (n : ℕ) (named faults : E → ℕ) (received : E → Option (List ℕ)) (es : List Entry) (e : Event) (end : E) (w v : WorldValue) → MetBy n named faults received es e end → Step w e v → w.fleet.control.halt ≡ None
cut-runs n named faults received es (event.Controller of_controller.Begin) end w v met step = absurd met
cut-runs n named faults received es (event.Controller (of_controller.Send t)) end w v met step = absurd met
cut-runs n named faults received es (event.Switch (of_switch.Take t)) end w v met step = absurd met
cut-runs n named faults received es (event.Switch (of_switch.Apply t k)) end w v met step = absurd met
cut-runs n named faults received es (event.Switch (of_switch.Reply t)) end w v met step = absurd met
cut-runs n named faults received es (event.Controller (of_controller.Heard t)) end w v met step = absurd met
cut-runs n named faults received es (event.Packet (of_packet.Arrive pk tag)) end w v met step = absurd met
cut-runs n named faults received es (event.Packet (of_packet.Hop k)) end w v met step = absurd met
cut-runs n named faults received es (event.Controller (of_controller.Drained stamp)) end w v met step = absurd met
cut-runs n named faults received es (event.Controller (of_controller.Lost t)) end w v met step = elim step.step [
  | inl t ↦ t.lost.running
  | inr t ↦ t.lost.running
]
cut-runs n named faults received es (event.Controller (of_controller.Rejoin t)) end w v met step = absurd met
cut-runs n named faults received es (event.Packet (of_packet.Stuck k)) end w v met step = absurd met
cut-runs n named faults received es (event.Foreign t side got) end w v met step = step.may.0.running

-- the last step of a run
runs-last : (w : WorldValue) (es : List Event) (e : Event) (v : WorldValue) → Runs w (es ++ e ∷ []) v → (x : WorldValue) × Runs w es x × Step x e v
runs-last w [] e v r = (w, refl, subst (λ (x : WorldValue). Step w e x) r.2 r.1)
runs-last w (f ∷ es) e v r = let last = runs-last r.0 es e v r.2 in (last.0, (r.0, r.1, last.1), last.2)

-- ---- the end of foreign bytes

-- The last of these ends met the conditions of an event, after entries with these events.
pub record IsKeptLast {E : Type 0} (n : ℕ) (named faults : E → ℕ) (received : E → Option (List ℕ)) (ends : List E) (before : List Event) (x : Event) : Type 0 where
  pub end : E
  pub front : List E
  pub entries : List Entry
  pub same : events_of entries ≡ before
  pub last : ends ≡ front ++ end ∷ []
  pub met : MetBy n named faults received entries x end

no-cut : (b : Bool) (P : Type 0) → b ≡ true → b ≡ false → P
no-cut true P t f = absurd (cc)
no-cut false P t f = absurd (cc)

last-goes : {E : Type 0} (n : ℕ) (named faults : E → ℕ) (received : E → Option (List ℕ)) (es : List Entry) (ends : List E) (e : Entry) (before rest : List Event) (x : Event)
    → ((more : List Event) → events_of es ≡ before ++ x ∷ more → IsKeptLast n named faults received ends before x) → is_cut x ≡ true → is_cut e.event ≡ false → IsSplit (events_of es) e.event before x rest → IsKeptLast n named faults received ends before x
last-goes n named faults received es ends e before rest x earlier cut plain (inl (same, last)) = no-cut (is_cut x) _ cut (ap is_cut (sym last) ∙ plain)
last-goes n named faults received es ends e before rest x earlier cut plain (inr (more, same)) = earlier more same

last-cuts : {E : Type 0} (n : ℕ) (named faults : E → ℕ) (received : E → Option (List ℕ)) (es : List Entry) (ends : List E) (e : Entry) (end : E) (before rest : List Event) (x : Event)
    → ((more : List Event) → events_of es ≡ before ++ x ∷ more → ⊥) → MetBy n named faults received es e.event end → IsSplit (events_of es) e.event before x rest → IsKeptLast n named faults received (ends ++ end ∷ []) before x
last-cuts n named faults received es ends e end before rest x none met (inl (same, last)) =
    record { end = end; front = ends; entries = es; same = same; last = refl; met = subst (λ (y : Event). MetBy n named faults received es y end) last met }
last-cuts n named faults received es ends e end before rest x none met (inr (more, same)) = absurd (none more same)

-- no end is kept after the halt
pub kept-last : {E : Type 0} (n : ℕ) (named faults : E → ℕ) (received : E → Option (List ℕ)) (es : List Entry) (ends : List E) → Kept n named faults received es ends → HaltsStay → (w v : WorldValue) → Runs w (events_of es) v
    → (before rest : List Event) (s : ℕ) (side : Side) (got : List ℕ) → events_of es ≡ before ++ event.Foreign s side got ∷ rest → IsKeptLast n named faults received ends before (event.Foreign s side got)
kept-last n named faults received es ends Kept.none stay w v r before rest s side got e = none-is before (event.Foreign s side got) rest _ e
kept-last n named faults received es ends (Kept.goes fs xs e plain k) stay w v r before rest s side got same =
    let x = event.Foreign s side got in
    let last = runs-last w (events_of fs) e.event v (subst (λ (ys : List Event). Runs w ys v) (events-last fs e) r) in
    last-goes n named faults received fs xs e before rest x (λ more is. kept-last n named faults received fs xs k stay w last.0 last.1 before more s side got is) refl plain (split-last (events_of fs) e.event before x rest (sym (events-last fs e) ∙ same))
kept-last n named faults received es ends (Kept.cuts fs xs e end met k) stay w v r before rest s side got same =
    let x = event.Foreign s side got in
    let last = runs-last w (events_of fs) e.event v (subst (λ (ys : List Event). Runs w ys v) (events-last fs e) r) in
    last-cuts n named faults received fs xs e end before rest x
    (λ more is. halts-after stay w before s side got more last.0 (subst (λ (ys : List Event). Runs w ys last.0) is last.1) (cut-runs n named faults received fs e.event end last.0 v met last.2)) met (split-last (events_of fs) e.event before x rest (sym (events-last fs e) ∙ same))
