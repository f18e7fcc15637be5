-- Each lost session cost a broken end.
use Rattle.std.proofs.Common.{◌≡◌, ℕ, zero, suc, ◌+◌, ◌-◌, ◌^◌, ◌<◌, ◌≤◌, min, ltb, Bool, true, false, List, [], ◌∷◌, ◌++◌, length, Option, None, inl, inr, refl, sym, ap, ◌∙◌, subst, arith, length-append}
use Rattle.std.specs.List.{filter}
use Rattle.std.proofs.lemmas.List.Elements.{filter-append}
use Rattle.std.proofs.lemmas.Bool.Decides.{nat_tests}
use Rattle.outside_net.specs.Told.{Breaks}
use Rattle.world_core.specs.declared.event.Event.{Event}
use Rattle.world_core.specs.declared.event.Event.TheVariants as event
use Rattle.world_core.specs.declared.event.ControllerEvent.TheVariants as of_controller
use Rattle.world_core.specs.declared.event.PacketEvent.TheVariants as of_packet
use Rattle.world_core.specs.declared.event.SwitchEvent.TheVariants as of_switch
use Rattle.world_core.specs.Laws.{counted, is_loss, losses, LossesCount, LastLossHalts}
use Rattle.world_core.specs.Steps.{Step, Runs}
use Rattle.world_core.specs.Worlds.{WorldValue}
use Rattle.world_journal.specs.declared.entry.Entry.{Entry}
use Rattle.world_journal.specs.Makers.{is_cut}
use Rattle.world_journal.specs.Journals.{events_of, Kept, MetBy}
use Rattle.thread_commands.specs.Run.{many_broken}
use Rattle.thread_commands.proofs.Gathering.{rose-by-one}
use Rattle.thread_commands.proofs.KeptEnds.{events-last}

losses-more : (es : List Event) (e : Event) → losses (es ++ e ∷ []) ≡ losses es + counted (is_loss e) 0
losses-more [] e = sym (omega arith)
losses-more (x ∷ es) e = by-first (is_loss x) (losses (es ++ e ∷ [])) (losses es) (counted (is_loss e) 0) (losses-more es e)
  where
    by-first : (b : Bool) (m n k : ℕ) → m ≡ n + k → counted b m ≡ counted b n + k
    by-first true m n k is = omega (arith, is)
    by-first false m n k is = is

broken-more : {E : Type 0} (faults : E → ℕ) (ends : List E) (end : E) → many_broken faults (ends ++ end ∷ []) ≡ many_broken faults ends + many_broken faults (end ∷ [])
broken-more {E} faults ends end = ap length (filter-append (λ (e : E). ltb 0 (faults e)) ends (end ∷ [])) ∙ length-append (filter (λ (e : E). ltb 0 (faults e)) ends) (filter (λ (e : E). ltb 0 (faults e)) (end ∷ []))

broken-one : {E : Type 0} (faults : E → ℕ) (end : E) → 0 < faults end → many_broken faults (end ∷ []) ≡ 1
broken-one faults end f = let is : ltb 0 (faults end) ≡ true = grind (arith, nat_tests) in rw is refl

broken-none : {E : Type 0} (faults : E → ℕ) (end : E) → faults end ≡ 0 → many_broken faults (end ∷ []) ≡ 0
broken-none faults end f = rw f refl

-- ---- the ends of a journal

no-loss : (e : Event) → is_cut e ≡ false → is_loss e ≡ false
no-loss (event.Controller of_controller.Begin) f = refl
no-loss (event.Controller (of_controller.Send t)) f = refl
no-loss (event.Switch (of_switch.Take t)) f = refl
no-loss (event.Switch (of_switch.Apply t k)) f = refl
no-loss (event.Switch (of_switch.Reply t)) f = refl
no-loss (event.Controller (of_controller.Heard t)) f = refl
no-loss (event.Packet (of_packet.Arrive pk tag)) f = refl
no-loss (event.Packet (of_packet.Hop k)) f = refl
no-loss (event.Controller (of_controller.Drained stamp)) f = refl
no-loss (event.Controller (of_controller.Lost t)) f = cc
no-loss (event.Controller (of_controller.Rejoin t)) f = refl
no-loss (event.Packet (of_packet.Stuck k)) f = refl
no-loss (event.Foreign t side got) f = cc

cut-counts : {E : Type 0} (n : ℕ) (named faults : E → ℕ) (received : E → Option (List ℕ)) (es : List Entry) (e : Event) (end : E) → MetBy n named faults received es e end → counted (is_loss e) 0 ≤ many_broken faults (end ∷ [])
cut-counts n named faults received es (event.Controller of_controller.Begin) end met = absurd met
cut-counts n named faults received es (event.Controller (of_controller.Send t)) end met = absurd met
cut-counts n named faults received es (event.Switch (of_switch.Take t)) end met = absurd met
cut-counts n named faults received es (event.Switch (of_switch.Apply t k)) end met = absurd met
cut-counts n named faults received es (event.Switch (of_switch.Reply t)) end met = absurd met
cut-counts n named faults received es (event.Controller (of_controller.Heard t)) end met = absurd met
cut-counts n named faults received es (event.Packet (of_packet.Arrive pk tag)) end met = absurd met
cut-counts n named faults received es (event.Packet (of_packet.Hop k)) end met = absurd met
cut-counts n named faults received es (event.Controller (of_controller.Drained stamp)) end met = absurd met
cut-counts n named faults received es (event.Controller (of_controller.Lost t)) end met = omega (arith, broken-one faults end met.1)
cut-counts n named faults received es (event.Controller (of_controller.Rejoin t)) end met = absurd met
cut-counts n named faults received es (event.Packet (of_packet.Stuck k)) end met = absurd met
cut-counts n named faults received es (event.Foreign t side got) end met = omega arith

losses-last : (es : List Entry) (e : Entry) → losses (events_of (es ++ e ∷ [])) ≡ losses (events_of es) + counted (is_loss e.event) 0
losses-last es e = ap losses (events-last es e) ∙ losses-more (events_of es) e.event

pub losses-broken : {E : Type 0} (n : ℕ) (named faults : E → ℕ) (received : E → Option (List ℕ)) (es : List Entry) (ends : List E) → Kept n named faults received es ends → losses (events_of es) ≤ many_broken faults ends
losses-broken n named faults received es ends Kept.none = omega arith
losses-broken n named faults received es ends (Kept.goes fs xs e plain k) =
    let none : counted (is_loss e.event) 0 ≡ 0 = ap (λ b. counted b 0) (no-loss e.event plain) in
    omega (arith, losses-last fs e, none, losses-broken n named faults received fs xs k)
losses-broken n named faults received es ends (Kept.cuts fs xs e end met k) =
    omega (arith, losses-last fs e, broken-more faults xs end, cut-counts n named faults received fs e.event end met, losses-broken n named faults received fs xs k)

-- ---- ends that are given back

-- so many of them had failed, and the count of broken ends rose by as many
pub record AreCountedBy {E : Type 0} (faults : E → ℕ) (all left : List E) (before now : ℕ) : Type 0 where
  pub back : ℕ
  pub rest : back + many_broken faults left ≡ many_broken faults all
  pub rose : min (before + back) (2 ^ 64 - 1) ≤ now

pub counted-start : {E : Type 0} (faults : E → ℕ) (all : List E) (n : ℕ) → AreCountedBy faults all all n n
counted-start faults all n = record { back = 0; rest = omega arith; rose = omega arith }

rose-more : (before back mid now : ℕ) → min (before + back) (2 ^ 64 - 1) ≤ mid → min (mid + 1) (2 ^ 64 - 1) ≤ now → min (before + (back + 1)) (2 ^ 64 - 1) ≤ now
rose-more before back mid now r s = omega (arith, r, s)

counted-case : {E : Type 0} (faults : E → ℕ) (all rest : List E) (end : E) (before mid now : ℕ) (h : AreCountedBy faults all (rest ++ end ∷ []) before mid) → Breaks (faults end) mid now → (k : ℕ) → faults end ≡ k → AreCountedBy faults all rest before now
counted-case faults all rest end before mid now h b zero is = record {
  back = h.back;
  rest = omega (arith, h.rest, broken-more faults rest end, broken-none faults end is);
  rose = omega (arith, h.rose, b.later);
}
counted-case faults all rest end before mid now h b (suc k) is =
    let some : 0 < faults end = omega (arith, is) in record {
      back = h.back + 1;
      rest = omega (arith, h.rest, broken-more faults rest end, broken-one faults end some);
      rose = rose-more before h.back mid now h.rose (rose-by-one mid now (b.broken some));
    }

pub counted-by : {E : Type 0} (faults : E → ℕ) (all left rest : List E) (end : E) (before mid now : ℕ) → AreCountedBy faults all left before mid → left ≡ rest ++ end ∷ [] → Breaks (faults end) mid now → AreCountedBy faults all rest before now
counted-by faults all left rest end before mid now h is b = counted-case faults all rest end before mid now (subst (λ xs. AreCountedBy faults all xs before mid) is h) b (faults end) refl

pub counted-last : {E : Type 0} (faults : E → ℕ) (all left : List E) (before now : ℕ) → left ≡ [] → AreCountedBy faults all left before now → min (before + many_broken faults all) (2 ^ 64 - 1) ≤ now
counted-last faults all left before now none h =
    let zero : many_broken faults left ≡ 0 = ap (many_broken faults) none in
    let all-back : h.back ≡ many_broken faults all = omega (arith, h.rest, zero) in
    subst (λ k. min (before + k) (2 ^ 64 - 1) ≤ now) all-back h.rose

pub rose-fewer : (before n many now : ℕ) → n ≤ many → min (before + many) (2 ^ 64 - 1) ≤ now → min (before + n) (2 ^ 64 - 1) ≤ now
rose-fewer before n many now l r = omega (arith, l, r)

-- ---- the loss that halts

-- it comes after all those that do not
pub halts-last : LossesCount → LastLossHalts → (w : WorldValue) (before : List Event) (v x : WorldValue) (s : ℕ) → Runs w before v → Step v (event.Controller (of_controller.Lost s)) x → ¬ (x.fleet.control.halt ≡ None) → losses before ≡ w.fleet.control.rejoins
halts-last counts last w before v x s runs lost halts =
    let none : v.fleet.control.rejoins ≡ 0 = last v s x lost halts in
    omega (arith, counts w before v runs (runs-before v s x lost), none)
  where
    runs-before : (v : WorldValue) (s : ℕ) (x : WorldValue) → Step v (event.Controller (of_controller.Lost s)) x → v.fleet.control.halt ≡ None
    runs-before v s x l = elim l.step [
      | inl t ↦ t.lost.running
      | inr t ↦ t.lost.running
    ]
