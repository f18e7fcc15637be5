-- A schedule is carried out in one way.
use Rattle.std.proofs.Common.{◌≡◌, ℕ, List, [], ◌∷◌, ◌++◌, drop, slice_get, Option, Some, refl, sym, ◌∙◌, ap, subst, is_some}
use Rattle.document_text.specs.declared.document.ScheduleStep.{ScheduleStep}
use Rattle.document_text.specs.declared.document.ScheduleStep.TheVariants as order
use Rattle.document_text.specs.declared.document.PacketLine.{PacketLine}
use Rattle.document_text.specs.declared.document.ScheduleLine.{ScheduleLine}
use Rattle.report_text.specs.Causes.{control_text}
use Rattle.report_text.specs.Reports.{IsReportText, IsWorldReport}
use Rattle.report_text.proofs.OneText.{one-report}
use Rattle.topology_model.specs.declared.line.DeclaredSwitch.{DeclaredSwitch}
use Rattle.update_coordinator.specs.Controls.{Control}
use Rattle.update_laws.proofs.Wiring.{some-is}
use Rattle.world_core.specs.declared.event.Event.{Event}
use Rattle.world_core.specs.Steps.{IsEnabled}
use Rattle.world_core.specs.Worlds.{WorldValue, IsKept}
use Rattle.world_core.proofs.Agreeing.{AreAlike, itself}
use Rattle.world_core.proofs.Kept.{run-keeps}
use Rattle.world_core.proofs.Repeating.{IsSameRun, can-alike, stepped, step-enabled, settled-same, flown-same}
use Rattle.plain_commands.specs.Schedules.{event_of, CannotHappen, DoesOne, Does, CarriedOut, StopsAt}
use Rattle.program_answer.specs.Worlds.{start_of}
use Rattle.plain_commands.specs.Simulate.{OneReport, OneStop, NotBoth}
use Rattle.plain_commands.proofs.Scheduling.{does-runs, carried-runs}

-- ---- lines are carried out in one way

one-same : (named : Option Event) (w x : WorldValue) (es : List Event) (v : WorldValue) (fs : List Event) (u : WorldValue) → IsKept w → AreAlike w x → DoesOne named w es v → DoesOne named x fs u → IsSameRun es fs v u
one-same named w x es v fs u k a p q =
    let same : p.event ≡ q.event = some-is p.event q.event (sym p.is ∙ q.is) in
    record { events = p.all ∙ (λ i. same i ∷ []) ∙ sym q.all; worlds = stepped w x p.event q.event v u k a same p.step q.step }

does-same : (sites : List DeclaredSwitch) (packets : List PacketLine) (c : ScheduleStep) (w x : WorldValue) (es : List Event) (v : WorldValue) (fs : List Event) (u : WorldValue) → IsKept w → AreAlike w x →
    Does sites packets c w es v → Does sites packets c x fs u → IsSameRun es fs v u
does-same sites packets order.Settle w x es v fs u k a p q = settled-same w x es v fs u k a p q
does-same sites packets order.Flow w x es v fs u k a p q = flown-same w x es v fs u k a p q
does-same sites packets order.Begin w x es v fs u k a p q = one-same (event_of sites packets order.Begin) w x es v fs u k a p q
does-same sites packets (order.Send sw) w x es v fs u k a p q = one-same (event_of sites packets (order.Send sw)) w x es v fs u k a p q
does-same sites packets (order.Take sw) w x es v fs u k a p q = one-same (event_of sites packets (order.Take sw)) w x es v fs u k a p q
does-same sites packets (order.Apply sw n) w x es v fs u k a p q = one-same (event_of sites packets (order.Apply sw n)) w x es v fs u k a p q
does-same sites packets (order.Reply sw) w x es v fs u k a p q = one-same (event_of sites packets (order.Reply sw)) w x es v fs u k a p q
does-same sites packets (order.Heard sw) w x es v fs u k a p q = one-same (event_of sites packets (order.Heard sw)) w x es v fs u k a p q
does-same sites packets (order.Arrive n) w x es v fs u k a p q = one-same (event_of sites packets (order.Arrive n)) w x es v fs u k a p q
does-same sites packets (order.Hop n) w x es v fs u k a p q = one-same (event_of sites packets (order.Hop n)) w x es v fs u k a p q
does-same sites packets (order.Drained stamp) w x es v fs u k a p q = one-same (event_of sites packets (order.Drained stamp)) w x es v fs u k a p q
does-same sites packets (order.Lost sw) w x es v fs u k a p q = one-same (event_of sites packets (order.Lost sw)) w x es v fs u k a p q
does-same sites packets (order.Rejoin sw) w x es v fs u k a p q = one-same (event_of sites packets (order.Rejoin sw)) w x es v fs u k a p q
does-same sites packets (order.Stuck n) w x es v fs u k a p q = one-same (event_of sites packets (order.Stuck n)) w x es v fs u k a p q

carried-same : (sites : List DeclaredSwitch) (packets : List PacketLine) (w x : WorldValue) (ls : List ScheduleLine) (es : List Event) (v : WorldValue) (fs : List Event) (u : WorldValue) → IsKept w → AreAlike w x →
    CarriedOut sites packets w ls es v → CarriedOut sites packets x ls fs u → IsSameRun es fs v u
carried-same sites packets w x [] es v fs u k a p q =
    record { events = p.0 ∙ sym q.0; worlds = subst (λ (z : WorldValue). AreAlike z u) p.1 (subst (λ (z : WorldValue). AreAlike w z) q.1 a) }
carried-same sites packets w x (l ∷ ls) es v fs u k a p q =
    let first = does-same sites packets l.event w x p.0 p.1 q.0 q.1 k a p.3 q.3 in
    let rest = carried-same sites packets p.1 q.1 ls p.2 v q.2 u (run-keeps w p.0 p.1 (does-runs sites packets l.event w p.0 p.1 p.3) k) first.worlds p.4 q.4 in
    record { events = p.5 ∙ (λ i. first.events i ++ rest.events i) ∙ sym q.5; worlds = rest.worlds }

-- ---- where they stop

-- the part before some lines
record IsSplit (sites : List DeclaredSwitch) (packets : List PacketLine) (w : WorldValue) (front : List ScheduleLine) (l : ScheduleLine) (v : WorldValue) : Type 0 where
  events : List Event
  world : WorldValue
  done : CarriedOut sites packets w front events world
  more : List Event
  next : WorldValue
  does : Does sites packets l.event world more next

split-carried : (sites : List DeclaredSwitch) (packets : List PacketLine) (w : WorldValue) (front : List ScheduleLine) (l : ScheduleLine) (back : List ScheduleLine) (es : List Event) (v : WorldValue) →
    CarriedOut sites packets w (front ++ l ∷ back) es v → IsSplit sites packets w front l v
split-carried sites packets w [] l back es v c = record { events = []; world = w; done = (refl, refl); more = c.0; next = c.1; does = c.3 }
split-carried sites packets w (k ∷ ks) l back es v c =
    let r = split-carried sites packets c.1 ks l back c.2 v c.4 in
    record { events = c.0 ++ r.events; world = r.world; done = (c.0, c.1, r.events, c.3, r.done, refl); more = r.more; next = r.next; does = r.does }

no-one : (named : Option Event) (w x : WorldValue) (es : List Event) (v : WorldValue) → IsKept w → AreAlike w x → DoesOne named w es v → ((e : Event) → named ≡ Some e → ¬ (IsEnabled x e)) → ⊥
no-one named w x es v k a d h = h d.event d.is (can-alike w x d.event a (step-enabled w d.event v k d.step))

no-does : (sites : List DeclaredSwitch) (packets : List PacketLine) (c : ScheduleStep) (w x : WorldValue) (es : List Event) (v : WorldValue) → IsKept w → AreAlike w x → Does sites packets c w es v → CannotHappen sites packets c x → ⊥
no-does sites packets order.Settle w x es v k a d h = h
no-does sites packets order.Flow w x es v k a d h = h
no-does sites packets order.Begin w x es v k a d h = no-one (event_of sites packets order.Begin) w x es v k a d h
no-does sites packets (order.Send sw) w x es v k a d h = no-one (event_of sites packets (order.Send sw)) w x es v k a d h
no-does sites packets (order.Take sw) w x es v k a d h = no-one (event_of sites packets (order.Take sw)) w x es v k a d h
no-does sites packets (order.Apply sw n) w x es v k a d h = no-one (event_of sites packets (order.Apply sw n)) w x es v k a d h
no-does sites packets (order.Reply sw) w x es v k a d h = no-one (event_of sites packets (order.Reply sw)) w x es v k a d h
no-does sites packets (order.Heard sw) w x es v k a d h = no-one (event_of sites packets (order.Heard sw)) w x es v k a d h
no-does sites packets (order.Arrive n) w x es v k a d h = no-one (event_of sites packets (order.Arrive n)) w x es v k a d h
no-does sites packets (order.Hop n) w x es v k a d h = no-one (event_of sites packets (order.Hop n)) w x es v k a d h
no-does sites packets (order.Drained stamp) w x es v k a d h = no-one (event_of sites packets (order.Drained stamp)) w x es v k a d h
no-does sites packets (order.Lost sw) w x es v k a d h = no-one (event_of sites packets (order.Lost sw)) w x es v k a d h
no-does sites packets (order.Rejoin sw) w x es v k a d h = no-one (event_of sites packets (order.Rejoin sw)) w x es v k a d h
no-does sites packets (order.Stuck n) w x es v k a d h = no-one (event_of sites packets (order.Stuck n)) w x es v k a d h

-- lines that are all carried out stop nowhere
no-stop : (sites : List DeclaredSwitch) (packets : List PacketLine) (w : WorldValue) (ls : List ScheduleLine) (es : List Event) (v : WorldValue) (line : ℕ) → IsKept w → CarriedOut sites packets w ls es v → StopsAt sites packets w ls line → ⊥
no-stop sites packets w ls es v line k c s =
    let r = split-carried sites packets w s.before s.here s.behind es v (subst (λ (ks : List ScheduleLine). CarriedOut sites packets w ks es v) s.all c) in
    let same = carried-same sites packets w w s.before r.events r.world s.events s.world k (itself w k) r.done s.done in
    no-does sites packets s.here.event r.world s.world r.more r.next (run-keeps w r.events r.world (carried-runs sites packets w s.before r.events r.world r.done) k) same.worlds r.does s.refused

-- two parts of one list: one line, or the one part goes on after the other one's line
data Parts (xs : List ScheduleLine) (x : ScheduleLine) (ys : List ScheduleLine) (y : ScheduleLine) : Type 0 where
  one_line : x ≡ y → Parts xs x ys y
  longer : (more : List ScheduleLine) → ys ≡ xs ++ x ∷ more → Parts xs x ys y
  shorter : (more : List ScheduleLine) → xs ≡ ys ++ y ∷ more → Parts xs x ys y

first-is : (x y : ScheduleLine) (xs ys : List ScheduleLine) → x ∷ xs ≡ y ∷ ys → x ≡ y
first-is x y xs ys e = some-is x y (ap (λ (ls : List ScheduleLine). slice_get ls 0) e)

behind : (z : ScheduleLine) (xs : List ScheduleLine) (x w : ScheduleLine) (ys : List ScheduleLine) (y : ScheduleLine) → z ≡ w → Parts xs x ys y → Parts (z ∷ xs) x (w ∷ ys) y
behind z xs x w ys y same (one_line e) = one_line e
behind z xs x w ys y same (longer more e) = longer more (λ i. sym same i ∷ e i)
behind z xs x w ys y same (shorter more e) = shorter more (λ i. same i ∷ e i)

parts : (xs : List ScheduleLine) (x : ScheduleLine) (cs : List ScheduleLine) (ys : List ScheduleLine) (y : ScheduleLine) (bs : List ScheduleLine) → xs ++ x ∷ cs ≡ ys ++ y ∷ bs → Parts xs x ys y
parts [] x cs [] y bs e = one_line (first-is x y cs bs e)
parts [] x cs (z ∷ ys) y bs e = longer ys (ap (λ (l : ScheduleLine). l ∷ ys) (sym (first-is x z cs (ys ++ y ∷ bs) e)))
parts (z ∷ xs) x cs [] y bs e = shorter xs (ap (λ (l : ScheduleLine). l ∷ xs) (first-is z y (xs ++ x ∷ cs) bs e))
parts (z ∷ xs) x cs (w ∷ ys) y bs e = behind z xs x w ys y (first-is z w (xs ++ x ∷ cs) (ys ++ y ∷ bs) e) (parts xs x cs ys y bs (ap (λ (ls : List ScheduleLine). drop 1 ls) e))

one-stop : (sites : List DeclaredSwitch) (packets : List PacketLine) (w : WorldValue) (ls : List ScheduleLine) (line other : ℕ) → IsKept w → StopsAt sites packets w ls line → StopsAt sites packets w ls other → line ≡ other
one-stop sites packets w ls line other k s t = by (parts s.before s.here s.behind t.before t.here t.behind (sym s.all ∙ t.all))
  where
    by : Parts s.before s.here t.before t.here → line ≡ other
    by (one_line e) = s.number ∙ ap (λ (l : ScheduleLine). l.line) e ∙ sym t.number
    by (longer more e) = absurd (no-stop sites packets w t.before t.events t.world line k t.done
        (record { before = s.before; here = s.here; behind = more; all = e; number = s.number; events = s.events; world = s.world; done = s.done; refused = s.refused }))
    by (shorter more e) = absurd (no-stop sites packets w s.before s.events s.world other k s.done
        (record { before = t.before; here = t.here; behind = more; all = e; number = t.number; events = t.events; world = t.world; done = t.done; refused = t.refused }))

-- ---- the laws

pub one-simulation : OneReport
one-simulation d versions halts stands text other p q =
    let first = start_of d versions in
    let k = p.outcome.kept in
    let same = carried-same d.layout.switches d.packets first first d.schedule p.events p.world q.events q.world k (itself first k) p.outcome.done q.outcome.done in
    let control : p.world.fleet.control ≡ q.world.fleet.control = same.worlds.fleet.control in
    let now = subst (λ (z : WorldValue). IsWorldReport z q.events other) same.worlds.now q.text_is in
    let late = subst (λ (c : Control). IsReportText p.world.topology.switches q.events (control_text c) p.world.flights p.world.arrivals other) (sym control) now in
    let there = subst (λ (es : List Event). IsWorldReport p.world es other) (sym same.events) late in (
      sym p.ends ∙ ap (λ (c : Control). is_some c.halt) control ∙ q.ends,
      one-report p.world.topology.switches p.events (control_text p.world.fleet.control) p.world.flights p.world.arrivals text other p.text_is there,
    )

pub one-line : OneStop
one-line d versions line other s t = one-stop d.layout.switches d.packets (start_of d versions) d.schedule line other s.kept s.stops t.stops

pub not-both : NotBoth
not-both d versions halts text line p s = no-stop d.layout.switches d.packets (start_of d versions) d.schedule p.events p.world line s.kept p.outcome.done s.stops
