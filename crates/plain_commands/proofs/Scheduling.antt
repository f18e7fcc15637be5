-- What a schedule does is a run of the world.
use Rattle.std.proofs.Common.{◌≡◌, ◌≢◌, ℕ, zero, suc, ◌+◌, ◌<◌, List, [], ◌∷◌, ◌++◌, length, take, drop, get_or, refl, sym, ◌∙◌, ap, subst, Option, Some, arith}
use Rattle.std.proofs.lemmas.List.{append_assoc, append-nil}
use Rattle.topology_model.specs.Layouts.{Layout}
use Rattle.topology_model.specs.declared.line.DeclaredSwitch.{DeclaredSwitch}
use Rattle.document_text.specs.declared.document.ScheduleStep.{ScheduleStep}
use Rattle.document_text.specs.declared.document.ScheduleStep.TheVariants as order
use Rattle.document_text.specs.declared.document.PacketLine.{PacketLine}
use Rattle.document_text.specs.declared.document.ScheduleLine.{ScheduleLine}
use Rattle.world_core.specs.declared.event.Event.{Event}
use Rattle.world_core.specs.declared.event.Event.TheVariants as event
use Rattle.world_core.specs.declared.event.ControllerEvent.TheVariants as of_controller
use Rattle.world_core.specs.declared.event.PacketEvent.TheVariants as of_packet
use Rattle.world_core.specs.declared.event.SwitchEvent.TheVariants as of_switch
use Rattle.world_core.specs.declared.fault.StepFault.{StepFault}
use Rattle.world_core.specs.declared.fault.StepFault.TheVariants.{NotEnabled}
use Rattle.world_core.specs.Worlds.{WorldValue}
use Rattle.world_core.specs.Steps.{IsEnabled, Step, Runs}
use Rattle.world_core.specs.Settling.{Followed, settling, flowing}
use Rattle.plain_commands.specs.Schedules.{event_of, CannotHappen, DoesOne, Does, CarriedOut, StopsAt}

-- a step has one fault
pub only-fault : (f : StepFault) → f ≡ NotEnabled
only-fault NotEnabled = refl

-- no event changes the topology
pub step-topology : (w : WorldValue) (e : Event) (v : WorldValue) → Step w e v → v.topology ≡ w.topology
step-topology w (event.Controller of_controller.Begin) v h = ap (λ (x : WorldValue). x.topology) h.now
step-topology w (event.Controller (of_controller.Send s)) v h = ap (λ (x : WorldValue). x.topology) h.now
step-topology w (event.Switch (of_switch.Take s)) v h = ap (λ (x : WorldValue). x.topology) h.now
step-topology w (event.Switch (of_switch.Apply s k)) v h = ap (λ (x : WorldValue). x.topology) h.now
step-topology w (event.Switch (of_switch.Reply s)) v h = ap (λ (x : WorldValue). x.topology) h.now
step-topology w (event.Controller (of_controller.Heard s)) v h = ap (λ (x : WorldValue). x.topology) h.now
step-topology w (event.Packet (of_packet.Arrive pk tag)) v h = ap (λ (x : WorldValue). x.topology) h.now
step-topology w (event.Packet (of_packet.Hop k)) v h = ap (λ (x : WorldValue). x.topology) h.now
step-topology w (event.Controller (of_controller.Drained stamp)) v h = ap (λ (x : WorldValue). x.topology) h.step.now
step-topology w (event.Controller (of_controller.Lost s)) v h = ap (λ (x : WorldValue). x.topology) h.now
step-topology w (event.Controller (of_controller.Rejoin s)) v h = ap (λ (x : WorldValue). x.topology) h.now
step-topology w (event.Packet (of_packet.Stuck k)) v h = ap (λ (x : WorldValue). x.topology) h.now
step-topology w (event.Foreign s side got) v h = ap (λ (x : WorldValue). x.topology) h.now

pub runs-topology : (w : WorldValue) (es : List Event) (v : WorldValue) → Runs w es v → v.topology ≡ w.topology
runs-topology w [] v r = ap (λ (x : WorldValue). x.topology) (sym r)
runs-topology w (e ∷ es) v r = runs-topology r.0 es v r.2 ∙ step-topology w e r.0 r.1

-- what is followed is a run
pub followed-runs : (tried : WorldValue → List Event) (w : WorldValue) (es : List Event) (v : WorldValue) → Followed tried w es v → Runs w es v
followed-runs tried w [] v f = f
followed-runs tried w (e ∷ es) v f = (f.0, f.2, followed-runs tried f.0 es v f.3)

runs-both : (w : WorldValue) (es : List Event) (x : WorldValue) (fs : List Event) (v : WorldValue) → Runs w es x → Runs x fs v → Runs w (es ++ fs) v
runs-both w [] x fs v r q = subst (λ (z : WorldValue). Runs z fs v) (sym r) q
runs-both w (e ∷ es) x fs v r q = (r.0, r.1, runs-both r.0 es x fs v r.2 q)

one-runs : (named : Option Event) (w : WorldValue) (es : List Event) (v : WorldValue) → DoesOne named w es v → Runs w es v
one-runs named w es v d = subst (λ (z : List Event). Runs w z v) (sym d.all) (v, d.step, refl)

pub does-runs : (sites : List DeclaredSwitch) (packets : List PacketLine) (c : ScheduleStep) (w : WorldValue) (es : List Event) (v : WorldValue) → Does sites packets c w es v → Runs w es v
does-runs sites packets order.Settle w es v d = followed-runs settling w es v d.done
does-runs sites packets order.Flow w es v d = followed-runs flowing w es v d.done
does-runs sites packets order.Begin w es v d = one-runs (event_of sites packets order.Begin) w es v d
does-runs sites packets (order.Send sw) w es v d = one-runs (event_of sites packets (order.Send sw)) w es v d
does-runs sites packets (order.Take sw) w es v d = one-runs (event_of sites packets (order.Take sw)) w es v d
does-runs sites packets (order.Apply sw k) w es v d = one-runs (event_of sites packets (order.Apply sw k)) w es v d
does-runs sites packets (order.Reply sw) w es v d = one-runs (event_of sites packets (order.Reply sw)) w es v d
does-runs sites packets (order.Heard sw) w es v d = one-runs (event_of sites packets (order.Heard sw)) w es v d
does-runs sites packets (order.Arrive n) w es v d = one-runs (event_of sites packets (order.Arrive n)) w es v d
does-runs sites packets (order.Hop k) w es v d = one-runs (event_of sites packets (order.Hop k)) w es v d
does-runs sites packets (order.Drained stamp) w es v d = one-runs (event_of sites packets (order.Drained stamp)) w es v d
does-runs sites packets (order.Lost sw) w es v d = one-runs (event_of sites packets (order.Lost sw)) w es v d
does-runs sites packets (order.Rejoin sw) w es v d = one-runs (event_of sites packets (order.Rejoin sw)) w es v d
does-runs sites packets (order.Stuck k) w es v d = one-runs (event_of sites packets (order.Stuck k)) w es v d

pub carried-runs : (sites : List DeclaredSwitch) (packets : List PacketLine) (w : WorldValue) (ls : List ScheduleLine) (es : List Event) (v : WorldValue) → CarriedOut sites packets w ls es v → Runs w es v
carried-runs sites packets w [] es v c = subst (λ (z : List Event). Runs w z v) (sym c.0) c.1
carried-runs sites packets w (l ∷ ls) es v c =
    subst (λ (z : List Event). Runs w z v) (sym c.5) (runs-both w c.0 c.1 c.2 v (does-runs sites packets l.event w c.0 c.1 c.3) (carried-runs sites packets c.1 ls c.2 v c.4))

-- any order but two does its event
pub does-one : (sites : List DeclaredSwitch) (packets : List PacketLine) (c : ScheduleStep) (w : WorldValue) (es : List Event) (v : WorldValue) → c ≢ order.Settle → c ≢ order.Flow →
    DoesOne (event_of sites packets c) w es v → Does sites packets c w es v
does-one sites packets order.Settle w es v a b d = absurd (a refl)
does-one sites packets order.Flow w es v a b d = absurd (b refl)
does-one sites packets order.Begin w es v a b d = d
does-one sites packets (order.Send sw) w es v a b d = d
does-one sites packets (order.Take sw) w es v a b d = d
does-one sites packets (order.Apply sw k) w es v a b d = d
does-one sites packets (order.Reply sw) w es v a b d = d
does-one sites packets (order.Heard sw) w es v a b d = d
does-one sites packets (order.Arrive n) w es v a b d = d
does-one sites packets (order.Hop k) w es v a b d = d
does-one sites packets (order.Drained stamp) w es v a b d = d
does-one sites packets (order.Lost sw) w es v a b d = d
does-one sites packets (order.Rejoin sw) w es v a b d = d
does-one sites packets (order.Stuck k) w es v a b d = d

-- and cannot happen where its event cannot
pub cannot-one : (sites : List DeclaredSwitch) (packets : List PacketLine) (c : ScheduleStep) (w : WorldValue) → c ≢ order.Settle → c ≢ order.Flow → ((e : Event) → event_of sites packets c ≡ Some e → ¬ (IsEnabled w e)) → CannotHappen sites packets c w
cannot-one sites packets order.Settle w a b h = absurd (a refl)
cannot-one sites packets order.Flow w a b h = absurd (b refl)
cannot-one sites packets order.Begin w a b h = h
cannot-one sites packets (order.Send sw) w a b h = h
cannot-one sites packets (order.Take sw) w a b h = h
cannot-one sites packets (order.Apply sw k) w a b h = h
cannot-one sites packets (order.Reply sw) w a b h = h
cannot-one sites packets (order.Heard sw) w a b h = h
cannot-one sites packets (order.Arrive n) w a b h = h
cannot-one sites packets (order.Hop k) w a b h = h
cannot-one sites packets (order.Drained stamp) w a b h = h
cannot-one sites packets (order.Lost sw) w a b h = h
cannot-one sites packets (order.Rejoin sw) w a b h = h
cannot-one sites packets (order.Stuck k) w a b h = h

-- one line more is carried out
pub carried-more : (sites : List DeclaredSwitch) (packets : List PacketLine) (w : WorldValue) (ls : List ScheduleLine) (es : List Event) (x : WorldValue) (l : ScheduleLine) (more : List Event) (v : WorldValue) →
    CarriedOut sites packets w ls es x → Does sites packets l.event x more v → CarriedOut sites packets w (ls ++ l ∷ []) (es ++ more) v
carried-more sites packets w [] es x l more v c d =
    (more, v, [], subst (λ (z : WorldValue). Does sites packets l.event z more v) (sym c.1) d, (refl, refl), ap (λ (z : List Event). z ++ more) c.0 ∙ sym (append-nil more))
carried-more sites packets w (k ∷ ls) es x l more v c d =
    (c.0, c.1, c.2 ++ more, c.3, carried-more sites packets c.1 ls c.2 x l more v c.4 d, ap (λ (z : List Event). z ++ more) c.5 ∙ append_assoc c.0 c.2 more)

-- a list about the element at a place
split-at : {X : Type 0} (xs : List X) (k : ℕ) (d : X) → k < length xs → xs ≡ take k xs ++ get_or xs k d ∷ drop (suc k) xs
split-at [] k d l = absurd (omega (arith, l))
split-at (x ∷ xs) zero d l = refl
split-at {X} (x ∷ xs) (suc k) d l = ap (λ (zs : List X). x ∷ zs) (split-at xs k d (omega (arith, l)))

take-more : {X : Type 0} (xs : List X) (k : ℕ) (d : X) → k < length xs → take (suc k) xs ≡ take k xs ++ get_or xs k d ∷ []
take-more [] k d l = absurd (omega (arith, l))
take-more (x ∷ xs) zero d l = refl
take-more {X} (x ∷ xs) (suc k) d l = ap (λ (zs : List X). x ∷ zs) (take-more xs k d (omega (arith, l)))

-- the line at a place is carried out too
pub carried-next : (sites : List DeclaredSwitch) (packets : List PacketLine) (w : WorldValue) (ls : List ScheduleLine) (k : ℕ) (d : ScheduleLine) (es : List Event) (x : WorldValue) (now : List Event) (v : WorldValue) → k < length ls →
    CarriedOut sites packets w (take k ls) es x → x.topology ≡ w.topology → sites ≡ w.topology.switches →
    ((more : List Event) × Does x.topology.switches packets (get_or ls k d).event x more v × (now ≡ es ++ more)) → CarriedOut sites packets w (take (k + 1) ls) now v
carried-next sites packets w ls k d es x now v l c same of h =
    let does = subst (λ (ss : List DeclaredSwitch). Does ss packets (get_or ls k d).event x h.0 v) (ap (λ (t : Layout). t.switches) same ∙ sym of) h.1 in
    let next : suc k ≡ k + 1 = omega arith in
    subst (λ (zs : List ScheduleLine). CarriedOut sites packets w zs now v) (sym (take-more ls k d l) ∙ ap (λ (n : ℕ). take n ls) next)
    (subst (λ (fs : List Event). CarriedOut sites packets w (take k ls ++ get_or ls k d ∷ []) fs v) (sym h.2) (carried-more sites packets w (take k ls) es x (get_or ls k d) h.0 v c does))

-- or its event cannot happen
pub stops : (sites : List DeclaredSwitch) (packets : List PacketLine) (w : WorldValue) (ls : List ScheduleLine) (k : ℕ) (d : ScheduleLine) (es : List Event) (x : WorldValue) → k < length ls → CarriedOut sites packets w (take k ls) es x →
    x.topology ≡ w.topology → sites ≡ w.topology.switches → CannotHappen x.topology.switches packets (get_or ls k d).event x → StopsAt sites packets w ls (get_or ls k d).line
stops sites packets w ls k d es x l c same of h = record {
  before = take k ls;
  here = get_or ls k d;
  behind = drop (suc k) ls;
  all = split-at ls k d l;
  number = refl;
  events = es;
  world = x;
  done = c;
  refused = subst (λ (ss : List DeclaredSwitch). CannotHappen ss packets (get_or ls k d).event x) (ap (λ (t : Layout). t.switches) same ∙ sym of) h;
}
