-- What the controller can do next can happen in the world.
use Rattle.std.proofs.Common.{◌≡◌, ◌≢◌, ◌<◌, inr, ℕ, List, [], ◌∷◌, ◌++◌, length, Option, Some, None, slice_get, slice_set, get_or, refl, sym, ap, subst, arith}
use Rattle.std.proofs.lemmas.Option.{slice_get-get_or}
use Rattle.openflow_wire.specs.declared.message.Message.{Message}
use Rattle.update_coordinator.specs.Calls.{begin_refusal, begun, drain_refusal, drained}
use Rattle.update_coordinator.specs.Controls.{Control, Peer, unsent_at}
use Rattle.update_coordinator.specs.Sending.{IsSent}
use Rattle.update_laws.specs.Fleets.{WiredSwitch}
use Rattle.update_laws.proofs.Places.{get-within}
use Rattle.world_core.specs.declared.event.Event.{Event}
use Rattle.world_core.specs.declared.event.Event.TheVariants as event
use Rattle.world_core.specs.declared.event.ControllerEvent.TheVariants as of_controller
use Rattle.world_core.specs.Ends.{new_end}
use Rattle.world_core.specs.Worlds.{WorldValue, IsKept}
use Rattle.world_core.specs.Steps.{IsEnabled, NoneCarries, Step}
use Rattle.world_core.specs.Laws.{SwitchesFollow}
use Rattle.drive_journal.specs.declared.steering.Steering.{Steering}
use Rattle.drive_journal.specs.declared.steering.Steering.TheVariants.{Begin, Send, Heard, Drained, Lost, Garbled}
use Rattle.drive_journal.specs.Losses.{HaltsAtLoss}
use Rattle.drive_journal.specs.Steering.{Steers}
use Rattle.drive_journal.proofs.Losing.{lost-stops}
use Rattle.drive_laws.specs.Laws.{Means}

-- the event can happen, and leads to this coordinator
abbrev pub Lifts : WorldValue → Event → Control → Type 0
Lifts w e d = IsEnabled w e × ((v : WorldValue) × Step w e v × (v.fleet.control ≡ d))

not-none : {X : Type 0} (x : X) (xs ys : List X) → ys ≡ x ∷ xs → ys ≢ []
not-none x xs ys e n = cc

some-halt : {X : Type 0} (o : Option X) (x : X) → o ≡ Some x → o ≢ None
some-halt o x e = λ n. cc

-- the switch of a session has a place
within : SwitchesFollow → (w : WorldValue) (s : ℕ) (peer : Peer) → IsKept w → slice_get w.fleet.control.peers s ≡ Some peer → s < length w.fleet.wired
within f w s peer k here = omega (arith, (f w k).wired, get-within s w.fleet.control.peers peer here)

sends-up : SwitchesFollow → (w : WorldValue) (s : ℕ) (m : Message) (d : Control) → IsKept w → IsSent s w.fleet.control d m → Lifts w (event.Controller (of_controller.Send s)) d
sends-up f w s m d k h =
    let old : WiredSwitch = get_or w.fleet.wired s (new_end 0 0) in
    let here : slice_get w.fleet.wired s ≡ Some old = slice_get-get_or w.fleet.wired s (new_end 0 0) (within f w s h.peer k h.here) in
    let now : WiredSwitch = record old { there = old.there ++ m ∷ [] } in (
      record { running = h.running; peer = h.peer; here = h.here; some = not-none h.order h.rest (unsent_at w.fleet.control h.peer) h.front },
      (
        record w { fleet = record { control = d; wired = slice_set w.fleet.wired s now } },
        record {
          fleet = record { control = d; wired = slice_set w.fleet.wired s now };
          step = record { message = m; control = d; sent = h; old = old; here = here; now = refl };
          now = refl;
        },
        refl,
      ),
    )

begun-up : (w : WorldValue) (d : Control) → begin_refusal w.fleet.control ≡ None → d ≡ begun w.fleet.control → Step w (event.Controller of_controller.Begin) (record w { fleet = record w.fleet { control = d } })
begun-up w d a b = record {
  fleet = record { control = d; wired = w.fleet.wired };
  step = record { asked = a; now = λ i. record { control = b i; wired = w.fleet.wired } };
  now = refl;
}

drained-up : (stamp : ℕ) (w : WorldValue) (d : Control) → NoneCarries stamp w.flights → drain_refusal w.fleet.control stamp ≡ None → d ≡ drained w.fleet.control → Step w (event.Controller (of_controller.Drained stamp)) (record w { fleet = record w.fleet { control = d } })
drained-up stamp w d none a b = record {
  none = none;
  step = record {
    fleet = record { control = d; wired = w.fleet.wired };
    step = record { asked = a; now = λ i. record { control = b i; wired = w.fleet.wired } };
    now = refl;
  };
}

pub lifts : SwitchesFollow → (w : WorldValue) (s : Steering) (d : Control) (e : Event) → IsKept w → HaltsAtLoss w.fleet.control → Steers w.fleet.control s d → Means w s e → Lifts w e d
lifts f w Begin d e k l h m = subst (λ (x : Event). Lifts w x d) (sym m) (h.0, (record w { fleet = record w.fleet { control = d } }, begun-up w d h.0 h.1, refl))
lifts f w (Send s x) d e k l h m = subst (λ (y : Event). Lifts w y d) (sym m) (sends-up f w s x d k h)
lifts f w (Heard s x) d e k l h m =
    let at = m.0 in
    let now : WiredSwitch = record at.end_ { back = at.is.0 } in
    subst (λ (y : Event). Lifts w y d) (sym m.1) (
      (record { running = h.1.running; peer = h.1.peer; here = h.1.here; there = h.1.there }, record { end_ = at.end_; here = at.here; is = not-none x at.is.0 at.end_.back at.is.1 }),
      (
        record w { fleet = record { control = d; wired = slice_set w.fleet.wired s now } },
        record {
          fleet = record { control = d; wired = slice_set w.fleet.wired s now };
          step = record { old = at.end_; here = at.here; message = x; rest = at.is.0; front = at.is.1; move = h.0; control = d; heard = h.1; now = refl };
          now = refl;
        },
        refl,
      ),
    )
lifts f w (Drained stamp) d e k l h m =
    subst (λ (y : Event). Lifts w y d) (sym m.1) ((h.0, m.0), (record w { fleet = record w.fleet { control = d } }, drained-up stamp w d m.0 h.0 h.1, refl))
lifts f w (Lost s) d e k l h m = subst (λ (y : Event). Lifts w y d) (sym m) (
  record { running = h.running; peer = h.peer; here = h.here; there = h.there },
  (
    record w { fleet = record w.fleet { control = d } },
    record {
      fleet = record { control = d; wired = w.fleet.wired };
      step = inr (record { control = d; lost = h; stops = some-halt _ _ (ap (λ (x : Control). x.halt) (lost-stops w.fleet.control d s l.none_left h)); now = refl });
      now = refl;
    },
    refl,
  ),
)
lifts f w (Garbled s x) d e k l h m = absurd m
