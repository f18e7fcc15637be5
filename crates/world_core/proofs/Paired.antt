-- Policies, and the rows that the coordinator has for them.
use Rattle.std.proofs.Common.{◌≡◌, List, [], ◌∷◌, inl, inr, length, refl, sym, ◌∙◌, ap, subst}
use Rattle.std.proofs.lemmas.List.{length-map}
use Rattle.nk_syntax.specs.declared.pol.Pol.{Pol}
use Rattle.nk_values.specs.declared.rows.Rows.{Rows}
use Rattle.policy_rows.specs.declared.version.Version.{Version}
use Rattle.update_laws.specs.Fleets.{Fleet, Begin, Send, Take, Apply, Answer, Hear, Drained, Lose, Return}
use Rattle.update_laws.proofs.Moving.{step-versions}
use Rattle.world_core.specs.declared.event.Event.{Event}
use Rattle.world_core.specs.declared.event.Event.TheVariants as event
use Rattle.world_core.specs.declared.event.ControllerEvent.TheVariants as of_controller
use Rattle.world_core.specs.declared.event.PacketEvent.TheVariants as of_packet
use Rattle.world_core.specs.declared.event.SwitchEvent.TheVariants as of_switch
use Rattle.world_core.specs.Steps.{Step}
use Rattle.world_core.specs.Worlds.{WorldValue, IsKept, pols_of, rows_of, paired}
use Rattle.world_core.proofs.Sessions.{stopped}

pub paired-parts : (vs : List Version) → paired (pols_of vs) (rows_of vs) ≡ vs
paired-parts [] = refl
paired-parts (v ∷ vs) = ap (λ (us : List Version). v ∷ us) (paired-parts vs)

-- there are as many policies as the coordinator has rows for
pub as-many-rows : (w : WorldValue) → IsKept w → length w.fleet.control.versions ≡ length w.versions
unfolding IsKept
as-many-rows w k = ap (λ (rs : List Rows). length rs) k.rows ∙ length-map w.versions (λ (v : Version). v.rows)

rows-in : (w v : WorldValue) (g : Fleet) → v ≡ record w { fleet = g } → g.control.versions ≡ w.fleet.control.versions → v.fleet.control.versions ≡ w.fleet.control.versions
rows-in w v g now same = ap (λ (x : WorldValue). x.fleet.control.versions) now ∙ same

-- no event changes the rows
pub step-rows : (w : WorldValue) (e : Event) (v : WorldValue) → Step w e v → v.fleet.control.versions ≡ w.fleet.control.versions
step-rows w (event.Controller of_controller.Begin) v s = rows-in w v s.fleet s.now (step-versions w.fleet Begin s.fleet s.step)
step-rows w (event.Controller (of_controller.Send place)) v s = rows-in w v s.fleet s.now (step-versions w.fleet (Send place) s.fleet s.step)
step-rows w (event.Switch (of_switch.Take place)) v s = rows-in w v s.fleet s.now (step-versions w.fleet (Take place) s.fleet s.step)
step-rows w (event.Switch (of_switch.Apply place k)) v s = rows-in w v s.fleet s.now (step-versions w.fleet (Apply place k) s.fleet s.step)
step-rows w (event.Switch (of_switch.Reply place)) v s = rows-in w v s.fleet s.now (step-versions w.fleet (Answer place) s.fleet s.step)
step-rows w (event.Controller (of_controller.Heard place)) v s = rows-in w v s.fleet s.now (step-versions w.fleet (Hear place) s.fleet s.step)
step-rows w (event.Packet (of_packet.Arrive pk tag)) v s = ap (λ (x : WorldValue). x.fleet.control.versions) s.now
step-rows w (event.Packet (of_packet.Hop k)) v s = ap (λ (x : WorldValue). x.fleet.control.versions) s.now
step-rows w (event.Controller (of_controller.Drained stamp)) v s = rows-in w v s.step.fleet s.step.now (step-versions w.fleet (Drained stamp) s.step.fleet s.step.step)
step-rows w (event.Controller (of_controller.Lost place)) v s = elim s.step [
  | inl t ↦ rows-in w v s.fleet s.now (step-versions w.fleet (Lose place) s.fleet t)
  | inr t ↦ rows-in w v s.fleet s.now (ap (λ (x : Fleet). x.control.versions) (stopped place w.fleet s.fleet t))
]
step-rows w (event.Controller (of_controller.Rejoin place)) v s = rows-in w v s.fleet s.now (step-versions w.fleet (Return place 0) s.fleet s.step)
step-rows w (event.Packet (of_packet.Stuck k)) v s = ap (λ (x : WorldValue). x.fleet.control.versions) s.now
step-rows w (event.Foreign place side got) v s = ap (λ (x : WorldValue). x.fleet.control.versions) s.now

-- so policies are paired with the rows of the coordinator after an event as they were before it
pub with-rows : (ps : List Pol) (w : WorldValue) (e : Event) (v : WorldValue) → v.versions ≡ paired ps w.fleet.control.versions → Step w e v → Step w e (record v { versions = paired ps v.fleet.control.versions })
with-rows ps w e v q s = subst (λ (x : WorldValue). Step w e x) (ap (λ (vs : List Version). record v { versions = vs }) (q ∙ ap (paired ps) (sym (step-rows w e v s)))) s
