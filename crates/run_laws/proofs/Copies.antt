-- The invariant of the world's copies, for each run from a start.
use Rattle.std.proofs.Common.{◌≡◌, ℕ, suc, List, ◌∙◌, ap, subst, Option, Some, slice_get}
use Rattle.nk_values.specs.Members.{IsIn}
use Rattle.policy_rows.specs.declared.version.Version.{Version}
use Rattle.packet_tracer.specs.declared.flight.Flight.{Flight}
use Rattle.update_laws.specs.Updates.{Live}
use Rattle.update_laws.specs.Settings.{version_at, stamp_in}
use Rattle.update_laws.specs.Traffic.{Arrived, IsFlight}
use Rattle.update_laws.proofs.Entering.{live-there}
use Rattle.update_laws.proofs.Places.{get-some}
use Rattle.world_core.specs.declared.event.Event.{Event}
use Rattle.world_core.specs.Worlds.{WorldValue, setting, initial_world, IsKept}
use Rattle.world_core.proofs.Beginning.{start-kept}
use Rattle.world_core.proofs.Kept.{run-keeps}
use Rattle.run_laws.specs.Laws.{LeadsTo, IsCopyOf, CopiesFollow, CopiesCarry}
use Rattle.run_laws.proofs.Oldest.{Begin, runs-begin}

-- each world that events lead to keeps the invariant
pub leads-kept : (events : List Event) (w : WorldValue) → LeadsTo events w → IsKept w
leads-kept events w l = run-keeps (initial_world l.topology l.versions l.settings) events w l.runs (start-kept l.topology l.versions l.settings l.sound l.accepted l.hops)

copy-of : (w : WorldValue) (number : ℕ) (a : Arrived) (f : Flight) → IsKept w → Begin w.flights w.arrivals → IsIn w.flights f → slice_get w.arrivals f.arrival ≡ Some a → IsFlight (setting w) w.fleet.control.swept w.fleet.control.phase number f → IsCopyOf w number a f
unfolding IsKept
copy-of w number a f k b m here x =
    let live : Live w.fleet.control.swept w.fleet.control.phase (suc x.older) = subst (λ (q : ℕ). Live w.fleet.control.swept w.fleet.control.phase q) x.number x.live in
    let p = get-some x.older w.versions (live-there (setting w) w.fleet.control.swept w.fleet.control.phase x.older k.fleet.within live) in
    let there : version_at w.versions number ≡ Some p.0 = ap (version_at w.versions) x.number ∙ p.1 in
    record {
      policy = p.0;
      there = there;
      live = x.live;
      stamp = x.stamp ∙ ap (λ (o : Option Version). Some (stamp_in o)) there;
      begins = b.begins f a m here;
    }

follows : (w : WorldValue) → IsKept w → Begin w.flights w.arrivals → CopiesFollow w
unfolding IsKept
follows w k b = record {
  known = b.known;
  each = λ n a e.
      let i = k.traffic.each n a e in
      record { handled = i.good; copies = λ f m d. copy-of w i.good.version a f k b m (ap (λ (j : ℕ). slice_get w.arrivals j) d ∙ e) (i.flying f m d) };
}

pub copies-carry : CopiesCarry
copies-carry events w l =
    follows w (leads-kept events w l)
    (runs-begin (initial_world l.topology l.versions l.settings) events w l.runs (record { known = λ f m. absurd m; begins = λ f a m e. absurd m }))
