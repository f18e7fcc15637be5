-- The world at its start keeps what every world keeps.
use Rattle.std.proofs.Common.{◌≡◌, ◌≢◌, ℕ, suc, ◌≤◌, inl, List, [], ◌∷◌, length, map, refl, sym, ◌∙◌, ap, subst, Some, slice_get, arith}
use Rattle.std.specs.List.{AllByRecursion}
use Rattle.std.proofs.lemmas.List.{length-map}
use Rattle.nk_syntax.specs.declared.pol.Pol.{Pol}
use Rattle.nk_values.specs.declared.rows.Rows.{Rows}
use Rattle.nk_values.specs.Members.{IsIn}
use Rattle.topology_model.specs.Network.{Location}
use Rattle.topology_model.specs.Layouts.{Layout, edges_of}
use Rattle.topology_model.specs.Wired.{IsTopology}
use Rattle.topology_model.proofs.Ranges.{edge_declared}
use Rattle.policy_rows.specs.declared.version.Version.{Version}
use Rattle.packet_tracer.specs.declared.flight.Flight.{Flight}
use Rattle.update_coordinator.specs.Controls.{Control}
use Rattle.update_coordinator.specs.Starts as starts
use Rattle.update_laws.specs.Traffic.{Arrived}
use Rattle.update_laws.specs.Settings.{AreVersions, setting_of}
use Rattle.update_laws.specs.Fleets.{WiredSwitch, IsNewFleet, IsNewEnd}
use Rattle.update_laws.proofs.Beginnings.{made-start}
use Rattle.update_laws.proofs.Landing.{start-traffic}
use Rattle.update_laws.proofs.Parting.{start-apart}
use Rattle.update_laws.proofs.Places.{get-map}
use Rattle.update_laws.proofs.Starting.{start-fleet}
use Rattle.update_laws.proofs.Wiring.{some-is}
use Rattle.world_core.specs.Ends.{new_end}
use Rattle.world_core.specs.declared.settings.Settings.{Settings}
use Rattle.world_core.specs.Worlds.{numbers_of, pols_of, rows_of, paired, initial_world, IsKept}
use Rattle.world_core.proofs.Paired.{paired-parts}
use Rattle.world_core.proofs.Tables.{new-distinct}

numbers-kept : (capacity : ℕ) (ns : List ℕ) → map (λ (e : WiredSwitch). e.switch.sw) (map (new_end capacity) ns) ≡ ns
numbers-kept capacity [] = refl
numbers-kept capacity (n ∷ ns) = ap (λ (ms : List ℕ). n ∷ ms) (numbers-kept capacity ns)

some-edge : (places : List Location) → places ≢ [] → (a : Location) × IsIn places a
some-edge [] n = absurd (n refl)
some-edge (a ∷ places) n = (a, inl refl)

not-empty : {X : Type 0} (xs : List X) (x : X) → IsIn xs x → 1 ≤ length xs
not-empty [] x m = absurd m
not-empty (y ∷ ys) x m = omega arith

-- there is a switch
some-switch : (t : Layout) → IsTopology t → 1 ≤ length (numbers_of t.switches)
some-switch t k =
    let a = some-edge (edges_of t) k.edge in
    let d = edge_declared t a.0 a.1 in
    omega (arith, not-empty t.switches d.site d.among, length-map t.switches (λ s. s.sw))

new-end : (capacity : ℕ) (ns : List ℕ) (k sw : ℕ) (e : WiredSwitch) → slice_get ns k ≡ Some sw → slice_get (map (new_end capacity) ns) k ≡ Some e → IsNewEnd capacity sw e
new-end capacity ns k sw e a b =
    let x = get-map (new_end capacity) k ns e b in
    subst (λ (z : WiredSwitch). IsNewEnd capacity sw z) x.2 (subst (λ (n : ℕ). IsNewEnd capacity sw (new_end capacity n)) (some-is sw x.0 (sym a ∙ x.1)) (record { there = refl; xid = 0; back = refl; switch = refl }))

-- what holds of each version's rows
pub all-rows : (P : Rows → Type 0) (vs : List Version) → ((k : ℕ) (v : Version) → slice_get vs k ≡ Some v → P v.rows) → AllByRecursion P (map (λ (v : Version). v.rows) vs)
all-rows P [] h = tt
all-rows P (v ∷ vs) h = (h 0 v refl, all-rows P vs (λ k w e. h (suc k) w e))

pub start-kept : (t : Layout) (vs : List Version) (settings : Settings) → IsTopology t → AreVersions t vs settings.overlap → 1 ≤ settings.hops → IsKept (initial_world t vs settings)
unfolding IsKept
start-kept t vs settings k v l = record {
  topology = k;
  versions = v;
  limit = l;
  places = numbers-kept settings.capacity (numbers_of t.switches);
  rows = refl;
  distinct = new-distinct settings.capacity (numbers_of t.switches);
  fleet = start-fleet (setting_of t vs settings.hops settings.capacity settings.overlap) (initial_world t vs settings).fleet (made-start t vs settings.hops settings.capacity settings.overlap settings.rejoins (numbers_of t.switches) (initial_world t vs settings).fleet k v made);
  traffic = start-traffic t (setting_of t vs settings.hops settings.capacity settings.overlap) 0;
  apart = start-apart;
}
  where
    made : IsNewFleet settings.capacity settings.rejoins settings.overlap vs (numbers_of t.switches) (initial_world t vs settings).fleet
    made = record { control = refl; count = length-map (numbers_of t.switches) (new_end settings.capacity); some = some-switch t k; wired = λ n sw e. new-end settings.capacity (numbers_of t.switches) n sw e }

-- the world that is made of its parts
pub made-of : (t : Layout) (vs : List Version) (settings : Settings) (ps : List Pol) (d : Control) (es : List WiredSwitch) (rows : List Rows) (ns ms : List ℕ) (fs : List Flight) (as' : List Arrived) →
    ps ≡ pols_of vs → d ≡ starts.initial_control rows ns settings.rejoins settings.overlap → rows ≡ rows_of vs → ns ≡ numbers_of t.switches → es ≡ map (new_end settings.capacity) ms → ms ≡ numbers_of t.switches → fs ≡ [] → as' ≡ [] →
    record { topology = t; versions = paired ps d.versions; limit = settings.hops; capacity = settings.capacity; overlap = settings.overlap; fleet = record { control = d; wired = es }; flights = fs; arrivals = as' } ≡ initial_world t vs settings
made-of t vs settings ps d es rows ns ms fs as' p a b c e f g h = λ i. record {
  topology = t;
  versions = ((λ j. paired (p j) (ap (λ (x : Control). x.versions) a j)) ∙ ap (paired (pols_of vs)) b ∙ paired-parts vs) i;
  limit = settings.hops;
  capacity = settings.capacity;
  overlap = settings.overlap;
  fleet = record { control = (a ∙ (λ j. starts.initial_control (b j) (c j) settings.rejoins settings.overlap)) i; wired = (e ∙ ap (map (new_end settings.capacity)) f) i };
  flights = g i;
  arrivals = h i;
}
