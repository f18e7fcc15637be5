-- The policies that drain, and what their sweeps bring a switch.
use Rattle.std.proofs.Common.{◌≡◌, ◌≤◌, ◌<◌, ◌+◌, ◌-◌, ◌%◌, ◌==◌, ◌||◌, ℕ, zero, suc, Bool, true, false, nat_lt, List, [], ◌∷◌, ◌++◌, length, map, take, drop, slice_get, get_or, Option, Some, None, refl, sym, ◌∙◌, ap, cond, arith}
use Rattle.std.specs.List.{flat_map}
use Rattle.std.proofs.lemmas.List.{length-append, length-map}
use Rattle.nk_values.specs.declared.row.Row.{Row}
use Rattle.nk_values.specs.declared.rows.Band.{Band}
use Rattle.nk_values.specs.declared.rows.Band.TheVariants.{High, Low}
use Rattle.nk_values.specs.declared.rows.PortKind.{PortKind}
use Rattle.nk_values.specs.declared.rows.PortKind.TheVariants.{Edge, Linked}
use Rattle.nk_values.specs.declared.rows.PortRows.{PortRows}
use Rattle.nk_values.specs.declared.rows.Rows.{Rows}
use Rattle.openflow_wire.specs.RowChanges.{mod_of}
use Rattle.update_plan.specs.Batches.{at_once, ingress, internal, internal_rows, ports_at, band_of, bulk, clean, tidy, sweep}
use Rattle.update_coordinator.specs.declared.phase.Phase.{Phase}
use Rattle.update_coordinator.specs.declared.phase.Phase.TheVariants.{Opening, Idle, Install, Flip, Drain, Clean, Tidy, Sweep}
use Rattle.update_coordinator.specs.Phases.{acknowledged, behind_rounds, flipped, swept_after}
use Rattle.update_coordinator.specs.Batches.{version_at, between, draining_in, staying, held, internal_of, planned}
use Rattle.update_coordinator.specs.Calls.{is_stamp, leaving}
use Rattle.update_coordinator.specs.Counts.{sweep_cost, sweeps_cost}
use Rattle.update_coordinator.specs.Kept.{Suits}

drop_nil : {A : Type 0} (n : ℕ) (xs : List A) → xs ≡ [] → drop n xs ≡ []
drop_nil zero xs e = e
drop_nil (suc n) xs e = ap (drop (suc n)) e

pub drop_taken : {A : Type 0} (n : ℕ) (xs : List A) → drop n (take n xs) ≡ []
drop_taken zero xs = refl
drop_taken (suc n) [] = refl
drop_taken (suc n) (x ∷ xs) = drop_taken n xs

-- ---- the two batches that take a policy away

split_kinds : (band : Band) (kind : PortKind) (rows : List Row) → length (ingress band kind rows) + length (internal kind rows) ≡ length (at_once band kind rows)
split_kinds High Edge rows = omega arith
split_kinds High Linked rows = omega arith
split_kinds Low Edge rows = omega arith
split_kinds Low Linked rows = omega arith

split_ports : (band : Band) (ports : List PortRows) → length (flat_map (λ (p : PortRows). ingress band p.kind p.rows) ports) + length (internal_rows ports) ≡ length (bulk band ports)
split_ports band [] = omega arith
split_ports band (p ∷ ps) = omega (
  arith,
  split_kinds band p.kind p.rows,
  split_ports band ps,
  length-append (ingress band p.kind p.rows) (flat_map (λ (q : PortRows). ingress band q.kind q.rows) ps),
  length-append (internal p.kind p.rows) (internal_rows ps),
  length-append (at_once band p.kind p.rows) (bulk band ps),
)

pub tidy_length : (v : Option Rows) (sw : ℕ) → length (tidy v sw) + length (sweep v sw) ≡ length (clean v sw)
tidy_length v sw =
    let ports = ports_at v sw in
    omega (
      arith,
      split_ports (band_of v) ports,
      length-map (flat_map (λ (p : PortRows). ingress (band_of v) p.kind p.rows) ports) (mod_of false),
      length-map (internal_rows ports) (mod_of false),
      length-map (bulk (band_of v) ports) (mod_of false),
    )

-- ---- the sweeps to come

pub sweeps_none : (n sw : ℕ) → sweeps_cost (drop n []) sw ≡ 0
sweeps_none n sw = ap (λ (xs : List Rows). sweeps_cost xs sw) (drop_nil n [] refl)

sweeps_more : (vs : List Rows) (s n sw : ℕ) → sweeps_cost (drop s (take (suc n) vs)) sw ≤ sweeps_cost (drop s (take n vs)) sw + sweep_cost (slice_get vs n) sw
sweeps_more [] s n sw = omega (arith, sweeps_none s sw)
sweeps_more (v ∷ vs) zero zero sw = omega arith
sweeps_more (v ∷ vs) (suc s) zero sw = omega (arith, sweeps_none s sw)
sweeps_more (v ∷ vs) zero (suc n) sw = omega (arith, sweeps_more vs zero n sw)
sweeps_more (v ∷ vs) (suc s) (suc n) sw = sweeps_more vs s n sw

none_first : {P : Type 0} (n : ℕ) (v : Rows) → slice_get (drop n []) 0 ≡ Some v → P
none_first n v e = absurd (let d = sym (ap (λ (xs : List Rows). slice_get xs 0) (drop_nil n [] refl)) ∙ e in cc)

sweeps_less : (vs : List Rows) (s n sw : ℕ) (v : Rows) → slice_get (drop s (take n vs)) 0 ≡ Some v → sweep_cost (slice_get vs s) sw + sweeps_cost (drop (suc s) (take n vs)) sw ≤ sweeps_cost (drop s (take n vs)) sw
sweeps_less vs s zero sw v e = none_first s v e
sweeps_less [] s (suc n) sw v e = none_first s v e
sweeps_less (w ∷ vs) zero (suc n) sw v e = omega arith
sweeps_less (w ∷ vs) (suc s) (suc n) sw v e = sweeps_less vs s n sw v e

-- a policy more drains
pub drains_more : (versions : List Rows) (s i sw : ℕ) → sweeps_cost (between versions s i) sw ≤ sweeps_cost (between versions s (i - 1)) sw + sweep_cost (version_at versions (i - 1)) sw
drains_more versions s zero sw = omega arith
drains_more versions s (suc zero) sw = omega arith
drains_more versions s (suc (suc k)) sw =
    let one : suc (suc k) - 1 ≡ suc k = omega arith in
    let two : suc (suc k) - 1 - 1 ≡ k = omega arith in
    omega (
      arith,
      sweeps_more versions s k sw,
      ap (λ (n : ℕ). sweeps_cost (drop s (take n versions)) sw) one,
      ap (λ (n : ℕ). sweeps_cost (drop s (take n versions)) sw) two,
      ap (λ (n : ℕ). sweep_cost (version_at versions n) sw) one,
    )

-- the oldest one is swept
pub drains_less : (versions : List Rows) (s i sw : ℕ) (v : Rows) → slice_get (between versions s i) 0 ≡ Some v → sweep_cost (version_at versions (s + 1)) sw + sweeps_cost (between versions (s + 1) i) sw ≤ sweeps_cost (between versions s i) sw
drains_less versions s i sw v e =
    let more : s + 1 ≡ suc s = omega arith in
    omega (
      arith,
      sweeps_less versions s (i - 1) sw v e,
      ap (λ (n : ℕ). sweep_cost (version_at versions n) sw) more,
      ap (λ (n : ℕ). sweeps_cost (between versions n i) sw) more,
    )

-- the oldest one is one of the policies
first_within : {A : Type 0} (xs : List A) (s n : ℕ) (x : A) → slice_get (drop s (take n xs)) 0 ≡ Some x → s < length xs
first_within [] s zero x e = absurd (let d = sym (ap (λ ys. slice_get ys 0) (drop_nil s [] refl)) ∙ e in cc)
first_within [] s (suc n) x e = absurd (let d = sym (ap (λ ys. slice_get ys 0) (drop_nil s [] refl)) ∙ e in cc)
first_within (y ∷ ys) zero n x e = omega arith
first_within (y ∷ ys) (suc s) zero x e = absurd (cc)
first_within (y ∷ ys) (suc s) (suc n) x e = omega (arith, first_within ys s n x e)

pub oldest_within : (versions : List Rows) (s i : ℕ) (v : Rows) → slice_get (between versions s i) 0 ≡ Some v → s < length versions
oldest_within versions s i v e = first_within versions s (i - 1) v e

pub stamped : (o : Option Rows) (stamp : ℕ) → is_stamp o stamp ≡ true → (v : Rows) × (o ≡ Some v)
stamped None stamp e = absurd (cc)
stamped (Some v) stamp e = (v, refl)

-- ---- what suits whether drains overlap, from phase to phase

pub start_suits : (overlap : Option ℕ) (versions : List Rows) → Suits overlap versions 0 Opening
start_suits None versions = refl
start_suits (Some stamps) versions = tt

none_before_first : (versions : List Rows) (s : ℕ) → between versions s 1 ≡ []
none_before_first versions s = drop_nil s (take 0 versions) refl

flipped_suits : (overlap : Option ℕ) (versions : List Rows) (s i : ℕ) → Suits overlap versions s (flipped overlap i)
flipped_suits None versions s i = by_first (i == 1)
  where
    by_first : (b : Bool) → Suits None versions s (cond b (Idle 1) (Drain i))
    by_first true = none_before_first versions s
    by_first false = refl
flipped_suits (Some stamps) versions s i = by_kind ((i == 1) || (i % 2 == 0))
  where
    by_kind : (b : Bool) → Suits (Some stamps) versions s (cond b (Idle i) (Tidy i))
    by_kind true = tt
    by_kind false = tt

flip_suits : (overlap : Option ℕ) (versions : List Rows) (s i r q : ℕ) → Suits overlap versions s (Flip i r) → Suits overlap versions s (Flip i q)
flip_suits None versions s i r q h = h
flip_suits (Some stamps) versions s i r q h = tt

install_suits : (overlap : Option ℕ) (versions : List Rows) (s i r : ℕ) → Suits overlap versions s (Install i) → Suits overlap versions s (Flip i r)
install_suits None versions s i r h = h
install_suits (Some stamps) versions s i r h = tt

rounds_suit : (overlap : Option ℕ) (rounds : List ℕ) (versions : List Rows) (s i r : ℕ) → Suits overlap versions s (Flip i (r + 1)) → Suits overlap versions s (behind_rounds overlap rounds i r)
rounds_suit overlap rounds versions s i r h = by_more (nat_lt r (get_or rounds (i - 1) 0))
  where
    by_more : (b : Bool) → Suits overlap versions s (cond b (Flip i (r + 1)) (flipped overlap i))
    by_more true = h
    by_more false = flipped_suits overlap versions s i

pub acknowledged_suits : (overlap : Option ℕ) (rounds : List ℕ) (versions : List Rows) (s : ℕ) (ph : Phase) → Suits overlap versions s ph → Suits overlap versions (swept_after ph s) (acknowledged overlap rounds ph)
acknowledged_suits None rounds versions s Opening h = drop_nil s (take (0 - 1) versions) refl
acknowledged_suits (Some stamps) rounds versions s Opening h = tt
acknowledged_suits overlap rounds versions s (Idle i) h = h
acknowledged_suits overlap rounds versions s (Install i) h = rounds_suit overlap rounds versions s i 0 (install_suits overlap versions s i (0 + 1) h)
acknowledged_suits overlap rounds versions s (Flip i r) h = rounds_suit overlap rounds versions s i r (flip_suits overlap versions s i r (r + 1) h)
acknowledged_suits overlap rounds versions s (Drain i) h = h
acknowledged_suits None rounds versions s (Clean i) h = drop_taken (i - 1) versions
acknowledged_suits (Some stamps) rounds versions s (Clean i) h = tt
acknowledged_suits None rounds versions s (Tidy i) h = absurd h
acknowledged_suits (Some stamps) rounds versions s (Tidy i) h = tt
acknowledged_suits None rounds versions s (Sweep i v) h = absurd h
acknowledged_suits (Some stamps) rounds versions s (Sweep i v) h = tt

pub begun_suits : (overlap : Option ℕ) (versions : List Rows) (s i : ℕ) → Suits overlap versions s (Idle i) → Suits overlap versions s (Install (i + 1))
begun_suits None versions s i h = ap (between versions s) same ∙ h
  where
    same : (i + 1) - 1 ≡ i
    same = omega arith
begun_suits (Some stamps) versions s i h = tt

pub clean_suits : (overlap : Option ℕ) (versions : List Rows) (s i : ℕ) → Suits overlap versions s (Drain i) → Suits overlap versions s (Clean i)
clean_suits None versions s i h = refl
clean_suits (Some stamps) versions s i h = h

pub sweep_suits : (overlap : Option ℕ) (versions : List Rows) (s i : ℕ) (v : Rows) → leaving overlap s (Idle i) versions ≡ Some v → Suits overlap versions s (Sweep i (s + 1))
sweep_suits None versions s i v e = absurd (cc)
sweep_suits (Some stamps) versions s i v e = omega arith

-- without overlap none drains
pub none_drains : (overlap : Option ℕ) (versions : List Rows) (s : ℕ) (ph : Phase) → Suits overlap versions s ph → overlap ≡ None → draining_in versions s ph ≡ []
none_drains (Some stamps) versions s ph h e = absurd (cc)
none_drains None versions s Opening h e = h
none_drains None versions s (Idle i) h e = h
none_drains None versions s (Install i) h e = h
none_drains None versions s (Flip i r) h e = h
none_drains None versions s (Drain i) h e = h
none_drains None versions s (Clean i) h e = h
none_drains None versions s (Tidy i) h e = absurd h
none_drains None versions s (Sweep i v) h e = absurd h

staying_none : (versions : List Rows) (s : ℕ) (ph : Phase) → Suits None versions s ph → staying versions s ph ≡ []
staying_none versions s Opening h = h
staying_none versions s (Idle i) h = h
staying_none versions s (Install i) h = h
staying_none versions s (Flip i r) h = h
staying_none versions s (Drain i) h = h
staying_none versions s (Clean i) h = h
staying_none versions s (Tidy i) h = absurd h
staying_none versions s (Sweep i v) h = absurd h

pub planned_alone : (overlap : Option ℕ) (versions : List Rows) (s : ℕ) (ph : Phase) (sw : ℕ) → Suits overlap versions s ph → overlap ≡ None → planned versions s ph sw ≡ held versions ph sw
planned_alone (Some stamps) versions s ph sw h e = absurd (cc)
planned_alone None versions s ph sw h e = ap (λ (vs : List Rows). internal_of vs sw ++ held versions ph sw) (staying_none versions s ph h)

-- the stamps of those that drain
map_drop : {A B : Type 0} (f : A → B) (n : ℕ) (xs : List A) → drop n (map f xs) ≡ map f (drop n xs)
map_drop f zero xs = refl
map_drop f (suc n) [] = refl
map_drop f (suc n) (x ∷ xs) = map_drop f n xs

map_take : {A B : Type 0} (f : A → B) (n : ℕ) (xs : List A) → take n (map f xs) ≡ map f (take n xs)
map_take f zero xs = refl
map_take f (suc n) [] = refl
map_take f (suc n) (x ∷ xs) = ap (λ ys. f x ∷ ys) (map_take f n xs)

map_between : {A B : Type 0} (f : A → B) (xs : List A) (s i : ℕ) → between (map f xs) s i ≡ map f (between xs s i)
map_between f xs s i = ap (drop s) (map_take f (i - 1) xs) ∙ map_drop f s (take (i - 1) xs)

pub map_draining : {A B : Type 0} (f : A → B) (xs : List A) (s : ℕ) (ph : Phase) → draining_in (map f xs) s ph ≡ map f (draining_in xs s ph)
map_draining f xs s Opening = refl
map_draining f xs s (Idle i) = map_between f xs s i
map_draining f xs s (Install i) = map_between f xs s (i - 1)
map_draining f xs s (Flip i r) = map_between f xs s (i - 1)
map_draining f xs s (Drain i) = refl
map_draining f xs s (Clean i) = refl
map_draining f xs s (Tidy i) = map_between f xs s i
map_draining f xs s (Sweep i v) = map_between f xs s i
