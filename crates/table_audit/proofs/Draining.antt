-- The internal rows of the policies that drain.
use Rattle.std.proofs.Common.{◌≡◌, ◌≢◌, ◌⊎◌, inl, inr, ℕ, zero, suc, pred, ◌+◌, ◌-◌, ◌<◌, ◌≤◌, ◌==◌, true, List, [], ◌∷◌, ◌++◌, length, map, take, drop, refl, sym, ◌∙◌, ap, subst, Option, Some, slice_get, arith}
use Rattle.std.specs.List.{flat_map, filter}
use Rattle.nk_values.specs.declared.pattern.Pattern.{Pattern}
use Rattle.nk_values.specs.declared.row.Row.{Row}
use Rattle.nk_values.specs.declared.rows.Rows.{Rows}
use Rattle.nk_values.specs.Members.{IsIn, Pairs}
use Rattle.nk_values.specs.Tables.{Distinct}
use Rattle.nk_values.proofs.MemberLaws.{in-flat_map, from-flat_map}
use Rattle.nk_values.proofs.PairLaws.{pairs-append, pairs-flat_map}
use Rattle.topology_model.specs.Layouts.{Layout, is_linked, locations_at}
use Rattle.topology_model.specs.Wired.{IsTopology}
use Rattle.policy_rows.specs.declared.version.Version.{Version}
use Rattle.update_plan.specs.Batches.{internal_rows}
use Rattle.update_coordinator.specs.Batches.{between, staying, internal_of, planned}
use Rattle.update_laws.specs.Updates.{Setting, IsSetting, most_busy, spot, inner, IsInner, last_policy, Phase, Opening, Idle, Install, Flip, Drain, Clean, Tidy, Sweep, Within, swept_after}
use Rattle.update_laws.specs.Settings.{stamp_in, setting_of, AreVersions}
use Rattle.update_laws.proofs.Chosen.{swept-more}
use Rattle.update_laws.proofs.Made.{made}
use Rattle.update_laws.proofs.Origins.{span, apart-within, most-more, means}
use Rattle.update_laws.proofs.Owned.{internal-is}
use Rattle.update_laws.proofs.Phases.{Same, inner-from, inner-of, inner-at}
use Rattle.update_laws.proofs.Places.{get-map, get-some, item-of, in-between, place-of}
use Rattle.update_laws.proofs.Wiring.{get-mapped}
use Rattle.table_audit.proofs.Keys.{Apart, as-distinct, places-once, kept-once, ports-once, port-apart, in-port, rows-apart, gives, held-is, gives-apart, from_of, from-gives}

-- up to which policy they are there once the batch of a phase is done
abbrev pub upto : Phase → ℕ
upto Opening = 0
upto (Idle i) = i - 1
upto (Install i) = i - 1 - 1
upto (Flip i k) = i - 1 - 1
upto (Drain i) = 0
upto (Clean i) = 0
upto (Tidy i) = i - 1
upto (Sweep i v) = i - 1

abbrev pub rows_of : List Version → List Rows
rows_of vs = map (λ (x : Version). x.rows) vs

module _ (t : Layout) (vs : List Version) (limit capacity : ℕ) (overlap : Option ℕ) (k : IsTopology t) (a : AreVersions t vs overlap) where
  -- an internal row is of a version
  from-internal : (s i sw : ℕ) (r : Row) → IsIn (internal_of (between (rows_of vs) s i) sw) r → IsInner (setting_of t vs limit capacity overlap) s (i - 1) sw r
  from-internal s i sw r m =
      let x = from-flat_map (λ (v : Rows). internal_rows (filter (λ p. p.sw == sw) v.ports)) (between (rows_of vs) s i) r m in
      let p = place-of (between (rows_of vs) s i) x.0 x.1 in
      let q = item-of s (i - 1) (rows_of vs) p.0 x.0 p.1 in
      let v = get-map (λ (y : Version). y.rows) (s + p.0) vs x.0 q.0 in
      inner-at (setting_of t vs limit capacity overlap) s (i - 1) sw r (suc (s + p.0)) (omega arith) (omega (arith, q.1))
      (subst (λ (rs : List Row). IsIn rs r) (internal-is t vs limit capacity overlap k.sound a (s + p.0) sw v.0 v.1)
      (subst (λ (y : Rows). IsIn (internal_rows (filter (λ p. p.sw == sw) y.ports)) r) (sym v.2) x.2))

  in-internal : (s i sw : ℕ) (r : Row) → IsInner (setting_of t vs limit capacity overlap) s (i - 1) sw r → IsIn (internal_of (between (rows_of vs) s i) sw) r
  in-internal s i sw r m = by_version m.version m.after m.below m.held
    where
      c : Setting
      c = setting_of t vs limit capacity overlap

      by_version : (v : ℕ) → s < v → v ≤ i - 1 → IsIn (inner (setting_of t vs limit capacity overlap) v sw) r → IsIn (internal_of (between (rows_of vs) s i) sw) r
      by_version zero l b h = absurd (omega (arith, l))
      by_version (suc n) l b h =
          let f = inner-from (setting_of t vs limit capacity overlap) (suc n) sw r h in
          let there : n < length vs = (made t vs limit capacity overlap k a).there n (spot sw f.pt) r f.held in
          let x = get-some n vs there in
          in-flat_map (λ (v : Rows). internal_rows (filter (λ p. p.sw == sw) v.ports)) (between (rows_of vs) s i) x.0.rows r
          (in-between s (i - 1) n (rows_of vs) x.0.rows (get-mapped (λ (y : Version). y.rows) n vs x.0 x.1) (omega (arith, l)) (omega (arith, b)))
          (subst (λ (rs : List Row). IsIn rs r) (sym (internal-is t vs limit capacity overlap k.sound a n sw x.0 x.1)) h)

  none-inner : (s sw : ℕ) (r : Row) → IsInner (setting_of t vs limit capacity overlap) s 0 sw r → ⊥
  none-inner s sw r m = omega (arith, m.after, m.below)

  -- the rows of those that drain are the internal ones of these policies
  pub staying-rows : (swept : ℕ) (ph : Phase) (sw : ℕ) → Same (λ r. IsInner (setting_of t vs limit capacity overlap) (swept_after ph swept) (upto ph) sw r) (λ r. IsIn (internal_of (staying (rows_of vs) swept ph) sw) r)
  staying-rows swept Opening sw = record { front = λ r m. none-inner swept sw r m; back = λ r m. absurd m }
  staying-rows swept (Idle i) sw = record { front = λ r m. in-internal swept i sw r m; back = λ r m. from-internal swept i sw r m }
  staying-rows swept (Install i) sw = record { front = λ r m. in-internal swept (i - 1) sw r m; back = λ r m. from-internal swept (i - 1) sw r m }
  staying-rows swept (Flip i n) sw = record { front = λ r m. in-internal swept (i - 1) sw r m; back = λ r m. from-internal swept (i - 1) sw r m }
  staying-rows swept (Drain i) sw = record { front = λ r m. none-inner swept sw r m; back = λ r m. absurd m }
  staying-rows swept (Clean i) sw = record { front = λ r m. none-inner (i - 1) sw r m; back = λ r m. absurd m }
  staying-rows swept (Tidy i) sw = record { front = λ r m. in-internal swept i sw r m; back = λ r m. from-internal swept i sw r m }
  staying-rows swept (Sweep i v) sw = record { front = λ r m. in-internal v i sw r m; back = λ r m. from-internal v i sw r m }

-- ---- keys

inner-apart : (t : Layout) (vs : List Version) (limit capacity : ℕ) (overlap : Option ℕ) → IsTopology t → AreVersions t vs overlap → (v sw : ℕ) → Pairs Apart (inner (setting_of t vs limit capacity overlap) v sw)
inner-apart t vs limit capacity overlap k a v sw =
    pairs-flat_map (λ b. c.rows_at v (spot sw b)) (λ m n. m ≢ n) Apart (c.linked sw) (ports-once sw (filter (is_linked t) (flat_map locations_at t.switches)) (kept-once (is_linked t) (flat_map locations_at t.switches) (places-once t k.sound)))
    (λ pt m. port-apart c q v sw pt (q.all_linked sw pt m))
    (λ b d r s m n differ i j same. differ (some-is b d
    (sym (in-port c q v sw b r (q.all_linked sw b m) i) ∙ sym (ap (λ (p : Pattern). p.in_port) same.same_pattern) ∙ in-port c q v sw d s (q.all_linked sw d n) j)))
  where
    c : Setting
    c = setting_of t vs limit capacity overlap

    q : IsSetting c
    q = made t vs limit capacity overlap k a

    some-is : (m n : ℕ) → Some m ≡ Some n → m ≡ n
    some-is m n e = cc

-- the stamps of policies in a row
stamps-differ : (s n : ℕ) (xs : List Rows) → ((i j : ℕ) (x y : Rows) → s ≤ i → i < j → j < n → slice_get xs i ≡ Some x → slice_get xs j ≡ Some y → x.stamp ≢ y.stamp) → Pairs (λ (x y : Rows). x.stamp ≢ y.stamp) (drop s (take n xs))
stamps-differ s n xs h = by_index (drop s (take n xs)) (λ i j x y l p q.
    let a = item-of s n xs i x p in
    let b = item-of s n xs j y q in
    h (s + i) (s + j) x y (omega arith) (omega (arith, l)) b.1 a.0 b.0)
  where
    by_index : (ys : List Rows) → ((i j : ℕ) (x y : Rows) → i < j → slice_get ys i ≡ Some x → slice_get ys j ≡ Some y → x.stamp ≢ y.stamp) → Pairs (λ (x y : Rows). x.stamp ≢ y.stamp) ys
    by_index [] g = tt
    by_index (y ∷ ys) g = (
      (λ z m. let p = place-of ys z m in g 0 (suc p.0) y z (omega arith) refl p.1),
      by_index ys (λ i j x z l e f. g (suc i) (suc j) x z (omega (arith, l)) e f),
    )

module _ (t : Layout) (vs : List Version) (limit capacity : ℕ) (overlap : Option ℕ) (k : IsTopology t) (a : AreVersions t vs overlap) (swept : ℕ) (ph : Phase) (within : Within (setting_of t vs limit capacity overlap) swept ph) where
  between-apart : (s i sw : ℕ) → i ≤ s + most_busy overlap → Pairs Apart (internal_of (between (rows_of vs) s i) sw)
  between-apart s i sw few =
      pairs-flat_map (λ (v : Rows). internal_rows (filter (λ p. p.sw == sw) v.ports)) (λ (x y : Rows). x.stamp ≢ y.stamp) Apart (between (rows_of vs) s i)
      (stamps-differ s (i - 1) (rows_of vs) (λ m n x y l j b e f. differ m n x y (omega (arith, l, j, b, few)) j e f))
      (λ v m. each v m)
      (λ x y r z m n d i j. across x y r z m n d i j)
    where
      differ : (m n : ℕ) (x y : Rows) → n < m + most_busy overlap → m < n → slice_get (rows_of vs) m ≡ Some x → slice_get (rows_of vs) n ≡ Some y → x.stamp ≢ y.stamp
      differ m n x y l j e f =
          let v = get-map (λ (z : Version). z.rows) m vs x e in
          let w = get-map (λ (z : Version). z.rows) n vs y f in
          λ q. a.stamps m n v.0 w.0 j l v.1 w.1 (ap (λ (z : Rows). z.stamp) v.2 ∙ q ∙ sym (ap (λ (z : Rows). z.stamp) w.2))

      -- the version of an element, and its internal rows
      found : (v : Rows) → IsIn (between (rows_of vs) s i) v → (n : ℕ) × (x : Version) × (slice_get vs n ≡ Some x) × (x.rows ≡ v)
      found v m =
          let p = place-of (between (rows_of vs) s i) v m in
          let z = item-of s (i - 1) (rows_of vs) p.0 v p.1 in
          let x = get-map (λ (y : Version). y.rows) (s + p.0) vs v z.0 in
          (s + p.0, x.0, x.1, x.2)

      each : (v : Rows) → IsIn (between (rows_of vs) s i) v → Pairs Apart (internal_rows (filter (λ p. p.sw == sw) v.ports))
      each v m =
          let x = found v m in
          subst (λ (y : Rows). Pairs Apart (internal_rows (filter (λ p. p.sw == sw) y.ports))) x.3
          (subst (λ (rs : List Row). Pairs Apart rs) (sym (internal-is t vs limit capacity overlap k.sound a x.0 sw x.1 x.2)) (inner-apart t vs limit capacity overlap k a (suc x.0) sw))

      -- an internal row asks for its policy's stamp
      stamped : (v : Rows) (r : Row) → IsIn (between (rows_of vs) s i) v → IsIn (internal_rows (filter (λ p. p.sw == sw) v.ports)) r → r.pattern.dl_vlan ≡ Some v.stamp
      stamped v r m h =
          let x = found v m in
          let c : Setting = setting_of t vs limit capacity overlap in
          let i : IsIn (inner c (suc x.0) sw) r = subst (λ (rs : List Row). IsIn rs r) (internal-is t vs limit capacity overlap k.sound a x.0 sw x.1 x.2) (subst (λ (y : Rows). IsIn (internal_rows (filter (λ p. p.sw == sw) y.ports)) r) (sym x.3) h) in
          let f = inner-from c (suc x.0) sw r i in
          ((means c (made t vs limit capacity overlap k a) (suc x.0) sw f.pt true r f.port f.held).0.fixed r f.held).dl_vlan
          ∙ ap (λ (n : ℕ). Some n) (ap stamp_in x.2 ∙ ap (λ (y : Rows). y.stamp) x.3)

      across : (x y : Rows) (r z : Row) → IsIn (between (rows_of vs) s i) x → IsIn (between (rows_of vs) s i) y → x.stamp ≢ y.stamp → IsIn (internal_rows (filter (λ p. p.sw == sw) x.ports)) r → IsIn (internal_rows (filter (λ p. p.sw == sw) y.ports)) z → Apart r z
      across x y r z m n d i j same = d (some-is x.stamp y.stamp (sym (stamped x r m i) ∙ sym (ap (λ (p : Pattern). p.dl_vlan) same.same_pattern) ∙ stamped y z n j))
        where
          some-is : (m n : ℕ) → Some m ≡ Some n → m ≡ n
          some-is m n e = cc

  -- of those that drain
  drains-apart : (sw : ℕ) → Pairs Apart (internal_of (staying (rows_of vs) swept ph) sw)
  drains-apart sw = by_phase ph within
    where
      by_phase : (p : Phase) → Within (setting_of t vs limit capacity overlap) swept p → Pairs Apart (internal_of (staying (rows_of vs) swept p) sw)
      by_phase Opening w = tt
      by_phase (Idle i) w = between-apart swept i sw (omega (arith, w.few, most-more overlap))
      by_phase (Install i) w = between-apart swept (i - 1) sw (omega (arith, w.few))
      by_phase (Flip i n) w = between-apart swept (i - 1) sw (omega (arith, w.0.few))
      by_phase (Drain i) w = tt
      by_phase (Clean i) w = tt
      by_phase (Tidy i) w = between-apart swept i sw (omega (arith, w.0.few))
      by_phase (Sweep i v) w = between-apart v i sw (omega (arith, w.0.few, w.1, most-more overlap))

  upto-below : (upto ph < from_of ph) ⊎ (upto ph ≡ 0)
  upto-below = by_phase ph
    where
      less : (i : ℕ) → ((i - 1) < i) ⊎ ((i - 1) ≡ 0)
      less zero = inr (omega arith)
      less (suc n) = inl (omega arith)

      less-two : (i : ℕ) → ((i - 1 - 1) < pred i) ⊎ ((i - 1 - 1) ≡ 0)
      less-two zero = inr (omega arith)
      less-two (suc zero) = inr (omega arith)
      less-two (suc (suc n)) = inl (omega arith)

      by_phase : (p : Phase) → (upto p < from_of p) ⊎ (upto p ≡ 0)
      by_phase Opening = inr refl
      by_phase (Idle i) = less i
      by_phase (Install i) = less-two i
      by_phase (Flip i n) = less-two i
      by_phase (Drain i) = inr refl
      by_phase (Clean i) = inr refl
      by_phase (Tidy i) = less i
      by_phase (Sweep i v) = less i

  upto-last : upto ph ≤ last_policy ph
  upto-last = by_phase ph
    where
      by_phase : (p : Phase) → upto p ≤ last_policy p
      by_phase Opening = omega arith
      by_phase (Idle i) = omega arith
      by_phase (Install i) = omega arith
      by_phase (Flip i n) = omega arith
      by_phase (Drain i) = omega arith
      by_phase (Clean i) = omega arith
      by_phase (Tidy i) = omega arith
      by_phase (Sweep i v) = omega arith

  -- All rows that are planned have keys of their own.
  pub plan-distinct : (sw : ℕ) → Distinct (internal_of (staying (rows_of vs) swept ph) sw ++ gives vs ph sw)
  plan-distinct sw = as-distinct (internal_of (staying (rows_of vs) swept ph) sw ++ gives vs ph sw)
      (pairs-append Apart (internal_of (staying (rows_of vs) swept ph) sw) (gives vs ph sw) (drains-apart sw) (gives-apart t vs limit capacity overlap k a swept ph within sw) (λ r s m n. across r s m n))
    where
      across : (r s : Row) → IsIn (internal_of (staying (rows_of vs) swept ph) sw) r → IsIn (gives vs ph sw) s → Apart r s
      across r s m n =
          let c : Setting = setting_of t vs limit capacity overlap in
          let x = (staying-rows t vs limit capacity overlap k a swept ph sw).back r m in
          let y = from-gives t vs limit capacity overlap k a swept ph within sw s n in
          rows-apart c (made t vs limit capacity overlap k a) (span swept ph) x.version y.version sw r s true y.given.link (apart-within c swept ph within)
          (omega (arith, x.after, swept-more c swept ph within), omega (arith, x.below, upto-last)) y.given.near
          (λ e. elim upto-below [ inl l ↦ omega (arith, l, x.below, y.above, e) | inr z ↦ omega (arith, z, x.after, x.below) ])
          (inner-of c (swept_after ph swept) (upto ph) sw r x) y.given.from

-- these are the coordinator's
pub planned-is : (c : Setting) (vs : List Version) (swept : ℕ) (ph : Phase) → Within c swept ph → (sw : ℕ) → planned (rows_of vs) swept ph sw ≡ internal_of (staying (rows_of vs) swept ph) sw ++ gives vs ph sw
planned-is c vs swept ph n sw = ap (λ (rs : List Row). internal_of (staying (rows_of vs) swept ph) sw ++ rs) (held-is c vs swept ph n sw)
