-- A switch with nothing left of its batch has the rows that the phase gives it.
use Rattle.std.proofs.Common.{◌≡◌, ◌⊎◌, inl, inr, ℕ, zero, suc, pred, ◌+◌, ◌-◌, ◌<◌, ◌≤◌, Bool, true, false, not, List, [], ◌∷◌, ◌++◌, length, map, refl, sym, ◌∙◌, ap, subst, Option, is_some, nat_lt, arith}
use Rattle.std.proofs.lemmas.Bool.Decides.{nat_tests}
use native.Mathlib.Decide.{ℕ_discrete}
use Rattle.nk_values.specs.declared.row.Row.{Row}
use Rattle.nk_values.specs.declared.row.FlowMod.{FlowMod}
use Rattle.nk_values.specs.Members.{IsIn, SameMembers}
use Rattle.nk_values.proofs.MemberLaws.{in-left, in-right, in-either, in-flat_map, from-flat_map}
use Rattle.topology_model.specs.Layouts.{Layout}
use Rattle.topology_model.specs.Wired.{IsTopology}
use Rattle.policy_rows.specs.declared.version.Version.{Version}
use Rattle.openflow_wire.specs.declared.message.Message.{Message}
use Rattle.update_coordinator.specs.SessionState.TheVariants as state
use Rattle.switch_model.specs.declared.pending.PendingMod.{PendingMod}
use Rattle.update_coordinator.specs.declared.cause.Cause.{Cause}
use Rattle.update_coordinator.specs.Batches.{planned, staying, internal_of}
use Rattle.update_coordinator.specs.Controls.{orders_of}
use Rattle.update_laws.specs.Lines.{Changing}
use Rattle.update_laws.specs.Updates.{Setting, IsSetting, most_busy, Phase, Opening, Idle, Install, Flip, Drain, Clean, Tidy, Sweep, swept_after, spot, inner, outer, begun, outer_begun, IsInner, FlipBase, DrainBase, Base, batch, adds, flip_next, IsUpdate, Within, upper_of}
use Rattle.update_laws.specs.Settings.{odd, setting_of, AreVersions}
use Rattle.update_laws.specs.Fleets.{wire_of}
use Rattle.update_laws.specs.Stages.{Stage, Away, Meeting, Asking, Telling, Sending, Waiting, Answered, Resting, IsAt, state_of, to_come, Left, IsLine, IsFullError, job}
use Rattle.update_laws.specs.Wired.{Wire, numbered}
use Rattle.update_laws.proofs.Batches.{changing-same}
use Rattle.update_laws.proofs.Cuts.{take-whole, take-none}
use Rattle.update_laws.proofs.Fleets.{end-here}
use Rattle.update_laws.proofs.Made.{made}
use Rattle.update_laws.proofs.Overlays.{in-take}
use Rattle.update_laws.proofs.Phases.{Same, moves, none-first, inner-from, inner-at, in-none, busy-two, flipped-same}
use Rattle.world_core.specs.Worlds.{setting, IsKept}
use Rattle.table_audit.specs.Laws.{IsError, TablesFollow}
use Rattle.table_audit.proofs.Parts.{first, all_but, have, Piece, piece-of, of-piece}
use Rattle.table_audit.proofs.Keys.{gives}
use Rattle.table_audit.proofs.Draining.{upto, rows_of, staying-rows, planned-is}

-- ---- parts of policies

-- two parts together
pieces : (t : Layout) (vs : List Version) (limit capacity : ℕ) (overlap : Option ℕ) → IsTopology t → AreVersions t vs overlap → (old new : ℕ → ℕ) (o sw : ℕ) →
    Same (λ r. Piece (odd o) (setting_of t vs limit capacity overlap) o old sw r ⊎ Piece (odd (suc o)) (setting_of t vs limit capacity overlap) (suc o) new sw r) (λ r. IsIn (have vs old o sw ++ have vs new (suc o) sw) r)
pieces t vs limit capacity overlap k a old new o sw = record {
  front = λ r m. elim m [
    | inl x ↦ in-left (have vs old o sw) (have vs new (suc o) sw) r (of-piece t vs limit capacity overlap k a old o sw r x)
    | inr x ↦ in-right (have vs old o sw) (have vs new (suc o) sw) r (of-piece t vs limit capacity overlap k a new (suc o) sw r x)
  ];
  back = λ r m. elim (in-either (have vs old o sw) (have vs new (suc o) sw) r m) [
    | inl x ↦ inl (piece-of t vs limit capacity overlap k a old o sw r x)
    | inr x ↦ inr (piece-of t vs limit capacity overlap k a new (suc o) sw r x)
  ];
}

joined : {P Q R : Row → Type 0} → Same P Q → Same Q R → Same P R
joined f g = record { front = λ r m. g.front r (f.front r m); back = λ r m. f.back r (g.back r m) }

turned : {P Q : Row → Type 0} → Same P Q → Same Q P
turned f = record { front = f.back; back = f.front }

-- the internal rows of two policies
abbrev Both : Setting → ℕ → ℕ → Row → Type 0
Both c o sw r = IsIn (inner c o sw) r ⊎ IsIn (inner c (suc o) sw) r

-- where a list comes in its first rows, and where it goes all but its last
flip-pieces : (d : Bool) (c : Setting) (o k sw : ℕ) →
    Same (λ r. Both c o sw r ⊎ FlipBase (not d) c o k sw r) (λ r. Piece d c o (λ n. n - k) sw r ⊎ Piece (not d) c (suc o) (λ n. k) sw r)
flip-pieces true c o k sw = record {
  front = λ r m. elim m [ inl x ↦ elim x [ inl y ↦ inl (inl y) | inr y ↦ inr (inl y) ] | inr x ↦ elim x [ inl y ↦ inr (inr y) | inr y ↦ inl (inr y) ] ];
  back = λ r m. elim m [ inl x ↦ elim x [ inl y ↦ inl (inl y) | inr y ↦ inr (inr y) ] | inr x ↦ elim x [ inl y ↦ inl (inr y) | inr y ↦ inr (inl y) ] ];
}
flip-pieces false c o k sw = record {
  front = λ r m. elim m [ inl x ↦ elim x [ inl y ↦ inl (inl y) | inr y ↦ inr (inl y) ] | inr x ↦ elim x [ inl y ↦ inl (inr y) | inr y ↦ inr (inr y) ] ];
  back = λ r m. elim m [ inl x ↦ elim x [ inl y ↦ inl (inl y) | inr y ↦ inr (inl y) ] | inr x ↦ elim x [ inl y ↦ inl (inr y) | inr y ↦ inr (inr y) ] ];
}

-- a beginning that is all of each list, and one that is none
begun-all : (c : Setting) (v : ℕ) (f : ℕ → ℕ) (sw : ℕ) → ((pt : ℕ) → IsIn (c.edge sw) pt → length (c.rows_at v (spot sw pt)) ≤ f (length (c.rows_at v (spot sw pt)))) → Same (λ r. IsIn (outer c v sw) r) (λ r. IsIn (outer_begun c v f sw) r)
begun-all c v f sw le = record {
  front = λ r m.
      let x = from-flat_map (λ b. c.rows_at v (spot sw b)) (c.edge sw) r m in
      in-flat_map (λ b. begun f (c.rows_at v (spot sw b))) (c.edge sw) x.0 r x.1 (take-whole (f (length (c.rows_at v (spot sw x.0)))) (c.rows_at v (spot sw x.0)) r (le x.0 x.1) x.2);
  back = λ r m.
      let x = from-flat_map (λ b. begun f (c.rows_at v (spot sw b))) (c.edge sw) r m in
      in-flat_map (λ b. c.rows_at v (spot sw b)) (c.edge sw) x.0 r x.1 (in-take (f (length (c.rows_at v (spot sw x.0)))) (c.rows_at v (spot sw x.0)) r x.2);
}

begun-none : (c : Setting) (v : ℕ) (f : ℕ → ℕ) (sw : ℕ) → ((pt : ℕ) → IsIn (c.edge sw) pt → f (length (c.rows_at v (spot sw pt))) ≡ 0) → (r : Row) → IsIn (outer_begun c v f sw) r → ⊥
begun-none c v f sw z r m =
    let x = from-flat_map (λ b. begun f (c.rows_at v (spot sw b))) (c.edge sw) r m in
    take-none (f (length (c.rows_at v (spot sw x.0)))) (c.rows_at v (spot sw x.0)) r (z x.0 x.1) x.2

-- all of what comes in is there, and nothing of what goes
record Ended (d : Bool) (c : Setting) (o sw : ℕ) (f g : ℕ → ℕ) : Type 0 where
  gone : d ≡ true → (pt : ℕ) → IsIn (c.edge sw) pt → f (length (c.rows_at o (spot sw pt))) ≡ 0
  come : d ≡ false → (pt : ℕ) → IsIn (c.edge sw) pt → length (c.rows_at (suc o) (spot sw pt)) ≤ g (length (c.rows_at (suc o) (spot sw pt)))

drain-pieces : (d : Bool) (c : Setting) (o sw : ℕ) (f g : ℕ → ℕ) → Ended d c o sw f g →
    Same (λ r. Both c o sw r ⊎ DrainBase (not d) c o sw r) (λ r. Piece d c o f sw r ⊎ Piece (not d) c (suc o) g sw r)
drain-pieces true c o sw f g h = record {
  front = λ r m. elim m [ inl x ↦ elim x [ inl y ↦ inl (inl y) | inr y ↦ inr (inl y) ] | inr x ↦ inr (inr x) ];
  back = λ r m. elim m [ inl x ↦ elim x [ inl y ↦ inl (inl y) | inr y ↦ absurd (begun-none c o f sw (h.gone refl) r y) ] | inr x ↦ elim x [ inl y ↦ inl (inr y) | inr y ↦ inr y ] ];
}
drain-pieces false c o sw f g h =
    let all = begun-all c (suc o) g sw (h.come refl) in
    record {
      front = λ r m. elim m [ inl x ↦ elim x [ inl y ↦ inl (inl y) | inr y ↦ inr (inl y) ] | inr x ↦ elim x [ inl y ↦ inl (inr y) | inr y ↦ inr (inr (all.front r y)) ] ];
      back = λ r m. elim m [ inl x ↦ elim x [ inl y ↦ inl (inl y) | inr y ↦ inr (inl y) ] | inr x ↦ elim x [ inl y ↦ inl (inr y) | inr y ↦ inr (inr (all.back r y)) ] ];
    }

-- a policy alone
idle-pieces : (d : Bool) (c : Setting) (v sw : ℕ) → Same (λ r. IsIn (inner c v sw) r ⊎ IsIn (outer c v sw) r) (λ r. Piece d c v (λ n. n - 0) sw r)
idle-pieces true c v sw =
    let all = begun-all c v (λ n. n - 0) sw (λ pt m. omega arith) in
    record { front = λ r m. elim m [ inl x ↦ inl x | inr x ↦ inr (all.front r x) ]; back = λ r m. elim m [ inl x ↦ inl x | inr x ↦ inr (all.back r x) ] }
idle-pieces false c v sw = record { front = λ r m. m; back = λ r m. m }

no-more : (k n : ℕ) → nat_lt (suc k) n ≡ false → n ≤ suc k
no-more k n e = grind (arith, nat_tests)

-- ---- what a batch leaves is what the phase gives

-- once nothing of its batch is left
abbrev Over : Setting → ℕ → Phase → ℕ → List Row → Type 0
Over c swept ph sw rows = Changing (adds c ph) (Base c swept ph sw) (batch c ph sw) (λ r. ⊥) rows

-- the rows of the phase, where it has no batch
still-rows : (P : Row → Type 0) (rows : List Row) → Changing true P [] (λ r. ⊥) rows → Same P (λ r. IsIn rows r)
still-rows P rows t = record { front = λ r m. t.old r m; back = λ r m. elim (t.only r m) [ inl x ↦ x | inr x ↦ absurd x ] }

-- rows beside internal rows of policies before
after-rows : (I P Q : Row → Type 0) → Same P Q → Same (λ r. I r ⊎ P r) (λ r. I r ⊎ Q r)
after-rows I P Q f = record { front = λ r m. elim m [ inl x ↦ inl x | inr x ↦ inr (f.front r x) ]; back = λ r m. elim m [ inl x ↦ inl x | inr x ↦ inr (f.back r x) ] }

both-lists : (xs ys : List Row) → Same (λ r. IsIn (xs ++ ys) r) (λ r. IsIn xs r ⊎ IsIn ys r)
both-lists xs ys = record {
  front = λ r m. in-either xs ys r m;
  back = λ r m. elim m [ inl x ↦ in-left xs ys r x | inr x ↦ in-right xs ys r x ];
}

-- internal rows of the current policy are after those of the ones before
idle-inner : (c : Setting) → IsSetting c → (X : Row → Type 0) (s v sw : ℕ) → (v ≡ 0) ⊎ (s < v) → Same (λ r. IsInner c s (v - 1) sw r ⊎ (IsIn (inner c v sw) r ⊎ X r)) (λ r. IsInner c s v sw r ⊎ X r)
idle-inner c q X s v sw z = record {
  front = λ r m. elim m [
    | inl x ↦ inl (inner-at c s v sw r x.version x.after (omega (arith, x.below)) x.held)
    | inr x ↦ elim x [ inl y ↦ inl (newest r y z) | inr y ↦ inr y ]
  ];
  back = λ r m. elim m [
    | inl x ↦ elim (ℕ_discrete x.version v) [
      | yes e ↦ inr (inl (subst (λ (n : ℕ). IsIn (inner c n sw) r) e x.held))
      | no d ↦ let b : x.version ≤ v - 1 = omega (arith, x.below, d) in inl (inner-at c s (v - 1) sw r x.version x.after b x.held)
    ]
    | inr x ↦ inr (inr x)
  ];
}
  where
    newest : (r : Row) → IsIn (inner c v sw) r → (v ≡ 0) ⊎ (s < v) → IsInner c s v sw r
    newest r y (inl e) = absurd (in-none c q sw true r (inner-from c 0 sw r (subst (λ (n : ℕ). IsIn (inner c n sw) r) e y)))
    newest r y (inr l) = inner-at c s v sw r v l (omega arith) y

-- so are those of two
busy-inner : (c : Setting) → IsSetting c → (X : Row → Type 0) (s i sw : ℕ) → 1 ≤ i → s ≤ i - 2 → Same (λ r. IsInner c s (i - 1 - 1) sw r ⊎ (Both c (pred i) sw r ⊎ X r)) (λ r. IsInner c s i sw r ⊎ X r)
busy-inner c q X s zero sw a b = absurd (omega (arith, a))
busy-inner c q X s (suc o) sw a b = record {
  front = λ r m. elim m [
    | inl x ↦ inl (inner-at c s (suc o) sw r x.version x.after (omega (arith, x.below)) x.held)
    | inr x ↦ elim x [
      | inl y ↦ elim y [ inl z ↦ inl (older r z) | inr z ↦ inl (inner-at c s (suc o) sw r (suc o) (omega (arith, b)) (omega arith) z) ]
      | inr y ↦ inr y
    ]
  ];
  back = λ r m. elim m [
    | inl x ↦ elim (ℕ_discrete x.version (suc o)) [
      | yes e ↦ inr (inl (inr (subst (λ (n : ℕ). IsIn (inner c n sw) r) e x.held)))
      | no d ↦ elim (ℕ_discrete x.version o) [
        | yes e ↦ inr (inl (inl (subst (λ (n : ℕ). IsIn (inner c n sw) r) e x.held)))
        | no f ↦ let l : x.version ≤ suc o - 1 - 1 = omega (arith, x.below, d, f) in inl (inner-at c s (suc o - 1 - 1) sw r x.version x.after l x.held)
      ]
    ]
    | inr x ↦ inr (inr x)
  ];
}
  where
    older : (r : Row) → IsIn (inner c o sw) r → IsInner c s (suc o) sw r
    older r z = elim (ℕ_discrete o 0) [
      | yes e ↦ absurd (in-none c q sw true r (inner-from c 0 sw r (subst (λ (n : ℕ). IsIn (inner c n sw) r) e z)))
      | no d ↦ inner-at c s (suc o) sw r o (omega (arith, b, d)) (omega arith) z
    ]

-- if nothing drains but the policy before
alone-inner : (c : Setting) → IsSetting c → (X : Row → Type 0) (s i sw : ℕ) → 1 ≤ i → s ≤ i - 2 → i ≤ s + 2 → Same (λ r. IsInner c s 0 sw r ⊎ (Both c (pred i) sw r ⊎ X r)) (λ r. IsInner c s i sw r ⊎ X r)
alone-inner c q X s i sw a b d = joined (record {
  front = λ r m. elim m [ inl x ↦ absurd (omega (arith, x.after, x.below)) | inr x ↦ inr x ];
  back = λ r m. elim m [ inl x ↦ absurd (none r x) | inr x ↦ inr x ];
}) (busy-inner c q X s i sw a b)
  where
    none : (r : Row) → IsInner c s (i - 1 - 1) sw r → ⊥
    none r x = omega (arith, x.after, x.below, d)

given : (t : Layout) (vs : List Version) (limit capacity : ℕ) (overlap : Option ℕ) → IsTopology t → AreVersions t vs overlap → (swept : ℕ) (ph : Phase) → Within (setting_of t vs limit capacity overlap) swept ph → (sw : ℕ) (rows : List Row) →
    Over (setting_of t vs limit capacity overlap) swept ph sw rows → Same (λ r. IsIn (internal_of (staying (rows_of vs) swept ph) sw ++ gives vs ph sw) r) (λ r. IsIn rows r)
given t vs limit capacity overlap k a swept ph within sw rows over =
    joined (both-lists (internal_of (staying (rows_of vs) swept ph) sw) (gives vs ph sw)) (joined (before-rows (turned (staying-rows t vs limit capacity overlap k a swept ph sw))) (by_phase ph within over))
  where
    c : Setting
    c = setting_of t vs limit capacity overlap

    q : IsSetting c
    q = made t vs limit capacity overlap k a

    before-rows : {I J P : Row → Type 0} → Same I J → Same (λ r. I r ⊎ P r) (λ r. J r ⊎ P r)
    before-rows f = record { front = λ r m. elim m [ inl x ↦ inl (f.front r x) | inr x ↦ inr x ]; back = λ r m. elim m [ inl x ↦ inl (f.back r x) | inr x ↦ inr x ] }

    one : (v : ℕ) → Same (λ r. IsIn (have vs (all_but 0) v sw) r) (λ r. IsIn (inner c v sw) r ⊎ IsIn (outer c v sw) r)
    one v = joined (record { front = λ r m. piece-of t vs limit capacity overlap k a (all_but 0) v sw r m; back = λ r m. of-piece t vs limit capacity overlap k a (all_but 0) v sw r m }) (turned (idle-pieces (odd v) c v sw))

    begun-flip : (o n : ℕ) → Same (λ r. IsIn (have vs (all_but n) o sw ++ have vs (first n) (suc o) sw) r) (λ r. Both c o sw r ⊎ FlipBase (c.high (suc o)) c o n sw r)
    begun-flip o n = joined (turned (pieces t vs limit capacity overlap k a (all_but n) (first n) o sw)) (turned (flip-pieces (odd o) c o n sw))

    ended-flip : (o : ℕ) (old new : ℕ → ℕ) → Ended (odd o) c o sw old new → Same (λ r. IsIn (have vs old o sw ++ have vs new (suc o) sw) r) (λ r. Both c o sw r ⊎ DrainBase (c.high (suc o)) c o sw r)
    ended-flip o old new h = joined (turned (pieces t vs limit capacity overlap k a old new o sw)) (turned (drain-pieces (odd o) c o sw old new h))

    -- no list has more rows than there are rounds
    longest : (o : ℕ) (d : Bool) → odd o ≡ d → (pt : ℕ) → IsIn (c.edge sw) pt → length (c.rows_at (upper_of (not d) o) (spot sw pt)) ≤ c.rounds o
    longest o d e pt m = subst (λ (b : Bool). length (c.rows_at (upper_of (not b) o) (spot sw pt)) ≤ c.rounds o) e (q.longest o sw pt m)

    last-round : (o n : ℕ) → c.rounds o ≤ suc n → Ended (odd o) c o sw (all_but (suc n)) (first (suc n))
    last-round o n l = record {
      gone = λ e pt m. let h = longest o true e pt m in omega (arith, h, l);
      come = λ e pt m. let h = longest o false e pt m in omega (arith, h, l);
    }

    -- internal rows before two policies
    busy : (s i : ℕ) (X : Row → Type 0) (P : Row → Type 0) → 1 ≤ i → s ≤ i - 2 → Same P (λ r. Both c (pred i) sw r ⊎ X r) → Same (λ r. IsInner c s (i - 1 - 1) sw r ⊎ P r) (λ r. IsInner c s i sw r ⊎ X r)
    busy s i X P x y f = joined (after-rows (λ r. IsInner c s (i - 1 - 1) sw r) P (λ r. Both c (pred i) sw r ⊎ X r) f) (busy-inner c q X s i sw x y)

    zero-less : (v : ℕ) → swept ≤ v - 1 → (v ≡ 0) ⊎ (swept < v)
    zero-less zero l = inl refl
    zero-less (suc o) l = inr (omega (arith, l))

    -- and before one
    idle : (s v : ℕ) → (v ≡ 0) ⊎ (s < v) → Same (λ r. IsInner c s (v - 1) sw r ⊎ IsIn (have vs (all_but 0) v sw) r) (λ r. IsInner c s v sw r ⊎ IsIn (outer c v sw) r)
    idle s v z = joined (after-rows (λ r. IsInner c s (v - 1) sw r) (λ r. IsIn (have vs (all_but 0) v sw) r) (λ r. IsIn (inner c v sw) r ⊎ IsIn (outer c v sw) r) (one v)) (idle-inner c q (λ r. IsIn (outer c v sw) r) s v sw z)

    -- what a round leaves
    flip-over : (o n : ℕ) (b : Bool) → IsUpdate c swept (suc o) → nat_lt (suc n) (c.rounds o) ≡ b → Same (Base c swept (flip_next overlap b (suc o) (suc n)) sw) (λ r. IsIn rows r) →
        Same (λ r. IsInner c swept (suc o - 1 - 1) sw r ⊎ IsIn (have vs (all_but (suc n)) o sw ++ have vs (first (suc n)) (suc o) sw) r) (λ r. IsIn rows r)
    flip-over o n true u e h =
        joined (busy swept (suc o) (λ r. FlipBase (c.high (suc o)) c o (suc n) sw r) (λ r. IsIn (have vs (all_but (suc n)) o sw ++ have vs (first (suc n)) (suc o) sw) r) u.some u.kept (begun-flip o (suc n))) h
    flip-over o n false u e h =
        joined (busy swept (suc o) (λ r. DrainBase (c.high (suc o)) c o sw r) (λ r. IsIn (have vs (all_but (suc n)) o sw ++ have vs (first (suc n)) (suc o) sw) r) u.some u.kept
        (ended-flip o (all_but (suc n)) (first (suc n)) (last-round o n (no-more n (c.rounds o) e))))
        (joined (flipped-same c q overlap swept o sw) h)

    by_phase : (p : Phase) → Within c swept p → Over c swept p sw rows → Same (λ r. IsInner c (swept_after p swept) (upto p) sw r ⊎ IsIn (gives vs p sw) r) (λ r. IsIn rows r)
    by_phase Opening w h = record {
      front = λ r m. elim m [ inl x ↦ absurd (omega (arith, x.after, x.below)) | inr x ↦ absurd x ];
      back = λ r m. elim (h.only r m) [ inl x ↦ elim x [ inl y ↦ absurd (omega (arith, y.after, y.below)) | inr y ↦ absurd y ] | inr x ↦ absurd x ];
    }
    by_phase (Idle v) w h = joined (idle swept v (zero-less v w.kept)) (still-rows (Base c swept (Idle v) sw) rows h)
    by_phase (Install zero) w h = none-first c swept w
    by_phase (Install (suc o)) w h =
        joined (busy swept (suc o) (λ r. FlipBase (c.high (suc o)) c o 0 sw r) (λ r. IsIn (have vs (all_but 0) o sw ++ have vs (first 0) (suc o) sw) r) w.some w.kept (begun-flip o 0))
        (moves c q swept (Install (suc o)) w sw rows refl h)
    by_phase (Flip zero n) w h = none-first c swept w.0
    by_phase (Flip (suc o) zero) w h = absurd (omega (arith, w.1))
    by_phase (Flip (suc o) (suc n)) w h = flip-over o n (nat_lt (suc n) (c.rounds o)) w.0 refl (moves c q swept (Flip (suc o) (suc n)) w sw rows refl h)
    by_phase (Drain zero) w h = none-first c swept w.0
    by_phase (Drain (suc o)) w h =
        let two : most_busy c.overlap ≡ 2 = busy-two c.overlap w.1 in
        joined (after-rows (λ r. IsInner c swept 0 sw r) (λ r. IsIn (have vs (first 0) o sw ++ have vs (all_but 0) (suc o) sw) r) (λ r. Both c o sw r ⊎ DrainBase (c.high (suc o)) c o sw r)
        (ended-flip o (first 0) (all_but 0) (record { gone = λ e pt m. refl; come = λ e pt m. omega arith })))
        (joined (alone-inner c q (λ r. DrainBase (c.high (suc o)) c o sw r) swept (suc o) sw w.0.some w.0.kept (omega (arith, w.0.few, two))) (still-rows (Base c swept (Drain (suc o)) sw) rows h))
    by_phase (Clean zero) w h = none-first c swept w.0
    by_phase (Clean (suc o)) w h = joined (none-before (suc o - 1) (suc o)) (joined (idle (suc o - 1) (suc o) (inr (omega arith))) (moves c q swept (Clean (suc o)) w sw rows refl h))
      where
        none-before : (s v : ℕ) → Same (λ r. IsInner c (suc o - 1) 0 sw r ⊎ IsIn (have vs (all_but 0) (suc o) sw) r) (λ r. IsInner c (suc o - 1) (suc o - 1) sw r ⊎ IsIn (have vs (all_but 0) (suc o) sw) r)
        none-before s v = record {
          front = λ r m. elim m [ inl x ↦ absurd (omega (arith, x.after, x.below)) | inr x ↦ inr x ];
          back = λ r m. elim m [ inl x ↦ absurd (omega (arith, x.after, x.below)) | inr x ↦ inr x ];
        }
    by_phase (Tidy zero) w h = none-first c swept w.0
    by_phase (Tidy (suc o)) w h = joined (idle swept (suc o) (inr (omega (arith, w.0.kept)))) (moves c q swept (Tidy (suc o)) w sw rows refl h)
    by_phase (Sweep i v) w h = joined (idle v i (inr w.2)) (moves c q swept (Sweep i v) w sw rows refl h)

-- ---- nothing is left

nothing-to-come : (st : Stage) (js : List FlowMod) (due : Bool) (l : Wire) → IsAt st l → state.Up ≡ state_of st → l.peer.unsent ≡ [] → l.there ≡ [] → (m : FlowMod) → IsIn (to_come js due st) m → ⊥
nothing-to-come Away js due l at up unsent there m n = let e : state.Up ≡ state.Fresh = up in absurd (cc)
nothing-to-come (Meeting x left) js due l at up unsent there m n = let e : state.Up ≡ state.Fresh = up in absurd (cc)
nothing-to-come (Asking x left) js due l at up unsent there m n = let e : state.Up ≡ state.Greeted = up in absurd (cc)
nothing-to-come Telling js due l at up unsent there m n = let e : state.Up ≡ state.Greeted = up in absurd (cc)
nothing-to-come (Sending x []) js due l at up unsent there m n = n
nothing-to-come (Sending x (y ∷ ys)) js due l at up unsent there m n =
    let e : [] ≡ numbered x (orders_of (y ∷ ys)) = sym (λ i. there i ++ numbered l.peer.sent (unsent i)) ∙ at.messages in
    absurd (cc)
nothing-to-come (Waiting x) js due l at up unsent there m n = n
nothing-to-come (Answered x) js due l at up unsent there m n = n
nothing-to-come Resting js due l at up unsent there m n = n

-- no error is on its way
no-errors : (errors before said behind back : List Message) → ((m : Message) → IsIn errors m → IsFullError m) → errors ≡ before ++ behind → back ≡ before ++ (said ++ behind) → ((m : Message) → IsIn back m → ¬ IsError m) → errors ≡ []
no-errors [] before said behind back full parts is none = refl
no-errors (x ∷ errors) before said behind back full parts is none =
    let f = full x (inl refl) in
    absurd (none x (subst (λ (ms : List Message). IsIn ms x) (sym is) (put (in-either before behind x (subst (λ (ms : List Message). IsIn ms x) parts (inl refl))))) (subst IsError (sym f.is) tt))
  where
    put : IsIn before x ⊎ IsIn behind x → IsIn (before ++ (said ++ behind)) x
    put (inl m) = in-left before (said ++ behind) x m
    put (inr m) = in-right before (said ++ behind) x (in-right said behind x m)

-- the line of such a switch
over-line : (c : Setting) (swept : ℕ) (ph : Phase) (l : Wire) → IsLine c swept ph false l → l.peer.session.state ≡ state.Up → l.peer.unsent ≡ [] → l.there ≡ [] → l.switch.pending ≡ [] → ((m : Message) → IsIn l.back m → ¬ IsError m) → Over c swept ph l.switch.sw l.switch.table.rows
over-line c swept ph l i up unsent there pending errors =
    changing-same (adds c ph) (Base c swept ph l.switch.sw) (batch c ph l.switch.sw) (λ r. Left c ph l.switch.sw i.due i.stage i.held r ⊎ IsIn i.table.refused r) (λ r. ⊥) l.switch.table.rows
    (λ r m. elim m [ inl x ↦ elim x.1 [ inl y ↦ nothing-to-come i.stage (job c ph l.switch.sw) i.due l i.at reached unsent there _ y | inr y ↦ none-held _ y ] | inr x ↦ none-refused r x ])
    (λ r m. absurd m) i.table.changing
  where
    reached : state.Up ≡ state_of i.stage
    reached = elim i.standing.state [ inl e ↦ absurd (cc) | inr e ↦ sym up ∙ e ]

    none-held : (m : FlowMod) → IsIn i.held m → ⊥
    none-held m n = subst (λ (ms : List FlowMod). IsIn ms m) (sym i.pending ∙ ap (map (λ (p : PendingMod). p.change)) pending) n

    no-error : i.errors ≡ []
    no-error = no-errors i.errors i.voice.before i.voice.said i.voice.behind l.back i.full i.voice.parts i.voice.is errors

    none-refused : (r : Row) → IsIn i.table.refused r → ⊥
    none-refused r m = elim i.table.excuse [
      | inl e ↦ subst (λ (rs : List Row). IsIn rs r) e m
      | inr f ↦ elim f [ inl e ↦ absurd (cc) | inr n ↦ n no-error ]
    ]

-- ---- of a world

pub tables-follow : TablesFollow
unfolding IsKept
tables-follow w place s e k running at here done =
    let h = end-here (setting w) w.fleet k.fleet place e here in
    let l = subst (λ (o : Option Cause). IsLine (setting w) w.fleet.control.swept w.fleet.control.phase (is_some o) (wire_of w.fleet.control s h.reply e)) running (k.fleet.lines place s h.reply e at h.reply_at here) in
    let over = over-line (setting w) w.fleet.control.swept w.fleet.control.phase (wire_of w.fleet.control s h.reply e) l done.up done.unsent done.there done.pending done.errors in
    let same = given w.topology w.versions w.limit w.capacity w.overlap k.topology k.versions w.fleet.control.swept w.fleet.control.phase k.fleet.within e.switch.sw e.switch.table.rows over in
    subst (λ (rs : List Row). SameMembers rs e.switch.table.rows) (sym ((λ i. planned (k.rows i) w.fleet.control.swept w.fleet.control.phase e.switch.sw) ∙ planned-is (setting w) w.versions w.fleet.control.swept w.fleet.control.phase k.fleet.within e.switch.sw))
    (record { front = same.front; back = same.back })
