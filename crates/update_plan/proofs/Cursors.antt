-- What is left at a place, when a row is read and when a port has no more.
use Rattle.std.proofs.Common.{◌≡◌, ◌≤◌, ◌<◌, ◌⊎◌, inl, inr, ◌==◌, ◌+◌, ℕ, zero, suc, min, Bool, true, false, List, [], ◌∷◌, ◌++◌, length, map, drop, slice_get, Option, Some, None, option_map, is_some, cond, refl, sym, ◌∙◌, ap, arith}
use Rattle.std.specs.List.{flat_map, filter}
use Rattle.nk_values.specs.declared.row.Row.{Row}
use Rattle.nk_values.specs.declared.rows.Band.{Band}
use Rattle.nk_values.specs.declared.rows.PortRows.{PortRows}
use Rattle.update_plan.specs.declared.cursor.Share.{Share}
use Rattle.update_plan.specs.declared.cursor.Span.{Span}
use Rattle.nk_values.specs.declared.rows.Rows.{Rows}
use Rattle.openflow_wire.specs.RowChanges.{mod_of}
use Rattle.update_plan.specs.Batches.{band_of}
use native.Mathlib.Decide.{ℕ_discrete}
use Rattle.update_plan.specs.Reading.{share_of, share_at, from_port, from_place, ports_of, side, side_from, IsSpan}

some_is : {A : Type 0} (x y : A) → Some x ≡ Some y → x ≡ y
some_is x y e = cc

drop_front : {A : Type 0} (xs : List A) (n : ℕ) (x : A) → slice_get xs n ≡ Some x → drop n xs ≡ x ∷ drop (n + 1) xs
drop_front [] n x e = absurd (cc)
drop_front (y ∷ ys) zero x e = ap (λ z. z ∷ ys) (some_is y x e)
drop_front (y ∷ ys) (suc n) x e = drop_front ys n x e ∙ ap (λ k. x ∷ drop k (y ∷ ys)) more
  where
    more : suc (n + 1) ≡ suc n + 1
    more = omega arith

drop_none : {A : Type 0} (n : ℕ) (xs : List A) → length xs ≡ 0 → drop n xs ≡ []
drop_none zero [] h = refl
drop_none (suc n) [] h = refl
drop_none n (x ∷ xs) h = absurd (omega (arith, h))

drop_past : {A : Type 0} (xs : List A) (n : ℕ) → length xs ≤ n → drop n xs ≡ []
drop_past [] n h = drop_none n [] refl
drop_past (x ∷ xs) zero h = absurd (omega (arith, h))
drop_past (x ∷ xs) (suc n) h = drop_past xs n (omega (arith, h))

no_ports : (share : Share) (adds : Bool) (band : Band) (sw n : ℕ) → from_port share adds band sw (drop n []) ≡ []
no_ports share adds band sw n = ap (λ ps. from_port share adds band sw ps) (drop_none n [] refl)

-- the front port, if it is of the switch, and those after it
front_port : (share : Share) (adds : Bool) (band : Band) (sw : ℕ) (b : Bool) (p : PortRows) (ps : List PortRows) →
    flat_map (λ q. share_of share adds band q) (cond b (p ∷ ps) ps) ≡ cond b (share_of share adds band p) [] ++ flat_map (λ q. share_of share adds band q) ps
front_port share adds band sw true p ps = refl
front_port share adds band sw false p ps = refl

-- ports from one on are that one and those after it
pub ports_from : (share : Share) (adds : Bool) (band : Band) (sw : ℕ) (ports : List PortRows) (n : ℕ) →
    from_port share adds band sw (drop n ports) ≡ share_at share adds band sw (slice_get ports n) ++ from_port share adds band sw (drop (n + 1) ports)
ports_from share adds band sw [] zero = refl
ports_from share adds band sw [] (suc n) = sym (no_ports share adds band sw (suc n + 1))
ports_from share adds band sw (p ∷ ps) zero = front_port share adds band sw (p.sw == sw) p (filter (λ q. q.sw == sw) ps)
ports_from share adds band sw (p ∷ ps) (suc n) = ports_from share adds band sw ps n ∙ ap (λ (k : ℕ). share_at share adds band sw (slice_get ps n) ++ from_port share adds band sw (drop k (p ∷ ps))) more
  where
    more : suc (n + 1) ≡ suc n + 1
    more = omega arith

-- at the first row of a port
pub at_first : (share : Share) (adds : Bool) (band : Band) (sw : ℕ) (ports : List PortRows) (n : ℕ) →
    from_place share adds band sw ports (record { port = n; row = 0 }) ≡ from_port share adds band sw (drop n ports)
at_first share adds band sw ports n = sym (ports_from share adds band sw ports n)

-- where a port has no more rows the next one comes
pub at_end : (share : Share) (adds : Bool) (band : Band) (sw : ℕ) (ports : List PortRows) (n k : ℕ) → length (share_at share adds band sw (slice_get ports n)) ≤ k →
    from_place share adds band sw ports (record { port = n; row = k }) ≡ from_place share adds band sw ports (record { port = n + 1; row = 0 })
at_end share adds band sw ports n k h =
    ap (λ rs. rs ++ from_port share adds band sw (drop (n + 1) ports)) (drop_past (share_at share adds band sw (slice_get ports n)) k h)
    ∙ sym (at_first share adds band sw ports (n + 1))

-- a row is read
pub at_row : (share : Share) (adds : Bool) (band : Band) (sw : ℕ) (ports : List PortRows) (n k : ℕ) (r : Row) → slice_get (share_at share adds band sw (slice_get ports n)) k ≡ Some r →
    from_place share adds band sw ports (record { port = n; row = k }) ≡ r ∷ from_place share adds band sw ports (record { port = n; row = k + 1 })
at_row share adds band sw ports n k r e = ap (λ rs. rs ++ from_port share adds band sw (drop (n + 1) ports)) (drop_front (share_at share adds band sw (slice_get ports n)) k r e)

-- ---- the ports of a switch stand between two places

off_front : (sw : ℕ) (ports : List PortRows) (n : ℕ) → ((k : ℕ) (p : PortRows) → k < n → slice_get ports k ≡ Some p → (p.sw == sw) ≡ false) → filter (λ q. q.sw == sw) (drop n ports) ≡ filter (λ q. q.sw == sw) ports
off_front sw [] zero h = refl
off_front sw [] (suc n) h = refl
off_front sw (p ∷ ps) zero h = refl
off_front sw (p ∷ ps) (suc n) h = off_front sw ps n (λ k q l e. h (suc k) q (omega (arith, l)) e) ∙ skipped (p.sw == sw) (h 0 p (omega arith) refl)
  where
    skipped : (b : Bool) → b ≡ false → filter (λ q. q.sw == sw) ps ≡ cond b (p ∷ filter (λ q. q.sw == sw) ps) (filter (λ q. q.sw == sw) ps)
    skipped false e = refl
    skipped true e = absurd (cc)

off_end : (sw : ℕ) (ports : List PortRows) (n : ℕ) → ((k : ℕ) (p : PortRows) → n ≤ k → slice_get ports k ≡ Some p → (p.sw == sw) ≡ false) → filter (λ q. q.sw == sw) (drop n ports) ≡ []
off_end sw [] zero h = refl
off_end sw [] (suc n) h = refl
off_end sw (p ∷ ps) zero h = skipped (p.sw == sw) (h 0 p (omega arith) refl) (off_end sw ps 0 (λ k q l e. h (suc k) q (omega arith) e))
  where
    skipped : (b : Bool) → b ≡ false → filter (λ q. q.sw == sw) ps ≡ [] → cond b (p ∷ filter (λ q. q.sw == sw) ps) (filter (λ q. q.sw == sw) ps) ≡ []
    skipped false e d = d
    skipped true e d = absurd (cc)
off_end sw (p ∷ ps) (suc n) h = off_end sw ps n (λ k q l e. h (suc k) q (omega (arith, l)) e)

before_span : (span : Span) (sw : ℕ) (ports : List PortRows) → IsSpan span sw ports → (k : ℕ) (p : PortRows) → k < span.first → slice_get ports k ≡ Some p → (p.sw == sw) ≡ false
before_span span sw ports h k p l e = elim (h k p e) [ inl q ↦ q | inr q ↦ absurd (omega (arith, l, q.0)) ]

behind_span : (span : Span) (sw : ℕ) (ports : List PortRows) → IsSpan span sw ports → (k : ℕ) (p : PortRows) → span.end ≤ k → slice_get ports k ≡ Some p → (p.sw == sw) ≡ false
behind_span span sw ports h k p l e = elim (h k p e) [ inl q ↦ q | inr q ↦ absurd (omega (arith, l, q.1)) ]

-- all rows stand from the first port on
pub from_span : (share : Share) (adds : Bool) (band : Band) (sw : ℕ) (ports : List PortRows) (span : Span) → IsSpan span sw ports → from_place share adds band sw ports (record { port = span.first; row = 0 }) ≡ from_port share adds band sw ports
from_span share adds band sw ports span h =
    at_first share adds band sw ports span.first ∙ ap (λ (ps : List PortRows). flat_map (λ p. share_of share adds band p) ps) (off_front sw ports span.first (before_span span sw ports h))

pub goes_first : (share : Share) (adds : Bool) (v : Option Rows) (sw : ℕ) (span : Span) → IsSpan span sw (ports_of v) → side_from share adds v sw (record { port = span.first; row = 0 }) ≡ side share adds v sw
goes_first share adds v sw span h = ap (map (mod_of adds)) (from_span share adds (band_of v) sw (ports_of v) span h)

none_at : (share : Share) (adds : Bool) (band : Band) (sw : ℕ) (o : Option PortRows) → ((p : PortRows) → o ≡ Some p → (p.sw == sw) ≡ false) → share_at share adds band sw o ≡ []
none_at share adds band sw None h = refl
none_at share adds band sw (Some p) h = skipped (p.sw == sw) (h p refl)
  where
    skipped : (b : Bool) → b ≡ false → cond b (share_of share adds band p) [] ≡ []
    skipped false e = refl
    skipped true e = absurd (cc)

-- after the last port nothing is left
pub at_last : (share : Share) (adds : Bool) (band : Band) (sw : ℕ) (ports : List PortRows) (span : Span) (n k : ℕ) → IsSpan span sw ports → span.end ≤ n → from_place share adds band sw ports (record { port = n; row = k }) ≡ []
at_last share adds band sw ports span n k h l =
    (λ i. drop k (none_at share adds band sw (slice_get ports n) (λ p e. behind_span span sw ports h n p l e) i) ++ from_port share adds band sw (drop (n + 1) ports))
    ∙ (λ i. drop_none k [] refl i ++ flat_map (λ p. share_of share adds band p) (off_end sw ports (n + 1) (λ j p m e. behind_span span sw ports h j p (omega (arith, l, m)) e) i))

-- a span of some ports, as far as they are looked at
pub more_span : (first end sw i : ℕ) (ports : List PortRows) (b : Bool) → ((k : ℕ) (p : PortRows) → k < i → slice_get ports k ≡ Some p → ((p.sw == sw) ≡ false) ⊎ ((first ≤ k) × (k < end))) → (q : PortRows) → slice_get ports i ≡ Some q → (q.sw == sw) ≡ true →
    (k : ℕ) (p : PortRows) → k < i + 1 → slice_get ports k ≡ Some p → ((p.sw == sw) ≡ false) ⊎ ((min first i ≤ k) × (k < i + 1))
more_span first end sw i ports b h q e t k p l d = elim (ℕ_discrete k i) [
  | yes m ↦ inr (omega (arith, m), omega (arith, m))
  | no n ↦ elim (h k p (omega (arith, l, n)) d) [ inl x ↦ inl x | inr x ↦ inr (omega (arith, x.0), omega (arith, l)) ]
]

-- no row is at a place that is past those of its port
pub past : (share : Share) (adds : Bool) (band : Band) (sw : ℕ) (ports : List PortRows) (n k : ℕ) → slice_get (share_at share adds band sw (slice_get ports n)) k ≡ None → length (share_at share adds band sw (slice_get ports n)) ≤ k
past share adds band sw ports n k e = beyond (share_at share adds band sw (slice_get ports n)) k e
  where
    beyond : {A : Type 0} (xs : List A) (k : ℕ) → slice_get xs k ≡ None → length xs ≤ k
    beyond [] k e = omega arith
    beyond (x ∷ xs) zero e = absurd (cc)
    beyond (x ∷ xs) (suc k) e = omega (arith, beyond xs k e)

-- what a test for a row says
pub none_by : {A B : Type 0} (f : A → B) (r : Option A) (o : Option B) → option_map f r ≡ o → is_some r ≡ false → o ≡ None
none_by f None o e d = sym e
none_by f (Some x) o e d = absurd (cc)

pub some_by : {A B : Type 0} (f : A → B) (r : Option A) (o : Option B) (x : A) → option_map f r ≡ o → r ≡ Some x → o ≡ Some (f x)
some_by f r o x e d = sym e ∙ ap (option_map f) d
