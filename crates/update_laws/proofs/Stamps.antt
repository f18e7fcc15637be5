-- Stamps go round: those in use differ, and one is left exactly if fewer are in use than there are.
use Rattle.std.proofs.Common.{◌≡◌, ◌≢◌, ◌+◌, ◌-◌, ◌*◌, ◌/◌, ◌%◌, ◌<◌, ◌≤◌, ℕ, zero, suc, Bool, true, false, ◌⊎◌, inl, inr, List, length, Option, Some, None, nat_lt, if◌then◌else◌, refl, sym, ◌∙◌, ap, arith}
use Rattle.std.proofs.lemmas.Bool.{ltb-true, ltb-false, lt-ltb}
use Rattle.std.proofs.Math.Nat.{div-add-mod, mul-le-mul_left, add-mod_right, mod-eq_of_lt, mod-lt}
use native.Mathlib.Decide.{ℕ_discrete}
use Rattle.policy_rows.specs.declared.version.Version.{Version}
use Rattle.policy_rows.specs.Numbers.{stamp_at}
use Rattle.topology_model.specs.Layouts.{Layout}
use Rattle.update_coordinator.specs.declared.cause.Cause.{Cause}
use Rattle.update_coordinator.specs.declared.refusal.Refusal.{Refusal}
use Rattle.update_coordinator.specs.declared.refusal.Refusal.TheVariants.{NotIdle, NothingLeft, NoStamp, Halted}
use Rattle.update_coordinator.specs.Calls.{begin_refusal, begins, has_stamp, unless_halted}
use Rattle.update_laws.specs.Updates.{Setting, IsSetting, Phase, Opening, Idle, Install, Flip, Drain, Clean, Tidy, Sweep, Within, last_policy}
use Rattle.update_laws.specs.Settings.{version_at, stamp_in, setting_of}
use Rattle.update_laws.specs.Fleets.{Fleet, IsFleet}
use Rattle.update_laws.specs.Stamps.{GoRound, AreAllUsed, LacksStamp, NoStampTwice, RefusesUsed}
use Rattle.update_laws.proofs.Origins.{span, apart-within, stamps-near}
use Rattle.update_laws.proofs.Places.{get-some}

-- ---- those in use differ

last-there : (c : Setting) (swept : ℕ) (ph : Phase) → Within c swept ph → last_policy ph ≤ c.last
last-there c swept Opening w = omega arith
last-there c swept (Idle i) w = w.below
last-there c swept (Install i) w = w.below
last-there c swept (Flip i k) w = w.0.below
last-there c swept (Drain i) w = w.0.below
last-there c swept (Clean i) w = w.0.below
last-there c swept (Tidy i) w = w.0.below
last-there c swept (Sweep i v) w = w.0.below

pub no-stamp-twice : (c : Setting) → IsSetting c → (f : Fleet) → IsFleet c f → NoStampTwice c f
no-stamp-twice c k f i u v a b e =
    let top = last-there c f.control.swept f.control.phase i.within in
    stamps-near c k (span f.control.swept f.control.phase) u v (apart-within c f.control.swept f.control.phase i.within) (omega (arith, a.1, top)) (omega (arith, b.1, top)) a b e

-- ---- numbers that go round

-- those less than a round apart differ
pub round-apart : (n u v : ℕ) → u < v → v < u + n → u % n ≡ v % n → ⊥
round-apart n u v a b e = elim (less-or-not (u / n) (v / n)) [
  | inl l ↦ let h = mul-le-mul_left n l in omega (arith, a, b, e, h, div-add-mod u n, div-add-mod v n, step (u / n))
  | inr l ↦ let h = mul-le-mul_left n l in omega (arith, a, e, h, div-add-mod u n, div-add-mod v n)
]
  where
    less-or-not : (p q : ℕ) → (suc p ≤ q) ⊎ (q ≤ p)
    less-or-not p q = grind arith

    step : (p : ℕ) → n * suc p ≡ n * p + n
    step p = grind arith

-- so do the stamps of policies that are less than a round apart, by their places
pub stamps-apart : (low high j k : ℕ) → j < k → k < j + (high - low + 1) → stamp_at low high j ≢ stamp_at low high k
stamps-apart low high j k a b e = round-apart (high - low + 1) j k a b (omega (arith, e))

-- a number of a round, from one on
pub record Residue (n first r : ℕ) : Type 0 where
  pub number : ℕ
  pub above : first ≤ number
  pub below : number < first + n
  pub is : number % n ≡ r

-- of a round of numbers in a row one has each residue
pub residue : (n first r : ℕ) → r < n → Residue n first r
residue n zero r l = record { number = r; above = omega arith; below = omega (arith, l); is = mod-eq_of_lt l }
residue n (suc s) r l =
    let x = residue n s r l in
    elim (ℕ_discrete x.number s) [
      | yes e ↦ record { number = s + n; above = omega (arith, l); below = omega arith; is = add-mod_right s n ∙ ap (λ (j : ℕ). j % n) (sym e) ∙ x.is }
      | no d ↦ let a : suc s ≤ x.number = omega (arith, d, x.above) in record { number = x.number; above = a; below = omega (arith, x.below); is = x.is }
    ]

-- ---- if no stamp is left

some-absurd : {P : Type 0} (r q : Refusal) → (r ≡ q → ⊥) → Some r ≡ Some q → P
some-absurd r q n e = absurd (n (some-is e))
  where
    some-is : Some r ≡ Some q → r ≡ q
    some-is e = cc

-- an update is refused for want of a stamp in Idle alone
record IsFull (overlap : Option ℕ) (swept : ℕ) (ph : Phase) (last : ℕ) : Type 0 where
  version : ℕ
  idle : ph ≡ Idle version
  more : version < last
  none : has_stamp overlap (version - swept) ≡ false

full-by : (b d : Bool) → (if b then (if d then None else Some NoStamp) else Some NothingLeft) ≡ Some NoStamp → (b ≡ true) × (d ≡ false)
full-by true true e = absurd (cc)
full-by true false e = (refl, refl)
full-by false d e = some-absurd NothingLeft NoStamp (λ q. cc) e

is-full : (overlap : Option ℕ) (swept : ℕ) (ph : Phase) (last : ℕ) → begins overlap swept ph last ≡ Some NoStamp → IsFull overlap swept ph last
is-full overlap swept (Idle i) last e =
    let b = full-by (nat_lt i last) (has_stamp overlap (i - swept)) e in
    record { version = i; idle = refl; more = ltb-true i last b.0; none = b.1 }
is-full overlap swept Opening last e = some-absurd NotIdle NoStamp (λ q. cc) e
is-full overlap swept (Install i) last e = some-absurd NotIdle NoStamp (λ q. cc) e
is-full overlap swept (Flip i k) last e = some-absurd NotIdle NoStamp (λ q. cc) e
is-full overlap swept (Drain i) last e = some-absurd NotIdle NoStamp (λ q. cc) e
is-full overlap swept (Clean i) last e = some-absurd NotIdle NoStamp (λ q. cc) e
is-full overlap swept (Tidy i) last e = some-absurd NotIdle NoStamp (λ q. cc) e
is-full overlap swept (Sweep i v) last e = some-absurd NotIdle NoStamp (λ q. cc) e

running-by : (halt : Option Cause) (r : Option Refusal) → unless_halted halt r ≡ Some NoStamp → (halt ≡ None) × (r ≡ Some NoStamp)
running-by None r e = (refl, e)
running-by (Some x) r e = some-absurd Halted NoStamp (λ q. cc) e

module _ (t : Layout) (vs : List Version) (limit capacity low high : ℕ) (some : low ≤ high) (round : GoRound low high vs) (f : Fleet) (i : IsFleet (setting_of t vs limit capacity (Some (high - low + 1))) f) where
  stamp-is : (k : ℕ) → k < length vs → stamp_in (version_at vs (suc k)) ≡ stamp_at low high k
  stamp-is k l = let x = get-some k vs l in ap stamp_in x.1 ∙ round k x.0 x.1

  -- as many are in use as there are
  all-used : (v : ℕ) → f.control.phase ≡ Idle v → v < length vs → (high - low + 1) ≤ v - f.control.swept → AreAllUsed (setting_of t vs limit capacity (Some (high - low + 1))) f.control low high
  all-used v idle more many stamp a b =
      let x = residue (high - low + 1) f.control.swept (stamp - low) (omega (arith, a, b)) in
      let top : last_policy f.control.phase ≡ v = ap last_policy idle in (
        suc x.number,
        (omega (arith, x.above), omega (arith, x.below, many, top)),
        stamp-is x.number (omega (arith, x.below, many, more)) ∙ ap (λ (r : ℕ). low + r) x.is ∙ (let e : low + (stamp - low) ≡ stamp = omega (arith, a) in e),
      )

  -- fewer are: the next stamp is none of them
  next-free : (v : ℕ) → f.control.phase ≡ Idle v → v < length vs → v - f.control.swept < high - low + 1 → AreAllUsed (setting_of t vs limit capacity (Some (high - low + 1))) f.control low high → ⊥
  next-free v idle more few used =
      let r = mod-lt v {m = high - low + 1} (omega arith) in
      let x = used (low + v % (high - low + 1)) (omega arith) (omega (arith, r, some)) in
      let top : last_policy f.control.phase ≡ v = ap last_policy idle in
      by_version x.0 x.1.0 (omega (arith, x.1.1, top)) x.2
    where
      by_version : (u : ℕ) → f.control.swept < u → u ≤ v → stamp_in (version_at vs u) ≡ low + v % (high - low + 1) → ⊥
      by_version zero a b e = omega (arith, a)
      by_version (suc j) a b e =
          let s = stamp-is j (omega (arith, b, more)) in
          round-apart (high - low + 1) j v (omega (arith, b)) (omega (arith, a, few)) (omega (arith, s, e))

  pub refuses-used : RefusesUsed t vs limit capacity low high f
  refuses-used = (front, back)
    where
      overlap : f.control.overlap ≡ Some (high - low + 1)
      overlap = i.overlap

      front : begin_refusal f.control ≡ Some NoStamp → LacksStamp (setting_of t vs limit capacity (Some (high - low + 1))) low high f.control
      front e =
          let r = running-by f.control.halt (begins f.control.overlap f.control.swept f.control.phase (length f.control.versions)) e in
          let x = is-full f.control.overlap f.control.swept f.control.phase (length f.control.versions) r.1 in
          let more : x.version < length vs = omega (arith, x.more, i.last) in
          let none : nat_lt (x.version - f.control.swept) (high - low + 1) ≡ false = ap (λ (o : Option ℕ). has_stamp o (x.version - f.control.swept)) (sym i.overlap) ∙ x.none in
          record {
            running = r.0;
            version = x.version;
            idle = x.idle;
            more = more;
            used = all-used x.version x.idle more (ltb-false (x.version - f.control.swept) (high - low + 1) none);
          }

      back : LacksStamp (setting_of t vs limit capacity (Some (high - low + 1))) low high f.control → begin_refusal f.control ≡ Some NoStamp
      back l =
          (λ j. unless_halted (l.running j) (begins (i.overlap j) f.control.swept (l.idle j) (length f.control.versions)))
          ∙ by_left (nat_lt l.version (length f.control.versions)) (lt-ltb l.version (length f.control.versions) (omega (arith, l.more, i.last)))
        where
          by_left : (b : Bool) → b ≡ true → (if b then (if nat_lt (l.version - f.control.swept) (high - low + 1) then None else Some NoStamp) else Some NothingLeft) ≡ Some NoStamp
          by_left true e = by_stamp (nat_lt (l.version - f.control.swept) (high - low + 1)) refl
            where
              by_stamp : (b : Bool) → nat_lt (l.version - f.control.swept) (high - low + 1) ≡ b → (if b then None else Some NoStamp) ≡ Some NoStamp
              by_stamp true q = absurd (next-free l.version l.idle l.more (ltb-true (l.version - f.control.swept) (high - low + 1) q) l.used)
              by_stamp false q = refl
          by_left false e = absurd (cc)
