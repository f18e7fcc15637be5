-- The versions of a document are those that a world starts with.
use Rattle.std.proofs.Common.{◌≡◌, ℕ, zero, suc, ◌+◌, ◌-◌, ◌≤◌, Bool, true, false, if◌then◌else◌, List, [], ◌∷◌, length, refl, sym, ◌∙◌, ap, subst, Option, None, Some, slice_get, arith}
use Rattle.nk_syntax.specs.Terms.{Term}
use Rattle.topology_model.specs.Layouts.{Layout}
use Rattle.document_text.specs.declared.document.Settings.{Settings}
use Rattle.policy_rows.specs.declared.version.Version.{Version}
use Rattle.policy_rows.specs.Means.{RowsMean}
use Rattle.update_laws.specs.Settings as settings
use Rattle.update_laws.specs.Updates.{most_busy}
use Rattle.update_laws.proofs.Stamps.{stamps-apart}
use Rattle.world_core.specs.declared.settings.Settings.{Settings as WorldSettings}
use Rattle.program_answer.specs.Sound.{AreStamps}
use Rattle.program_answer.specs.Versions.{IsVersion, AreVersions}
use Rattle.program_answer.specs.Worlds.{round_of, world_settings}

-- if drains overlap or not, there is a round of stamps for all that are in use
round-busy : (b : Bool) (n : ℕ) → 2 ≤ n → (2 ≤ most_busy (if b then Some n else None)) × (most_busy (if b then Some n else None) ≤ n)
round-busy true n two = (two, omega arith)
round-busy false n two = (omega arith, two)

-- the version after k others
record At (t : Layout) (s : Settings) (k : ℕ) (v : Version) : Type 0 where
  policy : Term
  is : IsVersion t s k policy v

at : (t : Layout) (s : Settings) (k : ℕ) (ps : List Term) (vs : List Version) → AreVersions t s k ps vs → (n : ℕ) (v : Version) → slice_get vs n ≡ Some v → At t s (k + n) v
at t s k [] [] h n v e = absurd (cc)
at t s k [] (w ∷ vs) h n v e = absurd h
at t s k (p ∷ ps) [] h n v e = absurd h
at t s k (p ∷ ps) (w ∷ vs) h zero v e =
    let same : w ≡ v = some-is w v e in
    subst (λ (j : ℕ). At t s j v) (omega arith) (subst (λ (x : Version). At t s k x) same (record { policy = p; is = h.0 }))
  where
    some-is : (x y : Version) → Some x ≡ Some y → x ≡ y
    some-is x y q = cc
at t s k (p ∷ ps) (w ∷ vs) h (suc n) v e = subst (λ (j : ℕ). At t s j v) (omega arith) (at t s (suc k) ps vs h.1 n v e)

as-many : (t : Layout) (s : Settings) (k : ℕ) (ps : List Term) (vs : List Version) → AreVersions t s k ps vs → length vs ≡ length ps
as-many t s k [] [] h = refl
as-many t s k [] (w ∷ vs) h = absurd h
as-many t s k (p ∷ ps) [] h = absurd h
as-many t s k (p ∷ ps) (w ∷ vs) h = ap (λ (n : ℕ). suc n) (as-many t s (suc k) ps vs h.1)

first : (t : Layout) (s : Settings) (ps : List Term) (vs : List Version) → AreVersions t s 0 ps vs → (n : ℕ) (v : Version) → slice_get vs n ≡ Some v → At t s n v
first t s ps vs h n v e = subst (λ (j : ℕ). At t s j v) (omega arith) (at t s 0 ps vs h n v e)

-- with a round of two stamps or more, of those of the settings
versions-with : (t : Layout) (s : Settings) (ps : List Term) (vs : List Version) (overlap : Option ℕ) → 2 ≤ most_busy overlap → most_busy overlap ≤ s.stamps.1 - s.stamps.0 + 1 → length ps ≤ 64 → AreVersions t s 0 ps vs → settings.AreVersions t vs overlap
versions-with t s ps vs overlap two all few h = record {
  few = let n = as-many t s 0 ps vs h in omega (arith, n, few);
  means = λ k v e. let x = first t s ps vs h k v e in subst (λ (p : Term). RowsMean v.rows p t) (sym x.is.policy) x.is.means;
  limits = λ k v e. (first t s ps vs h k v e).is.limits;
  writable = λ k v e. (first t s ps vs h k v e).is.writable;
  bands = λ k v e. (first t s ps vs h k v e).is.rows.band_is;
  two = two;
  stamps = λ j k v w b d e f q.
      let x = first t s ps vs h j v e in
      let y = first t s ps vs h k w f in
      stamps-apart s.stamps.0 s.stamps.1 j k b (omega (arith, d, all)) (sym x.is.rows.stamp_is ∙ q ∙ y.is.rows.stamp_is);
}

two-or-more : (s : Settings) → AreStamps s → 2 ≤ s.stamps.1 - s.stamps.0 + 1
two-or-more s a = let l = a.rising in omega (arith, l)

versions-start : (t : Layout) (s : Settings) (ps : List Term) (vs : List Version) → AreStamps s → length ps ≤ 64 → AreVersions t s 0 ps vs → settings.AreVersions t vs (round_of s)
versions-start t s ps vs a few h =
    let busy = round-busy s.overlap (s.stamps.1 - s.stamps.0 + 1) (two-or-more s a) in versions-with t s ps vs (round_of s) busy.0 busy.1 few h

-- the same without overlap, whatever the settings say
pub versions-start-alone : (t : Layout) (s : Settings) (ps : List Term) (vs : List Version) → AreStamps s → length ps ≤ 64 → AreVersions t s 0 ps vs → settings.AreVersions t vs None
versions-start-alone t s ps vs a few h = versions-with t s ps vs None (omega arith) (two-or-more s a) few h

-- ---- what a world's start asks

pub world-versions : (t : Layout) (s : Settings) (x : WorldSettings) (ps : List Term) (vs : List Version) → x ≡ world_settings s → AreStamps s → length ps ≤ 64 → AreVersions t s 0 ps vs → settings.AreVersions t vs x.overlap
world-versions t s x ps vs e a few h = subst (λ (y : WorldSettings). settings.AreVersions t vs y.overlap) (sym e) (versions-start t s ps vs a few h)

pub world-hops : (s : Settings) (x : WorldSettings) → x ≡ world_settings s → 1 ≤ s.hops → 1 ≤ x.hops
world-hops s x e h = subst (λ (y : WorldSettings). 1 ≤ y.hops) (sym e) h

pub world-rejoins : (s : Settings) (x : WorldSettings) → x ≡ world_settings s → s.rejoins ≤ 1000 → x.rejoins ≤ 1000
world-rejoins s x e h = subst (λ (y : WorldSettings). y.rejoins ≤ 1000) (sym e) h
