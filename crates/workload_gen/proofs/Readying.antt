-- The policies of a number's document with their rows.
use Rattle.std.proofs.Common.{◌≡◌, ◌≢◌, ℕ, zero, suc, ◌+◌, ◌%◌, ◌<◌, ◌≤◌, List, [], ◌∷◌, ◌++◌, length, map, take, get_or, refl, sym, ◌∙◌, ap, subst, None, Some, slice_get, arith}
use Rattle.std.proofs.Math.Nat.{mod-lt, mod-eq_of_lt}
use Rattle.std.proofs.lemmas.List.{length-append, length-map}
use Rattle.std.proofs.lemmas.Option.{slice_get_read}
use Rattle.rand_pcg.specs.Lcg.{Lcg}
use Rattle.nk_values.specs.declared.rows.Band.{Band}
use Rattle.nk_syntax.specs.declared.pol.Pol.{Pol}
use Rattle.nk_syntax.specs.Terms.{Term}
use Rattle.nk_syntax.specs.Views.{term_of}
use Rattle.topology_model.specs.Layouts.{Layout}
use Rattle.document_text.specs.Documents.{Doc}
use Rattle.policy_rows.specs.declared.version.Version.{Version}
use Rattle.policy_rows.specs.Numbers.{stamp_at, band_at}
use Rattle.update_laws.specs.Settings.{AreVersions}
use Rattle.update_laws.proofs.Places.{Last, Earlier, among, get-within}
use Rattle.update_laws.proofs.Wiring.{some-is, get-mapped}
use Rattle.world_core.specs.Laws.{HasTableRoom, NoDeadEnd}
use Rattle.world_core.proofs.Beginning.{start-kept}
use Rattle.workload_laws.specs.Emitted.{IsVersionIn}
use Rattle.workload_laws.specs.Workload.{IsWorkload}
use Rattle.workload_gen.specs.Documents.{document_of, policies, policy_count, seeded, switch_count}
use Rattle.workload_gen.specs.Laws.{RunsEnd}
use Rattle.workload_gen.specs.Versions.{AreVersionsOf, policies_of}
use Rattle.workload_gen.specs.Words.{behind}
use Rattle.workload_gen.proofs.Building.{map-more}
use Rattle.workload_gen.proofs.Endings.{kept-end, policies-at}
use Rattle.workload_gen.proofs.Lines.{few-switches}

-- ---- one policy

term-at : (ps : List Pol) (k : ℕ) (p : Pol) → k < length ps → p ≡ get_or ps k p → slice_get (map term_of ps) k ≡ Some (term_of p)
term-at ps k p l e = get-mapped term_of k ps p (slice_get_read ps (length ps) k p refl l e)

pub is-workload : (n : ℕ) (d : Doc) → d ≡ document_of n → (ps : List Pol) → map term_of ps ≡ d.policies → (k : ℕ) (p : Pol) → k < length ps → p ≡ get_or ps k p → IsWorkload (term_of p)
is-workload n d e ps q k p l i =
    let at = policies-at (switch_count n) k (policy_count n) (seeded n) (term_of p) (ap (λ (ts : List Term). slice_get ts k) (sym (q ∙ ap (λ (x : Doc). x.policies) e)) ∙ term-at ps k p l i) in
    record { switches = switch_count n; blocked = at.0; few = (few-switches n).1; is = at.1 }

-- ---- so far

pub record AreSoFar (t : Layout) (low high : ℕ) (ps : List Pol) (k : ℕ) (vs : List Version) : Type 0 where
  pub count : length vs ≡ k
  pub policies_are : policies_of vs ≡ take k (map term_of ps)
  pub each : (j : ℕ) (v : Version) → slice_get vs j ≡ Some v → IsVersionIn t (stamp_at low high j) (band_at j) v

take-suc : {X : Type 0} (xs : List X) (k : ℕ) (x : X) → slice_get xs k ≡ Some x → take (suc k) xs ≡ take k xs ++ x ∷ []
take-suc [] k x e = absurd (cc)
take-suc (y ∷ ys) zero x e = ap (λ z. z ∷ []) (some-is y x e)
take-suc (y ∷ ys) (suc k) x e = ap (λ zs. y ∷ zs) (take-suc ys k x e)

take-more : {X : Type 0} (xs : List X) (k : ℕ) (x : X) → slice_get xs k ≡ Some x → take (k + 1) xs ≡ take k xs ++ x ∷ []
take-more xs k x e = ap (λ (n : ℕ). take n xs) (let q : k + 1 ≡ suc k = omega arith in q) ∙ take-suc xs k x e

take-whole : {X : Type 0} (xs : List X) (k : ℕ) → length xs ≤ k → take k xs ≡ xs
take-whole [] zero l = refl
take-whole [] (suc k) l = refl
take-whole (x ∷ xs) zero l = absurd (omega (arith, l))
take-whole (x ∷ xs) (suc k) l = ap (λ ys. x ∷ ys) (take-whole xs k (omega (arith, l)))

pub so-far-none : (t : Layout) (low high : ℕ) (ps : List Pol) → AreSoFar t low high ps 0 []
so-far-none t low high ps = record { count = refl; policies_are = refl; each = λ j v e. absurd (cc) }

pub so-far-next : (t : Layout) (low high : ℕ) (ps : List Pol) (k : ℕ) (vs us : List Version) (p : Pol) (v : Version) (stamp : ℕ) (band : Band) → k < length ps → p ≡ get_or ps k p → stamp ≡ stamp_at low high k → band ≡ band_at k →
    us ≡ vs ++ v ∷ [] → term_of v.pol ≡ term_of p → IsVersionIn t stamp band v → AreSoFar t low high ps k vs → AreSoFar t low high ps (k + 1) us
so-far-next t low high ps k vs us p v stamp band l i a b c d h s = subst (λ (xs : List Version). AreSoFar t low high ps (k + 1) xs) (sym c) (record {
  count = let n = length-append vs (v ∷ []) in let m = s.count in omega (arith, n, m);
  policies_are = map-more (λ (x : Version). term_of x.pol) vs v ∙ (λ j. s.policies_are j ++ d j ∷ []) ∙ sym (take-more (map term_of ps) k (term_of p) (term-at ps k p l i));
  each = λ j u e. elim (among vs v j u e) [
    | Last x y ↦ subst (λ (z : Version). IsVersionIn t (stamp_at low high j) (band_at j) z) y
        (subst (λ (z : ℕ). IsVersionIn t (stamp_at low high z) (band_at z) v) (sym (x ∙ s.count)) (subst (λ (z : Band). IsVersionIn t (stamp_at low high k) z v) b (subst (λ (z : ℕ). IsVersionIn t z band v) a h)))
    | Earlier g x ↦ s.each j u g
  ];
})

pub all-versions : (d : Doc) (low high : ℕ) (ps : List Pol) (k : ℕ) (vs : List Version) → map term_of ps ≡ d.policies → d.settings.stamps.0 ≡ low → d.settings.stamps.1 ≡ high → length ps ≤ k → AreSoFar d.layout low high ps k vs → AreVersionsOf d vs
all-versions d low high ps k vs q a b l s = record {
  policies = s.policies_are ∙ take-whole (map term_of ps) k (let n = length-map ps term_of in omega (arith, n, l)) ∙ q;
  each = λ j v e. subst (λ (x : ℕ). IsVersionIn d.layout (stamp_at x d.settings.stamps.1 j) (band_at j) v) (sym a) (subst (λ (x : ℕ). IsVersionIn d.layout (stamp_at low x j) (band_at j) v) (sym b) (s.each j v e));
}

-- ---- what a world asks

count-policies : (s k : ℕ) (g : Lcg) → length (policies s k g) ≡ k
count-policies s zero g = refl
count-policies s (suc k) g = ap (λ (n : ℕ). suc n) (count-policies s k (behind 1 g))

few-versions : (n : ℕ) (vs : List Version) → AreVersionsOf (document_of n) vs → length vs ≤ 8
few-versions n vs a =
    let one = length-map vs (λ (x : Version). term_of x.pol) in
    let two = ap (λ (ps : List Term). length ps) a.policies in
    let three = count-policies (switch_count n) (policy_count n) (seeded n) in
    let four = mod-lt n {m = 6} (omega arith) in
    omega (arith, one, two, three, four)

stamps-apart : (k : ℕ) → suc k < 8 → stamp_at 1 4094 k ≢ stamp_at 1 4094 (suc k)
stamps-apart k l e =
    let a : k % 4094 ≡ k = mod-eq_of_lt (omega (arith, l)) in
    let b : suc k % 4094 ≡ suc k = mod-eq_of_lt (omega (arith, l)) in
    omega (arith, e, a, b)

starts : (n : ℕ) (vs : List Version) → AreVersionsOf (document_of n) vs → AreVersions (document_of n).layout vs None
starts n vs a = record {
  few = let l = few-versions n vs a in omega (arith, l);
  means = λ k v e. (a.each k v e).means;
  limits = λ k v e. (a.each k v e).limits;
  writable = λ k v e. (a.each k v e).writable;
  bands = λ k v e. (a.each k v e).rows.band_is;
  two = omega arith;
  stamps = λ j k v w b d e f q.
      let next : k ≡ suc j = omega (arith, b, d) in
      stamps-apart j (let l = few-versions n vs a in let m = get-within k vs w f in omega (arith, l, m, next)) (sym (a.each j v e).rows.stamp_is ∙ q ∙ (a.each k w f).rows.stamp_is ∙ ap (λ (i : ℕ). stamp_at 1 4094 i) next);
}

pub versions-start : (n : ℕ) (d : Doc) (vs : List Version) → d ≡ document_of n → AreVersionsOf d vs → AreVersions d.layout vs None
versions-start n d vs e a = subst (λ (x : Doc). AreVersions x.layout vs None) (sym e) (starts n vs (subst (λ (x : Doc). AreVersionsOf x vs) e a))

-- ---- every drawn run of it ends

pub runs-end : HasTableRoom → NoDeadEnd → RunsEnd
runs-end room dead n versions events v t a draws =
    kept-end room dead n versions events v (start-kept (document_of n).layout versions (record { hops = 64; capacity = 200000; rejoins = 0; overlap = None }) t (starts n versions a) (omega arith)) a.policies draws
