-- Versions, policy by policy.
use Rattle.std.proofs.Common.{◌≡◌, ℕ, zero, suc, ◌+◌, ◌<◌, inl, inr, List, [], ◌∷◌, ◌++◌, length, take, drop, map, get_or, refl, sym, ap, ◌∙◌, subst, arith}
use Rattle.std.proofs.lemmas.List.{take-append-drop, drop_more, take_more, length-take-le}
use Rattle.nk_values.specs.Members.{IsIn}
use Rattle.nk_syntax.specs.declared.pol.Pol.{Pol}
use Rattle.nk_syntax.specs.Terms.{Term}
use Rattle.nk_syntax.specs.Views.{term_of}
use Rattle.topology_model.specs.Layouts.{Layout}
use Rattle.document_text.specs.declared.document.Settings.{Settings}
use Rattle.policy_rows.specs.declared.version.Version.{Version}
use Rattle.report_text.specs.Fault.{Fault}
use Rattle.program_answer.specs.declared.answer.AnswerError.{AnswerError}
use Rattle.program_answer.specs.declared.answer.AnswerError.TheVariants as error
use Rattle.program_answer.specs.Versions.{IsVersion, AreVersions, IsPolicyFault, IsFirstPolicyFault}
use Rattle.program_answer.specs.Input.{TellsFault, TellsFirst}

pub versions_more : (t : Layout) (s : Settings) (k : ℕ) (ps : List Term) (vs : List Version) (p : Term) (v : Version) → AreVersions t s k ps vs → IsVersion t s (k + length ps) p v → AreVersions t s k (ps ++ p ∷ []) (vs ++ v ∷ [])
versions_more t s k [] [] p v a h = (subst (λ n. IsVersion t s n p v) (omega arith) h, tt)
versions_more t s k [] (w ∷ vs) p v a h = absurd a
versions_more t s k (q ∷ ps) [] p v a h = absurd a
versions_more t s k (q ∷ ps) (w ∷ vs) p v a h = (a.0, versions_more t s (suc k) ps vs p v a.1 (subst (λ n. IsVersion t s n p v) (omega arith) h))

pub same_count : (t : Layout) (s : Settings) (k : ℕ) (ps : List Term) (vs : List Version) → AreVersions t s k ps vs → length ps ≡ length vs
same_count t s k [] [] a = refl
same_count t s k [] (w ∷ vs) a = absurd a
same_count t s k (q ∷ ps) [] a = absurd a
same_count t s k (q ∷ ps) (w ∷ vs) a = let h = same_count t s (suc k) ps vs a.1 in omega (arith, h)

pub version_at : (t : Layout) (s : Settings) (k : ℕ) (ps : List Term) (vs : List Version) (i : ℕ) (p : Term) (v : Version) → AreVersions t s k ps vs → i < length vs → IsVersion t s (k + i) (get_or ps i p) (get_or vs i v)
version_at t s k [] [] i p v a h = absurd (omega (arith, h))
version_at t s k [] (w ∷ vs) i p v a h = absurd a
version_at t s k (q ∷ ps) [] i p v a h = absurd a
version_at t s k (q ∷ ps) (w ∷ vs) zero p v a h = subst (λ n. IsVersion t s n q w) (omega arith) a.0
version_at t s k (q ∷ ps) (w ∷ vs) (suc i) p v a h = subst (λ n. IsVersion t s n (get_or ps i p) (get_or vs i v)) (omega arith) (version_at t s (suc k) ps vs i p v a.1 (omega (arith, h)))

-- the fault of a policy after others that have rows
pub first_fault : (t : Layout) (s : Settings) (ps : List Term) (i : ℕ) (p : Term) (vs : List Version) (f : Fault) → i < length ps → p ≡ get_or ps i p → AreVersions t s 0 (take i ps) vs → IsPolicyFault t s i p f → IsFirstPolicyFault t s ps f
first_fault t s ps i p vs f h e a b = record {
  before = take i ps;
  policy = p;
  behind = drop (i + 1) ps;
  all = sym (take-append-drop i ps) ∙ ap (λ rest. take i ps ++ rest) (drop_more ps i p h ∙ ap (λ q. q ∷ drop (i + 1) ps) (sym e));
  versions = vs;
  fine = a;
  here = subst (λ n. IsPolicyFault t s n p f) (sym (length-take-le i ps (omega (arith, h)))) b;
}

-- an element of a list
pub at_place : {X : Type 0} (xs : List X) (k : ℕ) (d : X) → k < length xs → IsIn xs (get_or xs k d)
at_place [] k d h = absurd (omega (arith, h))
at_place (x ∷ xs) zero d h = inl refl
at_place (x ∷ xs) (suc k) d h = inr (at_place xs k d (omega (arith, h)))

-- the term of a policy of a list
pub term_at : (items : List Pol) (k : ℕ) (p : Pol) → k < length items → p ≡ get_or items k p → (term_of p ≡ get_or (map term_of items) k (term_of p)) × (k < length (map term_of items))
term_at [] k p h e = absurd (omega (arith, h))
term_at (x ∷ xs) zero p h e = (ap term_of e, omega (arith, h))
term_at (x ∷ xs) (suc k) p h e = let r = term_at xs k p (omega (arith, h)) e in (r.0, omega (arith, r.1))

pub versions_step : (t : Layout) (s : Settings) (ps : List Term) (i : ℕ) (vs : List Version) (p : Term) (v : Version) → i < length ps → p ≡ get_or ps i p → AreVersions t s 0 (take i ps) vs → IsVersion t s i p v → AreVersions t s 0 (take (i + 1) ps) (vs ++ v ∷ [])
versions_step t s ps i vs p v h e a b =
    let all : take (i + 1) ps ≡ take i ps ++ p ∷ [] = take_more ps i p h ∙ ap (λ q. take i ps ++ q ∷ []) (sym e) in
    let cut = length-take-le i ps (omega (arith, h)) in
    let same : i ≡ 0 + length (take i ps) = omega (arith, cut) in
    let here : IsVersion t s (0 + length (take i ps)) p v = subst (λ n. IsVersion t s n p v) same b in
    subst (λ qs. AreVersions t s 0 qs (vs ++ v ∷ [])) (sym all) (versions_more t s 0 (take i ps) vs p v a here)

pub first_told : (t : Layout) (s : Settings) (ps : List Term) (i : ℕ) (p : Term) (vs : List Version) (e : AnswerError) → i < length ps → p ≡ get_or ps i p → AreVersions t s 0 (take i ps) vs → TellsFault t s i p e → TellsFirst t s ps e
first_told t s ps i p vs error.Memory h g a b = tt
first_told t s ps i p vs (error.Fault f) h g a b = first_fault t s ps i p vs f h g a b

-- versions of the same policies in the same topology and settings
pub versions_as : (t u : Layout) (s r : Settings) (ps qs : List Term) (vs : List Version) → t ≡ u → s ≡ r → ps ≡ qs → AreVersions t s 0 ps vs → AreVersions u r 0 qs vs
versions_as t u s r ps qs vs e f g a = subst (λ x. AreVersions x r 0 qs vs) e (subst (λ x. AreVersions t x 0 qs vs) f (subst (λ xs. AreVersions t s 0 xs vs) g a))

pub told_as : (t u : Layout) (s r : Settings) (ps qs : List Term) (e : AnswerError) → t ≡ u → s ≡ r → ps ≡ qs → TellsFirst t s ps e → TellsFirst u r qs e
told_as t u s r ps qs e f g h a = subst (λ x. TellsFirst x r qs e) f (subst (λ x. TellsFirst t x qs e) g (subst (λ xs. TellsFirst t s xs e) h a))
