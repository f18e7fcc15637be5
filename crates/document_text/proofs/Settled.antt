-- Settings that are taken.
use Rattle.std.proofs.Common.{◌≡◌, ◌≢◌, ℕ, ◌≤◌, Bool, true, false, not, ◌&&◌, ◌==◌, nat_le, List, [], ◌∷◌, length, map, None, Result, Ok, Err, refl, sym, ◌∙◌, subst, arith}
use Rattle.std.proofs.lemmas.Bool.Decides.{nat_tests}
use Rattle.std.proofs.lemmas.Bool.{eq-eqb, eqb-true}
use Rattle.nk_values.specs.declared.text_fault.TextFault.{TextFault}
use Rattle.nk_values.specs.declared.text_fault.TextFault.TheVariants.{NoPolicy}
use Rattle.nk_syntax.specs.declared.pol.Pol.{Pol}
use Rattle.nk_syntax.specs.Views.{term_of}
use Rattle.history_meaning.specs.Network.{Location}
use Rattle.topology_model.specs.Layouts.{Layout, edges_of}
use Rattle.topology_model.specs.Lines.{fault_from}
use Rattle.document_text.specs.Documents.{Accepted}
use Rattle.document_text.specs.States.{State, has_edge, is_empty, doc_of_state}
use Rattle.document_text.specs.Schedules.{refused_if}
use Rattle.document_text.specs.declared.fault.Stop.{Stop}
use Rattle.document_text.specs.declared.fault.Stop.TheVariants as stop
use Rattle.document_text.specs.Answers.{Becomes, Leads}
use Rattle.document_text.specs.Lines.{set_once, new_number}
use Rattle.document_text.specs.Grammar.{finished, refused_at}

within : (m n : ℕ) → m ≤ n → nat_le m n ≡ true
within m n h = grind (arith, nat_tests)

apart : (m n : ℕ) → m ≢ n → (m == n) ≡ false
apart m n h = grind (arith, nat_tests)

pub stamps-in-range : (low high : ℕ) → 1 ≤ low → low ≤ high → high ≤ 4094 → not (nat_le 1 low && nat_le low high && nat_le high 4094) ≡ false
stamps-in-range low high l m h = rw (within 1 low l, within low high m, within high 4094 h) refl

pub two-stamps : (low high : ℕ) → low ≢ high → (low == high) ≡ false
two-stamps low high h = apart low high h

-- a number that may not be given stops the line
pub no-number : {U : Type 0} (s : State) (given given' : Bool) (least most : ℕ) (ws : List (List ℕ)) (next : ℕ → Result State TextFault) (e : Stop) (r : Result U Stop) → given' ≡ given
    → Leads (new_number s given' least most ws) (Err e) → r ≡ Err e → Becomes (new_number s given least most ws next) s s r
no-number s given given' least most ws next (stop.Fault f) r same h is = subst (λ x. Becomes (new_number s given least most ws next) s s x) (sym is) (subst (λ g. new_number s g least most ws next ≡ Err f) same (h next))
no-number s given given' least most ws next stop.Memory r same h is = subst (λ x. Becomes (new_number s given least most ws next) s s x) (sym is) refl

-- what passes all tests
pub set_once-ok-twice : (s : State) (given given' bad worse : Bool) (f g : TextFault) (t : State) → given' ≡ given → ((r : Result State TextFault) → set_once s given' r ≡ r) → bad ≡ false → worse ≡ false
    → set_once s given (refused_if bad f (refused_if worse g (Ok t))) ≡ Ok t
set_once-ok-twice s given given' bad worse f g t e tests b w =
    subst (λ x. set_once s x (refused_if bad f (refused_if worse g (Ok t))) ≡ Ok t) e (tests (refused_if bad f (refused_if worse g (Ok t))) ∙ rw (b, w) refl)

edge-by : (t : Layout) (es : List Location) → edges_of t ≡ es → fault_from t None ≡ None → not (is_empty es) ≡ true
edge-by t [] e h = let none = rw e at h in absurd (cc)
edge-by t (a ∷ as') e h = refl

-- a topology without a fault has an edge port
pub edge_from : (t : Layout) → fault_from t None ≡ None → has_edge t ≡ true
edge_from t h = edge-by t (edges_of t) refl h

pub finish-ok : (s : State) (n : ℕ) → s.inside ≡ false → has_edge s.layout ≡ true → is_empty s.policies ≡ false → finished s n ≡ Accepted (doc_of_state s)
finish-ok s n i e p = rw (i, e, p) refl

pub finish-none : (s : State) (n : ℕ) → s.inside ≡ false → has_edge s.layout ≡ true → is_empty s.policies ≡ true → finished s n ≡ refused_at n NoPolicy
finish-none s n i e p = rw (i, e, p) refl

pub empty-map : (xs : List Pol) (n : ℕ) → n ≡ length xs → (n == 0) ≡ true → is_empty (map term_of xs) ≡ true
empty-map [] n e h = refl
empty-map (x ∷ xs) n e h = let none : n ≡ 0 = eqb-true n 0 h in absurd (omega (arith, e, none))

pub filled-map : (xs : List Pol) (n : ℕ) → n ≡ length xs → (n == 0) ≡ false → is_empty (map term_of xs) ≡ false
filled-map [] n e h = let none = eq-eqb n 0 e in absurd (cc)
filled-map (x ∷ xs) n e h = refl
