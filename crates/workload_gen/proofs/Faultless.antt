-- The lines of a workload's topology have no fault.
use Rattle.std.proofs.Common.{◌≡◌, ℕ, zero, suc, ◌+◌, ◌-◌, ◌<◌, ◌≤◌, ◌⊎◌, inl, inr, Bool, true, false, ◌&&◌, List, [], ◌∷◌, ◌++◌, length, map, take, get_or, refl, sym, ◌∙◌, ap, subst, Option, None, Some, slice_get, append_assoc, arith}
use Rattle.std.specs.List.{flat_map}
use Rattle.std.proofs.lemmas.Bool.{and_parts}
use Rattle.nk_values.specs.declared.text_fault.TextFault.{TextFault}
use Rattle.nk_values.specs.declared.field.Field.TheVariants.{Sw, Pt}
use Rattle.nk_values.specs.Members.{IsIn}
use Rattle.nk_values.specs.Ranges.{IsValue}
use Rattle.nk_values.proofs.MemberLaws.{in-either}
use Rattle.topology_model.specs.declared.line.TopoLine.{TopoLine}
use Rattle.topology_model.specs.Layouts.{Layout, empty}
use Rattle.topology_model.specs.Lines.{IsLineInRange, layout_of, line_fault, fault_from, fault_at, IsFirstFault, sites_in, links_in, with_line}
use Rattle.workload_laws.specs.Workload.{numbers}
use Rattle.workload_laws.proofs.Workloads.{in_map, in_numbers}
use Rattle.workload_gen.specs.Documents.{switch_line, link_line, topology_lines}
use Rattle.workload_gen.proofs.Enabled.{append-none}

-- ---- line by line

is-fine : Option TextFault → Bool
is-fine None = true
is-fine (Some f) = false

-- whether no line has a fault, after those that declared this much
walk : Layout → List TopoLine → Bool
walk t [] = is-fine (fault_from t None)
walk t (l ∷ ls) = is-fine (line_fault t l) && walk (with_line t l) ls

abbrev behind_lines : Layout → List TopoLine → Layout
behind_lines t ls = record { switches = t.switches ++ flat_map sites_in ls; links = t.links ++ flat_map links_in ls }

fine-none : (o : Option TextFault) → is-fine o ≡ true → o ≡ None
unfolding is-fine
fine-none None e = refl
fine-none (Some f) e = absurd (cc)

no-lines : (t : Layout) → behind_lines t [] ≡ t
no-lines t = λ i. record { switches = append-none t.switches i; links = append-none t.links i }

one-line : (t : Layout) (l : TopoLine) (ls : List TopoLine) → behind_lines t (l ∷ ls) ≡ behind_lines (with_line t l) ls
one-line t l ls = λ i. record { switches = sym (append_assoc t.switches (sites_in l) (flat_map sites_in ls)) i; links = sym (append_assoc t.links (links_in l) (flat_map links_in ls)) i }

walked : (t : Layout) (ls : List TopoLine) → walk t ls ≡ true → (k : ℕ) (u : Layout) → u ≡ behind_lines t (take k ls) → fault_from u (slice_get ls k) ≡ None
unfolding walk
walked t [] e zero u q = ap (λ (x : Layout). fault_from x None) (q ∙ no-lines t) ∙ fine-none (fault_from t None) e
walked t [] e (suc k) u q = ap (λ (x : Layout). fault_from x None) (q ∙ no-lines t) ∙ fine-none (fault_from t None) e
walked t (l ∷ ls) e zero u q = ap (λ (x : Layout). line_fault x l) (q ∙ no-lines t) ∙ fine-none (line_fault t l) (and_parts (is-fine (line_fault t l)) (walk (with_line t l) ls) e).0
walked t (l ∷ ls) e (suc k) u q = walked (with_line t l) ls (and_parts (is-fine (line_fault t l)) (walk (with_line t l) ls) e).1 k u (q ∙ one-line t l (take k ls))

-- ---- for each number of switches up to 32, by computation

all_below : (ℕ → Bool) → ℕ → Bool
all_below p zero = true
all_below p (suc n) = p n && all_below p n

from-below : (p : ℕ → Bool) (n : ℕ) → all_below p n ≡ true → (k : ℕ) → k < n → p k ≡ true
unfolding all_below
from-below p zero e k l = absurd (omega (arith, l))
from-below p (suc n) e k l = elim (last-or k n l) [
  | inl q ↦ subst (λ (j : ℕ). p j ≡ true) (sym q) (and_parts (p n) (all_below p n) e).0
  | inr m ↦ from-below p n (and_parts (p n) (all_below p n) e).1 k m
]
  where
    last-or : (k n : ℕ) → k < suc n → (k ≡ n) ⊎ (k < n)
    last-or k n l = grind (arith, l)

fine-lines : ℕ → Bool
fine-lines n = walk empty (topology_lines (2 + n))

all-fine : all_below fine-lines 31 ≡ true
unfolding all_below fine-lines walk is-fine
all-fine = refl

no-fault : (s : ℕ) → 2 ≤ s → s ≤ 32 → (k : ℕ) → fault_at (topology_lines s) k ≡ None
unfolding fine-lines
no-fault s low high k =
    let same : 2 + (s - 2) ≡ s = omega (arith, low) in
    subst (λ (n : ℕ). fault_at (topology_lines n) k ≡ None) same
    (walked empty (topology_lines (2 + (s - 2))) (from-below fine-lines 31 all-fine (s - 2) (omega (arith, high, low))) k (layout_of (take k (topology_lines (2 + (s - 2))))) refl)

pub never-faulty : (s : ℕ) → 2 ≤ s → s ≤ 32 → (f : TextFault) (k : ℕ) → IsFirstFault (topology_lines s) f k → ⊥
never-faulty s low high f k h = let n : None ≡ Some f = sym (no-fault s low high k) ∙ h.here in cc

-- ---- each number is in its range

switch-value : (i : ℕ) → 1 ≤ i → i ≤ 32 → IsValue Sw i
switch-value i l h = record { low = l; high = omega (arith, h); no_tag = λ e. absurd (cc) }

port-value : (n : ℕ) → 1 ≤ n → n ≤ 3 → IsValue Pt n
port-value n l h = record { low = l; high = omega (arith, h); no_tag = λ e. absurd (cc) }

ports-in-range : (k d : ℕ) → k < 3 → IsValue Pt (get_or (1 ∷ 2 ∷ 3 ∷ []) k d)
ports-in-range zero d l = port-value 1 (omega arith) (omega arith)
ports-in-range (suc zero) d l = port-value 2 (omega arith) (omega arith)
ports-in-range (suc (suc zero)) d l = port-value 3 (omega arith) (omega arith)
ports-in-range (suc (suc (suc k))) d l = absurd (omega (arith, l))

line-in-range : (s : ℕ) → s ≤ 32 → (l : TopoLine) → IsIn (topology_lines s) l → IsLineInRange l
line-in-range s few l m = elim (in-either (map switch_line (numbers 1 s)) (map link_line (numbers 1 (s - 1))) l m) [
  | inl h ↦
      let r = in_map switch_line (numbers 1 s) l h in
      let k = in_numbers 1 s r.0 r.1 in
      subst IsLineInRange r.2 (switch-value r.0 k.0 (omega (arith, k.1, few)), ports-in-range)
  | inr h ↦
      let r = in_map link_line (numbers 1 (s - 1)) l h in
      let k = in_numbers 1 (s - 1) r.0 r.1 in
      subst IsLineInRange r.2
      ((switch-value r.0 k.0 (omega (arith, k.1, few)), port-value 2 (omega arith) (omega arith)), (switch-value (r.0 + 1) (omega arith) (omega (arith, k.0, k.1, few)), port-value 1 (omega arith) (omega arith)))
]

get-in : {X : Type 0} (xs : List X) (k : ℕ) (d : X) → k < length xs → IsIn xs (get_or xs k d)
get-in [] k d l = absurd (omega (arith, l))
get-in (x ∷ xs) zero d l = inl refl
get-in (x ∷ xs) (suc k) d l = inr (get-in xs k d (omega (arith, l)))

pub lines-in-range : (s : ℕ) → s ≤ 32 → (k : ℕ) (d : TopoLine) → k < length (topology_lines s) → IsLineInRange (get_or (topology_lines s) k d)
lines-in-range s few k d l = line-in-range s few (get_or (topology_lines s) k d) (get-in (topology_lines s) k d l)
