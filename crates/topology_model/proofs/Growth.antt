-- What lines declare, one line at a time.
use Rattle.std.proofs.Common.{◌≡◌, ◌≢◌, ℕ, zero, suc, ◌+◌, ◌<◌, List, [], ◌∷◌, ◌++◌, length, take, get_or, map, refl, sym, ap, ◌∙◌, Some, None, append_assoc, add-one, ◌≤◌, ⊎_elim, arith}
use Rattle.std.specs.List.{flat_map, slice_get}
use Rattle.std.proofs.lemmas.List.{append-nil, take_all}
use Rattle.std.proofs.lemmas.Bool.{cases_lt}
use Rattle.std.proofs.lemmas.Option.{slice_get-get_or}
use Rattle.history_meaning.specs.Network.{Location}
use Rattle.topology_model.specs.Layouts.{Layout, location_of}
use Rattle.topology_model.specs.Lines.{sites_in, links_in, layout_of, with_line, line_fault, fault_from, fault_at, IsFaultless}
use Rattle.topology_model.specs.declared.line.TopoLine.{TopoLine}
use Rattle.topology_model.specs.Causes.{IsLineCause, IsEndCause, IsCause, at_place}
use Rattle.topology_model.specs.declared.fault.LineError.{LineError}
use Rattle.topology_model.specs.declared.fault.LineError.TheVariants as line

flat_map_next : {X Y : Type 0} (f : X → List Y) (xs : List X) (i : ℕ) (x : X) → slice_get xs i ≡ Some x → flat_map f (take (suc i) xs) ≡ flat_map f (take i xs) ++ f x
flat_map_next f [] i x e = absurd (cc)
flat_map_next f (y ∷ ys) zero x e = let d : y ≡ x = cc in append-nil (f y) ∙ ap f d
flat_map_next f (y ∷ ys) (suc i) x e = ap (λ zs. f y ++ zs) (flat_map_next f ys i x e) ∙ sym (append_assoc (f y) (flat_map f (take i ys)) (f x))

-- one more line
pub layout_next : (lines : List TopoLine) (i : ℕ) (l : TopoLine) → slice_get lines i ≡ Some l → layout_of (take (i + 1) lines) ≡ with_line (layout_of (take i lines)) l
layout_next lines i l e = rw add-one (λ k. record { switches = flat_map_next sites_in lines i l e k; links = flat_map_next links_in lines i l e k })

-- the fault of the next line
pub fault_next : (lines : List TopoLine) (i : ℕ) (t : Layout) (l : TopoLine) → slice_get lines i ≡ Some l → t ≡ layout_of (take i lines) → fault_at lines i ≡ line_fault t l
fault_next lines i t l e d = ap (fault_from (layout_of (take i lines))) e ∙ ap (λ (x : Layout). line_fault x l) (sym d)

past : {X : Type 0} (xs : List X) (i : ℕ) → length xs ≤ i → slice_get xs i ≡ None
past [] i h = refl
past (x ∷ xs) zero h = absurd (omega arith)
past (x ∷ xs) (suc i) h = past xs i (omega arith)

all_of : {X : Type 0} (xs : List X) (i : ℕ) → length xs ≤ i → take i xs ≡ xs
all_of xs i h = take_all i xs h

-- and after the last line
pub fault_end : (lines : List TopoLine) (i : ℕ) → length lines ≤ i → fault_at lines i ≡ fault_from (layout_of lines) None
fault_end lines i h = ap (fault_from (layout_of (take i lines))) (past lines i h) ∙ ap (λ (ls : List TopoLine). fault_from (layout_of ls) None) (all_of lines i h)

-- faultless up to the end, and there
pub faultless : (lines : List TopoLine) (t : Layout) → t ≡ layout_of lines → ((k : ℕ) → k < length lines → fault_at lines k ≡ None) → fault_from t None ≡ None → IsFaultless lines
faultless lines t d each last = λ k. ⊎_elim (each k) (λ h. fault_end lines k h ∙ ap (λ (x : Layout). fault_from x None) (sym d) ∙ last) (cases_lt k (length lines))

-- the causes at a line, and after the last one
pub line_cause : (lines : List TopoLine) (i : ℕ) (t : Layout) (l : TopoLine) (e : LineError) → slice_get lines i ≡ Some l → t ≡ layout_of (take i lines) →
    ((k : ℕ) → k < i → fault_at lines k ≡ None) → IsLineCause t l e → IsCause lines (at_place e i)
line_cause lines i t l (line.Fault f) here d each h = record { here = fault_next lines i t l here d ∙ h; before = each }
line_cause lines i t l line.Memory here d each h = tt

pub end_cause : (lines : List TopoLine) (t : Layout) (e : LineError) → t ≡ layout_of lines → ((k : ℕ) → k < length lines → fault_at lines k ≡ None) → IsEndCause t e →
    IsCause lines (at_place e (length lines))
end_cause lines t (line.Fault f) d each h = record {
  here = fault_end lines (length lines) (omega arith) ∙ ap (λ (x : Layout). fault_from x None) (sym d) ∙ h;
  before = each;
}
end_cause lines t line.Memory d each h = tt

-- a list element, as it is found
pub found : (lines : List TopoLine) (i : ℕ) (l : TopoLine) → i < length lines → l ≡ get_or lines i l → slice_get lines i ≡ Some l
found lines i l h e = slice_get-get_or lines i l h ∙ ap (λ (x : TopoLine). Some x) (sym e)

-- a list made of some that are there
pub some_place : (es : List (ℕ × ℕ)) (ps : List Location) → map location_of es ≡ ps → 0 < length es → ps ≢ []
some_place [] ps e h = absurd (omega arith)
some_place (x ∷ xs) ps e h = λ d. let k : map location_of (x ∷ xs) ≡ [] = e ∙ d in cc
