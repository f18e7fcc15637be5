-- Paths of ordered diagrams of one field.
use Rattle.std.proofs.Common.{◌≡◌, ℕ, zero, suc, ◌+◌, ◌*◌, ◌≤◌, inl, inr, refl, ap, subst, arith, Bool, true, false, ◌==◌, List, [], ◌∷◌, length, map}
use Rattle.std.specs.Prelude.{if◌then◌else◌}
use Rattle.std.proofs.lemmas.List.{length-append, length-map}
use Rattle.nk_values.specs.declared.field.Field.TheVariants.{Sw, Pt}
use Rattle.nk_values.specs.declared.packet.Packet.{Packet}
use Rattle.nk_values.specs.Members.{IsIn}
use Rattle.nk_values.proofs.MemberLaws.{in-either}
use Rattle.fdd_nodes.specs.Paths.{Way, with_true, with_false}
use Rattle.fdd_nodes.specs.Paths.{cell_on}
use Rattle.table_emitter.specs.declared.kinds.FrameKinds.{FrameKinds}
use Rattle.table_emitter.specs.Entries.{PathRow, path_row, path_rows}
use Rattle.table_emitter.specs.FrameKinds.{kinds_of}
use Rattle.fdd_nodes.specs.Roots.{part_with}
use Rattle.table_emitter.specs.Parts.{part_at}
use Rattle.table_emitter.specs.Patterns.{cells_of}
use Rattle.workload_laws.specs.Leaves.{AtLeaves}
use Rattle.nk_values.specs.declared.field.Field.{Field}
use Rattle.nk_values.specs.declared.lit.Lit.{Lit}
use Rattle.nk_values.specs.Lits.{lit_field, lit_value}
use Rattle.nk_values.specs.Ranges.{place}
use Rattle.nk_values.specs.Ranks.{step, rank}
use Rattle.nk_values.proofs.LitLaws.{lit_small}
use Rattle.fdd_nodes.specs.Trees.{Tree, Leaf, Node, Tests, IsSetBy, Assigns, IsOrderedFrom}
use Rattle.workload_laws.specs.Paths.{path_count, TestsOne, PathsAreFew}

then_one : (f : Field) (s : ℕ) (l : Lit) (t e : Tree) → TestsOne f s (Node l t e) → TestsOne f s t
then_one f s l t e h = record { field = λ m k. h.field m (inr (inl k)); low = λ m k. h.low m (inr (inl k)); high = λ m k. h.high m (inr (inl k)) }

else_one : (f : Field) (s : ℕ) (l : Lit) (t e : Tree) → TestsOne f s (Node l t e) → TestsOne f s e
else_one f s l t e h = record { field = λ m k. h.field m (inr (inr k)); low = λ m k. h.low m (inr (inr k)); high = λ m k. h.high m (inr (inr k)) }

-- after the field there is no test left
one_leaf : (f : Field) (s : ℕ) (t : Tree) → IsOrderedFrom (step * (place f + 1)) t → TestsOne f s t → path_count t ≡ 1
one_leaf f s (Leaf cs) o h = refl
one_leaf f s (Node l t e) o h =
    let k : place (lit_field l) ≡ place f = ap place (h.field l (inl refl)) in
    absurd (omega (arith, o.0, k, lit_small l))

-- d numbers may still be tested
few_from : (f : Field) (s d k : ℕ) (t : Tree) → IsOrderedFrom k t → step * place f + (s + 1) ≤ k + d → TestsOne f s t → path_count t ≤ d + 1
few_from f s d k (Leaf cs) o b h = omega arith
few_from f s zero k (Node l t e) o b h =
    let p : place (lit_field l) ≡ place f = ap place (h.field l (inl refl)) in
    let v = h.high l (inl refl) in
    absurd (omega (arith, o.0, b, p, v))
few_from f s (suc d) k (Node l t e) o b h =
    let p : place (lit_field l) ≡ place f = ap place (h.field l (inl refl)) in
    let one = one_leaf f s t (subst (λ (x : ℕ). IsOrderedFrom (step * (x + 1)) t) p o.1) (then_one f s l t e h) in
    let rest = few_from f s d (rank l + 1) e o.2 (omega (arith, o.0, b)) (else_one f s l t e h) in
    omega (arith, one, rest)

raised : (f : Field) (s : ℕ) (t : Tree) → IsOrderedFrom 0 t → TestsOne f s t → IsOrderedFrom (step * place f + 1) t
raised f s (Leaf cs) o h = tt
raised f s (Node l t e) o h =
    let p : place (lit_field l) ≡ place f = ap place (h.field l (inl refl)) in
    let v = h.low l (inl refl) in
    (omega (arith, p, v), o.1, o.2)

pub few_paths : PathsAreFew
few_paths f s t o h = few_from f s s (step * place f + 1) t (raised f s t o h) (omega arith) h

-- rows

few_cells : (k : FrameKinds) (x : Packet) → length (cells_of k x) ≤ 2
few_cells k x = split k.ip k.no_ip k.ports k.no_tcp k.no_udp
  where
    split : (a b c d e : Bool) → length (cells_of (record { ip = a; ports = c; no_ip = b; no_tcp = d; no_udp = e }) x) ≤ 2
    split false b c d e = omega arith
    split true true c d e = omega arith
    split true false false d e = omega arith
    split true false true true true = omega arith
    split true false true true false = omega arith
    split true false true false true = omega arith
    split true false true false false = omega arith

-- at most two a path
pub few_entries : (w : Way) (t : Tree) → length (path_rows w t) ≤ 2 * path_count t
few_entries w (Leaf cs) =
    let e = length-map (cells_of (kinds_of w) (cell_on w)) (path_row w cs) in
    let few = few_cells (kinds_of w) (cell_on w) in
    omega (arith, e, few)
few_entries w (Node l t e) =
    let a = few_entries (with_true w l) t in
    let b = few_entries (with_false w l) e in
    let c = length-append (path_rows (with_true w l) t) (path_rows (with_false w l) e) in
    omega (arith, a, b, c)

-- each row has the copies of a leaf
copies_of : (P : List (List Lit) → Type 0) (w : Way) (cs : List (List Lit)) (ys : List Packet) (e : PathRow) → P cs → IsIn (map (path_row w cs) ys) e → P e.copies
copies_of P w cs [] e h k = absurd k
copies_of P w cs (y ∷ ys) e h (inl i) = subst (λ (z : PathRow). P z.copies) i h
copies_of P w cs (y ∷ ys) e h (inr k) = copies_of P w cs ys e h k

pub entry_leaf : (P : List (List Lit) → Type 0) (w : Way) (t : Tree) (e : PathRow) → AtLeaves P t → IsIn (path_rows w t) e → P e.copies
entry_leaf P w (Leaf cs) e h k = copies_of P w cs (cells_of (kinds_of w) (cell_on w)) e h k
entry_leaf P w (Node l t u) e h k = elim (in-either (path_rows (with_true w l) t) (path_rows (with_false w l) u) e k) [
  | inl i ↦ entry_leaf P (with_true w l) t e h.0 i
  | inr i ↦ entry_leaf P (with_false w l) u e h.1 i
]

-- parts

part_leaves : (P : List (List Lit) → Type 0) (f : Field) (n : ℕ) (d : Tree) → AtLeaves P d → AtLeaves P (part_with f n d)
part_leaves P f n (Leaf cs) h = h
part_leaves P f n (Node l t e) h = split (place (lit_field l) == place f) (lit_value l == n) (part_leaves P f n e h.1)
  where
    split : (a b : Bool) → AtLeaves P (part_with f n e) → AtLeaves P (if a then (if b then t else part_with f n e) else Node l t e)
    split true true r = h.0
    split true false r = r
    split false b r = h

pub place_leaves : (P : List (List Lit) → Type 0) (sw pt : ℕ) (d : Tree) → AtLeaves P d → AtLeaves P (part_at sw pt d)
place_leaves P sw pt d h = part_leaves P Pt pt (part_with Sw sw d) (part_leaves P Sw sw d h)

part_tests : (f : Field) (n : ℕ) (d : Tree) (m : Lit) → Tests (part_with f n d) m → Tests d m
part_tests f n (Leaf cs) m k = k
part_tests f n (Node l t e) m k = split (place (lit_field l) == place f) (lit_value l == n) (λ i. inr (inr (part_tests f n e m i))) k
  where
    split : (a b : Bool) → (Tests (part_with f n e) m → Tests (Node l t e) m) → Tests (if a then (if b then t else part_with f n e) else Node l t e) m → Tests (Node l t e) m
    split true true r i = inr (inl i)
    split true false r i = r i
    split false b r i = i

pub place_tests : (sw pt : ℕ) (d : Tree) (m : Lit) → Tests (part_at sw pt d) m → Tests d m
place_tests sw pt d m k = part_tests Sw sw d m (part_tests Pt pt (part_with Sw sw d) m k)

-- what holds of each assignment holds of those at each leaf
pub leaves_of : (P : Lit → Type 0) (t : Tree) → ((m : Lit) → Assigns t m → P m) → AtLeaves (λ cs. (m : Lit) → IsSetBy cs m → P m) t
leaves_of P (Leaf cs) h = h
leaves_of P (Node l t e) h = (leaves_of P t (λ m k. h m (inl k)), leaves_of P e (λ m k. h m (inr k)))

-- no test comes before the place from which the diagram is ordered
pub tests_from : (k : ℕ) (t : Tree) (m : Lit) → IsOrderedFrom k t → Tests t m → k ≤ rank m
tests_from k (Leaf cs) m o h = absurd h
tests_from k (Node l t e) m o (inl i) = subst (λ (x : Lit). k ≤ rank x) i o.0
tests_from k (Node l t e) m o (inr (inl i)) = let r = tests_from (step * (place (lit_field l) + 1)) t m o.1 i in omega (arith, r, o.0, lit_small l)
tests_from k (Node l t e) m o (inr (inr i)) = let r = tests_from (rank l + 1) e m o.2 i in omega (arith, r, o.0)
