-- Declared ports have the numbers of packets.
use Rattle.std.proofs.Common.{◌≡◌, ℕ, zero, suc, ◌<◌, Bool, true, false, cond, ◌&&◌, ◌||◌, ◌==◌, ◌⊎◌, inl, inr, List, [], ◌∷◌, map, filter, refl, sym, ap, ◌∙◌, subst, Option, Some, None, is_some, not, length, get_or, arith}
use Rattle.std.specs.List.{flat_map, list_any}
use Rattle.std.proofs.lemmas.Bool.Decides.{Decides-eqb}
use Rattle.nk_values.specs.declared.field.Field.TheVariants.{Sw, Pt}
use Rattle.nk_values.specs.Members.{IsIn}
use Rattle.nk_values.specs.Ranges.{IsValue}
use Rattle.nk_values.proofs.MemberLaws.{from-flat_map, in-flat_map}
use Rattle.history_meaning.specs.Network.{Location}
use Rattle.topology_model.specs.Layouts.{Layout, location_of, both_ways, has_port, is_linked, far_end, is_edge, locations_at, edges_of, wiring}
use Rattle.topology_model.specs.Lines.{IsEnd}
use Rattle.topology_model.specs.Wired.{IsDeclared, IsSound, IsWiring}
use Rattle.topology_model.specs.declared.line.DeclaredSwitch.{DeclaredSwitch}
use Rattle.topology_model.proofs.Linking.{declared}
use Rattle.topology_model.proofs.Wires.{linked, joined}

pub in_range : (t : Layout) (a : Location) → IsSound t → IsDeclared t a → IsValue Sw a.sw × IsValue Pt a.pt
in_range t a s d =
    let site = s.sites d.site d.among in
    (subst (λ (n : ℕ). IsValue Sw n) d.switch site.switch, site.ports a.pt d.port)

-- a place of a list of numbers
from-places : (sw : ℕ) (ns : List ℕ) (a : Location) → IsIn (map (λ n. location_of (sw, n)) ns) a → (sw ≡ a.sw) × IsIn ns a.pt
from-places sw [] a m = absurd m
from-places sw (n ∷ ns) a (inl e) = (ap (λ (b : Location). b.sw) e, inl (ap (λ (b : Location). b.pt) e))
from-places sw (n ∷ ns) a (inr m) = let r = from-places sw ns a m in (r.0, inr r.1)

in-places : (sw : ℕ) (ns : List ℕ) (a : Location) → sw ≡ a.sw → IsIn ns a.pt → IsIn (map (λ n. location_of (sw, n)) ns) a
in-places sw [] a e m = absurd m
in-places sw (n ∷ ns) a e (inl d) = inl (λ i. record { sw = e i; pt = d i })
in-places sw (n ∷ ns) a e (inr m) = inr (in-places sw ns a e m)

from-filter : {X : Type 0} (f : X → Bool) (xs : List X) (x : X) → IsIn (filter f xs) x → IsIn xs x × (f x ≡ true)
from-filter {X} f [] x m = absurd m
from-filter {X} f (y ∷ ys) x m = split (f y) refl m (from-filter f ys x)
  where
    split : (b : Bool) → f y ≡ b → IsIn (cond b (y ∷ filter f ys) (filter f ys)) x → (IsIn (filter f ys) x → IsIn ys x × (f x ≡ true)) → IsIn (y ∷ ys) x × (f x ≡ true)
    split true e (inl d) k = (inl d, subst (λ (z : X). f z ≡ true) d e)
    split true e (inr n) k = let h = k n in (inr h.0, h.1)
    split false e n k = let h = k n in (inr h.0, h.1)

in-filter : {X : Type 0} (f : X → Bool) (xs : List X) (x : X) → IsIn xs x → f x ≡ true → IsIn (filter f xs) x
in-filter {X} f [] x m e = absurd m
in-filter {X} f (y ∷ ys) x (inl d) e = subst (λ (b : Bool). IsIn (cond b (y ∷ filter f ys) (filter f ys)) x) (sym (subst (λ (z : X). f z ≡ true) (sym d) e)) (inl d)
in-filter {X} f (y ∷ ys) x (inr n) e = either (f y) (in-filter f ys x n e)
  where
    either : (b : Bool) → IsIn (filter f ys) x → IsIn (cond b (y ∷ filter f ys) (filter f ys)) x
    either true k = inr k
    either false k = k

in_any : (ns : List ℕ) (n : ℕ) → IsIn ns n → list_any (λ m. m == n) ns ≡ true
in_any [] n m = absurd m
in_any (x ∷ xs) n (inl e) = rw ((Decides-eqb x n).1 e) refl
in_any (x ∷ xs) n (inr m) = split (x == n) (in_any xs n m)
  where
    split : (b : Bool) → list_any (λ m. m == n) xs ≡ true → (b || list_any (λ m. m == n) xs) ≡ true
    split true h = refl
    split false h = h

-- and what makes the test true
pub has : (sites : List DeclaredSwitch) (s : DeclaredSwitch) (a : Location) → IsIn sites s → s.sw ≡ a.sw → IsIn s.ports a.pt → has_port sites a ≡ true
has [] s a m e p = absurd m
has (x ∷ xs) s a (inl d) e p =
    let sw : (x.sw == a.sw) ≡ true = (Decides-eqb x.sw a.sw).1 (ap (λ (z : DeclaredSwitch). z.sw) d ∙ e) in
    let pt : list_any (λ n. n == a.pt) x.ports ≡ true = in_any x.ports a.pt (subst (λ (z : DeclaredSwitch). IsIn z.ports a.pt) (sym d) p) in
    rw (sw, pt) refl
has (x ∷ xs) s a (inr m) e p = split (x.sw == a.sw && list_any (λ n. n == a.pt) x.ports) (has xs s a m e p)
  where
    split : (b : Bool) → has_port xs a ≡ true → (b || has_port xs a) ≡ true
    split true h = refl
    split false h = h

pub is_declared : (t : Layout) (a : Location) → IsIn (flat_map locations_at t.switches) a → IsDeclared t a
is_declared t a m =
    let r = from-flat_map locations_at t.switches a m in
    let p = from-places r.0.sw r.0.ports a r.2 in
    record { site = r.0; among = r.1; switch = p.0; port = p.1 }

pub is_place : (t : Layout) (a : Location) → IsDeclared t a → IsIn (flat_map locations_at t.switches) a
is_place t a d = in-flat_map locations_at t.switches d.site a d.among (in-places d.site.sw d.site.ports a d.switch d.port)

pub edge_declared : (t : Layout) (a : Location) → IsIn (edges_of t) a → IsDeclared t a
edge_declared t a m = is_declared t a (from-filter (λ b. not (is_linked t b)) (flat_map locations_at t.switches) a m).0

both : (b c : Bool) → b ≡ true → c ≡ true → (b && c) ≡ true
both b c d e = rw d e

-- the test for an edge port
pub edge_test : (t : Layout) (a : Location) → IsIn (edges_of t) a → is_edge t a ≡ true
edge_test t a m =
    let r = from-filter (λ b. not (is_linked t b)) (flat_map locations_at t.switches) a m in
    let d = is_declared t a r.0 in
    both (has_port t.switches a) (not (is_linked t a)) (has t.switches d.site a d.among d.switch d.port) r.1

pub test_edge : (t : Layout) (a : Location) → is_edge t a ≡ true → IsIn (edges_of t) a
test_edge t a e = split (has_port t.switches a) refl e
  where
    split : (b : Bool) → has_port t.switches a ≡ b → (b && not (is_linked t a)) ≡ true → IsIn (edges_of t) a
    split true d k = in-filter (λ b. not (is_linked t b)) (flat_map locations_at t.switches) a (is_place t a (declared t.switches t.links a d)) k
    split false d k = absurd (cc)

pub in-get_or : {X : Type 0} (xs : List X) (i : ℕ) (d : X) → i < length xs → IsIn xs (get_or xs i d)
in-get_or [] i d h = absurd (omega arith)
in-get_or (x ∷ xs) zero d h = inl refl
in-get_or (x ∷ xs) (suc i) d h = inr (in-get_or xs i d (omega arith))

in-map : {X Y : Type 0} (f : X → Y) (xs : List X) (x : X) → IsIn xs x → IsIn (map f xs) (f x)
in-map f [] x m = absurd m
in-map f (y ∷ ys) x (inl e) = inl (ap f e)
in-map f (y ∷ ys) x (inr m) = inr (in-map f ys x m)

-- the edge ports, and the ends of the links, as pairs of numbers
pub edge_end : (t : Layout) (es : List (ℕ × ℕ)) (i : ℕ) → IsSound t → map location_of es ≡ edges_of t → i < length es → IsEnd (get_or es i (0, 0))
edge_end t es i s e h =
    let a = get_or es i (0, 0) in
    in_range t (location_of a) s (edge_declared t (location_of a) (subst (λ (ps : List Location). IsIn ps (location_of a)) e (in-map location_of es a (in-get_or es i (0, 0) h))))

pub link_ends : (t : Layout) (ls : List ((ℕ × ℕ) × (ℕ × ℕ))) (i : ℕ) → IsSound t → flat_map both_ways ls ≡ t.links → i < length ls →
    IsEnd (get_or ls i ((0, 0), (0, 0))).0 × IsEnd (get_or ls i ((0, 0), (0, 0))).1
link_ends t ls i s e h =
    let l = get_or ls i ((0, 0), (0, 0)) in
    let m : IsIn t.links (location_of l.0, location_of l.1) = subst (λ (ps : List (Location × Location)). IsIn ps (location_of l.0, location_of l.1)) e (in-flat_map both_ways ls l (location_of l.0, location_of l.1) (in-get_or ls i ((0, 0), (0, 0)) h) (inl refl)) in (
      in_range t (location_of l.0) s (s.declared (location_of l.0) (location_of l.1) m),
      in_range t (location_of l.1) s (s.declared (location_of l.1) (location_of l.0) (s.both (location_of l.0) (location_of l.1) m)),
    )

-- each declared port is an edge port or has a link
pub kinds : (t : Layout) (a : Location) → IsDeclared t a → IsIn (edges_of t) a ⊎ ((b : Location) × IsIn t.links (a, b))
kinds t a d = split (far_end t.links a) refl
  where
    split : (o : Option Location) → far_end t.links a ≡ o → IsIn (edges_of t) a ⊎ ((b : Location) × IsIn t.links (a, b))
    split None e =
        let k : not (is_linked t a) ≡ true = ap (λ (o : Option Location). not (is_some o)) e in
        inl (in-filter (λ b. not (is_linked t b)) (flat_map locations_at t.switches) a (is_place t a d) k)
    split (Some b) e = inr (b, joined t.links a b e)

pub edges_apart : (t : Layout) (a b : Location) → IsIn (edges_of t) a → IsIn t.links (a, b) → ⊥
edges_apart t a b m l =
    let r = from-filter (λ c. not (is_linked t c)) (flat_map locations_at t.switches) a m in
    let k : is_linked t a ≡ true = linked t.links a b l in
    clash (is_linked t a) r.1 k
  where
    clash : (c : Bool) → not c ≡ true → c ≡ true → ⊥
    clash true e f = cc
    clash false e f = cc

-- what holds of the wiring
pub wired : (t : Layout) → IsSound t → IsWiring (wiring t)
wired t s = record {
  one = s.one;
  both = s.both;
  apart = edges_apart t;
  link_range = λ a b m. in_range t a s (s.declared a b m);
  edge_range = λ a m. in_range t a s (edge_declared t a m);
}
