-- The rows of a policy at a switch, whole or in part: where they come from.
use Rattle.std.proofs.Common.{◌≡◌, ◌⊎◌, inl, inr, ℕ, zero, suc, ◌-◌, Bool, true, false, List, [], ◌∷◌, ◌++◌, length, take, refl, sym, ◌∙◌, ap, subst, if◌then◌else◌, Option, Some, None}
use Rattle.std.specs.List.{flat_map}
use Rattle.nk_values.specs.declared.row.Row.{Row}
use Rattle.nk_values.specs.declared.rows.Band.{Band}
use Rattle.nk_values.specs.declared.rows.Band.TheVariants.{High, Low}
use Rattle.nk_values.specs.declared.rows.PortKind.{PortKind}
use Rattle.nk_values.specs.declared.rows.PortKind.TheVariants.{Edge, Linked}
use Rattle.nk_values.specs.declared.rows.PortRows.{PortRows}
use Rattle.nk_values.specs.declared.rows.Rows.{Rows}
use Rattle.nk_values.specs.Fitting.{IsWritable}
use Rattle.nk_values.specs.Members.{IsIn}
use Rattle.nk_values.proofs.MemberLaws.{in-left, in-flat_map, from-flat_map}
use Rattle.nk_syntax.specs.Views.{term_of}
use Rattle.topology_model.specs.Network.{Location}
use Rattle.topology_model.specs.Layouts.{Layout, same_location, locations_at}
use Rattle.topology_model.specs.Wired.{IsTopology}
use Rattle.policy_rows.specs.declared.version.Version.{Version}
use Rattle.policy_rows.specs.Limits.{AreWritable}
use Rattle.policy_rows.specs.Means.{RowsMean, kind_at, rows_at, port_place}
use Rattle.policy_rows.proofs.Ports.{edge_kind, linked_kind}
use Rattle.update_plan.specs.Batches.{at_once, by_rounds, band_of, ports_at}
use Rattle.update_laws.specs.Updates.{Setting, IsSetting, spot, inner, outer, begun, outer_begun}
use Rattle.update_laws.specs.Settings.{ports_in, version_at, rows_in, lists_in, odd, band_by, setting_of, AreVersions}
use Rattle.update_laws.proofs.Bands.{banded}
use Rattle.update_laws.proofs.Bridge.{by_place}
use Rattle.update_laws.proofs.Made.{made}
use Rattle.update_laws.proofs.Overlays.{in-take}
use Rattle.update_laws.proofs.Owned.{owned}
use Rattle.update_laws.proofs.Phases.{From}

-- ---- a version that is there

pub record There (t : Layout) (v : ℕ) (x : Version) : Type 0 where
  pub mean : RowsMean x.rows (term_of x.pol) t
  pub writable : AreWritable x.rows
  pub band : x.rows.band ≡ band_by (odd v)

pub there : (t : Layout) (vs : List Version) (overlap : Option ℕ) → AreVersions t vs overlap → (v : ℕ) (x : Version) → version_at vs v ≡ Some x → There t v x
there t vs overlap a zero x e = absurd (cc)
there t vs overlap a (suc k) x e = record { mean = a.means k x e; writable = a.writable k x e; band = banded t vs overlap a k x e }

-- a row of a list is a port's
from-lists : (ports : List PortRows) (a : Location) (r : Row) → IsIn (rows_at ports a) r → (p : PortRows) × IsIn ports p × IsIn p.rows r
from-lists [] a r m = absurd m
from-lists (x ∷ xs) a r m = split (λ n. from-lists xs a r n) (same_location (port_place x) a) m
  where
    split : (IsIn (rows_at xs a) r → (p : PortRows) × IsIn xs p × IsIn p.rows r) → (b : Bool) → IsIn (if b then x.rows else rows_at xs a) r → (p : PortRows) × IsIn (x ∷ xs) p × IsIn p.rows r
    split later true n = (x, inl refl, n)
    split later false n = let h = later n in (h.0, inr h.1, h.2)

-- each row of a version can be written
pub writable-rows : (t : Layout) (vs : List Version) (overlap : Option ℕ) → AreVersions t vs overlap → (v : ℕ) (a : Location) (r : Row) → IsIn (rows_at (lists_in (version_at vs v)) a) r → IsWritable r
writable-rows t vs overlap k v a r m = of (version_at vs v) refl m
  where
    of : (o : Option Version) → version_at vs v ≡ o → IsIn (rows_at (lists_in o) a) r → IsWritable r
    of None e n = absurd n
    of (Some x) e n =
        let h = from-lists x.rows.ports a r n in
        (there t vs overlap k v x e).writable.each h.0 h.1 r h.2

-- ---- its rows at a port

-- how many rows are there of a list of this length: the first ones, and all but the last ones
abbrev pub first : ℕ → ℕ → ℕ
first count all = count

abbrev pub all_but : ℕ → ℕ → ℕ
all_but count all = all - count

-- those that are there
abbrev pub cut : (ℕ → ℕ) → Band → PortKind → List Row → List Row
cut part band kind rows = at_once band kind rows ++ take (part (length (by_rounds band kind rows))) (by_rounds band kind rows)

pub no-more : (n : ℕ) (rows : List Row) → rows ++ take n [] ≡ rows
no-more zero [] = refl
no-more (suc n) [] = refl
no-more n (r ∷ rows) = ap (λ (rs : List Row). r ∷ rs) (no-more n rows)

pub cut-in : (part : ℕ → ℕ) (band : Band) (kind : PortKind) (rows : List Row) (r : Row) → IsIn (cut part band kind rows) r → IsIn rows r
cut-in part High Edge rows r m = in-take (part (length rows)) rows r m
cut-in part High Linked rows r m = subst (λ (rs : List Row). IsIn rs r) (no-more (part 0) rows) m
cut-in part Low kind rows r m = subst (λ (rs : List Row). IsIn rs r) (no-more (part 0) rows) m

cut-nothing : (part : ℕ → ℕ) (band : Band) (kind : PortKind) → cut part band kind [] ≡ []
cut-nothing part High Edge = no-more (part 0) []
cut-nothing part High Linked = no-more (part 0) []
cut-nothing part Low kind = no-more (part 0) []

-- ---- its rows at a switch

pub all_ports : Layout → ℕ → List ℕ
all_ports t sw = ports_in (flat_map locations_at t.switches) sw

-- a part of a version's rows, port by port
abbrev pub part_of : (ℕ → ℕ) → Option Rows → ℕ → List Row
part_of part v sw = flat_map (λ (p : PortRows). cut part (band_of v) p.kind p.rows) (ports_at v sw)

abbrev pub have : List Version → (ℕ → ℕ) → ℕ → ℕ → List Row
have vs part v sw = part_of part (rows_in (version_at vs v)) sw

abbrev pub by_ports : Layout → (ℕ → ℕ) → ℕ → ℕ → Option Version → List Row
by_ports t part v sw o = flat_map (λ b. cut part (band_by (odd v)) (kind_at t (spot sw b)) (rows_at (lists_in o) (spot sw b))) (ports_in (flat_map locations_at t.switches) sw)

flat-none : (g : ℕ → List Row) → ((b : ℕ) → g b ≡ []) → (bs : List ℕ) → flat_map g bs ≡ []
flat-none g h [] = refl
flat-none g h (b ∷ bs) = ap (λ (rs : List Row). rs ++ flat_map g bs) (h b) ∙ flat-none g h bs

pub parts-are : (t : Layout) (vs : List Version) (overlap : Option ℕ) → IsTopology t → AreVersions t vs overlap → (part : ℕ → ℕ) (v sw : ℕ) → have vs part v sw ≡ by_ports t part v sw (version_at vs v)
parts-are t vs overlap k a part v sw = of (version_at vs v) refl
  where
    of : (o : Option Version) → version_at vs v ≡ o → part_of part (rows_in o) sw ≡ by_ports t part v sw o
    of None e = sym (flat-none (λ b. cut part (band_by (odd v)) (kind_at t (spot sw b)) []) (λ b. cut-nothing part (band_by (odd v)) (kind_at t (spot sw b))) (ports_in (flat_map locations_at t.switches) sw))
    of (Some x) e =
        let h = there t vs overlap a v x e in
        by_place t (cut part x.rows.band) sw x.rows.ports x.rows.ports (flat_map locations_at t.switches) (owned t x.rows (term_of x.pol) k.sound h.mean) h.mean.ports
        ∙ ap (λ (band : Band). flat_map (λ b. cut part band (kind_at t (spot sw b)) (rows_at x.rows.ports (spot sw b))) (ports_in (flat_map locations_at t.switches) sw)) h.band

-- ---- internal and ingress rows

-- internal rows, and a beginning of each list of ingress rows or all of them
abbrev pub Piece : Bool → Setting → ℕ → (ℕ → ℕ) → ℕ → Row → Type 0
Piece true c v f sw r = IsIn (inner c v sw) r ⊎ IsIn (outer_begun c v f sw) r
Piece false c v f sw r = IsIn (inner c v sw) r ⊎ IsIn (outer c v sw) r

pub linked-port : (t : Layout) (vs : List Version) (limit capacity : ℕ) (overlap : Option ℕ) → IsSetting (setting_of t vs limit capacity overlap) → (sw pt : ℕ) → IsIn ((setting_of t vs limit capacity overlap).linked sw) pt → kind_at t (spot sw pt) ≡ Linked
linked-port t vs limit capacity overlap q sw pt m = let j = q.joined sw pt m in linked_kind t (spot sw pt) j.0 j.1

pub edge-port : (t : Layout) (vs : List Version) (limit capacity : ℕ) (overlap : Option ℕ) → IsSetting (setting_of t vs limit capacity overlap) → (sw pt : ℕ) → IsIn ((setting_of t vs limit capacity overlap).edge sw) pt → kind_at t (spot sw pt) ≡ Edge
edge-port t vs limit capacity overlap q sw pt m = edge_kind t (spot sw pt) ((q.edges sw pt).1 m)

from-linked : (c : Setting) (part : ℕ → ℕ) (v sw pt : ℕ) (d : Bool) (kind : PortKind) (r : Row) → kind ≡ Linked → IsIn (c.linked sw) pt → IsIn (cut part (band_by d) kind (c.rows_at v (spot sw pt))) r → Piece d c v part sw r
from-linked c part v sw pt d kind r e l m = of d (in-flat_map (λ b. c.rows_at v (spot sw b)) (c.linked sw) pt r l (cut-in part (band_by d) kind (c.rows_at v (spot sw pt)) r m))
  where
    of : (b : Bool) → IsIn (inner c v sw) r → Piece b c v part sw r
    of true n = inl n
    of false n = inl n

from-edge : (c : Setting) (part : ℕ → ℕ) (v sw pt : ℕ) (d : Bool) (kind : PortKind) (r : Row) → kind ≡ Edge → IsIn (c.edge sw) pt → IsIn (cut part (band_by d) kind (c.rows_at v (spot sw pt))) r → Piece d c v part sw r
from-edge c part v sw pt true kind r e l m = inr (in-flat_map (λ b. begun part (c.rows_at v (spot sw b))) (c.edge sw) pt r l (subst (λ (x : PortKind). IsIn (cut part High x (c.rows_at v (spot sw pt))) r) e m))
from-edge c part v sw pt false kind r e l m = inr (in-flat_map (λ b. c.rows_at v (spot sw b)) (c.edge sw) pt r l (cut-in part Low kind (c.rows_at v (spot sw pt)) r m))

-- what a part has is internal or ingress
pub piece-of : (t : Layout) (vs : List Version) (limit capacity : ℕ) (overlap : Option ℕ) → IsTopology t → AreVersions t vs overlap → (part : ℕ → ℕ) (v sw : ℕ) (r : Row) → IsIn (have vs part v sw) r → Piece (odd v) (setting_of t vs limit capacity overlap) v part sw r
piece-of t vs limit capacity overlap k a part v sw r m =
    let c = setting_of t vs limit capacity overlap in
    let q = made t vs limit capacity overlap k a in
    let x = from-flat_map (λ b. cut part (band_by (odd v)) (kind_at t (spot sw b)) (c.rows_at v (spot sw b))) (c.ports sw) r (subst (λ (rs : List Row). IsIn rs r) (parts-are t vs overlap k a part v sw) m) in
    elim (q.ports sw x.0 x.1) [
      | inl l ↦ from-linked c part v sw x.0 (odd v) (kind_at t (spot sw x.0)) r (linked-port t vs limit capacity overlap q sw x.0 l) l x.2
      | inr l ↦ from-edge c part v sw x.0 (odd v) (kind_at t (spot sw x.0)) r (edge-port t vs limit capacity overlap q sw x.0 l) l x.2
    ]

whole-cut : (part : ℕ → ℕ) (d : Bool) (rows : List Row) (r : Row) → IsIn rows r → IsIn (cut part (band_by d) Linked rows) r
whole-cut part true rows r m = in-left rows (take (part 0) []) r m
whole-cut part false rows r m = in-left rows (take (part 0) []) r m

-- and all of these are had
pub of-piece : (t : Layout) (vs : List Version) (limit capacity : ℕ) (overlap : Option ℕ) → IsTopology t → AreVersions t vs overlap → (part : ℕ → ℕ) (v sw : ℕ) (r : Row) → Piece (odd v) (setting_of t vs limit capacity overlap) v part sw r → IsIn (have vs part v sw) r
of-piece t vs limit capacity overlap k a part v sw r p = subst (λ (rs : List Row). IsIn rs r) (sym (parts-are t vs overlap k a part v sw)) (of (odd v) refl p)
  where
    c : Setting
    c = setting_of t vs limit capacity overlap

    q : IsSetting c
    q = made t vs limit capacity overlap k a

    put : (pt : ℕ) → IsIn (c.ports sw) pt → IsIn (cut part (band_by (odd v)) (kind_at t (spot sw pt)) (c.rows_at v (spot sw pt))) r → IsIn (by_ports t part v sw (version_at vs v)) r
    put pt m n = in-flat_map (λ b. cut part (band_by (odd v)) (kind_at t (spot sw b)) (c.rows_at v (spot sw b))) (c.ports sw) pt r m n

    cut-at : (pt : ℕ) (d : Bool) (kind : PortKind) → odd v ≡ d → kind_at t (spot sw pt) ≡ kind → IsIn (cut part (band_by d) kind (c.rows_at v (spot sw pt))) r → IsIn (cut part (band_by (odd v)) (kind_at t (spot sw pt)) (c.rows_at v (spot sw pt))) r
    cut-at pt d kind e f n = subst (λ (b : Bool). IsIn (cut part (band_by b) (kind_at t (spot sw pt)) (c.rows_at v (spot sw pt))) r) (sym e)
        (subst (λ (x : PortKind). IsIn (cut part (band_by d) x (c.rows_at v (spot sw pt))) r) (sym f) n)

    internal : (d : Bool) → odd v ≡ d → IsIn (inner c v sw) r → IsIn (by_ports t part v sw (version_at vs v)) r
    internal d e m =
        let x = from-flat_map (λ b. c.rows_at v (spot sw b)) (c.linked sw) r m in
        put x.0 (q.all_linked sw x.0 x.1) (cut-at x.0 d Linked e (linked-port t vs limit capacity overlap q sw x.0 x.1) (whole-cut part d (c.rows_at v (spot sw x.0)) r x.2))

    of : (d : Bool) → odd v ≡ d → Piece d c v part sw r → IsIn (by_ports t part v sw (version_at vs v)) r
    of true e (inl m) = internal true e m
    of true e (inr m) =
        let x = from-flat_map (λ b. begun part (c.rows_at v (spot sw b))) (c.edge sw) r m in
        put x.0 (q.all_edge sw x.0 x.1) (cut-at x.0 true Edge e (edge-port t vs limit capacity overlap q sw x.0 x.1) x.2)
    of false e (inl m) = internal false e m
    of false e (inr m) =
        let x = from-flat_map (λ b. c.rows_at v (spot sw b)) (c.edge sw) r m in
        put x.0 (q.all_edge sw x.0 x.1) (cut-at x.0 false Edge e (edge-port t vs limit capacity overlap q sw x.0 x.1) (in-left (c.rows_at v (spot sw x.0)) (take (part 0) []) r x.2))

-- at a port of the switch
pub from-part : (t : Layout) (vs : List Version) (limit capacity : ℕ) (overlap : Option ℕ) → IsTopology t → AreVersions t vs overlap → (part : ℕ → ℕ) (v sw : ℕ) (r : Row) → IsIn (have vs part v sw) r → (link : Bool) × From (setting_of t vs limit capacity overlap) v sw link r
from-part t vs limit capacity overlap k a part v sw r m = of (odd v) (piece-of t vs limit capacity overlap k a part v sw r m)
  where
    c : Setting
    c = setting_of t vs limit capacity overlap

    internal : IsIn (inner c v sw) r → (link : Bool) × From c v sw link r
    internal n = let x = from-flat_map (λ b. c.rows_at v (spot sw b)) (c.linked sw) r n in (true, record { pt = x.0; port = x.1; held = x.2 })

    of : (d : Bool) → Piece d c v part sw r → (link : Bool) × From c v sw link r
    of true (inl n) = internal n
    of true (inr n) =
        let x = from-flat_map (λ b. begun part (c.rows_at v (spot sw b))) (c.edge sw) r n in
        (false, record { pt = x.0; port = x.1; held = in-take (part (length (c.rows_at v (spot sw x.0)))) (c.rows_at v (spot sw x.0)) r x.2 })
    of false (inl n) = internal n
    of false (inr n) = let x = from-flat_map (λ b. c.rows_at v (spot sw b)) (c.edge sw) r n in (false, record { pt = x.0; port = x.1; held = x.2 })
