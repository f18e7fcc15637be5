-- Why the diagrams of such policies have rows.
use Rattle.nk_values.specs.declared.field.Field.TheVariants.{Pt, EthDst}
use Rattle.std.proofs.Common.{◌≡◌, ℕ, ◌+◌, ◌*◌, ◌≤◌, ◌<◌, inl, inr, refl, ap, sym, ◌∙◌, subst, arith, List, [], ◌∷◌, length, Some, None}
use Rattle.std.proofs.lemmas.List.{length-append}
use Rattle.std.proofs.lemmas.List.Sorted.{length_permutation}
use Rattle.nk_values.specs.declared.fault.EmitFault.{EmitFault}
use Rattle.nk_values.specs.declared.fault.EmitFault.TheVariants as fault
use Rattle.nk_values.specs.declared.fault.FieldSet.{FieldSet}
use Rattle.nk_values.specs.declared.lit.Lit.{Lit}
use Rattle.nk_values.specs.Lits.{lit_field, lit_value}
use Rattle.nk_values.specs.Members.{IsIn}
use Rattle.nk_values.specs.Ranges.{place}
use Rattle.nk_values.specs.Ranks.{step}
use Rattle.nk_values.proofs.LitLaws.{lit_small}
use Rattle.nk_values.proofs.MemberLaws.{in-right}
use Rattle.nk_syntax.specs.Terms.{Term}
use Rattle.fdd_nodes.specs.Paths.{Way, no_tests}
use Rattle.fdd_nodes.specs.Trees.{Tree, Tests, IsSetBy}
use Rattle.fdd_nodes.proofs.MakesLaws.{among_lists}
use Rattle.fdd_nodes.proofs.SplitLaws.{ordered_weaken}
use Rattle.fdd_compile.specs.Results.{SplitDiagramOf}
use Rattle.topology_model.specs.declared.line.DeclaredSwitch.{DeclaredSwitch}
use Rattle.topology_model.specs.Layouts.{Layout}
use Rattle.topology_model.specs.Wired.{IsTopology}
use Rattle.leaf_actions.specs.declared.route.Route.{Route}
use Rattle.leaf_actions.specs.declared.view.PortView.{PortView}
use Rattle.fdd_nodes.specs.Paths.{cell_on}
use Rattle.leaf_actions.specs.Listing.{listed}
use Rattle.leaf_actions.specs.Routes.{routes_of, IsListing}
use Rattle.leaf_actions.proofs.Routed.{listed_known}
use Rattle.table_emitter.specs.declared.fault.EmitError.TheVariants as emit
use Rattle.table_emitter.specs.Emission.{view_of, entries_at, row_count, IsEmitFault}
use Rattle.table_emitter.specs.Entries.{PathRow}
use Rattle.table_emitter.specs.Faults.{IsBarred, IsLong, IsFaultAt, IsFirstFault}
use Rattle.table_emitter.specs.Parts.{part_at}
use Rattle.nk_values.specs.Fitting.{actions_len}
use Rattle.table_emitter.proofs.Meaning.{part_from}
use Rattle.workload_laws.specs.Forwards.{IsAmong, Forwards}
use Rattle.workload_laws.specs.Laws.{EmitsAlways}
use Rattle.workload_laws.specs.Leaves.{AtLeaves, AreCopies, AreRising}
use Rattle.workload_laws.specs.Paths.{TestsOne}
use Rattle.workload_laws.proofs.Copies.{few_copies}
use Rattle.workload_laws.proofs.Counts.{few_paths, few_entries, entry_leaf, place_leaves, place_tests, leaves_of, tests_from}
use Rattle.workload_laws.proofs.Ports.{RoutePorts, none_apart, small_list, few_routes}

-- the copies assign exits alone
abbrev Exits : ℕ → List (List Lit) → Type 0
Exits o cs = (m : Lit) → IsSetBy cs m → IsAmong Pt o (lit_field m) (lit_value m)

-- rows are few

goal_at : (s o : ℕ) (p : Term) (d : Tree) (sw n : ℕ) → Forwards s o p → SplitDiagramOf p d → (m : Lit) → Tests (part_at sw n d) m → IsAmong EthDst s (lit_field m) (lit_value m)
goal_at s o p d sw n f g m k =
    let low = tests_from (step * 2) (part_at sw n d) m (part_from sw n d g.split.ordered) k in
    elim (g.tests m (place_tests sw n d m k)) [
      | inl t ↦ elim (f.tests (lit_field m) (lit_value m) t) [
        | inl e ↦ let z : place (lit_field m) ≡ 0 = ap place e.field in absurd (omega (arith, z, low, lit_small m))
        | inr h ↦ h
      ]
      | inr a ↦
          let z : place (lit_field m) ≡ 1 = ap place (f.assigns (lit_field m) (lit_value m) a).field in
          absurd (omega (arith, z, low, lit_small m))
    ]

few_at : (s o : ℕ) (p : Term) (d : Tree) (site : DeclaredSwitch) (n : ℕ) → Forwards s o p → SplitDiagramOf p d → length (entries_at d site n) ≤ 2 * (s + 1)
few_at s o p d site n f g =
    let part = part_at site.sw n d in
    let one : TestsOne EthDst s part = record {
      field = λ m k. (goal_at s o p d site.sw n f g m k).field;
      low = λ m k. (goal_at s o p d site.sw n f g m k).low;
      high = λ m k. (goal_at s o p d site.sw n f g m k).high;
    } in
    let paths = few_paths EthDst s part (ordered_weaken part 0 (step * 2) (omega arith) (part_from site.sw n d g.split.ordered)) one in
    let rows = few_entries no_tests part in
    omega (arith, paths, rows)

few_on : (s o : ℕ) (p : Term) (d : Tree) (site : DeclaredSwitch) (ns : List ℕ) → s ≤ 120 → Forwards s o p → SplitDiagramOf p d → row_count d site ns ≤ 242 * length ns
few_on s o p d site [] b f g = omega arith
few_on s o p d site (n ∷ ns) b f g = let one = few_at s o p d site n f g in let rest = few_on s o p d site ns b f g in omega (arith, b, one, rest)

-- rows have actions

ports_of : (o : ℕ) (w : Way) (v : PortView) (cs : List (List Lit)) (rs : List Route) → Exits o cs → IsListing v (cell_on w) cs rs → RoutePorts rs
ports_of o w v cs rs x l r i m k = (x m (among_lists cs r.copy m (listed_known v (cell_on w) cs rs l r i).copy k)).field

not_barred : (o : ℕ) (w : Way) (v : PortView) (cs : List (List Lit)) (a b : FieldSet) → Exits o cs → ¬ IsBarred v (cell_on w) cs a b
not_barred o w v cs a b x h =
    let none = none_apart (cell_on w) h.first.routes (ports_of o w v cs h.first.routes x h.first.listing) in
    let k : Some h.pair ≡ None = sym h.first.first ∙ none in
    cc

not_long : (o : ℕ) (w : Way) (v : PortView) (cs : List (List Lit)) → o ≤ 3000 → AreCopies cs → Exits o cs → ¬ IsLong v (cell_on w) cs
not_long o w v cs b r x h =
    let rs = h.list.routes in
    let small = small_list v (cell_on w) (cell_on w) v.kind rs (ports_of o w v cs rs x h.list.listing) (λ f k. refl) in
    let same : actions_len h.actions ≡ actions_len (listed v (cell_on w) (cell_on w) v.kind rs) = ap actions_len h.list.actions in
    let all : length rs ≡ length (routes_of v (cell_on w) cs) = length_permutation (routes_of v (cell_on w) cs) rs h.list.listing.all in
    let routes = few_routes v (cell_on w) cs in
    let copies = few_copies o cs r (λ c i m k. x m (among_lists cs c m i k)) in
    let long = h.long in
    omega (arith, small, same, all, routes, copies, long, b)

no_fault_at : (o : ℕ) (v : PortView) (n : ℕ) (e : PathRow) (f : EmitFault) → o ≤ 3000 → n < 16000 → AreCopies e.copies → Exits o e.copies → ¬ IsFaultAt v n e f
no_fault_at o v n e (fault.Unordered sw pt a b) bo bn r x h = not_barred o e.way v e.copies a b x h.1
no_fault_at o v n e (fault.TooManyActions sw pt) bo bn r x h = not_long o e.way v e.copies bo r x h.1
no_fault_at o v n e (fault.TooManyRows sw pt) bo bn r x h = let k : 16000 ≤ n = h.2 in omega (arith, bn, k)
no_fault_at o v n e (fault.TooManySwitchRows sw) bo bn r x h = h

no_first : (o : ℕ) (v : PortView) (d : Tree) (site : DeclaredSwitch) (n : ℕ) (f : EmitFault) → o ≤ 3000 → length (entries_at d site n) ≤ 16000 → AreRising d → AtLeaves (Exits o) d → ¬ IsFirstFault v 0 (entries_at d site n) f
no_first o v d site n f bo few r x h =
    let part = part_at site.sw n d in
    let among : IsIn (entries_at d site n) h.entry = subst (λ (es : List PathRow). IsIn es h.entry) (sym h.all) (in-right h.before (h.entry ∷ h.behind) h.entry (inl refl)) in
    let total = ap length h.all in
    let both = length-append h.before (h.entry ∷ h.behind) in
    no_fault_at o v (0 + length h.before) h.entry f bo (omega (arith, few, total, both))
    (entry_leaf AreCopies no_tests part h.entry (place_leaves AreCopies site.sw n d r) among)
    (entry_leaf (Exits o) no_tests part h.entry (place_leaves (Exits o) site.sw n d x) among) h.here

no_fault : (s o : ℕ) (p : Term) (d : Tree) (t : Layout) (stamp : ℕ) (f : EmitFault) → s ≤ 120 → o ≤ 3000 → Forwards s o p → SplitDiagramOf p d → AreRising d → IsTopology t → ¬ IsEmitFault d t stamp f
no_fault s o p d t stamp f bs bo fw g r top h = elim h.here [
  | inl k ↦
      let few = few_at s o p d h.site k.port fw g in
      no_first o (view_of t stamp h.site k.port) d h.site k.port f bo (omega (arith, few, bs)) r
      (leaves_of (λ m. IsAmong Pt o (lit_field m) (lit_value m)) d (λ m i. fw.assigns (lit_field m) (lit_value m) (g.assigns m i))) k.here
  | inr k ↦
      let among : IsIn t.switches h.site = subst (λ (l : List DeclaredSwitch). IsIn l h.site) (sym h.all) (in-right h.before (h.site ∷ h.behind) h.site (inl refl)) in
      let ports = (top.sound.sites h.site among).few in
      let rows = few_on s o p d h.site h.site.ports bs fw g in
      let many = k.many in
      omega (arith, ports, rows, many)
]

pub never_barred : EmitsAlways
never_barred s o p d t stamp emit.Memory bs bo fw g r top h = refl
never_barred s o p d t stamp (emit.Fault f) bs bo fw g r top h = absurd (no_fault s o p d t stamp f bs bo fw g r top h)
