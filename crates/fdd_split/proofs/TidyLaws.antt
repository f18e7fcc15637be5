-- Divided diagrams assign nothing that a path fixes, and give no packet twice.
use Rattle.std.proofs.Common.{◌≡◌, ◌≢◌, ℕ, ◌+◌, ◌*◌, ◌⊎◌, inl, inr, refl, ap, sym, ◌∙◌, subst, arith, List, [], ◌∷◌, Less, Equal}
use Rattle.std.specs.Cmp.Lexicographic.{lists_total}
use Rattle.std.specs.Cmp.{IsTotalOrder, tied_itself}
use Rattle.std.specs.Ordering.{ordering_index}
use Rattle.nk_values.specs.contracts.lit.LitOrd.TheImpl.Laws.{total-law}
use Rattle.std.specs.List.{AllByRecursion}
use Rattle.std.specs.List.Sorted.{IsStrictlySortedBy}
use Rattle.nk_values.specs.declared.packet.Packet.{Packet}
use Rattle.nk_values.specs.declared.lit.Lit.{Lit}
use Rattle.nk_values.specs.Lits.{lit_field}
use Rattle.nk_values.specs.Members.{IsIn, EachOnce}
use Rattle.nk_values.specs.Ranges.{place}
use Rattle.nk_values.specs.Ranks.{step}
use Rattle.fdd_nodes.specs.Trees.{Tree, Leaf, Node, leaf_at, apply, outcomes, answers}
use Rattle.fdd_nodes.specs.Cells.{Respects, whole_cell}
use Rattle.fdd_nodes.specs.Copies.{IsCopy, copy_cmp}
use Rattle.fdd_nodes.proofs.CellLaws.{get-open}
use Rattle.fdd_nodes.proofs.MakesLaws.{Source, source}
use Rattle.fdd_nodes.proofs.SplitLaws.{leaf_at-then, leaf_at-else}
use Rattle.fdd_store.specs.Canonical.{IsCanonical, IsBeyond, AreProper, IsProper}
use Rattle.fdd_store.proofs.MadeLaws.{then_beyond, respects_with}
use Rattle.fdd_store.proofs.CopyLaws.{one_copy}
use Rattle.fdd_split.specs.declared.bars.Bar.{Bar}
use Rattle.fdd_split.specs.Bars.{SomeBars}
use Rattle.fdd_split.specs.Threats.{HasNoThreat, IsAlone}
use Rattle.fdd_split.specs.Divides.{Divides}
use Rattle.fdd_split.proofs.AnswerLaws.{holds_or}
use Rattle.fdd_split.proofs.CopyLaws.{moved}
use Rattle.fdd_split.proofs.ThreatLaws.{down_yes, down_no}
use Rattle.fdd_split.proofs.OrderLaws.{IsReady, fields_apart, made_here, ready_then, ready_else, ready_part, ready_rest, ordered_of, then_divided, proper_of}

pub record IsTidy (k : List Bar) (r : Tree) : Type 0 where
  pub respects : Respects whole_cell r
  pub none : HasNoThreat k r

tidy_node : (k i j : List Bar) (l : Lit) (t e : Tree) → AreProper t → IsBeyond l t → ((y : Lit) → SomeBars i y → SomeBars k y ⊎ (place (lit_field y) ≡ place (lit_field l))) → ((y : Lit) → SomeBars j y → SomeBars k y ⊎ (l ≡ y)) → IsTidy i t → IsTidy j e → IsTidy k (Node l t e)
tidy_node k i j l t e pr b left right ht he = record {
  respects = (respects_with t l whole_cell b ht.respects, he.respects);
  none = λ x h. elim (holds_or h.packet l) [
    | inl y ↦ ht.none x (down_yes k i l t e x pr (λ m w. fields_apart l m (b.past m w)) b.clean left h y)
    | inr n ↦ he.none x (down_no k j l t e x right h n)
  ];
}

pub tidy_of : (r : Tree) (k : List Bar) (a : Tree) (n : ℕ) → IsReady k a n → Divides k a r → IsTidy k r
tidy_of (Leaf cs) k a n w d = record {
  respects = subst (λ (x : Tree). Respects whole_cell x) d.1 w.made.respects;
  none = subst (λ (x : Tree). HasNoThreat k x) d.1 d.0;
}
tidy_of (Node l t e) k a n w (inl d) = record {
  respects = subst (λ (x : Tree). Respects whole_cell x) d.1 w.made.respects;
  none = subst (λ (x : Tree). HasNoThreat k x) d.1 d.0;
}
tidy_of (Node l t e) k a n w (inr (inl b)) =
    let rt : IsReady b.yes_bars b.yes (step * (place (lit_field l) + 1)) = ready_then k a n w l t e b in
    let o = ordered_of t b.yes_bars b.yes _ rt b.then_is in
    tidy_node k b.yes_bars b.no_bars l t e (proper_of t b.yes_bars b.yes rt.made.proper b.then_is)
    (then_divided l t b.yes b.yes_bars o (then_beyond l b.yes b.no (made_here k a n w l t e b)).clean b.then_is) b.yes_narrows.only b.no_narrows.only
    (tidy_of t b.yes_bars b.yes _ rt b.then_is) (tidy_of e b.no_bars b.no _ (ready_else k a n w l t e b) b.else_is)
tidy_of (Node l t e) k a n w (inr (inr d)) =
    let rt : IsReady d.yes_bars d.part (step * (place (lit_field l) + 1)) = ready_part k a n w l t e d in
    let o = ordered_of t _ d.part _ rt d.then_is in
    tidy_node k d.yes_bars d.no_bars l t e (proper_of t _ d.part d.made.proper d.then_is)
    (then_divided l t d.part _ o d.cuts.beyond.clean d.then_is) d.yes_narrows.only d.no_narrows.only
    (tidy_of t _ d.part _ rt d.then_is) (tidy_of e _ a _ (ready_rest k a n w l t e d) d.else_is)

-- copies that differ by no literal are one
pub copies_one : (c d : List Lit) (p : Packet) → IsCopy c → IsCopy d → apply c p ≡ apply d p → ((x : Lit) → ¬ IsAlone c d x) → c ≡ d
copies_one c d p hc hd e n = one_copy c d 0 whole_cell hc hd (λ f k. get-open f) (moved c d p whole_cell hc hd e (λ y a w. absurd (n y a)))

pub leaf_proper : (t : Tree) (p : Packet) → AreProper t → IsProper (leaf_at t p)
leaf_proper (Leaf cs) p h = h
leaf_proper (Node l t e) p h = elim (holds_or p l) [
  | inl y ↦ subst (λ (x : List (List Lit)). IsProper x) (sym (leaf_at-then l t e p y)) (leaf_proper t p h.0)
  | inr n ↦ subst (λ (x : List (List Lit)). IsProper x) (sym (leaf_at-else l t e p n)) (leaf_proper e p h.1)
]

copies_total : IsTotalOrder copy_cmp
copies_total = lists_total total-law

not_less : (x : List Lit) → copy_cmp x x ≢ Less
not_less x h = let e : Equal ≡ Less = sym (tied_itself copies_total x) ∙ h in let k : 1 ≡ 0 = ap ordering_index e in omega (arith, k)

below_all : (x y : List Lit) (xs : List (List Lit)) → AllByRecursion (λ z. copy_cmp x z ≡ Less) xs → IsIn xs y → copy_cmp x y ≡ Less
below_all x y [] h k = absurd k
below_all x y (z ∷ xs) h (inl e) = subst (λ (w : List Lit). copy_cmp x w ≡ Less) e h.0
below_all x y (z ∷ xs) h (inr k) = below_all x y xs h.1 k

-- rising copies of which no two make one packet make none twice
pub once_in : (cs : List (List Lit)) (p : Packet) → IsStrictlySortedBy copy_cmp cs → ((c d : List Lit) → IsIn cs c → IsIn cs d → apply c p ≡ apply d p → c ≡ d) → EachOnce (outcomes cs p)
unfolding IsStrictlySortedBy
once_in [] p s h = tt
once_in (c ∷ cs) p s h = (
  λ y k s'.
      let w : Source cs p y = source cs p y k in
      let e : w.copy ≡ c = h w.copy c (inr w.among) (inl refl) (w.makes ∙ sym s') in
      not_less c (subst (λ (z : List Lit). copy_cmp c z ≡ Less) e (below_all c w.copy cs s.0 w.among)),
  once_in cs p s.1 (λ a b i j. h a b (inr i) (inr j)),
)

pub once_of : (r : Tree) (p : Packet) → AreProper r → HasNoThreat [] r → EachOnce (answers r p)
once_of r p h n =
    let pr : IsProper (leaf_at r p) = leaf_proper r p h in
    once_in (leaf_at r p) p pr.rising
    (λ c d i j e. copies_one c d p (pr.copies c i) (pr.copies d j) e
    (λ x a. n x (record { packet = p; clear = λ y b. absurd b; one = c; other = d; has_one = i; has_other = j; same = e; alone = a })))

pub ready_first : (a : Tree) → IsCanonical a → IsReady [] a 0
ready_first a h = record { made = h; unbarred = λ m t b. b; ordered = h.ordered; threats = λ x t. omega arith }
