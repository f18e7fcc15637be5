-- A report has one text.
use Rattle.std.proofs.Common.{◌≡◌, ℕ, ◌+◌, inl, inr, List, [], ◌∷◌, ◌++◌, codes, refl, sym, ◌∙◌, ap, subst, arith, Less}
use Rattle.std.proofs.lemmas.Cmp.{nat_list_cmp_total}
use Rattle.std.specs.Cmp.Lexicographic.{slice_cmp}
use Rattle.std.specs.Ordering.{nat_cmp, ordering_reverse}
use Rattle.std.specs.List.{flat_map}
use Rattle.nk_values.specs.Members.{IsIn}
use Rattle.nk_values.specs.Trails.{Trail}
use Rattle.topology_model.specs.declared.line.DeclaredSwitch.{DeclaredSwitch}
use Rattle.packet_tracer.specs.declared.flight.Flight.{Flight}
use Rattle.update_laws.specs.Traffic.{Arrived}
use Rattle.world_core.specs.declared.event.Event.{Event}
use Rattle.report_text.specs.Copies.{arrival_copies}
use Rattle.report_text.specs.Events.{events_text}
use Rattle.report_text.specs.Reports.{arrival_text, IsArrivalText, IsReportText}
use Rattle.value_text.specs.Traces.{Ascends, AreLinesOf, AreTexts}
use Rattle.value_text.specs.Values.{line}

-- ---- lines

no-less : (l : List ℕ) → slice_cmp nat_cmp l l ≡ Less → ⊥
no-less l e = let turned = ap ordering_reverse e in let same = nat_list_cmp_total.antisymm l l in let clash = sym e ∙ same ∙ turned in cc

-- the first is less than all others
first-less : (l : List ℕ) (ls : List (List ℕ)) → Ascends (l ∷ ls) → (m : List ℕ) → IsIn ls m → slice_cmp nat_cmp l m ≡ Less
first-less l [] a m i = absurd i
first-less l (k ∷ ks) a m (inl e) = subst (λ (z : List ℕ). slice_cmp nat_cmp l z ≡ Less) e a.0
first-less l (k ∷ ks) a m (inr i) = nat_list_cmp_total.trans l k m a.0 (first-less k ks a.1 m i)

rest-ascends : (l : List ℕ) (ls : List (List ℕ)) → Ascends (l ∷ ls) → Ascends ls
rest-ascends l [] a = tt
rest-ascends l (k ∷ ks) a = a.1

-- each is an element of the other, so they have one head
same-head : (x y : List ℕ) (xs ys : List (List ℕ)) → Ascends (x ∷ xs) → Ascends (y ∷ ys) → IsIn (y ∷ ys) x → IsIn (x ∷ xs) y → x ≡ y
same-head x y xs ys a b (inl e) j = sym e
same-head x y xs ys a b (inr i) (inl e) = e
same-head x y xs ys a b (inr i) (inr j) = absurd (no-less x (nat_list_cmp_total.trans x y x (first-less x xs a y j) (first-less y ys b x i)))

in-rest : (x y : List ℕ) (xs ys : List (List ℕ)) → Ascends (x ∷ xs) → x ≡ y → (m : List ℕ) → IsIn xs m → IsIn (y ∷ ys) m → IsIn ys m
in-rest x y xs ys a e m i (inl q) = absurd (no-less x (subst (λ (z : List ℕ). slice_cmp nat_cmp x z ≡ Less) (sym (e ∙ q)) (first-less x xs a m i)))
in-rest x y xs ys a e m i (inr j) = j

-- two lists in order with the same elements
same-lists : (xs ys : List (List ℕ)) → Ascends xs → Ascends ys → ((m : List ℕ) → IsIn xs m → IsIn ys m) → ((m : List ℕ) → IsIn ys m → IsIn xs m) → xs ≡ ys
same-lists [] [] a b f g = refl
same-lists [] (y ∷ ys) a b f g = absurd (g y (inl refl))
same-lists (x ∷ xs) [] a b f g = absurd (f x (inl refl))
same-lists (x ∷ xs) (y ∷ ys) a b f g =
    let head : x ≡ y = same-head x y xs ys a b (f x (inl refl)) (g y (inl refl)) in
    let rest : xs ≡ ys = same-lists xs ys (rest-ascends x xs a) (rest-ascends y ys b) (λ m i. in-rest x y xs ys a head m i (f m (inr i))) (λ m i. in-rest y x ys xs b (sym head) m i (g m (inr i))) in
    λ i. head i ∷ rest i

among : (head : List ℕ) (hs : List Trail) (xs ys : List (List ℕ)) → AreLinesOf head hs xs → AreLinesOf head hs ys → (l : List ℕ) → IsIn xs l → IsIn ys l
among head hs xs ys a b l i = let h = a.each l i in subst (λ (z : List ℕ). IsIn ys z) (sym h.2) (b.all h.0 h.1)

pub one-list : (head : List ℕ) (hs : List Trail) (xs ys : List (List ℕ)) → AreLinesOf head hs xs → AreLinesOf head hs ys → xs ≡ ys
one-list head hs xs ys a b = same-lists xs ys a.order b.order (among head hs xs ys a b) (among head hs ys xs b a)

-- ---- texts

one-arrival : (flights : List Flight) (n : ℕ) (a : Arrived) (x y : List ℕ) → IsArrivalText flights n a x → IsArrivalText flights n a y → x ≡ y
one-arrival flights n a x y p q =
    let place : p.place ≡ q.place = let one = p.number in let two = q.number in omega (arith, one, two) in
    let still : p.still ≡ q.still = one-list (codes "open ") (arrival_copies flights q.place) p.still q.still (subst (λ (k : ℕ). AreLinesOf (codes "open ") (arrival_copies flights k) p.still) place p.in_flight) q.in_flight in
    let done : p.fate.done ≡ q.fate.done = one-list (codes "done ") a.finished p.fate.done q.fate.done p.fate.finished q.fate.finished in
    p.fate.whole ∙ (λ i. line (arrival_text n a) ++ (flat_map line (done i) ++ flat_map line (still i))) ∙ sym q.fate.whole

one-each : {X : Type 0} (IsText : ℕ → X → List ℕ → Type 0) → ((n : ℕ) (a : X) (x y : List ℕ) → IsText n a x → IsText n a y → x ≡ y) → (k : ℕ) (xs : List X) (x y : List ℕ) → AreTexts IsText k xs x → AreTexts IsText k xs y → x ≡ y
one-each IsText one k [] x y p q = p ∙ sym q
one-each IsText one k (a ∷ rest) x y p q =
    let first : p.0 ≡ q.0 = one (k + 1) a p.0 q.0 p.2 q.2 in
    let more : p.1 ≡ q.1 = one-each IsText one (k + 1) rest p.1 q.1 p.3 q.3 in
    p.4 ∙ (λ i. first i ++ more i) ∙ sym q.4

-- The report of events and of what a world shows is one text.
pub one-report : (switches : List DeclaredSwitch) (events : List Event) (state : List ℕ) (flights : List Flight) (arrivals : List Arrived) (x y : List ℕ) →
    IsReportText switches events state flights arrivals x → IsReportText switches events state flights arrivals y → x ≡ y
one-report switches events state flights arrivals x y p q =
    let fates : p.fates ≡ q.fates = one-each (IsArrivalText flights) (one-arrival flights) 0 arrivals p.fates q.fates p.each q.each in
    p.whole ∙ ap (λ (fs : List ℕ). events_text switches events ++ (state ++ fs)) fates ∙ sym q.whole
