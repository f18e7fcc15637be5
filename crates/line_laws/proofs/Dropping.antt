-- Where texts differ no line is dropped.
use Rattle.std.proofs.Common.{◌≡◌, ◌≢◌, ℕ, inl, inr, List, [], ◌∷◌, ◌++◌, codes, refl, sym, ◌∙◌, ap, subst, Less}
use Rattle.std.proofs.lemmas.Cmp.{nat_list_cmp_total}
use Rattle.std.proofs.lemmas.List.{append_cancel_left}
use Rattle.std.proofs.lemmas.List.Sorted.{IsPermutation-refl, IsPermutation-sym, IsPermutation-cons, IsPermutation-trans, IsPermutation-middle}
use Rattle.std.specs.Cmp.Lexicographic.{slice_cmp}
use Rattle.std.specs.List.Sorted.{IsPermutation}
use Rattle.std.specs.Ordering.{nat_cmp, ordering_reverse}
use Rattle.nk_values.specs.Members.{IsIn, EachOnce}
use Rattle.nk_values.specs.declared.packet.Packet.{Packet}
use Rattle.nk_values.specs.Trails.{Trail}
use Rattle.nk_values.proofs.MemberLaws.{in-left, in-right, in-either, in-map, from-map}
use Rattle.nk_values.proofs.PairLaws.{pairs-across, pairs-right, pairs-without}
use Rattle.value_text.specs.Histories.{history_text}
use Rattle.value_text.specs.Traces.{Ascends}
use Rattle.packet_tracer.specs.Ways.{IsWayOf}
use Rattle.line_laws.specs.Laws.{own_lines, NoneIsDropped, WalksHaveOwnLines}
use Rattle.packet_tracer.proofs.Ways.{walks-ways}
use Rattle.line_laws.proofs.Telling.{tell}

-- ---- lines in order come once

no-less : (l : List ℕ) → slice_cmp nat_cmp l l ≡ Less → ⊥
no-less l e = let turned = ap ordering_reverse e in let same = nat_list_cmp_total.antisymm l l in let clash = sym e ∙ same ∙ turned in cc

first-less : (l : List ℕ) (ls : List (List ℕ)) → Ascends (l ∷ ls) → (m : List ℕ) → IsIn ls m → slice_cmp nat_cmp l m ≡ Less
first-less l [] a m i = absurd i
first-less l (k ∷ ks) a m (inl e) = subst (λ (z : List ℕ). slice_cmp nat_cmp l z ≡ Less) e a.0
first-less l (k ∷ ks) a m (inr i) = nat_list_cmp_total.trans l k m a.0 (first-less k ks a.1 m i)

rest-ascends : (l : List ℕ) (ls : List (List ℕ)) → Ascends (l ∷ ls) → Ascends ls
rest-ascends l [] a = tt
rest-ascends l (k ∷ ks) a = a.1

lines-once : (ls : List (List ℕ)) → Ascends ls → EachOnce ls
lines-once [] a = tt
lines-once (l ∷ ls) a = ((λ m i e. no-less l (subst (λ (z : List ℕ). slice_cmp nat_cmp l z ≡ Less) (sym e) (first-less l ls a m i))), lines-once ls (rest-ascends l ls a))

-- ---- lists with the same elements, each once

record Middle {X : Type 0} (xs : List X) (x : X) : Type 0 where
  before : List X
  after : List X
  all : xs ≡ before ++ x ∷ after

middle : {X : Type 0} (xs : List X) (x : X) → IsIn xs x → Middle xs x
middle [] x m = absurd m
middle {X} (y ∷ ys) x (inl e) = record { before = []; after = ys; all = ap (λ (z : X). z ∷ ys) e }
middle {X} (y ∷ ys) x (inr m) = let r = middle ys x m in record { before = y ∷ r.before; after = r.after; all = ap (λ (zs : List X). y ∷ zs) r.all }

-- the middle differs from the rest
middle-differs : {X : Type 0} (xs : List X) (x : X) (ys : List X) → EachOnce (xs ++ x ∷ ys) → (y : X) → IsIn (xs ++ ys) y → x ≢ y
middle-differs xs x ys h y m = elim (in-either xs ys y m) [
  | inl a ↦ (λ e. pairs-across (λ u v. u ≢ v) xs (x ∷ ys) y x h a (inl refl) (sym e))
  | inr b ↦ (pairs-right (λ u v. u ≢ v) xs (x ∷ ys) h).0 y b
]

same-once : {X : Type 0} (xs ys : List X) → EachOnce xs → EachOnce ys → ((x : X) → IsIn xs x → IsIn ys x) → ((y : X) → IsIn ys y → IsIn xs y) → IsPermutation xs ys
same-once [] [] h k f g = IsPermutation-refl []
same-once [] (y ∷ ys) h k f g = absurd (g y (inl refl))
same-once {X} (x ∷ xs) ys h k f g =
    let m = middle ys x (f x (inl refl)) in
    let parts : EachOnce (m.before ++ x ∷ m.after) = subst (λ (zs : List X). EachOnce zs) m.all k in
    let left = same-once xs (m.before ++ m.after) h.1 (pairs-without (λ u v. u ≢ v) m.before x m.after parts)
    (λ z i. elim (in-either m.before (x ∷ m.after) z (subst (λ (zs : List X). IsIn zs z) m.all (f z (inr i)))) [
      | inl a ↦ in-left m.before m.after z a
      | inr b ↦ elim b [ inl d ↦ absurd (h.0 z i d) | inr c ↦ in-right m.before m.after z c ]
    ])
    (λ z i. elim (g z (subst (λ (zs : List X). IsIn zs z) (sym m.all) (elim (in-either m.before m.after z i) [ inl a ↦ in-left m.before (x ∷ m.after) z a | inr b ↦ in-right m.before (x ∷ m.after) z (inr b) ]))) [
      | inl d ↦ absurd (middle-differs m.before x m.after parts z i d)
      | inr c ↦ c
    ]) in
    subst (λ (zs : List X). IsPermutation (x ∷ xs) zs) (sym m.all)
    (IsPermutation-trans (x ∷ xs) (x ∷ (m.before ++ m.after)) (m.before ++ x ∷ m.after) (IsPermutation-cons x xs (m.before ++ m.after) left)
    (IsPermutation-sym (m.before ++ x ∷ m.after) (x ∷ (m.before ++ m.after)) (IsPermutation-middle m.before x m.after)))

-- ---- each history has a line of its own

texts-once : (pk : Packet) (head : List ℕ) (hs : List Trail) → ((h : Trail) → IsIn hs h → IsWayOf pk h) → EachOnce hs → EachOnce (own_lines head hs)
texts-once pk head [] ways h = tt
texts-once pk head (g ∷ hs) ways h = (
  (λ l m e.
      let r = from-map (λ (x : Trail). head ++ history_text x) hs l m in
      h.0 r.0 r.1 (tell pk g r.0 (ways g (inl refl)) (ways r.0 (inr r.1)) (append_cancel_left head (history_text g) (history_text r.0) (e ∙ sym r.2)))),
  texts-once pk head hs (λ x m. ways x (inr m)) h.1,
)

pub none-dropped : NoneIsDropped
none-dropped pk head hs lines ways once are =
    same-once (own_lines head hs) lines (texts-once pk head hs ways once) (lines-once lines are.order)
    (λ l m. let r = from-map (λ (h : Trail). head ++ history_text h) hs l m in subst (λ (z : List ℕ). IsIn lines z) r.2 (are.all r.0 r.1))
    (λ l m. let r = are.each l m in subst (λ (z : List ℕ). IsIn (own_lines head hs) z) (sym r.2) (in-map (λ (h : Trail). head ++ history_text h) hs r.0 r.1))

-- and so has each history of a walk
pub own-lines : WalksHaveOwnLines
own-lines t p pk tag hops finished in_flight done still sound plain shaped w a b =
    let r = walks-ways t p pk tag hops finished in_flight sound plain shaped w in
    record { finished_lines = none-dropped pk (codes "done ") finished done r.0 w.done_once a; open_lines = none-dropped pk (codes "open ") in_flight still r.1 w.still_once b }
