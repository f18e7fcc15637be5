-- Lists of diagrams that answer alike.
use Rattle.std.proofs.Common.{◌≡◌, ℕ, zero, suc, ◌≤◌, ◌⊎◌, inl, inr, refl, ap, sym, ◌∙◌, subst, arith, List, [], ◌∷◌, ◌++◌, length, map, take}
use Rattle.std.proofs.lemmas.List.{map-append}
use Rattle.std.specs.List.Sorted.{IsPermutation}
use Rattle.nk_values.specs.declared.packet.Packet.{Packet}
use Rattle.nk_values.specs.declared.lit.Lit.{Lit}
use Rattle.nk_values.specs.Members.{IsIn, SameMembers}
use Rattle.nk_values.proofs.MemberLaws.{in-left, in-either}
use Rattle.fdd_nodes.specs.Trees.{Tree, answers, Tests, Assigns}
use Rattle.fdd_nodes.proofs.GatherLaws.{same_itself, same_sorted}
use Rattle.fdd_nodes.proofs.NameLaws.{count_within}
use Rattle.fdd_store.specs.Stores.{Kept, Has, tree_at}
use Rattle.fdd_compile.specs.declared.summand.Summand.{Summand}
use Rattle.fdd_compile.specs.Folds.{all_literals, SomeTests, SomeAssigns, AreSmall, SomeAnswers, UnionOfAll, AreHeld}
use Rattle.fdd_compile.specs.Sums.{AreAlike, AreThere, HasPut, if_all, left_of}
use Rattle.fdd_compile.proofs.FoldLaws.{tests_split, assigns_split, answers_split, some_tests_literal, some_assigns_literal, held_push}
use Rattle.fdd_compile.proofs.NamedLaws.{some_named}

-- lists of diagrams that are alike

pub alike_itself : (ts : List Tree) → AreAlike ts ts
alike_itself ts = record { answer = λ p q. (λ h. h, λ h. h); tests = λ m h. h; assigns = λ m h. h }

pub alike_as : (ts us : List Tree) → ts ≡ us → AreAlike ts us
alike_as ts us e = subst (AreAlike ts) e (alike_itself ts)

pub alike_trans : (ts us vs : List Tree) → AreAlike ts us → AreAlike us vs → AreAlike ts vs
alike_trans ts us vs h k = record {
  answer = λ p q. (λ x. (k.answer p q).0 ((h.answer p q).0 x), λ x. (h.answer p q).1 ((k.answer p q).1 x));
  tests = λ m x. k.tests m (h.tests m x);
  assigns = λ m x. k.assigns m (h.assigns m x);
}

pub alike_both : (ts ts' us us' : List Tree) → AreAlike ts ts' → AreAlike us us' → AreAlike (ts ++ us) (ts' ++ us')
alike_both ts ts' us us' h k = record {
  answer = λ p q. let a = answers_split ts us p q in let b = answers_split ts' us' p q in (
    λ x. b.1 (elim (a.0 x) [ inl w ↦ inl ((h.answer p q).0 w) | inr w ↦ inr ((k.answer p q).0 w) ]),
    λ x. a.1 (elim (b.0 x) [ inl w ↦ inl ((h.answer p q).1 w) | inr w ↦ inr ((k.answer p q).1 w) ]),
  );
  tests = λ m x. (tests_split ts' us' m).1 (elim ((tests_split ts us m).0 x) [ inl w ↦ inl (h.tests m w) | inr w ↦ inr (k.tests m w) ]);
  assigns = λ m x. (assigns_split ts' us' m).1 (elim ((assigns_split ts us m).0 x) [ inl w ↦ inl (h.assigns m w) | inr w ↦ inr (k.assigns m w) ]);
}

pub alike_swap : (ts us : List Tree) → AreAlike (ts ++ us) (us ++ ts)
alike_swap ts us = record {
  answer = λ p q. let a = answers_split ts us p q in let b = answers_split us ts p q in (
    λ x. b.1 (elim (a.0 x) [ inl w ↦ inr w | inr w ↦ inl w ]),
    λ x. a.1 (elim (b.0 x) [ inl w ↦ inr w | inr w ↦ inl w ]),
  );
  tests = λ m x. (tests_split us ts m).1 (elim ((tests_split ts us m).0 x) [ inl w ↦ inr w | inr w ↦ inl w ]);
  assigns = λ m x. (assigns_split us ts m).1 (elim ((assigns_split ts us m).0 x) [ inl w ↦ inr w | inr w ↦ inl w ]);
}

-- by their members

pub in_answers : (ts : List Tree) (p q : Packet) → SomeAnswers ts p q → (t : Tree) × IsIn ts t × IsIn (answers t p) q
in_answers [] p q h = absurd h
in_answers (t ∷ ts) p q (inl h) = (t, inl refl, h)
in_answers (t ∷ ts) p q (inr h) = let r = in_answers ts p q h in (r.0, inr r.1, r.2)

pub from_answers : (ts : List Tree) (t : Tree) (p q : Packet) → IsIn ts t → IsIn (answers t p) q → SomeAnswers ts p q
from_answers [] t p q h k = absurd h
from_answers (u ∷ ts) t p q (inl e) k = inl (subst (λ (x : Tree). IsIn (answers x p) q) (sym e) k)
from_answers (u ∷ ts) t p q (inr h) k = inr (from_answers ts t p q h k)

tests_within : (ts us : List Tree) (m : Lit) → ((t : Tree) → IsIn ts t → IsIn us t) → SomeTests ts m → SomeTests us m
tests_within [] us m h k = absurd k
tests_within (t ∷ ts) us m h (inl k) = at us (h t (inl refl)) where
  at : (vs : List Tree) → IsIn vs t → SomeTests vs m
  at [] w = absurd w
  at (v ∷ vs) (inl e) = inl (subst (λ (x : Tree). Tests x m) (sym e) k)
  at (v ∷ vs) (inr w) = inr (at vs w)
tests_within (t ∷ ts) us m h (inr k) = tests_within ts us m (λ x w. h x (inr w)) k

assigns_within : (ts us : List Tree) (m : Lit) → ((t : Tree) → IsIn ts t → IsIn us t) → SomeAssigns ts m → SomeAssigns us m
assigns_within [] us m h k = absurd k
assigns_within (t ∷ ts) us m h (inl k) = at us (h t (inl refl)) where
  at : (vs : List Tree) → IsIn vs t → SomeAssigns vs m
  at [] w = absurd w
  at (v ∷ vs) (inl e) = inl (subst (λ (x : Tree). Assigns x m) (sym e) k)
  at (v ∷ vs) (inr w) = inr (at vs w)
assigns_within (t ∷ ts) us m h (inr k) = assigns_within ts us m (λ x w. h x (inr w)) k

alike_members : (ts us : List Tree) → SameMembers ts us → AreAlike ts us
alike_members ts us s = record {
  answer = λ p q. (
    λ x. let r = in_answers ts p q x in from_answers us r.0 p q (s.front r.0 r.1) r.2,
    λ x. let r = in_answers us p q x in from_answers ts r.0 p q (s.back r.0 r.1) r.2,
  );
  tests = λ m. tests_within ts us m s.front;
  assigns = λ m. assigns_within ts us m s.front;
}

in_map : {X Y : Type 0} (f : X → Y) (xs : List X) (x : X) → IsIn xs x → IsIn (map f xs) (f x)
in_map f [] x h = h
in_map f (y ∷ xs) x (inl e) = inl (ap f e)
in_map f (y ∷ xs) x (inr h) = inr (in_map f xs x h)

from_map : {X Y : Type 0} (f : X → Y) (xs : List X) (y : Y) → IsIn (map f xs) y → (x : X) × IsIn xs x × (f x ≡ y)
from_map f [] y h = absurd h
from_map f (x ∷ xs) y (inl e) = (x, inl refl, e)
from_map f (x ∷ xs) y (inr h) = let r = from_map f xs y h in (r.0, inr r.1, r.2)

map_within : {X Y : Type 0} (f : X → Y) (xs ys : List X) → ((x : X) → IsIn xs x → IsIn ys x) → (y : Y) → IsIn (map f xs) y → IsIn (map f ys) y
map_within f xs ys h y k = let r = from_map f xs y k in subst (IsIn (map f ys)) r.2 (in_map f ys r.0 (h r.0 r.1))

-- in another order

pub same_order : {X : Type 0} (xs ys : List X) → IsPermutation xs ys → SameMembers ys xs
same_order xs ys p = same_sorted xs ys ys p (same_itself ys)

pub order_alike : {X : Type 0} (f : X → Tree) (xs ys : List X) → IsPermutation xs ys → AreAlike (map f ys) (map f xs)
order_alike f xs ys p =
    let s = same_order xs ys p in
    alike_members _ _ (record { front = map_within f ys xs s.front; back = map_within f xs ys s.back })

pub order_there : (k : Kept) (xs ys : List Summand) → IsPermutation xs ys → AreThere k xs → AreThere k ys
order_there k xs ys p h = λ s i. h s ((same_order xs ys p).front s i)

-- names

pub small_alike : (ts us : List Tree) → AreAlike ts us → AreSmall us → AreSmall ts
small_alike ts us h s = record {
  bound =
      let c = count_within (all_literals ts) (all_literals us) (λ m i. elim (some_named ts m i) [ inl w ↦ some_tests_literal us m (h.tests m w) | inr w ↦ some_assigns_literal us m (h.assigns m w) ]) in
      omega (arith, c, s.bound);
}

-- unions

pub alike_of : (ts : List Tree) (r : Tree) → UnionOfAll ts r → AreAlike (r ∷ []) ts
alike_of ts r h = record {
  answer = λ p q. (λ x. elim x [ inl w ↦ (h.answer p q).0 w | inr w ↦ absurd w ], λ x. inl ((h.answer p q).1 x));
  tests = λ m x. elim x [ inl w ↦ h.tests m w | inr w ↦ absurd w ];
  assigns = λ m x. elim x [ inl w ↦ h.assigns m w | inr w ↦ absurd w ];
}

pub union_alike : (ts us : List Tree) (r : Tree) → AreAlike ts us → UnionOfAll ts r → UnionOfAll us r
union_alike ts us r h u = record {
  answer = λ p q. (λ x. (h.answer p q).0 ((u.answer p q).0 x), λ x. (u.answer p q).1 ((h.answer p q).1 x));
  normal = u.normal;
  tests = λ m x. h.tests m (u.tests m x);
  assigns = λ m x. h.assigns m (u.assigns m x);
}

-- parts that come one by one

pub take_past : {X : Type 0} (i : ℕ) (xs : List X) → length xs ≤ i → take i xs ≡ xs
take_past zero [] h = refl
take_past (suc i) [] h = refl
take_past zero (x ∷ xs) h = absurd (omega (arith, h))
take_past {X} (suc i) (x ∷ xs) h = ap (λ (ys : List X). x ∷ ys) (take_past i xs (omega (arith, h)))

-- one part more
pub alike_more : (ts us vs ws : List Tree) (t : Tree) → AreAlike vs (ts ++ t ∷ []) → AreAlike ts us → ws ≡ us ++ t ∷ [] → AreAlike vs ws
alike_more ts us vs ws t h k e =
    alike_trans _ _ _ h (alike_trans _ _ _ (alike_both ts us (t ∷ []) (t ∷ []) k (alike_itself (t ∷ []))) (alike_as _ _ (sym e)))

-- a part that is there already
alike_again : (ts : List Tree) (t : Tree) → IsIn ts t → AreAlike ts (ts ++ t ∷ [])
alike_again ts t h = alike_members ts (ts ++ t ∷ []) (record {
  front = λ x i. in-left ts (t ∷ []) x i;
  back = λ x i. elim (in-either ts (t ∷ []) x i) [ inl w ↦ w | inr w ↦ elim w [ inl e ↦ subst (IsIn ts) e h | inr n ↦ absurd n ] ];
})

pub id_put : (k : Kept) (old new : List ℕ) (i : ℕ) → (new ≡ old ++ i ∷ []) ⊎ ((new ≡ old) × IsIn old i) → AreAlike (map (tree_at k) new) (map (tree_at k) old ++ tree_at k i ∷ [])
id_put k old new i (inl e) = alike_as _ _ (ap (map (tree_at k)) e ∙ map-append (tree_at k) old (i ∷ []))
id_put k old new i (inr h) = alike_trans _ _ _ (alike_as _ _ (ap (map (tree_at k)) h.0)) (alike_again (map (tree_at k) old) (tree_at k i) (in_map (tree_at k) old i h.1))

pub id_held : (k : Kept) (old new : List ℕ) (i : ℕ) → (new ≡ old ++ i ∷ []) ⊎ ((new ≡ old) × IsIn old i) → AreHeld k old → Has k i → AreHeld k new
id_held k old new i (inl e) h w = held_push k old new i e h w
id_held k old new i (inr r) h w = subst (AreHeld k) (sym r.0) h

same_left : (k : Kept) (s o : Summand) → o.tests.items ≡ s.tests.items → o.below ≡ s.below → left_of 0 k o ≡ left_of 0 k s
same_left k s o et eb = ap (λ (ls : List Lit). if_all ls (tree_at k o.below)) et ∙ ap (λ (i : ℕ). if_all s.tests.items (tree_at k i)) eb

pub summand_put : (k : Kept) (old new : List Summand) (s : Summand) → HasPut old s new → AreAlike (map (left_of 0 k) new) (map (left_of 0 k) old ++ left_of 0 k s ∷ [])
summand_put k old new s h = elim h.put [
  | inl e ↦ alike_as _ _ (ap (map (left_of 0 k)) e ∙ map-append (left_of 0 k) old (s ∷ []))
  | inr r ↦ alike_trans _ _ _ (alike_as _ _ (ap (map (left_of 0 k)) r.0))
      (alike_again (map (left_of 0 k) old) (left_of 0 k s) (subst (IsIn (map (left_of 0 k) old)) (same_left k s r.1.0 r.1.2 r.1.3) (in_map (left_of 0 k) old r.1.0 r.1.1)))
]

pub summand_there : (k : Kept) (old new : List Summand) (s : Summand) → HasPut old s new → AreThere k old → Has k s.below → AreThere k new
summand_there k old new s h t w = elim h.put [
  | inl e ↦ subst (AreThere k) (sym e) (λ x i. elim (in-either old (s ∷ []) x i) [ inl a ↦ t x a | inr a ↦ elim a [ inl q ↦ subst (λ (y : Summand). Has k y.below) q w | inr n ↦ absurd n ] ])
  | inr r ↦ subst (AreThere k) (sym r.0) t
]
