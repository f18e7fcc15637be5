-- Diagrams after tests.
use Rattle.std.proofs.Common.{◌≡◌, ℕ, zero, suc, ◌+◌, ◌<◌, ◌≤◌, ◌⊎◌, inl, inr, refl, ap, sym, ◌∙◌, subst, arith, List, [], ◌∷◌, ◌++◌, length, map, get_or, take, drop}
use Rattle.std.proofs.lemmas.Bool.Decides.{eqb_tells}
use Rattle.std.proofs.lemmas.List.{map-append, take-append-le, take_more}
use Rattle.std.specs.List.{refill}
use Rattle.std.specs.List.Sorted.{IsPermutation}
use Rattle.nk_values.specs.declared.packet.Packet.{Packet}
use Rattle.nk_values.specs.declared.lit.Lit.{Lit}
use Rattle.nk_values.specs.Held.{Holds}
use Rattle.nk_values.specs.Lits.{lit_field, lit_value}
use Rattle.nk_values.specs.Members.{IsIn, SameMembers}
use Rattle.nk_values.specs.Packets.{get}
use Rattle.fdd_nodes.specs.Trees.{Tree, Leaf, Node, answers, Tests, Assigns}
use Rattle.fdd_store.specs.Operations.{ZeroOf}
use Rattle.fdd_store.specs.Looks.{Forked}
use Rattle.fdd_store.specs.Stores.{Kept, tree_at}
use Rattle.fdd_store.proofs.ForkLaws.{node_then_as, node_else_as}
use Rattle.fdd_compile.specs.Folds.{SomeAnswers}
use Rattle.fdd_compile.specs.Sums.{AreAlike, IsLower, height, if_all}
use Rattle.fdd_compile.proofs.AlikeLaws.{alike_as, alike_trans, same_order, take_past}

-- a diagram that keeps nothing where its first test does not hold

lead_alike : (l : Lit) (t e : Tree) → ZeroOf e → AreAlike (Node l t (Leaf []) ∷ []) (Node l t e ∷ [])
lead_alike l t e z = record {
  answer = λ p q. (λ x. elim x [ inl w ↦ inl (there p q w) | inr w ↦ absurd w ], λ x. elim x [ inl w ↦ inl (back p q w) | inr w ↦ absurd w ]);
  tests = λ m x. elim x [
    | inl w ↦ inl (elim w [ inl s ↦ inl s | inr s ↦ elim s [ inl k ↦ inr (inl k) | inr k ↦ absurd k ] ])
    | inr w ↦ absurd w
  ];
  assigns = λ m x. elim x [ inl w ↦ inl (elim w [ inl k ↦ inl k | inr k ↦ absurd k ]) | inr w ↦ absurd w ];
}
  where
    there : (p q : Packet) → IsIn (answers (Node l t (Leaf [])) p) q → IsIn (answers (Node l t e) p) q
    there p q w = elim (eqb_tells (get p (lit_field l)) (lit_value l)) [
      | inl y ↦ (node_then_as l t e p y.1).front q ((node_then_as l t (Leaf []) p y.1).back q w)
      | inr n ↦ absurd ((node_else_as l t (Leaf []) p n.1).back q w)
    ]

    back : (p q : Packet) → IsIn (answers (Node l t e) p) q → IsIn (answers (Node l t (Leaf [])) p) q
    back p q w = elim (eqb_tells (get p (lit_field l)) (lit_value l)) [
      | inl y ↦ (node_then_as l t (Leaf []) p y.1).front q ((node_then_as l t e p y.1).back q w)
      | inr n ↦ absurd (subst (λ (x : List Packet). IsIn x q) (z.answer p) ((node_else_as l t e p n.1).back q w))
    ]

pub leads_it : (k : Kept) (l : Lit) (below rest none : ℕ) (t : Tree) → Forked k l below rest t → rest ≡ none → ZeroOf (tree_at k none) → AreAlike (Node l (tree_at k below) (Leaf []) ∷ []) (t ∷ [])
leads_it k l below rest none t f e z =
    subst (λ (x : Tree). AreAlike (Node l (tree_at k below) (Leaf []) ∷ []) (x ∷ [])) (sym f.is)
    (lead_alike l (tree_at k below) (tree_at k rest) (subst (λ (i : ℕ). ZeroOf (tree_at k i)) (sym e) z))

pub leads_lower : (k : Kept) (l : Lit) (below rest : ℕ) (t : Tree) → Forked k l below rest t → IsLower (tree_at k below) t
leads_lower k l below rest t f = let w : height t ≡ height (tree_at k below) + height (tree_at k rest) + 1 = ap height f.is in omega (arith, w)

-- a diagram where a test holds, and else nothing

pub node_answers : (l : Lit) (t : Tree) (p q : Packet) → IsIn (answers (Node l t (Leaf [])) p) q → Holds p l × IsIn (answers t p) q
node_answers l t p q h = elim (eqb_tells (get p (lit_field l)) (lit_value l)) [
  | inl y ↦ (y.1, (node_then_as l t (Leaf []) p y.1).back q h)
  | inr n ↦ absurd ((node_else_as l t (Leaf []) p n.1).back q h)
]

pub node_answered : (l : Lit) (t : Tree) (p q : Packet) → Holds p l → IsIn (answers t p) q → IsIn (answers (Node l t (Leaf [])) p) q
node_answered l t p q y h = (node_then_as l t (Leaf []) p y).front q h

-- a diagram where several tests hold

abbrev HoldAll : Packet → List Lit → Type 0
HoldAll p ls = (l : Lit) → IsIn ls l → Holds p l

all_answers : (ls : List Lit) (t : Tree) (p q : Packet) → IsIn (answers (if_all ls t) p) q → HoldAll p ls × IsIn (answers t p) q
all_answers [] t p q h = (λ l i. absurd i, h)
all_answers (l ∷ ls) t p q h =
    let w = node_answers l (if_all ls t) p q h in
    let r = all_answers ls t p q w.1 in
    (λ m i. elim i [ inl e ↦ subst (Holds p) e w.0 | inr k ↦ r.0 m k ], r.1)

all_answered : (ls : List Lit) (t : Tree) (p q : Packet) → HoldAll p ls → IsIn (answers t p) q → IsIn (answers (if_all ls t) p) q
all_answered [] t p q y h = h
all_answered (l ∷ ls) t p q y h = node_answered l (if_all ls t) p q (y l (inl refl)) (all_answered ls t p q (λ m i. y m (inr i)) h)

all_tests : (ls : List Lit) (t : Tree) (m : Lit) → Tests (if_all ls t) m → IsIn ls m ⊎ Tests t m
all_tests [] t m h = inr h
all_tests (l ∷ ls) t m (inl e) = inl (inl e)
all_tests (l ∷ ls) t m (inr (inl h)) = elim (all_tests ls t m h) [ inl w ↦ inl (inr w) | inr w ↦ inr w ]
all_tests (l ∷ ls) t m (inr (inr h)) = absurd h

all_tested : (ls : List Lit) (t : Tree) (m : Lit) → IsIn ls m ⊎ Tests t m → Tests (if_all ls t) m
all_tested [] t m h = elim h [ inl w ↦ absurd w | inr w ↦ w ]
all_tested (l ∷ ls) t m (inl (inl e)) = inl e
all_tested (l ∷ ls) t m (inl (inr w)) = inr (inl (all_tested ls t m (inl w)))
all_tested (l ∷ ls) t m (inr w) = inr (inl (all_tested ls t m (inr w)))

all_assigns : (ls : List Lit) (t : Tree) (m : Lit) → Assigns (if_all ls t) m → Assigns t m
all_assigns [] t m h = h
all_assigns (l ∷ ls) t m (inl h) = all_assigns ls t m h
all_assigns (l ∷ ls) t m (inr h) = absurd h

all_assigned : (ls : List Lit) (t : Tree) (m : Lit) → Assigns t m → Assigns (if_all ls t) m
all_assigned [] t m h = h
all_assigned (l ∷ ls) t m h = inl (all_assigned ls t m h)

pub one_answer : (t : Tree) (p q : Packet) → SomeAnswers (t ∷ []) p q → IsIn (answers t p) q
one_answer t p q h = elim h [ inl w ↦ w | inr w ↦ absurd w ]

-- the tests in another order
pub all_alike : (ls ms : List Lit) (t : Tree) → SameMembers ls ms → AreAlike (if_all ls t ∷ []) (if_all ms t ∷ [])
all_alike ls ms t s = record {
  answer = λ p q. (
    λ h. let w = all_answers ls t p q (one_answer (if_all ls t) p q h) in inl (all_answered ms t p q (λ l i. w.0 l (s.back l i)) w.1),
    λ h. let w = all_answers ms t p q (one_answer (if_all ms t) p q h) in inl (all_answered ls t p q (λ l i. w.0 l (s.front l i)) w.1),
  );
  tests = λ m h. elim h [ inl w ↦ inl (all_tested ms t m (elim (all_tests ls t m w) [ inl i ↦ inl (s.front m i) | inr i ↦ inr i ])) | inr w ↦ absurd w ];
  assigns = λ m h. elim h [ inl w ↦ inl (all_assigned ms t m (all_assigns ls t m w)) | inr w ↦ absurd w ];
}

-- another diagram after the tests
all_beyond : (ls : List Lit) (t u : Tree) → AreAlike (t ∷ []) (u ∷ []) → AreAlike (if_all ls t ∷ []) (if_all ls u ∷ [])
all_beyond ls t u a = record {
  answer = λ p q. (
    λ h. let w = all_answers ls t p q (one_answer (if_all ls t) p q h) in inl (all_answered ls u p q w.0 (one_answer u p q ((a.answer p q).0 (inl w.1)))),
    λ h. let w = all_answers ls u p q (one_answer (if_all ls u) p q h) in inl (all_answered ls t p q w.0 (one_answer t p q ((a.answer p q).1 (inl w.1)))),
  );
  tests = λ m h. elim h [
    | inl w ↦ inl (all_tested ls u m (elim (all_tests ls t m w) [ inl i ↦ inl i | inr i ↦ inr (elim (a.tests m (inl i)) [ inl x ↦ x | inr x ↦ absurd x ]) ]))
    | inr w ↦ absurd w
  ];
  assigns = λ m h. elim h [
    | inl w ↦ inl (all_assigned ls u m (elim (a.assigns m (inl (all_assigns ls t m w))) [ inl x ↦ x | inr x ↦ absurd x ]))
    | inr w ↦ absurd w
  ];
}

all_more : (ls : List Lit) (l : Lit) (t : Tree) → if_all (ls ++ l ∷ []) t ≡ if_all ls (Node l t (Leaf []))
all_more [] l t = refl
all_more (m ∷ ls) l t = ap (λ (x : Tree). Node m x (Leaf [])) (all_more ls l t)

-- a test more, taken from the diagram
pub front_taken : (ls new : List Lit) (l : Lit) (t u w : Tree) → new ≡ ls ++ l ∷ [] → AreAlike (Node l t (Leaf []) ∷ []) (u ∷ []) → AreAlike (if_all ls u ∷ []) (w ∷ []) → AreAlike (if_all new t ∷ []) (w ∷ [])
front_taken ls new l t u w e h k =
    alike_trans _ _ _ (alike_as _ _ (ap (λ (ms : List Lit). if_all ms t ∷ []) e ∙ ap (λ (x : Tree). x ∷ []) (all_more ls l t)))
    (alike_trans _ _ _ (all_beyond ls (Node l t (Leaf [])) u h) k)

pub refilled : (xs ws : List Lit) → length ws ≡ length xs → refill (length xs) xs ws ≡ ws
refilled xs ws e =
    let l : length xs ≤ length ws = omega (arith, e) in
    take-append-le (length xs) ws (drop (length ws) xs) l ∙ take_past (length xs) ws (omega (arith, e))

pub tests_sorted : (ls ms : List Lit) (t w : Tree) → IsPermutation ls ms → AreAlike (if_all ls t ∷ []) (w ∷ []) → AreAlike (if_all ms t ∷ []) (w ∷ [])
tests_sorted ls ms t w p h = alike_trans _ _ _ (all_alike ms ls t (same_order ls ms p)) h

-- lists that begin alike
pub same_more : (xs ys : List Lit) (i : ℕ) (x y : Lit) → i < length xs → length xs ≡ length ys → x ≡ get_or xs i x → y ≡ get_or ys i y → x ≡ y → take i xs ≡ take i ys → take (i + 1) xs ≡ take (i + 1) ys
same_more xs ys i x y l n ex ey e h =
    let a : take (i + 1) xs ≡ take i xs ++ x ∷ [] = take_more xs i x l ∙ ap (λ (z : Lit). take i xs ++ z ∷ []) (sym ex) in
    let b : take (i + 1) ys ≡ take i ys ++ y ∷ [] = take_more ys i y (omega (arith, l, n)) ∙ ap (λ (z : Lit). take i ys ++ z ∷ []) (sym ey) in
    a ∙ (λ k. h k ++ e k ∷ []) ∙ sym b

pub same_whole : (xs ys : List Lit) (i : ℕ) → length xs ≤ i → length xs ≡ length ys → take i xs ≡ take i ys → xs ≡ ys
same_whole xs ys i l n h = sym (take_past i xs l) ∙ h ∙ take_past i ys (omega (arith, l, n))

pub map_more : {X Y : Type 0} (f : X → Y) (xs : List X) (i : ℕ) (x : X) → i < length xs → x ≡ get_or xs i x → map f (take (i + 1) xs) ≡ map f (take i xs) ++ f x ∷ []
map_more {X} f xs i x h e =
    ap (map f) (take_more xs i x h ∙ ap (λ (y : X). take i xs ++ y ∷ []) (sym e)) ∙ map-append f (take i xs) (x ∷ [])

pub item_in : {X : Type 0} (xs : List X) (i : ℕ) (x : X) → i < length xs → x ≡ get_or xs i x → IsIn xs x
item_in [] i x h e = absurd (omega (arith, h))
item_in (y ∷ ys) zero x h e = inl (sym e)
item_in (y ∷ ys) (suc i) x h e = inr (item_in ys i x (omega (arith, h)) e)
