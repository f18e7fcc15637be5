-- Sums of diagrams, made test by test.
use Rattle.std.specs.Prelude.{◌↔◌}
use Rattle.std.proofs.Common.{◌≡◌, ℕ, ◌+◌, ◌<◌, ◌≤◌, inl, inr, refl, ap, sym, ◌∙◌, subst, arith, List, [], ◌∷◌, ◌++◌, length, get_or, take}
use Rattle.std.proofs.lemmas.Bool.Decides.{eqb_tells}
use Rattle.std.proofs.lemmas.List.{take_more}
use Rattle.nk_values.specs.declared.packet.Packet.{Packet}
use Rattle.nk_values.specs.declared.lit.Lit.{Lit}
use Rattle.nk_values.specs.Held.{Holds}
use Rattle.nk_values.specs.Lits.{lit_field, lit_value}
use Rattle.nk_values.specs.Members.{IsIn}
use Rattle.nk_values.specs.Packets.{get}
use Rattle.nk_values.proofs.MemberLaws.{in-left, in-right, in-either}
use Rattle.fdd_nodes.specs.Names.{literals, IsFew, AreFew}
use Rattle.fdd_nodes.specs.Roots.{IsLeaf}
use Rattle.fdd_nodes.specs.Trees.{Tree, Leaf, Node, Assigns}
use Rattle.fdd_nodes.proofs.NameLaws.{named, count_within}
use Rattle.fdd_store.specs.Operations.{ZeroOf, UnionOf, JoinOf, LeavesOf}
use Rattle.fdd_store.specs.Looks.{AreLeaves}
use Rattle.fdd_store.specs.Stores.{Kept, Has, tree_at}
use Rattle.fdd_store.proofs.ForkLaws.{node_then_as, node_else_as}
use Rattle.fdd_compile.specs.Folds.{all_literals, SomeTests, SomeAssigns, AreSmall, SomeAnswers, UnionOfAll}
use Rattle.fdd_compile.specs.Sums.{AreAlike, if_holds}
use Rattle.fdd_compile.proofs.FoldLaws.{some_tests_literal, some_assigns_literal}
use Rattle.fdd_compile.proofs.NamedLaws.{some_named}
use Rattle.fdd_compile.proofs.AlikeLaws.{from_answers, in_answers}

-- after one test

holds_yes : (l : Lit) (ts : List Tree) (p q : Packet) → Holds p l → SomeAnswers (if_holds l ts) p q ↔ SomeAnswers ts p q
holds_yes l [] p q y = (λ h. h, λ h. h)
holds_yes l (t ∷ ts) p q y = let r = holds_yes l ts p q y in (
  λ h. elim h [ inl w ↦ inl ((node_then_as l t (Leaf []) p y).back q w) | inr w ↦ inr (r.0 w) ],
  λ h. elim h [ inl w ↦ inl ((node_then_as l t (Leaf []) p y).front q w) | inr w ↦ inr (r.1 w) ],
)

holds_no : (l : Lit) (ts : List Tree) (p q : Packet) → ¬ Holds p l → ¬ SomeAnswers (if_holds l ts) p q
holds_no l [] p q n h = h
holds_no l (t ∷ ts) p q n (inl w) = (node_else_as l t (Leaf []) p n).back q w
holds_no l (t ∷ ts) p q n (inr w) = holds_no l ts p q n w

holds_tests : (l : Lit) (ts : List Tree) (m : Lit) → SomeTests ts m → SomeTests (if_holds l ts) m
holds_tests l [] m h = h
holds_tests l (t ∷ ts) m (inl h) = inl (inr (inl h))
holds_tests l (t ∷ ts) m (inr h) = inr (holds_tests l ts m h)

holds_assigns : (l : Lit) (ts : List Tree) (m : Lit) → SomeAssigns ts m → SomeAssigns (if_holds l ts) m
holds_assigns l [] m h = h
holds_assigns l (t ∷ ts) m (inl h) = inl (inl h)
holds_assigns l (t ∷ ts) m (inr h) = inr (holds_assigns l ts m h)

first_tests : (l : Lit) (ts : List Tree) → 1 ≤ length ts → SomeTests (if_holds l ts) l
first_tests l [] h = absurd (omega (arith, h))
first_tests l (t ∷ ts) h = inl (inl refl)

pub small_behind : (l : Lit) (w : Tree) (ts : List Tree) → AreSmall (w ∷ if_holds l ts) → AreSmall ts
small_behind l w ts s = record {
  bound =
      let big = w ∷ if_holds l ts in
      let c = count_within (all_literals ts) (all_literals big) (λ m i. elim (some_named ts m i) [
        | inl x ↦ some_tests_literal big m (inr (holds_tests l ts m x))
        | inr x ↦ some_assigns_literal big m (inr (holds_assigns l ts m x))
      ]) in
      omega (arith, c, s.bound);
}

pub few_join : (l : Lit) (w u : Tree) (ts : List Tree) → 1 ≤ length ts → AreSmall (w ∷ if_holds l ts) → UnionOfAll ts u → IsFew (Node l u w)
few_join l w u ts n s h =
    let big = w ∷ if_holds l ts in
    let c = count_within (literals (Node l u w)) (all_literals big) (λ m i. elim (named (Node l u w) m i) [
      | inl x ↦ some_tests_literal big m (elim x [
        | inl e ↦ inr (subst (SomeTests (if_holds l ts)) e (first_tests l ts n))
        | inr y ↦ elim y [ inl a ↦ inr (holds_tests l ts m (h.tests m a)) | inr b ↦ inl b ]
      ])
      | inr x ↦ some_assigns_literal big m (elim x [ inl a ↦ inr (holds_assigns l ts m (h.assigns m a)) | inr b ↦ inl b ])
    ]) in
    let b = s.bound in
    omega (arith, c, b)

pub joined : (l : Lit) (w u r : Tree) (ts : List Tree) → 1 ≤ length ts → UnionOfAll ts u → JoinOf l u w r → UnionOfAll (w ∷ if_holds l ts) r
joined l w u r ts n hu h = record {
  answer = λ p q. elim (eqb_tells (get p (lit_field l)) (lit_value l)) [
    | inl y ↦ (
      λ x. elim ((h.yes p y.1).only q x) [ inl a ↦ inr ((holds_yes l ts p q y.1).1 ((hu.answer p q).0 a)) | inr b ↦ inl b ],
      λ x. elim x [ inl b ↦ (h.yes p y.1).right q b | inr a ↦ (h.yes p y.1).left q ((hu.answer p q).1 ((holds_yes l ts p q y.1).0 a)) ],
    )
    | inr o ↦ (
      λ x. inl ((h.no p o.1).front q x),
      λ x. elim x [ inl b ↦ (h.no p o.1).back q b | inr a ↦ absurd (holds_no l ts p q o.1 a) ],
    )
  ];
  normal = h.normal;
  tests = λ m x. elim (h.tests m x) [
    | inl e ↦ inr (subst (SomeTests (if_holds l ts)) e (first_tests l ts n))
    | inr s ↦ elim s [ inl a ↦ inr (holds_tests l ts m (hu.tests m a)) | inr b ↦ inl b ]
  ];
  assigns = λ m x. elim (h.assigns m x) [ inl a ↦ inr (holds_assigns l ts m (hu.assigns m a)) | inr b ↦ inl b ];
}

-- leaves

from_assigns : (ts : List Tree) (t : Tree) (m : Lit) → IsIn ts t → Assigns t m → SomeAssigns ts m
from_assigns [] t m h k = absurd h
from_assigns (u ∷ ts) t m (inl e) k = inl (subst (λ (x : Tree). Assigns x m) (sym e) k)
from_assigns (u ∷ ts) t m (inr h) k = inr (from_assigns ts t m h k)

pub leaves_union : (ts : List Tree) (r : Tree) → LeavesOf ts r → UnionOfAll ts r
leaves_union ts r h = record {
  answer = λ p q. (
    λ x. let o = (h.answer p q).0 x in from_answers ts o.diagram p q o.among o.answered,
    λ x. let o = in_answers ts p q x in (h.answer p q).1 (record { diagram = o.0; among = o.1; answered = o.2 }),
  );
  normal = h.normal;
  tests = λ m x. absurd (h.tests m x);
  assigns = λ m x. let o = h.assigns m x in from_assigns ts o.diagram m o.among o.assigned;
}

-- two diagrams

pub nothing_alike : (z : Tree) (ts : List Tree) → ZeroOf z → AreAlike (z ∷ ts) ts
nothing_alike z ts h = record {
  answer = λ p q. (λ x. elim x [ inl w ↦ absurd (subst (λ (xs : List Packet). IsIn xs q) (h.answer p) w) | inr w ↦ w ], λ x. inr x);
  tests = λ m x. elim x [ inl w ↦ absurd (h.tests m w) | inr w ↦ w ];
  assigns = λ m x. elim x [ inl w ↦ absurd (h.assigns m w) | inr w ↦ w ];
}

pub few_two : (a b : Tree) → AreSmall (a ∷ b ∷ []) → AreFew a b
few_two a b h = record {
  bound =
      let both = a ∷ b ∷ [] in
      let c = count_within (literals a ++ literals b) (all_literals both) (λ m i. elim (in-either (literals a) (literals b) m i) [
        | inl w ↦ in-left (literals a) (all_literals (b ∷ [])) m w
        | inr w ↦ in-right (literals a) (all_literals (b ∷ [])) m (in-left (literals b) [] m w)
      ]) in
      omega (arith, c, h.bound);
}

pub union_two : (a b r : Tree) → UnionOf a b r → UnionOfAll (a ∷ b ∷ []) r
union_two a b r h = record {
  answer = λ p q. (
    λ x. elim ((h.answer p).only q x) [ inl w ↦ inl w | inr w ↦ inr (inl w) ],
    λ x. elim x [ inl w ↦ (h.answer p).left q w | inr w ↦ elim w [ inl y ↦ (h.answer p).right q y | inr n ↦ absurd n ] ],
  );
  normal = h.normal;
  tests = λ m x. elim (h.tests m x) [ inl w ↦ inl w | inr w ↦ inr (inl w) ];
  assigns = λ m x. elim (h.assigns m x) [ inl w ↦ inl w | inr w ↦ inr (inl w) ];
}

pub leaves_more : (k : Kept) (ids : List ℕ) (i x : ℕ) → i < length ids → x ≡ get_or ids i x → AreLeaves k (take i ids) → Has k x → IsLeaf (tree_at k x) → AreLeaves k (take (i + 1) ids)
leaves_more k ids i x l e h w n =
    let t : take (i + 1) ids ≡ take i ids ++ x ∷ [] = take_more ids i x l ∙ ap (λ (y : ℕ). take i ids ++ y ∷ []) (sym e) in
    subst (λ (xs : List ℕ). AreLeaves k xs) (sym t) (λ j m. elim (in-either (take i ids) (x ∷ []) j m) [
      | inl a ↦ h j a
      | inr a ↦ elim a [ inl s ↦ subst (λ (y : ℕ). Has k y × IsLeaf (tree_at k y)) s (w, n) | inr b ↦ absurd b ]
    ])
