-- Sums of diagrams after tests, made test by test.
use Rattle.std.specs.Prelude.{◌≡◌, ℕ, ◌+◌, ◌<◌, ◌⊎◌, ◌↔◌, List, [], ◌∷◌, ◌++◌, Option, None, drop, slice_get}
use Rattle.nk_values.specs.declared.packet.Packet.{Packet}
use Rattle.nk_values.specs.declared.lit.Lit.{Lit}
use Rattle.nk_values.specs.Lits.{lit_field, lit_value}
use Rattle.nk_values.specs.Members.{IsIn}
use Rattle.nk_syntax.specs.Terms.{Guard, Term, Filter, Test}
use Rattle.fdd_nodes.specs.Trees.{Tree, Leaf, Node}
use Rattle.fdd_store.specs.Stores.{Kept, Has, tree_at}
use Rattle.fdd_compile.specs.declared.summand.Summand.{Summand}
use Rattle.fdd_compile.specs.Folds.{SomeTests, SomeAssigns, SomeAnswers}

-- together the first diagrams answer what the second ones answer, and name nothing else
pub record AreAlike (ts us : List Tree) : Type 0 where
  pub answer : (p q : Packet) → SomeAnswers ts p q ↔ SomeAnswers us p q
  pub tests : (m : Lit) → SomeTests ts m → SomeTests us m
  pub assigns : (m : Lit) → SomeAssigns ts m → SomeAssigns us m

-- each of the diagrams if the literal holds, and else nothing
abbrev pub if_holds : Lit → List Tree → List Tree
if_holds l [] = []
if_holds l (t ∷ ts) = Node l t (Leaf []) ∷ if_holds l ts

-- the diagram if all of the literals hold, and else nothing
abbrev pub if_all : List Lit → Tree → Tree
if_all [] t = t
if_all (l ∷ ls) t = Node l (if_all ls t) (Leaf [])

-- the predicates and the policies that test these literals
abbrev pub guards_of_tests : List Lit → List Guard
guards_of_tests [] = []
guards_of_tests (l ∷ ls) = Test (lit_field l) (lit_value l) ∷ guards_of_tests ls

abbrev pub tests_of : List Lit → List Term
tests_of [] = []
tests_of (l ∷ ls) = Filter (Test (lit_field l) (lit_value l)) ∷ tests_of ls

-- a summand's diagram, and what a summand stands for without its first n tests
abbrev pub below_of : Kept → Summand → Tree
below_of k s = tree_at k s.below

abbrev pub left_of : ℕ → Kept → Summand → Tree
left_of n k s = if_all (drop n s.tests.items) (tree_at k s.below)

-- the store has the diagrams of the summands
abbrev pub AreThere : Kept → List Summand → Type 0
AreThere k ss = (s : Summand) → IsIn ss s → Has k s.below

-- each of the summands has this test at the place n, or none
abbrev pub HaveAt : ℕ → Option Lit → List Summand → Type 0
HaveAt n o ss = (s : Summand) → IsIn ss s → slice_get s.tests.items n ≡ o

abbrev pub HaveNoneAt : ℕ → List Summand → Type 0
HaveNoneAt n ss = HaveAt n None ss

-- a diagram has fewer tests one below the other
abbrev pub height : Tree → ℕ
height (Leaf cs) = 0
height (Node l t e) = height t + height e + 1

abbrev pub IsLower : Tree → Tree → Type 0
IsLower t u = height t < height u

-- one of the summands has the same tests and the same diagram
abbrev pub IsAgain : List Summand → Summand → Type 0
IsAgain ss s = (o : Summand) × IsIn ss o × (o.tests.items ≡ s.tests.items) × (o.below ≡ s.below)

-- a summand is put after others, or it is among them
pub record HasPut (old : List Summand) (s : Summand) (new : List Summand) : Type 0 where
  pub put : (new ≡ old ++ s ∷ []) ⊎ ((new ≡ old) × IsAgain old s)
