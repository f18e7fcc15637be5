-- What is named by appended lists, by copies and by diagrams.
use Rattle.std.specs.Prelude.{◌↔◌}
use Rattle.std.proofs.Common.{ℕ, ◌⊎◌, inl, inr, List, [], ◌∷◌, ◌++◌}
use Rattle.nk_values.specs.declared.field.Field.{Field}
use Rattle.nk_values.specs.declared.lit.Lit.{Lit}
use Rattle.fdd_nodes.specs.Names.{literals_of, literals}
use Rattle.fdd_nodes.specs.Trees.{Tree, Leaf, Node}
use Rattle.fdd_differ.specs.Unnamed.{NamesAt, CopiesName, TreeNames}

pub names_left : (xs ys : List Lit) (f : Field) (n : ℕ) → NamesAt xs f n → NamesAt (xs ++ ys) f n
names_left [] ys f n h = absurd h
names_left (x ∷ xs) ys f n (inl h) = inl h
names_left (x ∷ xs) ys f n (inr h) = inr (names_left xs ys f n h)

pub names_right : (xs ys : List Lit) (f : Field) (n : ℕ) → NamesAt ys f n → NamesAt (xs ++ ys) f n
names_right [] ys f n h = h
names_right (x ∷ xs) ys f n h = inr (names_right xs ys f n h)

pub names_either : (xs ys : List Lit) (f : Field) (n : ℕ) → NamesAt (xs ++ ys) f n → NamesAt xs f n ⊎ NamesAt ys f n
names_either [] ys f n h = inr h
names_either (x ∷ xs) ys f n (inl h) = inl (inl h)
names_either (x ∷ xs) ys f n (inr h) = elim (names_either xs ys f n h) [ inl k ↦ inl (inr k) | inr k ↦ inr k ]

copies_name : (cs : List (List Lit)) (f : Field) (n : ℕ) → CopiesName cs f n ↔ NamesAt (literals_of cs) f n
copies_name [] f n = (λ h. h, λ h. h)
copies_name (c ∷ cs) f n = let r = copies_name cs f n in (
  λ h. elim h [ inl k ↦ names_left c (literals_of cs) f n k | inr k ↦ names_right c (literals_of cs) f n (r.0 k) ],
  λ h. elim (names_either c (literals_of cs) f n h) [ inl k ↦ inl k | inr k ↦ inr (r.1 k) ],
)

-- what a diagram names, its literals name
pub tree_names : (t : Tree) (f : Field) (n : ℕ) → TreeNames t f n ↔ NamesAt (literals t) f n
tree_names (Leaf cs) f n = copies_name cs f n
tree_names (Node l t e) f n = let x = tree_names t f n in let y = tree_names e f n in (
  λ h. elim h [
    | inl k ↦ inl k
    | inr k ↦ inr (elim k [ inl w ↦ names_left (literals t) (literals e) f n (x.0 w) | inr w ↦ names_right (literals t) (literals e) f n (y.0 w) ])
  ],
  λ h. elim h [
    | inl k ↦ inl k
    | inr k ↦ inr (elim (names_either (literals t) (literals e) f n k) [ inl w ↦ inl (x.1 w) | inr w ↦ inr (y.1 w) ])
  ],
)
