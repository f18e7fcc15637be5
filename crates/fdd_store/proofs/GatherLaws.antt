-- Unions of leaves.
use Rattle.std.proofs.Common.{◌≡◌, ℕ, zero, suc, arith, ◌+◌, ◌<◌, inl, inr, refl, ap, sym, ◌∙◌, subst, List, [], ◌∷◌, ◌++◌, length, map, get_or, take}
use Rattle.std.proofs.lemmas.List.{take_more}
use Rattle.nk_values.specs.declared.lit.Lit.{Lit}
use Rattle.nk_values.specs.Lits.{lit_field}
use Rattle.nk_values.specs.Members.{IsIn, SameMembers}
use Rattle.nk_values.proofs.MemberLaws.{in-left, in-right, in-either}
use Rattle.fdd_nodes.specs.Roots.{IsLeaf}
use Rattle.fdd_nodes.specs.Trees.{Tree, Leaf, Node, answers, outcomes, Assigns}
use Rattle.fdd_nodes.proofs.CellLaws.{lit_not_free, get-open}
use Rattle.fdd_nodes.proofs.MakesLaws.{source, outcome, among_lists}
use Rattle.fdd_nodes.proofs.StripLaws.{holder}
use Rattle.fdd_store.specs.Looks.{AreLeaves, AreCopiesOf, leaf_copies}
use Rattle.fdd_store.specs.Operations.{LeavesOf}
use Rattle.fdd_store.specs.Stores.{Kept, tree_at}
use Rattle.fdd_store.proofs.FollowLaws.{in_map, from_map}

pub no_copies : (k : Kept) → AreCopiesOf k [] []
no_copies k = record { has = λ i h. absurd h; only = λ c h. absurd h }

copies_and : (k : Kept) (ids : List ℕ) (cs ds : List (List Lit)) (x : ℕ) → AreCopiesOf k ids cs → leaf_copies (tree_at k x) ≡ ds → AreCopiesOf k (ids ++ x ∷ []) (cs ++ ds)
copies_and k ids cs ds x h e = record {
  has = λ i m c n. elim (in-either ids (x ∷ []) i m) [
    | inl w ↦ in-left cs ds c (h.has i w c n)
    | inr w ↦ elim w [
      | inl s ↦ in-right cs ds c (subst (λ (xs : List (List Lit)). IsIn xs c) e (subst (λ (j : ℕ). IsIn (leaf_copies (tree_at k j)) c) (sym s) n))
      | inr b ↦ absurd b
    ]
  ];
  only = λ c n. elim (in-either cs ds c n) [
    | inl w ↦ let r = h.only c w in (r.0, in-left ids (x ∷ []) r.0 r.1, r.2)
    | inr w ↦ (x, in-right ids (x ∷ []) x (inl refl), subst (λ (xs : List (List Lit)). IsIn xs c) (sym e) w)
  ];
}

-- one leaf more
pub copies_more : (k : Kept) (ids : List ℕ) (i x : ℕ) (cs ds new : List (List Lit)) → i < length ids → x ≡ get_or ids i x → AreCopiesOf k (take i ids) cs → tree_at k x ≡ Leaf ds → new ≡ cs ++ ds → AreCopiesOf k (take (i + 1) ids) new
copies_more k ids i x cs ds new l ex h e n =
    let t : take (i + 1) ids ≡ take i ids ++ x ∷ [] = take_more ids i x l ∙ ap (λ (y : ℕ). take i ids ++ y ∷ []) (sym ex) in
    subst (λ (js : List ℕ). AreCopiesOf k js new) (sym t) (subst (AreCopiesOf k (take i ids ++ x ∷ [])) (sym n) (copies_and k (take i ids) cs ds x h (ap leaf_copies e)))

leaf_is : (t : Tree) → IsLeaf t → t ≡ Leaf (leaf_copies t)
leaf_is (Leaf cs) h = refl
leaf_is (Node l t e) h = absurd h

module _ (k : Kept) (ids : List ℕ) (cs ds : List (List Lit)) (leaves : AreLeaves k ids) (h : AreCopiesOf k ids cs) (s : SameMembers ds cs) where
  at : (i : ℕ) → IsIn ids i → tree_at k i ≡ Leaf (leaf_copies (tree_at k i))
  at i m = leaf_is (tree_at k i) (leaves i m).1

  leaf_union : LeavesOf (map (tree_at k) ids) (Leaf ds)
  leaf_union = record {
    answer = λ p q. (
      λ x.
          let o = source ds p q x in
          let w = h.only o.copy (s.front o.copy o.among) in
          record {
            diagram = tree_at k w.0;
            among = in_map (tree_at k) ids w.0 w.1;
            answered = subst (λ (t : Tree). IsIn (answers t p) q) (sym (at w.0 w.1)) (subst (IsIn (outcomes (leaf_copies (tree_at k w.0)) p)) o.makes (outcome (leaf_copies (tree_at k w.0)) o.copy p w.2));
          },
      λ x.
          let r = from_map (tree_at k) ids x.diagram x.among in
          let y = subst (λ (t : Tree). IsIn (answers t p) q) (sym r.2 ∙ at r.0 r.1) x.answered in
          let o = source (leaf_copies (tree_at k r.0)) p q y in
          subst (IsIn (outcomes ds p)) o.makes (outcome ds o.copy p (s.back o.copy (h.has r.0 r.1 o.copy o.among))),
    );
    normal = record { ordered = tt; respects = λ m x z. lit_not_free m (sym z ∙ get-open (lit_field m)); tight = tt };
    tests = λ m x. x;
    assigns = λ m x.
        let o = holder ds m x in
        let w = h.only o.copy (s.front o.copy o.among) in
        record {
          diagram = tree_at k w.0;
          among = in_map (tree_at k) ids w.0 w.1;
          assigned = subst (λ (t : Tree). Assigns t m) (sym (at w.0 w.1)) (among_lists (leaf_copies (tree_at k w.0)) o.copy m w.2 o.has);
        };
  }

  pub gathered_leaves : (r : Tree) → r ≡ Leaf ds → LeavesOf (map (tree_at k) ids) r
  gathered_leaves r e = subst (LeavesOf (map (tree_at k) ids)) (sym e) leaf_union

pub item_in : (ids : List ℕ) (i x : ℕ) → i < length ids → x ≡ get_or ids i x → IsIn ids x
item_in [] i x h e = absurd (omega (arith, h))
item_in (y ∷ ys) zero x h e = inl (sym e)
item_in (y ∷ ys) (suc i) x h e = inr (item_in ys i x (omega (arith, h)) e)
