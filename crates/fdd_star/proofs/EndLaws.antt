-- Stars that are followed by an assignment of a field that the iterations leave alone.
use Rattle.std.proofs.Common.{◌≡◌, ℕ, zero, suc, inl, inr, refl, ap, sym, ◌∙◌, subst, List, [], ◌∷◌}
use Rattle.nk_values.specs.declared.field.Field.{Field}
use Rattle.nk_values.specs.declared.packet.Packet.{Packet}
use Rattle.nk_values.specs.declared.lit.Lit.{Lit}
use Rattle.nk_values.specs.Held.{Holds, put}
use Rattle.nk_values.specs.Lits.{lit_field, lit_value}
use Rattle.nk_values.specs.Members.{IsIn}
use Rattle.nk_values.specs.Packets.{get}
use Rattle.nk_values.proofs.PacketLaws.{get-with_other, get-with_same, field_cases, same_packet}
use Rattle.fdd_nodes.specs.Cells.{Agrees, cell_of, whole_cell}
use Rattle.fdd_nodes.specs.Trees.{Tree, leaf_at, apply, answers}
use Rattle.fdd_nodes.proofs.CellLaws.{agrees_with, open_agrees}
use Rattle.fdd_nodes.proofs.MakesLaws.{source, outcome, among_lists}
use Rattle.fdd_star.specs.Named.{NamesLit}
use Rattle.fdd_star.specs.Reaches.{HoldsAll, Misses, StarBut}
use Rattle.fdd_star.specs.Stars.{Iterates, AtMost, EndedStarOf, IsShallow}
use Rattle.fdd_star.proofs.FillLaws.{leaf_assigns}
use Rattle.fdd_star.proofs.FirstLaws.{apply_apart}
use Rattle.fdd_star.proofs.ShareLaws.{leaf_same, put_beside}

-- the literal alone, and its cell
pub held_alone : (c : Packet) (s : List Lit) (l : Lit) → c ≡ cell_of l → s ≡ l ∷ [] → HoldsAll c s
held_alone c s l cell copy m k =
    elim (subst (λ (x : List Lit). IsIn x m) copy k) [
      | inl e ↦ subst (Holds c) e (subst (λ (x : Packet). Holds x l) (sym cell) (get-with_same whole_cell (lit_field l) (lit_value l)))
      | inr n ↦ absurd n
    ]

-- a copy of other fields, and an assignment before it or after it
copy_put : (l : Lit) (c : List Lit) (x : Packet) → ((m : Lit) → IsIn c m → ¬ (lit_field m ≡ lit_field l)) → apply c (put l x) ≡ put l (apply c x)
copy_put l [] x n = refl
copy_put l (m ∷ c) x n = ap (apply c) (put_beside l m x (n m (inl refl))) ∙ copy_put l c (put m x) (λ k i. n k (inr i))

module _ (p : Tree) (l : Lit) (apart : (m : Lit) → NamesLit p m → ¬ (lit_field m ≡ lit_field l)) where
  same_leaf : (x : Packet) → leaf_at p x ≡ leaf_at p (put l x)
  same_leaf x = leaf_same p (lit_field l) x (put l x) (λ m k. apart m (inl k)) (λ g d. sym (get-with_other x (lit_field l) g (lit_value l) d))

  copy_apart : (x : Packet) (c : List Lit) → IsIn (leaf_at p x) c → (m : Lit) → IsIn c m → ¬ (lit_field m ≡ lit_field l)
  copy_apart x c k m i = apart m (inr (leaf_assigns p x m (among_lists (leaf_at p x) c m k i)))

  answer_put : (x z : Packet) → IsIn (answers p x) z → IsIn (answers p (put l x)) (put l z)
  answer_put x z k =
      let o = source (leaf_at p x) x z k in
      let among = subst (λ (cs : List (List Lit)). IsIn cs o.copy) (same_leaf x) o.among in
      subst (IsIn (answers p (put l x))) (copy_put l o.copy x (copy_apart x o.copy o.among) ∙ ap (put l) o.makes) (outcome (leaf_at p (put l x)) o.copy (put l x) among)

  put_answer : (x z : Packet) → IsIn (answers p (put l x)) z → (q : Packet) × IsIn (answers p x) q × (z ≡ put l q)
  put_answer x z k =
      let o = source (leaf_at p (put l x)) (put l x) z k in
      let among = subst (λ (cs : List (List Lit)). IsIn cs o.copy) (sym (same_leaf x)) o.among in
      (apply o.copy x, outcome (leaf_at p x) o.copy x among, sym o.makes ∙ copy_put l o.copy x (copy_apart x o.copy among))

  -- iterations stay with the assignment before them
  turns_put : (n : ℕ) (x z : Packet) → Iterates p n x z → Iterates p n (put l x) (put l z)
  turns_put zero x z k = ap (put l) k
  turns_put (suc n) x z k = (put l k.0, answer_put x k.0 k.1, turns_put n k.0 z k.2)

  put_turns : (n : ℕ) (x z : Packet) → Iterates p n (put l x) z → (q : Packet) × Iterates p n x q × (z ≡ put l q)
  put_turns zero x z k = (x, refl, sym k)
  put_turns (suc n) x z k =
      let a = put_answer x k.0 k.1 in
      let b = put_turns n a.0 z (subst (λ (y : Packet). Iterates p n y z) a.2 k.2) in
      (b.0, (a.0, a.1, b.1), b.2)

  -- and leave the field alone
  turns_keep : (n : ℕ) (x z : Packet) → Iterates p n x z → get z (lit_field l) ≡ get x (lit_field l)
  turns_keep zero x z k = ap (λ (y : Packet). get y (lit_field l)) (sym k)
  turns_keep (suc n) x z k =
      let o = source (leaf_at p x) x k.0 k.1 in
      turns_keep n k.0 z k.2 ∙ ap (λ (y : Packet). get y (lit_field l)) (sym o.makes) ∙ apply_apart o.copy x (lit_field l) (copy_apart x o.copy o.among)

  once : (x y : Packet) → get x (lit_field l) ≡ get y (lit_field l) → put l x ≡ put l y → x ≡ y
  once x y e w = same_packet x y (λ f. elim (field_cases (lit_field l) f) [
    | inl s ↦ subst (λ (g : Field). get x g ≡ get y g) s e
    | inr d ↦ sym (get-with_other x (lit_field l) f (lit_value l) d) ∙ ap (λ (z : Packet). get z f) w ∙ get-with_other y (lit_field l) f (lit_value l) d
  ])

  module _ (c : Packet) (s ls : List Lit) (r : Tree) (copy : s ≡ l ∷ []) (cell : c ≡ cell_of l) (none : ls ≡ []) (h : StarBut s p c ls r) where
    inside : (pk : Packet) → Agrees c (put l pk)
    inside pk = subst (λ (x : Packet). Agrees x (put l pk)) (sym cell) (agrees_with whole_cell (put l pk) l (get-with_same pk (lit_field l) (lit_value l)) (open_agrees (put l pk)))

    misses : (pk : Packet) → Misses c ls pk
    misses pk m i o k = subst (λ (xs : List Lit). IsIn xs m) none i

    first : (pk : Packet) → apply s pk ≡ put l pk
    first pk = ap (λ (x : List Lit). apply x pk) copy

    made : (pk out : Packet) → IsIn (answers r pk) out → (q : Packet) × AtMost p 512 pk q × (out ≡ put l q)
    made pk out k =
        let i = subst (λ (x : Packet). IsIn (answers r x) out) (first pk) ((h.first pk).front out k) in
        let w = h.made (put l pk) out (inside pk) (misses (put l pk)) i in
        let b = put_turns w.0 pk out w.2 in
        (b.0, (w.0, w.1, b.1), b.2)

    all : (n : ℕ) (pk q : Packet) → Iterates p n pk q → IsIn (answers r pk) (put l q)
    all n pk q k =
        let i = h.all n (put l pk) (put l q) (inside pk) (misses (put l pk)) (turns_put n pk q k) in
        (h.first pk).back (put l q) (subst (λ (x : Packet). IsIn (answers r x) (put l q)) (sym (first pk)) i)

    shallow : IsShallow p
    shallow pk out d =
        let w = made pk (put l out) (all d.made.0 pk out d.made.2) in
        let e = once out w.0 (turns_keep d.made.0 pk out d.made.2 ∙ sym (turns_keep w.1.0 pk w.0 w.1.2)) w.2 in
        d.late (w.1.0, w.1.1, subst (Iterates p w.1.0 pk) (sym e) w.1.2)

    pub ended_star_of : EndedStarOf p l r
    ended_star_of = record {
      made = made;
      all = λ n pk q _ k. all n pk q k;
      normal = h.normal;
      tests = h.names.tests;
      assigns = λ m k. elim (h.names.assigns m k) [
        | inl w ↦ elim (subst (λ (x : List Lit). IsIn x m) copy w) [ inl e ↦ inl e | inr n ↦ absurd n ]
        | inr w ↦ inr w
      ];
      shallow = shallow;
    }
