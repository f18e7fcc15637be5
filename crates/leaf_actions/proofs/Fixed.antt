-- What cells fix, and what copies make of them.
use Rattle.std.proofs.Common.{◌≡◌, ◌≢◌, ℕ, inl, inr, refl, ap, sym, ◌∙◌, subst, cond, Bool, true, false, ◌==◌, List, [], ◌∷◌}
use Rattle.std.proofs.lemmas.Bool.{ne_eqb, eqb-false}
use Rattle.nk_values.specs.declared.field.Field.{Field}
use Rattle.nk_values.specs.declared.field.Field.TheVariants.{EthTyp, IpProto}
use Rattle.nk_values.specs.declared.packet.Packet.{Packet}
use Rattle.nk_values.specs.declared.lit.Lit.{Lit}
use Rattle.nk_values.specs.Held.{Holds, put}
use Rattle.nk_values.specs.Lits.{lit_field, lit_value}
use Rattle.nk_values.specs.Members.{IsIn}
use Rattle.nk_values.specs.Packets.{get}
use Rattle.nk_values.specs.Ranges.{IsValue}
use Rattle.nk_values.proofs.LitLaws.{lit_is_value}
use Rattle.nk_values.proofs.PacketLaws.{get-with_same, get-with_other, field_cases, same_packet}
use Rattle.fdd_nodes.specs.Cells.{unset, whole_cell, Agrees, fill, pick, IsValid}
use Rattle.fdd_nodes.specs.Paths.{Way, IsOnPath, cell_on}
use Rattle.fdd_nodes.specs.Trees.{apply}
use Rattle.fdd_nodes.proofs.CellLaws.{lit_not_free, agrees_with, open_agrees, open_valid, get-fill}
use Rattle.nk_values.specs.Acts.{IsSettable}
use Rattle.leaf_actions.specs.Settable.{CopyCanBeSet}

-- what is fixed by a copy is in range, if what was fixed before is
valid_put : (l : Lit) (x : Packet) → IsValid x → IsValid (put l x)
valid_put l x v = record {
  at = λ f n. elim (field_cases (lit_field l) f) [
    | inl e ↦ subst (λ (g : Field). IsValue g (get (put l x) g)) e (subst (λ (m : ℕ). IsValue (lit_field l) m) (sym (get-with_same x (lit_field l) (lit_value l))) (lit_is_value l))
    | inr o ↦ let e = get-with_other x (lit_field l) f (lit_value l) o in subst (λ (m : ℕ). IsValue f m) (sym e) (v.at f (λ k. n (e ∙ k)))
  ];
}

pub valid_apply : (c : List Lit) (x : Packet) → IsValid x → IsValid (apply c x)
valid_apply [] x v = v
valid_apply (l ∷ c) x v = valid_apply c (put l x) (valid_put l x v)

pub fixed_valid : (w : Way) → IsValid (cell_on w)
fixed_valid w = valid_apply w.trues whole_cell open_valid

-- no copy opens what is fixed
fixed_put : (l : Lit) (x : Packet) (f : Field) → get x f ≢ unset → get (put l x) f ≢ unset
fixed_put l x f h = elim (field_cases (lit_field l) f) [
  | inl e ↦ λ k. lit_not_free l (sym (get-with_same x (lit_field l) (lit_value l)) ∙ ap (get (put l x)) e ∙ k)
  | inr o ↦ λ k. h (sym (get-with_other x (lit_field l) f (lit_value l) o) ∙ k)
]

pub fixed_apply : (c : List Lit) (x : Packet) (f : Field) → get x f ≢ unset → get (apply c x) f ≢ unset
fixed_apply [] x f h = h
fixed_apply (l ∷ c) x f h = fixed_apply c (put l x) f (fixed_put l x f h)

-- a packet of the path is in the cell that it fixes
agrees_apply : (ls : List Lit) (x p : Packet) → ((l : Lit) → IsIn ls l → Holds p l) → Agrees x p → Agrees (apply ls x) p
agrees_apply [] x p h a = a
agrees_apply (l ∷ ls) x p h a = agrees_apply ls (put l x) p (λ m k. h m (inr k)) (agrees_with x p l (h l (inl refl)) a)

pub fixed_agrees : (w : Way) (p : Packet) → IsOnPath w p → Agrees (cell_on w) p
fixed_agrees w p h = agrees_apply w.trues whole_cell p h.holds (open_agrees p)

-- what a copy makes of a field depends on that field alone
pub apply_at : (c : List Lit) (p q : Packet) (f : Field) → get p f ≡ get q f → get (apply c p) f ≡ get (apply c q) f
apply_at [] p q f e = e
apply_at (l ∷ c) p q f e = apply_at c (put l p) (put l q) f (elim (field_cases (lit_field l) f) [
  | inl k ↦ subst (λ (g : Field). get (put l p) g ≡ get (put l q) g) k (get-with_same p (lit_field l) (lit_value l) ∙ sym (get-with_same q (lit_field l) (lit_value l)))
  | inr o ↦ get-with_other p (lit_field l) f (lit_value l) o ∙ e ∙ sym (get-with_other q (lit_field l) f (lit_value l) o)
])

pub pick_fixed : (m n : ℕ) → m ≢ unset → pick m n ≡ m
pick_fixed m n h = ap (λ b. cond b n m) (ne_eqb _ _ h)

fill_put : (l : Lit) (x p : Packet) → fill (put l x) p ≡ put l (fill x p)
fill_put l x p = same_packet (fill (put l x) p) (put l (fill x p)) (λ f. get-fill (put l x) p f ∙ (elim (field_cases (lit_field l) f) [
  | inl e ↦ subst (λ (g : Field). pick (get (put l x) g) (get p g) ≡ get (put l (fill x p)) g) e
      (ap (λ n. pick n (get p (lit_field l))) (get-with_same x (lit_field l) (lit_value l)) ∙ pick_fixed (lit_value l) (get p (lit_field l)) (lit_not_free l) ∙ sym (get-with_same (fill x p) (lit_field l) (lit_value l)))
  | inr o ↦ ap (λ n. pick n (get p f)) (get-with_other x (lit_field l) f (lit_value l) o) ∙ sym (get-fill x p f) ∙ sym (get-with_other (fill x p) (lit_field l) f (lit_value l) o)
]))

pub fill_apply : (c : List Lit) (x p : Packet) → fill (apply c x) p ≡ apply c (fill x p)
fill_apply [] x p = refl
fill_apply (l ∷ c) x p = fill_apply c (put l x) p ∙ ap (apply c) (fill_put l x p)

picked : (m n : ℕ) → (m ≢ unset → n ≡ m) → pick m n ≡ n
picked m n h = decided (m == unset) refl
  where
    decided : (b : Bool) → (m == unset) ≡ b → pick m n ≡ n
    decided true e = ap (λ b. cond b n m) e
    decided false e = ap (λ b. cond b n m) e ∙ sym (h (eqb-false _ _ e))

pub fill_own : (x p : Packet) → Agrees x p → fill x p ≡ p
fill_own x p a = same_packet (fill x p) p (λ f. get-fill x p f ∙ picked (get x f) (get p f) (a.at f))

-- a field that no settable copy sets
pub never_set : (c : List Lit) (x : Packet) (f : Field) → ((g : Field) → IsSettable g → g ≢ f) → CopyCanBeSet c → get (apply c x) f ≡ get x f
never_set [] x f h k = refl
never_set (l ∷ c) x f h k = never_set c (put l x) f h k.1 ∙ get-with_other x (lit_field l) f (lit_value l) (h (lit_field l) k.0)

pub not_typ : (g : Field) → IsSettable g → g ≢ EthTyp
not_typ g h e = subst IsSettable e h

pub not_proto : (g : Field) → IsSettable g → g ≢ IpProto
not_proto g h e = subst IsSettable e h
