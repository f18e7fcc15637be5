-- Copies that come first.
use Rattle.std.proofs.Common.{◌≡◌, inl, inr, refl, ap, sym, ◌∙◌, subst, List, [], ◌∷◌}
use Rattle.nk_values.specs.declared.field.Field.{Field}
use Rattle.nk_values.specs.declared.packet.Packet.{Packet}
use Rattle.nk_values.specs.declared.lit.Lit.{Lit}
use Rattle.nk_values.specs.Held.{Holds, put}
use Rattle.nk_values.specs.Lits.{lit_field, lit_value}
use Rattle.nk_values.specs.Members.{IsIn}
use Rattle.nk_values.specs.Packets.{get}
use Rattle.nk_values.proofs.PacketLaws.{get-with_same, get-with_other, same_packet, field_cases}
use Rattle.fdd_nodes.specs.Cells.{IsUnset}
use Rattle.fdd_nodes.specs.Trees.{apply}
use Rattle.fdd_nodes.proofs.CellLaws.{lit_not_free}
use Rattle.fdd_star.specs.Reaches.{Follows, HoldsAll}

-- a packet stays if it holds what is put into it

pub put_held : (j : Lit) (x : Packet) → Holds x j → put j x ≡ x
put_held j x h = same_packet _ _ (λ f. elim (field_cases (lit_field j) f) [
  | inl s ↦ subst (λ (g : Field). get (put j x) g ≡ get x g) s (get-with_same x (lit_field j) (lit_value j) ∙ sym h)
  | inr d ↦ get-with_other x (lit_field j) f (lit_value j) d
])

pub apply_held : (s : List Lit) (c : Packet) → HoldsAll c s → apply s c ≡ c
apply_held [] c h = refl
apply_held (l ∷ s) c h = ap (apply s) (put_held l c (h l (inl refl))) ∙ apply_held s c (λ m k. h m (inr k))

-- literals that one packet holds do not undo one another

keeps_held : (s : List Lit) (c pk : Packet) (m : Lit) → HoldsAll c s → Holds c m → Holds pk m → Holds (apply s pk) m
keeps_held [] c pk m h hc k = k
keeps_held (l ∷ s) c pk m h hc k = keeps_held s c (put l pk) m (λ n i. h n (inr i)) hc (elim (field_cases (lit_field l) (lit_field m)) [
  | inl e ↦ sym (ap (get (put l pk)) e) ∙ get-with_same pk (lit_field l) (lit_value l) ∙ sym (h l (inl refl)) ∙ ap (get c) e ∙ hc
  | inr d ↦ get-with_other pk (lit_field l) (lit_field m) (lit_value l) d ∙ k
])

makes_held : (s : List Lit) (c pk : Packet) → HoldsAll c s → HoldsAll (apply s pk) s
makes_held [] c pk h m k = absurd k
makes_held (l ∷ s) c pk h m k =
    let rest : HoldsAll c s = λ n i. h n (inr i) in
    elim k [
      | inl e ↦ subst (Holds (apply s (put l pk))) e (keeps_held s c (put l pk) l rest (h l (inl refl)) (get-with_same pk (lit_field l) (lit_value l)))
      | inr i ↦ makes_held s c (put l pk) rest m i
    ]

pub first_follows : (s : List Lit) (c : Packet) → HoldsAll c s → Follows s s
first_follows s c h pk = apply_held s (apply s pk) (makes_held s c pk h)

-- a field that the cell leaves open is none of theirs

pub held_apart : (s : List Lit) (c : Packet) (f : Field) → HoldsAll c s → IsUnset c f → (m : Lit) → IsIn s m → ¬ (lit_field m ≡ f)
held_apart s c f h o m k e = lit_not_free m (sym (h m k) ∙ ap (get c) e ∙ o)

pub held_within : (s : List Lit) (c : Packet) (l : Lit) → HoldsAll c s → IsUnset c (lit_field l) → HoldsAll (put l c) s
held_within s c l h o m k = get-with_other c (lit_field l) (lit_field m) (lit_value l) (λ e. held_apart s c (lit_field l) h o m k (sym e)) ∙ h m k

pub apply_apart : (s : List Lit) (pk : Packet) (f : Field) → ((m : Lit) → IsIn s m → ¬ (lit_field m ≡ f)) → get (apply s pk) f ≡ get pk f
apply_apart [] pk f n = refl
apply_apart (l ∷ s) pk f n = apply_apart s (put l pk) f (λ m k. n m (inr k)) ∙ get-with_other pk (lit_field l) f (lit_value l) (n l (inl refl))
