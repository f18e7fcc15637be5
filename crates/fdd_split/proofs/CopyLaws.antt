-- What copies assign.
use Rattle.std.proofs.Common.{◌≡◌, ◌≢◌, ℕ, ◌+◌, ◌<◌, ◌⊎◌, inl, inr, refl, ap, sym, ◌∙◌, subst, arith, List, [], ◌∷◌, Bool, Some, None, if◌then◌else◌}
use Rattle.std.proofs.lemmas.Bool.Decides.{eqb_tells}
use Rattle.nk_values.specs.declared.field.Field.{Field}
use Rattle.nk_values.specs.declared.packet.Packet.{Packet}
use Rattle.nk_values.specs.declared.lit.Lit.{Lit}
use Rattle.nk_values.specs.Held.{Holds, put}
use Rattle.nk_values.specs.Lits.{lit_field, lit_value}
use Rattle.nk_values.specs.Members.{IsIn}
use Rattle.nk_values.specs.Packets.{get, with_value}
use Rattle.nk_values.specs.Ranges.{place}
use Rattle.nk_values.proofs.LitLaws.{same_lit}
use Rattle.nk_values.proofs.PacketLaws.{get-with_same, get-with_other, same_packet, same_field, field_cases}
use Rattle.fdd_nodes.specs.Trees.{apply}
use Rattle.fdd_nodes.specs.Cells.{unset}
use Rattle.fdd_nodes.specs.Copies.{IsCopy, IsCopyFrom, assigned}
use Rattle.fdd_nodes.proofs.CellLaws.{lit_not_free}
use Rattle.fdd_store.specs.Digests.{IsFieldOf}
use Rattle.fdd_split.specs.Threats.{KeepsField, IsAlone}

pub leaves_more : (l : Lit) (c : List Lit) (f : Field) → lit_field l ≢ f → KeepsField c f → KeepsField (l ∷ c) f
leaves_more l c f n h m (inl e) = subst (λ (x : Lit). lit_field x ≢ f) e n
leaves_more l c f n h m (inr k) = h m k

pub field_of : (c : List Lit) (f : Field) → IsFieldOf c f ⊎ KeepsField c f
field_of [] f = inr (λ m h. absurd h)
field_of (l ∷ c) f = elim (field_cases (lit_field l) f) [
  | inl e ↦ inl (record { lit = l; among = inl refl; field = e })
  | inr n ↦ elim (field_of c f) [
    | inl s ↦ inl (record { lit = s.lit; among = inr s.among; field = s.field })
    | inr h ↦ inr (leaves_more l c f n h)
  ]
]

pub assigned_at : (c : List Lit) (f : Field) → assigned c f ≢ None → IsFieldOf c f
assigned_at [] f n = absurd (n refl)
assigned_at (l ∷ c) f n = elim (eqb_tells (place (lit_field l)) (place f)) [
  | inl y ↦ record { lit = l; among = inl refl; field = same_field _ _ y.1 }
  | inr d ↦
      let r = assigned_at c f (λ e. n (subst (λ (b : Bool). (if b then Some (lit_value l) else assigned c f) ≡ None) (sym d.0) e)) in
      record { lit = r.lit; among = inr r.among; field = r.field }
]

pub leaves_value : (c : List Lit) (f : Field) (p : Packet) → KeepsField c f → get (apply c p) f ≡ get p f
leaves_value [] f p h = refl
leaves_value (l ∷ c) f p h =
    leaves_value c f (put l p) (λ m k. h m (inr k)) ∙ get-with_other p (lit_field l) f (lit_value l) (h l (inl refl))

pub behind_leaves : (l : Lit) (c : List Lit) (k : ℕ) → place (lit_field l) < k → IsCopyFrom k c → KeepsField c (lit_field l)
behind_leaves l [] k n o y h s = absurd h
behind_leaves l (m ∷ c) k n o y (inl e) s =
    let a : place (lit_field m) ≡ place (lit_field l) = ap (λ (z : Lit). place (lit_field z)) e ∙ ap place s in omega (arith, n, o.0, a)
behind_leaves l (m ∷ c) k n o y (inr h) s = behind_leaves l c (place (lit_field m) + 1) (omega (arith, n, o.0)) o.1 y h s

pub sets_value : (c : List Lit) (k : ℕ) (x : Lit) (p : Packet) → IsCopyFrom k c → IsIn c x → get (apply c p) (lit_field x) ≡ lit_value x
sets_value [] k x p o h = absurd h
sets_value (l ∷ c) k x p o (inl e) =
    subst (λ (y : Lit). get (apply c (put l p)) (lit_field y) ≡ lit_value y) e
    (leaves_value c (lit_field l) (put l p) (behind_leaves l c (place (lit_field l) + 1) (omega arith) o.1) ∙ get-with_same p (lit_field l) (lit_value l))
sets_value (l ∷ c) k x p o (inr h) = sets_value c (place (lit_field l) + 1) x (put l p) o.1 h

pub set_value : (c : List Lit) (f : Field) (s : IsFieldOf c f) (p : Packet) → IsCopy c → get (apply c p) f ≡ lit_value s.lit
set_value c f s p h = subst (λ (g : Field). get (apply c p) g ≡ lit_value s.lit) s.field (sets_value c 0 s.lit p h s.among)

-- a literal that just one of two copies assigns is held, where they make one packet
pub held : (c d : List Lit) (p : Packet) (x : Lit) → IsCopy c → IsCopy d → apply c p ≡ apply d p → IsAlone c d x → Holds p x
held c d p x hc hd e (inl a) =
    sym (leaves_value d (lit_field x) p a.1) ∙ sym (ap (λ q. get q (lit_field x)) e) ∙ sets_value c 0 x p hc a.0
held c d p x hc hd e (inr a) =
    sym (leaves_value c (lit_field x) p a.1) ∙ ap (λ q. get q (lit_field x)) e ∙ sets_value d 0 x p hd a.0

-- copies that make one packet of p make the same of q at a field, if q holds there what just one of them assigns
pub moved_at : (c d : List Lit) (p q : Packet) (f : Field) → IsCopy c → IsCopy d → apply c p ≡ apply d p → ((y : Lit) → IsAlone c d y → lit_field y ≡ f → Holds q y) → get (apply c q) f ≡ get (apply d q) f
moved_at c d p q f hc hd e m = elim (field_of c f) [
  | inl s ↦ elim (field_of d f) [
    | inl t ↦ set_value c f s q hc ∙ sym (set_value c f s p hc) ∙ ap (λ x. get x f) e ∙ set_value d f t p hd ∙ sym (set_value d f t q hd)
    | inr h ↦
        let a : IsAlone c d s.lit = inl (s.among, subst (λ (g : Field). KeepsField d g) (sym s.field) h) in
        set_value c f s q hc ∙ sym (subst (λ (g : Field). get q g ≡ lit_value s.lit) s.field (m s.lit a s.field)) ∙ sym (leaves_value d f q h)
  ]
  | inr g ↦ elim (field_of d f) [
    | inl t ↦
        let a : IsAlone c d t.lit = inr (t.among, subst (λ (x : Field). KeepsField c x) (sym t.field) g) in
        leaves_value c f q g ∙ subst (λ (x : Field). get q x ≡ lit_value t.lit) t.field (m t.lit a t.field) ∙ sym (set_value d f t q hd)
    | inr h ↦ leaves_value c f q g ∙ sym (leaves_value d f q h)
  ]
]

-- copies that make one packet of p make one of q, if q holds what just one of them assigns
pub moved : (c d : List Lit) (p q : Packet) → IsCopy c → IsCopy d → apply c p ≡ apply d p → ((y : Lit) → IsAlone c d y → Holds p y → Holds q y) → apply c q ≡ apply d q
moved c d p q hc hd e m = same_packet _ _ (λ f. moved_at c d p q f hc hd e (λ y a w. m y a (held c d p y hc hd e a)))

-- what a copy makes at a field depends on that field alone
pub local : (c : List Lit) (f : Field) (p q : Packet) → IsCopy c → get p f ≡ get q f → get (apply c p) f ≡ get (apply c q) f
local c f p q h e = elim (field_of c f) [
  | inl s ↦ set_value c f s p h ∙ sym (set_value c f s q h)
  | inr g ↦ leaves_value c f p g ∙ e ∙ sym (leaves_value c f q g)
]

-- a packet with another number in a field

pub holds_other : (p : Packet) (f : Field) (n : ℕ) (y : Lit) → f ≢ lit_field y → Holds p y → Holds (with_value p f n) y
holds_other p f n y d h = get-with_other p f (lit_field y) n d ∙ h

pub held_other : (p : Packet) (f : Field) (n : ℕ) (y : Lit) → f ≢ lit_field y → Holds (with_value p f n) y → Holds p y
held_other p f n y d h = sym (get-with_other p f (lit_field y) n d) ∙ h

pub not_free : (p : Packet) (f : Field) (y : Lit) → f ≡ lit_field y → ¬ Holds (with_value p f unset) y
not_free p f y e h = lit_not_free y (sym h ∙ ap (λ g. get (with_value p f unset) g) (sym e) ∙ get-with_same p f unset)

-- a packet holds one literal of a field
pub one_held : (p : Packet) (l m : Lit) → lit_field l ≡ lit_field m → Holds p l → Holds p m → l ≡ m
one_held p l m e h k = same_lit l m e (sym h ∙ ap (λ f. get p f) e ∙ k)

pub one_put : (p : Packet) (l m : Lit) → lit_field l ≡ lit_field m → Holds (put l p) m → l ≡ m
one_put p l m e k = one_held (put l p) l m e (get-with_same p (lit_field l) (lit_value l)) k
