-- What a diagram makes of a cell's packet, and of the packets in the cell.
use Rattle.std.proofs.Common.{◌≡◌, ◌≢◌, ℕ, zero, suc, ◌⊎◌, inl, inr, refl, ap, sym, ◌∙◌, subst, List, [], ◌∷◌}
use Rattle.std.proofs.lemmas.Bool.Decides.{eqb_tells}
use Rattle.nk_values.specs.declared.field.Field.{Field}
use Rattle.nk_values.specs.declared.packet.Packet.{Packet}
use Rattle.nk_values.specs.declared.lit.Lit.{Lit}
use Rattle.nk_values.specs.Held.{Holds, put}
use Rattle.nk_values.specs.Lits.{lit_field, lit_value}
use Rattle.nk_values.specs.Members.{IsIn}
use Rattle.nk_values.specs.Packets.{get}
use Rattle.nk_values.proofs.PacketLaws.{get-with_same, get-with_other, field_cases, same_packet}
use Rattle.fdd_nodes.specs.Trees.{Tree, Leaf, Node, leaf_at, apply, answers, IsSetBy, Tests, Assigns}
use Rattle.fdd_nodes.specs.Cells.{Agrees, IsFresh, fill, IsUnset}
use Rattle.fdd_nodes.proofs.CellLaws.{tells_open, lit_not_free, fill_fixed, fill_open}
use Rattle.fdd_nodes.proofs.MakesLaws.{source, outcome, among_lists}
use Rattle.fdd_nodes.proofs.SplitLaws.{leaf_at-then, leaf_at-else}
use Rattle.fdd_star.specs.Asks.{Asks}
use Rattle.fdd_star.specs.Stars.{Iterates}

-- a packet of the cell, filled into the cell's, is itself
pub fill_agrees : (c pk : Packet) → Agrees c pk → fill c pk ≡ pk
fill_agrees c pk h = same_packet (fill c pk) pk (λ f. elim (tells_open c f) [
  | inl y ↦ fill_open c pk f y.1
  | inr n ↦ fill_fixed c pk f n.1 ∙ sym (h.at f n.1)
])

-- an assignment comes before or after filling
put_fill : (l : Lit) (q pk : Packet) → put l (fill q pk) ≡ fill (put l q) pk
put_fill l q pk = same_packet (put l (fill q pk)) (fill (put l q) pk) (λ f. elim (field_cases (lit_field l) f) [
  | inl e ↦
      let s = get-with_same q (lit_field l) (lit_value l) in
      subst (λ (g : Field). get (put l (fill q pk)) g ≡ get (fill (put l q) pk) g) e
      (get-with_same (fill q pk) (lit_field l) (lit_value l) ∙ sym s ∙ sym (fill_fixed (put l q) pk (lit_field l) (λ z. lit_not_free l (sym s ∙ z))))
  | inr d ↦
      let s = get-with_other q (lit_field l) f (lit_value l) d in
      get-with_other (fill q pk) (lit_field l) f (lit_value l) d ∙ elim (tells_open q f) [
        | inl y ↦ fill_open q pk f y.1 ∙ sym (fill_open (put l q) pk f (s ∙ y.1))
        | inr n ↦ fill_fixed q pk f n.1 ∙ sym s ∙ sym (fill_fixed (put l q) pk f (λ z. n.1 (sym s ∙ z)))
      ]
])

pub apply_fill : (x : List Lit) (q pk : Packet) → apply x (fill q pk) ≡ fill (apply x q) pk
apply_fill [] q pk = refl
apply_fill (l ∷ x) q pk = ap (apply x) (put_fill l q pk) ∙ apply_fill x (put l q) pk

-- the packet holds nothing that is asked of q
abbrev pub Escapes : Tree → Packet → Packet → Type 0
Escapes t q pk = (m : Lit) → Asks t q m → ¬ Holds pk m

-- such a packet comes to the same leaf
leaf_fill : (t : Tree) (q pk : Packet) → Escapes t q pk → leaf_at t (fill q pk) ≡ leaf_at t q
leaf_fill (Leaf cs) q pk h = refl
leaf_fill (Node l t e) q pk h = elim (tells_open q (lit_field l)) [
  | inl y ↦
      let out : ¬ Holds q l = λ z. lit_not_free l (sym z ∙ y.1) in
      let away : ¬ Holds (fill q pk) l = λ z. h l (inl (y.1, refl)) (sym (fill_open q pk (lit_field l) y.1) ∙ z) in
      leaf_at-else l t e (fill q pk) away ∙ leaf_fill e q pk (λ m k. h m (inr (inr (out, k)))) ∙ sym (leaf_at-else l t e q out)
  | inr n ↦ elim (eqb_tells (get q (lit_field l)) (lit_value l)) [
    | inl z ↦ leaf_at-then l t e (fill q pk) (fill_fixed q pk (lit_field l) n.1 ∙ z.1) ∙ leaf_fill t q pk (λ m k. h m (inr (inl (z.1, k)))) ∙ sym (leaf_at-then l t e q z.1)
    | inr z ↦
        leaf_at-else l t e (fill q pk) (λ w. z.1 (sym (fill_fixed q pk (lit_field l) n.1) ∙ w)) ∙ leaf_fill e q pk (λ m k. h m (inr (inr (z.1, k)))) ∙ sym (leaf_at-else l t e q z.1)
  ]
]

-- and its answers are those to q, filled
answer_filled : (t : Tree) (q r pk : Packet) → Escapes t q pk → IsIn (answers t q) r → IsIn (answers t (fill q pk)) (fill r pk)
answer_filled t q r pk h k =
    let s = source (leaf_at t q) q r k in
    let among = subst (λ (cs : List (List Lit)). IsIn cs s.copy) (sym (leaf_fill t q pk h)) s.among in
    subst (IsIn (answers t (fill q pk))) (apply_fill s.copy q pk ∙ ap (λ z. fill z pk) s.makes) (outcome (leaf_at t (fill q pk)) s.copy (fill q pk) among)

filled_answer : (t : Tree) (q z pk : Packet) → Escapes t q pk → IsIn (answers t (fill q pk)) z → (r : Packet) × IsIn (answers t q) r × (fill r pk ≡ z)
filled_answer t q z pk h k =
    let s = source (leaf_at t (fill q pk)) (fill q pk) z k in
    let among = subst (λ (cs : List (List Lit)). IsIn cs s.copy) (leaf_fill t q pk h) s.among in
    (apply s.copy q, outcome (leaf_at t q) s.copy q among, sym (apply_fill s.copy q pk) ∙ s.makes)

-- the packet holds nothing that is asked of any packet which iterations reach from q
abbrev pub EscapesAll : Tree → Packet → Packet → Type 0
EscapesAll t q pk = (n : ℕ) (r : Packet) → Iterates t n q r → Escapes t r pk

escapes_next : (t : Tree) (q r pk : Packet) → EscapesAll t q pk → IsIn (answers t q) r → EscapesAll t r pk
escapes_next t q r pk h k n s w = h (suc n) s (r, k, w)

-- iterations from q are iterations from what is filled into q
pub turns_filled : (t : Tree) (n : ℕ) (q r pk : Packet) → EscapesAll t q pk → Iterates t n q r → Iterates t n (fill q pk) (fill r pk)
turns_filled t zero q r pk h k = ap (λ z. fill z pk) k
turns_filled t (suc n) q r pk h k = (fill k.0 pk, answer_filled t q k.0 pk (h 0 q refl) k.1, turns_filled t n k.0 r pk (escapes_next t q k.0 pk h k.1) k.2)

pub filled_turns : (t : Tree) (n : ℕ) (q z pk : Packet) → EscapesAll t q pk → Iterates t n (fill q pk) z → (r : Packet) × Iterates t n q r × (fill r pk ≡ z)
filled_turns t zero q z pk h k = (q, refl, k)
filled_turns t (suc n) q z pk h k =
    let a = filled_answer t q k.0 pk (h 0 q refl) k.1 in
    let b = filled_turns t n a.0 z pk (escapes_next t q a.0 pk h a.1) (subst (λ (y : Packet). Iterates t n y z) (sym a.2) k.2) in
    (b.0, (a.0, a.1, b.1), b.2)

-- what is asked is tested
pub asks_tests : (t : Tree) (q : Packet) (m : Lit) → Asks t q m → Tests t m
asks_tests (Leaf cs) q m h = absurd h
asks_tests (Node l t e) q m h = elim h [
  | inl k ↦ inl k.1
  | inr k ↦ elim k [ inl w ↦ inr (inl (asks_tests t q m w.1)) | inr w ↦ inr (inr (asks_tests e q m w.1)) ]
]

-- and of a field that nothing fixes
pub asks_free : (t : Tree) (q : Packet) (m : Lit) → Asks t q m → IsUnset q (lit_field m)
asks_free (Leaf cs) q m h = absurd h
asks_free (Node l t e) q m h = elim h [
  | inl k ↦ subst (λ (x : Lit). IsUnset q (lit_field x)) k.1 k.0
  | inr k ↦ elim k [ inl w ↦ asks_free t q m w.1 | inr w ↦ asks_free e q m w.1 ]
]

-- what iterations leave as it was in a field, or assign
abbrev Keeps : Tree → Packet → Packet → Field → Type 0
Keeps t q r f = (get r f ≡ get q f) ⊎ ((m : Lit) × Assigns t m × (lit_field m ≡ f) × (get r f ≡ lit_value m))

-- what an answer holds in a field
applied : (x : List Lit) (q : Packet) (f : Field) → (get (apply x q) f ≡ get q f) ⊎ ((m : Lit) × IsIn x m × (lit_field m ≡ f) × (get (apply x q) f ≡ lit_value m))
applied [] q f = inl refl
applied (l ∷ x) q f = elim (applied x (put l q) f) [
  | inl e ↦ elim (field_cases (lit_field l) f) [
    | inl y ↦ inr (l, inl refl, y, e ∙ subst (λ (g : Field). get (put l q) g ≡ lit_value l) y (get-with_same q (lit_field l) (lit_value l)))
    | inr d ↦ inl (e ∙ get-with_other q (lit_field l) f (lit_value l) d)
  ]
  | inr w ↦ inr (w.0, inr w.1, w.2, w.3)
]

pub leaf_assigns : (t : Tree) (q : Packet) (m : Lit) → IsSetBy (leaf_at t q) m → Assigns t m
leaf_assigns (Leaf cs) q m h = h
leaf_assigns (Node l t e) q m h = elim (eqb_tells (get q (lit_field l)) (lit_value l)) [
  | inl y ↦ inl (leaf_assigns t q m (subst (λ (cs : List (List Lit)). IsSetBy cs m) (leaf_at-then l t e q y.1) h))
  | inr n ↦ inr (leaf_assigns e q m (subst (λ (cs : List (List Lit)). IsSetBy cs m) (leaf_at-else l t e q n.1) h))
]

keeps_answer : (t : Tree) (q r : Packet) → IsIn (answers t q) r → (f : Field) → Keeps t q r f
keeps_answer t q r h f =
    let s = source (leaf_at t q) q r h in
    elim (applied s.copy q f) [
      | inl e ↦ inl (ap (λ z. get z f) (sym s.makes) ∙ e)
      | inr w ↦ inr (w.0, leaf_assigns t q w.0 (among_lists (leaf_at t q) s.copy w.0 s.among w.1), w.2, ap (λ z. get z f) (sym s.makes) ∙ w.3)
    ]

keeps_turns : (t : Tree) (n : ℕ) (q r : Packet) → Iterates t n q r → (f : Field) → Keeps t q r f
keeps_turns t zero q r h f = inl (ap (λ z. get z f) (sym h))
keeps_turns t (suc n) q r h f = elim (keeps_turns t n h.0 r h.2 f) [
  | inl e ↦ elim (keeps_answer t q h.0 h.1 f) [
    | inl d ↦ inl (e ∙ d)
    | inr w ↦ inr (w.0, w.1, w.2, e ∙ w.3)
  ]
  | inr w ↦ inr w
]

-- iterations leave no field open that was fixed
pub turns_free : (t : Tree) (n : ℕ) (q r : Packet) → Iterates t n q r → (f : Field) → IsUnset r f → IsUnset q f
turns_free t n q r h f y = elim (keeps_turns t n q r h f) [
  | inl e ↦ sym e ∙ y
  | inr w ↦ absurd (lit_not_free w.0 (sym w.3 ∙ y))
]

-- what a fresh packet holds is not what iterations put into a field that other iterations leave open
told_apart : (t : Tree) (n k : ℕ) (q r s g : Packet) (f : Field) → IsFresh g t → Iterates t n q r → Iterates t k q s → IsUnset r f → ¬ IsUnset s f → get g f ≢ get s f
told_apart t n k q r s g f fresh hr hs y z e = elim (keeps_turns t k q s hs f) [
  | inl d ↦ z (d ∙ turns_free t n q r hr f y)
  | inr w ↦ fresh.assigned w.0 w.1 (ap (λ h. get g h) w.2 ∙ e ∙ w.3)
]

-- filled with a fresh packet, different packets that iterations reach are different
pub filled_once : (t : Tree) (n k : ℕ) (q r s g : Packet) → IsFresh g t → Iterates t n q r → Iterates t k q s → fill r g ≡ fill s g → r ≡ s
filled_once t n k q r s g fresh hr hs e = same_packet r s (λ f.
    let ef : get (fill r g) f ≡ get (fill s g) f = ap (λ z. get z f) e in
    elim (tells_open r f) [
      | inl y ↦ elim (tells_open s f) [
        | inl z ↦ y.1 ∙ sym z.1
        | inr z ↦ absurd (told_apart t n k q r s g f fresh hr hs y.1 z.1 (sym (fill_open r g f y.1) ∙ ef ∙ fill_fixed s g f z.1))
      ]
      | inr y ↦ elim (tells_open s f) [
        | inl z ↦ absurd (told_apart t k n q s r g f fresh hs hr z.1 y.1 (sym (fill_open s g f z.1) ∙ sym ef ∙ fill_fixed r g f y.1))
        | inr z ↦ sym (fill_fixed r g f y.1) ∙ ef ∙ fill_fixed s g f z.1
      ]
    ])

-- a fresh packet holds nothing that is asked
pub fresh_escapes : (t : Tree) (q g : Packet) → IsFresh g t → EscapesAll t q g
fresh_escapes t q g fresh n r h m k = fresh.tested m (asks_tests t r m k)
