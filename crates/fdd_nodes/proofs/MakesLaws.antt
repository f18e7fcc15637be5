-- What copies make of packets.
use Rattle.std.specs.Prelude.{IfOk, OnOk}
use Rattle.std.proofs.Common.{Result, Ok, Err, ◌≡◌, ◌≢◌, ℕ, ◌⊎◌, inl, inr, refl, ap, sym, ◌∙◌, subst, List, [], ◌∷◌}
use Rattle.nk_values.specs.declared.field.Field.{Field}
use Rattle.nk_values.specs.declared.packet.Packet.{Packet}
use Rattle.nk_values.specs.declared.lit.Lit.{Lit}
use Rattle.nk_values.specs.Held.{put}
use Rattle.nk_values.specs.Lits.{lit_field, lit_value}
use Rattle.nk_values.specs.Members.{IsIn}
use Rattle.nk_values.specs.Packets.{get}
use Rattle.nk_values.proofs.PacketLaws.{get-with_same, get-with_other, same_packet, field_cases}
use Rattle.fdd_nodes.specs.Trees.{apply, outcomes, SameAnswers, IsSetBy}
use Rattle.fdd_nodes.specs.Makes.{MakesAll}

-- a copy of the leaf that makes x of p
pub record Source (cs : List (List Lit)) (p x : Packet) : Type 0 where
  pub copy : List Lit
  pub among : IsIn cs copy
  pub makes : apply copy p ≡ x

pub source : (cs : List (List Lit)) (p x : Packet) → IsIn (outcomes cs p) x → Source cs p x
source [] p x h = absurd h
source (c ∷ cs) p x (inl e) = record { copy = c; among = inl refl; makes = e }
source (c ∷ cs) p x (inr h) =
    let s = source cs p x h in record { copy = s.copy; among = inr s.among; makes = s.makes }

pub outcome : (cs : List (List Lit)) (c : List Lit) (p : Packet) → IsIn cs c → IsIn (outcomes cs p) (apply c p)
outcome [] c p h = absurd h
outcome (d ∷ cs) c p (inl e) = inl (ap (λ x. apply x p) e)
outcome (d ∷ cs) c p (inr h) = inr (outcome cs c p h)

pub among_lists : (cs : List (List Lit)) (c : List Lit) (m : Lit) → IsIn cs c → IsIn c m → IsSetBy cs m
among_lists [] c m k h = absurd k
among_lists (d ∷ cs) c m (inl e) h = inl (subst (λ (x : List Lit). IsIn x m) (sym e) h)
among_lists (d ∷ cs) c m (inr k) h = inr (among_lists cs c m k h)

-- p has none of the copy's numbers at the field
abbrev pub Misses : List Lit → Field → ℕ → Type 0
Misses c f n = (m : Lit) → IsIn c m → lit_field m ≡ f → lit_value m ≢ n

-- what a copy makes of two packets at a field: either the copy sets it, in both, or leaves it, in both
pub record SetsAt (c : List Lit) (f : Field) (p q : Packet) : Type 0 where
  pub lit : Lit
  pub among : IsIn c lit
  pub field : lit_field lit ≡ f
  pub at_p : get (apply c p) f ≡ lit_value lit
  pub at_q : get (apply c q) f ≡ lit_value lit

pub at_field : (c : List Lit) (f : Field) (p q : Packet) → SetsAt c f p q ⊎ ((get (apply c p) f ≡ get p f) × (get (apply c q) f ≡ get q f))
at_field [] f p q = inr (refl, refl)
at_field (l ∷ c) f p q =
    elim (at_field c f (put l p) (put l q)) [
      | inl s ↦ inl (record { lit = s.lit; among = inr s.among; field = s.field; at_p = s.at_p; at_q = s.at_q })
      | inr s ↦ elim (field_cases (lit_field l) f) [
        | inl e ↦ inl (record {
          lit = l;
          among = inl refl;
          field = e;
          at_p = s.0 ∙ subst (λ (g : Field). get (put l p) g ≡ lit_value l) e (get-with_same p (lit_field l) (lit_value l));
          at_q = s.1 ∙ subst (λ (g : Field). get (put l q) g ≡ lit_value l) e (get-with_same q (lit_field l) (lit_value l));
        })
        | inr n ↦ inr (s.0 ∙ get-with_other p (lit_field l) f (lit_value l) n, s.1 ∙ get-with_other q (lit_field l) f (lit_value l) n)
      ]
    ]

-- where p and q differ, p has none of the numbers of c and d
abbrev pub Generic : List Lit → List Lit → Packet → Packet → Type 0
Generic c d p q = (f : Field) → (get p f ≡ get q f) ⊎ (Misses c f (get p f) × Misses d f (get p f))

transfer_at : (c d : List Lit) (p q : Packet) → Generic c d p q → apply c p ≡ apply d p → (f : Field) → get (apply c q) f ≡ get (apply d q) f
transfer_at c d p q g e f =
    let ef : get (apply c p) f ≡ get (apply d p) f = ap (λ x. get x f) e in
    elim (at_field c f p q) [
      | inl s ↦ elim (at_field d f p q) [
        | inl t ↦ s.at_q ∙ sym s.at_p ∙ ef ∙ t.at_p ∙ sym t.at_q
        | inr t ↦ elim (g f) [
          | inl same ↦ s.at_q ∙ sym s.at_p ∙ ef ∙ t.0 ∙ same ∙ sym t.1
          | inr miss ↦ absurd (miss.0 s.lit s.among s.field (sym s.at_p ∙ ef ∙ t.0))
        ]
      ]
      | inr s ↦ elim (at_field d f p q) [
        | inl t ↦ elim (g f) [
          | inl same ↦ s.1 ∙ sym same ∙ sym s.0 ∙ ef ∙ t.at_p ∙ sym t.at_q
          | inr miss ↦ absurd (miss.1 t.lit t.among t.field (sym t.at_p ∙ sym ef ∙ s.0))
        ]
        | inr t ↦ s.1 ∙ sym t.1
      ]
    ]

-- copies that make one packet of p make one of q
pub transfer : (c d : List Lit) (p q : Packet) → Generic c d p q → apply c p ≡ apply d p → apply c q ≡ apply d q
transfer c d p q g e = same_packet _ _ (transfer_at c d p q g e)

-- leaves that answer p alike answer q alike
pub same_outcomes_at : (cs ds : List (List Lit)) (p q : Packet) → ((c d : List Lit) → IsIn cs c → IsIn ds d → Generic c d p q) → SameAnswers (outcomes cs p) (outcomes ds p) → SameAnswers (outcomes cs q) (outcomes ds q)
same_outcomes_at cs ds p q g h = record {
  front = λ x k.
      let s = source cs q x k in
      let r = source ds p (apply s.copy p) (h.front _ (outcome cs s.copy p s.among)) in
      subst (λ (y : Packet). IsIn (outcomes ds q) y) (sym (transfer s.copy r.copy p q (g s.copy r.copy s.among r.among) (sym r.makes)) ∙ s.makes) (outcome ds r.copy q r.among);
  back = λ x k.
      let s = source ds q x k in
      let r = source cs p (apply s.copy p) (h.back _ (outcome ds s.copy p s.among)) in
      subst (λ (y : Packet). IsIn (outcomes cs q) y) (transfer r.copy s.copy p q (g r.copy s.copy r.among s.among) r.makes ∙ s.makes) (outcome cs r.copy q r.among);
}

pub makes_there : (cs ds : List (List Lit)) (p x : Packet) → MakesAll cs ds p → IsIn (outcomes cs p) x → IsIn (outcomes ds p) x
makes_there [] ds p x h k = absurd k
makes_there (c ∷ cs) ds p x h (inl e) = subst (λ (y : Packet). IsIn (outcomes ds p) y) e h.0
makes_there (c ∷ cs) ds p x h (inr k) = makes_there cs ds p x h.1 k

makes_of : (cs ds : List (List Lit)) (p : Packet) → ((x : Packet) → IsIn (outcomes cs p) x → IsIn (outcomes ds p) x) → MakesAll cs ds p
makes_of [] ds p h = tt
makes_of (c ∷ cs) ds p h = (h _ (inl refl), makes_of cs ds p (λ x k. h x (inr k)))

pub same_of_makes : (cs ds : List (List Lit)) (p : Packet) → MakesAll cs ds p → MakesAll ds cs p → SameAnswers (outcomes cs p) (outcomes ds p)
same_of_makes cs ds p h k = record { front = λ x. makes_there cs ds p x h; back = λ x. makes_there ds cs p x k }

pub makes_of_same : (cs ds : List (List Lit)) (p : Packet) → SameAnswers (outcomes cs p) (outcomes ds p) → MakesAll cs ds p × MakesAll ds cs p
makes_of_same cs ds p h = (makes_of cs ds p h.front, makes_of ds cs p h.back)

pub if_ok : {X E : Type 0} (r : Result X E) (P Q : X → Type 0) → IfOk r P → ((x : X) → P x → Q x) → IfOk r Q
if_ok (Ok x) P Q h f = f x h
if_ok (Err e) P Q h f = tt

pub on_ok : {X E : Type 0} (r : Result X E) (P Q : Type 0) → OnOk r P → (P → Q) → OnOk r Q
on_ok (Ok x) P Q h f = f h
on_ok (Err e) P Q h f = tt
