-- One copy after another.
use Rattle.std.proofs.Common.{◌≡◌, ◌≢◌, ℕ, ◌+◌, ◌<◌, ◌≤◌, ◌⊎◌, inl, inr, refl, ap, sym, ◌∙◌, subst, arith, Bool, true, false, cond, ltb, List, [], ◌∷◌, ◌++◌, length, Result, Ok, Err}
use Rattle.std.proofs.lemmas.Bool.Decides.{nat_tests}
use Rattle.std.proofs.lemmas.List.{append_assoc}
use Rattle.std.specs.Prelude.{OnOk}
use Rattle.nk_values.specs.declared.field.Field.{Field}
use Rattle.nk_values.specs.declared.packet.Packet.{Packet}
use Rattle.nk_values.specs.declared.lit.Lit.{Lit}
use Rattle.nk_values.specs.Held.{put}
use Rattle.nk_values.specs.Lits.{lit_field, lit_value}
use Rattle.nk_values.specs.Members.{IsIn}
use Rattle.nk_values.specs.Packets.{get, with_value}
use Rattle.nk_values.specs.Ranges.{place}
use Rattle.nk_values.proofs.MemberLaws.{in-either}
use Rattle.nk_values.proofs.PacketLaws.{get-with_same, get-with_other, same_packet, same_field, field_cases}
use Rattle.fdd_nodes.specs.Trees.{apply}
use Rattle.fdd_nodes.specs.Copies.{IsCopyFrom, IsCopy, below, above, set_lit, after}

with_twice : (p : Packet) (f : Field) (a b : ℕ) → with_value (with_value p f a) f b ≡ with_value p f b
with_twice p f a b = same_packet _ _ (λ g. elim (field_cases f g) [
  | inl e ↦ subst (λ (h : Field). get (with_value (with_value p f a) f b) h ≡ get (with_value p f b) h) e (get-with_same (with_value p f a) f b ∙ sym (get-with_same p f b))
  | inr n ↦ get-with_other (with_value p f a) f g b n ∙ get-with_other p f g a n ∙ sym (get-with_other p f g b n)
])

with_swap : (p : Packet) (f g : Field) (a b : ℕ) → f ≢ g → with_value (with_value p f a) g b ≡ with_value (with_value p g b) f a
with_swap p f g a b n = same_packet _ _ (λ h. elim (field_cases g h) [
  | inl e ↦ subst (λ (k : Field). get (with_value (with_value p f a) g b) k ≡ get (with_value (with_value p g b) f a) k) e
      (get-with_same (with_value p f a) g b ∙ sym (get-with_other (with_value p g b) f g a n ∙ get-with_same p g b))
  | inr m ↦ get-with_other (with_value p f a) g h b m ∙ elim (field_cases f h) [
    | inl e ↦ subst (λ (k : Field). get (with_value p f a) k ≡ get (with_value (with_value p g b) f a) k) e (get-with_same p f a ∙ sym (get-with_same (with_value p g b) f a))
    | inr k ↦ get-with_other p f h a k ∙ sym (get-with_other (with_value p g b) f h a k ∙ get-with_other p g h b m)
  ]
])

-- a number that a copy leaves alone may be put in before or after it
commute : (c : List Lit) (k : ℕ) (l : Lit) (q : Packet) → IsCopyFrom k c → place (lit_field l) < k → apply c (put l q) ≡ (put l (apply c q))
commute [] k l q h n = refl
commute (m ∷ c) k l q h n =
    let d : lit_field l ≢ lit_field m = λ e. let e' : place (lit_field l) ≡ place (lit_field m) = ap place e in omega (arith, e', n, h.0) in
    ap (λ (x : Packet). apply c x) (with_swap q (lit_field l) (lit_field m) (lit_value l) (lit_value m) d) ∙ commute c (place (lit_field m) + 1) l (put m q) h.1 (omega (arith, n, h.0))

told_lt : (a b : ℕ) → ((ltb a b ≡ true) × (a < b)) ⊎ ((ltb a b ≡ false) × (b ≤ a))
told_lt a b = grind (arith, nat_tests)

none_below : (l : Lit) (c : List Lit) (k : ℕ) → IsCopyFrom k c → place (lit_field l) ≤ k → below l c ≡ []
none_below l [] k h n = refl
none_below l (m ∷ c) k h n = elim (told_lt (place (lit_field m)) (place (lit_field l))) [
  | inl y ↦ absurd (omega (arith, y.1, n, h.0))
  | inr y ↦ ap (λ b. cond b (m ∷ below l c) (below l c)) y.0 ∙ none_below l c (place (lit_field m) + 1) h.1 (omega (arith, n, h.0))
]

all_above : (l : Lit) (c : List Lit) (k : ℕ) → IsCopyFrom k c → place (lit_field l) < k → above l c ≡ c
all_above l [] k h n = refl
all_above l (m ∷ c) k h n = elim (told_lt (place (lit_field l)) (place (lit_field m))) [
  | inl y ↦ ap (λ b. cond b (m ∷ above l c) (above l c)) y.0 ∙ ap (λ (x : List Lit). m ∷ x) (all_above l c (place (lit_field m) + 1) h.1 (omega (arith, n, h.0)))
  | inr y ↦ absurd (omega (arith, y.1, n, h.0))
]

-- the three places of a literal against a copy's first
record Before (l m : Lit) (c : List Lit) : Type 0 where
  lt : place (lit_field m) < place (lit_field l)
  is : set_lit l (m ∷ c) ≡ m ∷ set_lit l c

record Same (l m : Lit) (c : List Lit) : Type 0 where
  eq : lit_field m ≡ lit_field l
  is : set_lit l (m ∷ c) ≡ l ∷ c

record Behind (l m : Lit) (c : List Lit) : Type 0 where
  lt : place (lit_field l) < place (lit_field m)
  is : set_lit l (m ∷ c) ≡ l ∷ m ∷ c

places : (l m : Lit) (c : List Lit) (k : ℕ) → IsCopyFrom k (m ∷ c) → Before l m c ⊎ (Same l m c ⊎ Behind l m c)
places l m c k h = elim (told_lt (place (lit_field m)) (place (lit_field l))) [
  | inl y ↦ elim (told_lt (place (lit_field l)) (place (lit_field m))) [
    | inl z ↦ absurd (omega (arith, y.1, z.1))
    | inr z ↦ inl (record {
      lt = y.1;
      is = ap (λ b. cond b (m ∷ below l c) (below l c) ++ l ∷ above l (m ∷ c)) y.0 ∙ ap (λ b. m ∷ (below l c ++ l ∷ cond b (m ∷ above l c) (above l c))) z.0;
    })
  ]
  | inr y ↦ elim (told_lt (place (lit_field l)) (place (lit_field m))) [
    | inl z ↦ inr (inr (record {
      lt = z.1;
      is = ap (λ b. cond b (m ∷ below l c) (below l c) ++ l ∷ above l (m ∷ c)) y.0
          ∙ ap (λ b. below l c ++ l ∷ cond b (m ∷ above l c) (above l c)) z.0
          ∙ ap (λ (x : List Lit). x ++ l ∷ m ∷ above l c) (none_below l c _ h.1 (omega (arith, z.1)))
          ∙ ap (λ (x : List Lit). l ∷ m ∷ x) (all_above l c _ h.1 (omega (arith, z.1)));
    }))
    | inr z ↦ inr (inl (record {
      eq = same_field _ _ (omega (arith, y.1, z.1));
      is = ap (λ b. cond b (m ∷ below l c) (below l c) ++ l ∷ above l (m ∷ c)) y.0
          ∙ ap (λ b. below l c ++ l ∷ cond b (m ∷ above l c) (above l c)) z.0
          ∙ ap (λ (x : List Lit). x ++ l ∷ above l c) (none_below l c _ h.1 (omega (arith, z.1)))
          ∙ ap (λ (x : List Lit). l ∷ x) (all_above l c _ h.1 (omega (arith, y.1)));
    }))
  ]
]

set_apply : (l : Lit) (c : List Lit) (k : ℕ) (p : Packet) → IsCopyFrom k c → apply (set_lit l c) p ≡ (put l (apply c p))
set_apply l [] k p h = refl
set_apply l (m ∷ c) k p h = elim (places l m c k h) [
  | inl w ↦ ap (λ (x : List Lit). apply x p) w.is ∙ set_apply l c (place (lit_field m) + 1) (put m p) h.1
  | inr v ↦ elim v [
    | inl w ↦
        let e : place (lit_field m) ≡ place (lit_field l) = ap place w.eq in
        ap (λ (x : List Lit). apply x p) w.is
        ∙ ap (λ (x : Packet). apply c x) (sym (ap (λ (f : Field). (put l (with_value p f (lit_value m)))) w.eq ∙ with_twice p (lit_field l) (lit_value m) (lit_value l)))
        ∙ commute c _ l (put m p) h.1 (omega (arith, e))
    | inr w ↦ ap (λ (x : List Lit). apply x p) w.is ∙ commute (m ∷ c) (place (lit_field m)) l p (omega arith, h.1) w.lt
  ]
]

set_copy : (l : Lit) (c : List Lit) (k : ℕ) → k ≤ place (lit_field l) → IsCopyFrom k c → IsCopyFrom k (set_lit l c)
set_copy l [] k n h = (n, tt)
set_copy l (m ∷ c) k n h = elim (places l m c k h) [
  | inl w ↦ subst (IsCopyFrom k) (sym w.is) (h.0, set_copy l c (place (lit_field m) + 1) (let q = w.lt in omega (arith, q)) h.1)
  | inr v ↦ elim v [
    | inl w ↦ subst (IsCopyFrom k) (sym w.is) (n, subst (λ (f : Field). IsCopyFrom (place f + 1) c) w.eq h.1)
    | inr w ↦ subst (IsCopyFrom k) (sym w.is) (n, (let q = w.lt in omega (arith, q), h.1))
  ]
]

among_below : (l : Lit) (c : List Lit) (n : Lit) → IsIn (below l c) n → IsIn c n
among_below l [] n h = h
among_below l (m ∷ c) n h = elim (told_lt (place (lit_field m)) (place (lit_field l))) [
  | inl y ↦ elim (let h' : IsIn (m ∷ below l c) n = subst (λ (b : Bool). IsIn (cond b (m ∷ below l c) (below l c)) n) y.0 h in h') [ inl e ↦ inl e | inr k ↦ inr (among_below l c n k) ]
  | inr y ↦ inr (among_below l c n (subst (λ (b : Bool). IsIn (cond b (m ∷ below l c) (below l c)) n) y.0 h))
]

among_above : (l : Lit) (c : List Lit) (n : Lit) → IsIn (above l c) n → IsIn c n
among_above l [] n h = h
among_above l (m ∷ c) n h = elim (told_lt (place (lit_field l)) (place (lit_field m))) [
  | inl y ↦ elim (let h' : IsIn (m ∷ above l c) n = subst (λ (b : Bool). IsIn (cond b (m ∷ above l c) (above l c)) n) y.0 h in h') [ inl e ↦ inl e | inr k ↦ inr (among_above l c n k) ]
  | inr y ↦ inr (among_above l c n (subst (λ (b : Bool). IsIn (cond b (m ∷ above l c) (above l c)) n) y.0 h))
]

among_set : (l : Lit) (c : List Lit) (n : Lit) → IsIn (set_lit l c) n → IsIn c n ⊎ (l ≡ n)
among_set l c n h = elim (in-either (below l c) (l ∷ above l c) n h) [
  | inl k ↦ inl (among_below l c n k)
  | inr k ↦ elim k [ inl e ↦ inr e | inr w ↦ inl (among_above l c n w) ]
]

-- whole copies

pub after_apply : (c d : List Lit) (p : Packet) → IsCopy c → apply (after c d) p ≡ apply d (apply c p)
after_apply c [] p h = refl
after_apply c (l ∷ d) p h = after_apply (set_lit l c) d p (set_copy l c 0 (omega arith) h) ∙ ap (λ (x : Packet). apply d x) (set_apply l c 0 p h)

pub after_copy : (c d : List Lit) → IsCopy c → IsCopy (after c d)
after_copy c [] h = h
after_copy c (l ∷ d) h = after_copy (set_lit l c) d (set_copy l c 0 (omega arith) h)

pub after_among : (c d : List Lit) (n : Lit) → IsIn (after c d) n → IsIn c n ⊎ IsIn d n
after_among c [] n h = inl h
after_among c (l ∷ d) n h = elim (after_among (set_lit l c) d n h) [
  | inl k ↦ elim (among_set l c n k) [ inl w ↦ inl w | inr e ↦ inr (inl e) ]
  | inr k ↦ inr (inr k)
]

-- the last assignment is made last
pub apply-push : (c : List Lit) (l : Lit) (p : Packet) → apply (c ++ l ∷ []) p ≡ put l (apply c p)
apply-push [] l p = refl
apply-push (m ∷ c) l p = apply-push c l (put m p)

-- one literal at a time, in field order

from_less : (c : List Lit) (j k : ℕ) → j ≤ k → IsCopyFrom k c → IsCopyFrom j c
from_less [] j k n h = tt
from_less (l ∷ c) j k n h = (omega (arith, n, h.0), h.1)

pub rest_copy : (l : Lit) (c : List Lit) → IsCopy (l ∷ c) → IsCopy c
rest_copy l c h = from_less c 0 (place (lit_field l) + 1) (omega arith) h.1

-- a literal in front of what is later stays in front
front_stays : (m : Lit) (c d : List Lit) → IsCopyFrom (place (lit_field m) + 1) c → IsCopyFrom (place (lit_field m) + 1) d → after (m ∷ c) d ≡ m ∷ after c d
front_stays m c [] h k = refl
front_stays m c (l ∷ d) h k =
    let from : IsCopyFrom (place (lit_field m)) (m ∷ c) = (omega arith, h) in
    elim (places l m c (place (lit_field m)) from) [
      | inl w ↦
          ap (λ (x : List Lit). after x d) w.is
          ∙ front_stays m (set_lit l c) d (set_copy l c (place (lit_field m) + 1) k.0 h) (from_less d (place (lit_field m) + 1) (place (lit_field l) + 1) (let a = k.0 in omega (arith, a)) k.1)
      | inr v ↦ elim v [
        | inl w ↦ absurd (let e : place (lit_field m) ≡ place (lit_field l) = ap place w.eq in let a = k.0 in omega (arith, e, a))
        | inr w ↦ absurd (let e = w.lt in let a = k.0 in omega (arith, e, a))
      ]
    ]

pub after_first : (m l : Lit) (c d : List Lit) → place (lit_field m) < place (lit_field l) → IsCopy (m ∷ c) → IsCopy (l ∷ d) → after (m ∷ c) (l ∷ d) ≡ m ∷ after c (l ∷ d)
after_first m l c d n h k = front_stays m c (l ∷ d) h.1 (omega (arith, n), k.1)

pub after_same : (m l : Lit) (c d : List Lit) → place (lit_field m) ≡ place (lit_field l) → IsCopy (m ∷ c) → IsCopy (l ∷ d) → after (m ∷ c) (l ∷ d) ≡ l ∷ after c d
after_same m l c d n h k = elim (places l m c 0 h) [
  | inl w ↦ absurd (let e = w.lt in omega (arith, e, n))
  | inr v ↦ elim v [
    | inl w ↦ ap (λ (x : List Lit). after x d) w.is ∙ front_stays l c d (subst (λ (i : ℕ). IsCopyFrom (i + 1) c) n h.1) k.1
    | inr w ↦ absurd (let e = w.lt in omega (arith, e, n))
  ]
]

pub after_later : (m l : Lit) (c d : List Lit) → place (lit_field l) < place (lit_field m) → IsCopy (m ∷ c) → IsCopy (l ∷ d) → after (m ∷ c) (l ∷ d) ≡ l ∷ after (m ∷ c) d
after_later m l c d n h k = elim (places l m c 0 h) [
  | inl w ↦ absurd (let e = w.lt in omega (arith, e, n))
  | inr v ↦ elim v [
    | inl w ↦ absurd (let e : place (lit_field m) ≡ place (lit_field l) = ap place w.eq in omega (arith, e, n))
    | inr w ↦ ap (λ (x : List Lit). after x d) w.is ∙ front_stays l (m ∷ c) d (omega (arith, n), h.1) k.1
  ]
]

pub after_none : (d : List Lit) → IsCopy d → after [] d ≡ d
after_none [] h = refl
after_none (l ∷ d) h = front_stays l [] d tt h.1 ∙ ap (λ (x : List Lit). l ∷ x) (after_none d (rest_copy l d h))

-- a step in front of the rest

glued : (out mid new : List Lit) (x : Lit) (ys zs : List Lit) → mid ≡ out ++ x ∷ [] → zs ≡ x ∷ ys → new ≡ mid ++ ys → new ≡ out ++ zs
glued out mid new x ys zs h e k = k ∙ ap (λ (m : List Lit). m ++ ys) h ∙ append_assoc out (x ∷ []) ys ∙ ap (λ (z : List Lit). out ++ z) (sym e)

module _ (xs ys c d : List Lit) (m l : Lit) (hx : xs ≡ m ∷ c) (hy : ys ≡ l ∷ d) (h : IsCopy xs) (k : IsCopy ys) where
  pub rests : IsCopy c × IsCopy d
  rests = (rest_copy m c (subst IsCopy hx h), rest_copy l d (subst IsCopy hy k))

  pub first_step : place (lit_field m) < place (lit_field l) → (out mid new : List Lit) → mid ≡ out ++ m ∷ [] → new ≡ mid ++ after c ys → new ≡ out ++ after xs ys
  first_step n out mid new p q = glued out mid new m _ _ p ((λ i. after (hx i) (hy i)) ∙ after_first m l c d n (subst IsCopy hx h) (subst IsCopy hy k) ∙ ap (λ (z : List Lit). m ∷ after c z) (sym hy)) q

  pub same_step : place (lit_field m) ≡ place (lit_field l) → (out mid new : List Lit) → mid ≡ out ++ l ∷ [] → new ≡ mid ++ after c d → new ≡ out ++ after xs ys
  same_step n out mid new p q = glued out mid new l _ _ p ((λ i. after (hx i) (hy i)) ∙ after_same m l c d n (subst IsCopy hx h) (subst IsCopy hy k)) q

  pub later_step : place (lit_field l) < place (lit_field m) → (out mid new : List Lit) → mid ≡ out ++ l ∷ [] → new ≡ mid ++ after xs d → new ≡ out ++ after xs ys
  later_step n out mid new p q = glued out mid new l _ _ p ((λ i. after (hx i) (hy i)) ∙ after_later m l c d n (subst IsCopy hx h) (subst IsCopy hy k) ∙ ap (λ (z : List Lit). l ∷ after z d) (sym hx)) q

  -- the first literal of the whole is that of one of them

  pub some_first : (zs : List Lit) × (x : Lit) × (after xs ys ≡ x ∷ zs)
  some_first = elim (told_lt (place (lit_field m)) (place (lit_field l))) [
    | inl y ↦ (_, m, sym (first_step y.1 [] (m ∷ []) _ refl refl))
    | inr y ↦ elim (told_lt (place (lit_field l)) (place (lit_field m))) [
      | inl z ↦ (_, l, sym (later_step z.1 [] (l ∷ []) _ refl refl))
      | inr z ↦ (_, l, sym (same_step (omega (arith, y.1, z.1)) [] (l ∷ []) _ refl refl))
    ]
  ]

  -- where the rest leaves nothing, nor does the whole
  pub later_covers : place (lit_field l) < place (lit_field m) → after xs d ≡ d → after xs ys ≡ ys
  later_covers n e = (λ i. after (hx i) (hy i)) ∙ after_later m l c d n (subst IsCopy hx h) (subst IsCopy hy k) ∙ ap (λ (z : List Lit). l ∷ after z d) (sym hx) ∙ ap (λ (z : List Lit). l ∷ z) e ∙ sym hy

  pub same_covers : place (lit_field m) ≡ place (lit_field l) → after c d ≡ d → after xs ys ≡ ys
  same_covers n e = (λ i. after (hx i) (hy i)) ∙ after_same m l c d n (subst IsCopy hx h) (subst IsCopy hy k) ∙ ap (λ (z : List Lit). l ∷ z) e ∙ sym hy

empty_list : (xs : List Lit) → length xs ≡ 0 → xs ≡ []
empty_list [] e = refl
empty_list (x ∷ xs) e = absurd (omega (arith, e))

pub none_step : (xs ys : List Lit) → length xs ≡ 0 → IsCopy ys → ys ≡ after xs ys
none_step xs ys e k = sym (ap (λ (z : List Lit). after z ys) (empty_list xs e) ∙ after_none ys k)

-- a list that is compared with one after another

pub ended : (ys zs : List Lit) → length zs ≡ 0 → ys ≡ after ys zs
ended ys zs e = sym (ap (after ys) (empty_list zs e))

pub put_first : (all others zs : List Lit) (x m : Lit) → all ≡ x ∷ others → x ≡ m → others ≡ zs → all ≡ m ∷ zs
put_first all others zs x m h e k = h ∙ ap (λ (y : Lit). y ∷ others) e ∙ ap (λ (ys : List Lit). m ∷ ys) k

-- lists with a first literal are equal exactly if the literals are and the rests are

pub one_first : (all others zs : List Lit) (x m : Lit) → all ≡ x ∷ others → all ≡ m ∷ zs → (x ≡ m) × (others ≡ zs)
one_first all others zs x m h k = (ap (λ (ys : List Lit). head ys) (sym h ∙ k), ap (λ (ys : List Lit). tail ys) (sym h ∙ k))
  where
    head : List Lit → Lit
    head [] = x
    head (y ∷ ys) = y

    tail : List Lit → List Lit
    tail [] = []
    tail (y ∷ ys) = ys

pub not_empty : (all zs : List Lit) (m : Lit) → length all ≡ 0 → ¬ (all ≡ m ∷ zs)
not_empty all zs m e k = let b = ap length k in omega (arith, e, b)

pub on_ok : {A E P Q : Type 0} (o : Result A E) → (P → Q) → OnOk o P → OnOk o Q
on_ok (Ok x) f h = f h
on_ok (Err e) f h = tt
