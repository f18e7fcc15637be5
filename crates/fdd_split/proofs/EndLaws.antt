-- Dividing ends: each step tests a literal less.
use Rattle.std.proofs.Common.{◌≡◌, ℕ, ◌+◌, ◌<◌, ◌≤◌, ◌⊎◌, inl, inr, refl, ap, sym, ◌∙◌, subst, arith, List, [], ◌∷◌, ◌++◌, length, Bool, true, false, cond}
use Rattle.std.specs.Prelude.{◌==◌, ◌||◌}
use Rattle.std.proofs.lemmas.Bool.Decides.{eqb_tells}
use Rattle.nk_values.specs.declared.lit.Lit.{Lit}
use Rattle.nk_values.specs.Lits.{lit_field}
use Rattle.nk_values.specs.Members.{IsIn}
use Rattle.nk_values.proofs.MemberLaws.{in-left, in-right, in-either}
use Rattle.nk_values.specs.Ranges.{place}
use Rattle.nk_values.specs.Ranks.{rank}
use Rattle.nk_values.proofs.LitLaws.{same_rank}
use Rattle.fdd_nodes.specs.Trees.{Tree, Leaf, Node, Tests, Assigns, IsSetBy}
use Rattle.fdd_nodes.specs.Names.{literals_of, has_lit, distinct}
use Rattle.fdd_nodes.proofs.NameLaws.{count_within}
use Rattle.fdd_store.specs.Canonical.{IsCanonical}
use Rattle.fdd_store.specs.Results.{Cuts}
use Rattle.fdd_store.proofs.ForkLaws.{level, rank_small}
use Rattle.fdd_store.proofs.MadeLaws.{tests_from}
use Rattle.fdd_split.specs.declared.bars.Bar.{Bar}
use Rattle.fdd_split.specs.declared.bars.Bar.TheVariants.{OfField, Literal}
use Rattle.fdd_split.specs.Bars.{SomeBars, Narrows}

abbrev pub bars_by : Bar → Lit → Bool
bars_by (OfField n) l = place (lit_field l) == n
bars_by (Literal m) l = rank m == rank l

abbrev pub are_bars : List Bar → Lit → Bool
are_bars [] l = false
are_bars (b ∷ bs) l = cond (bars_by b l) true (are_bars bs l)

-- the literals that are not barred
abbrev pub free_of : List Bar → List Lit → List Lit
free_of k [] = []
free_of k (l ∷ ls) = cond (are_bars k l) (free_of k ls) (l ∷ free_of k ls)

abbrev pub assigned_in : Tree → List Lit
assigned_in (Leaf cs) = literals_of cs
assigned_in (Node l t e) = assigned_in t ++ assigned_in e

abbrev pub pending : List Bar → Tree → ℕ
pending k t = length (distinct (free_of k (assigned_in t)))

-- how many literals may still be tested, at most
abbrev pub weight : List Bar → Tree → ℕ
weight k t = pending k t + level t

barred_or : (k : List Bar) (l : Lit) → ((are_bars k l ≡ true) × SomeBars k l) ⊎ ((are_bars k l ≡ false) × (¬ SomeBars k l))
barred_or [] l = inr (refl, λ h. h)
barred_or (OfField n ∷ k) l = elim (eqb_tells (place (lit_field l)) n) [
  | inl y ↦ inl (ap (λ b. cond b true (are_bars k l)) y.0, inl y.1)
  | inr n' ↦ elim (barred_or k l) [
    | inl w ↦ inl (ap (λ b. cond b true (are_bars k l)) n'.0 ∙ w.0, inr w.1)
    | inr w ↦ inr (ap (λ b. cond b true (are_bars k l)) n'.0 ∙ w.0, λ h. elim h [ inl z ↦ n'.1 z | inr z ↦ w.1 z ])
  ]
]
barred_or (Literal m ∷ k) l = elim (eqb_tells (rank m) (rank l)) [
  | inl y ↦ inl (ap (λ b. cond b true (are_bars k l)) y.0, inl (same_rank m l y.1))
  | inr n' ↦ elim (barred_or k l) [
    | inl w ↦ inl (ap (λ b. cond b true (are_bars k l)) n'.0 ∙ w.0, inr w.1)
    | inr w ↦ inr (ap (λ b. cond b true (are_bars k l)) n'.0 ∙ w.0, λ h. elim h [ inl z ↦ n'.1 (ap rank z) | inr z ↦ w.1 z ])
  ]
]

to_free : (k : List Bar) (ls : List Lit) (x : Lit) → IsIn ls x → ¬ SomeBars k x → IsIn (free_of k ls) x
to_free k [] x h n = absurd h
to_free k (l ∷ ls) x h n = elim (barred_or k l) [
  | inl w ↦ subst (λ (b : Bool). IsIn (cond b (free_of k ls) (l ∷ free_of k ls)) x) (sym w.0)
      (elim h [ inl e ↦ absurd (n (subst (λ (z : Lit). SomeBars k z) e w.1)) | inr i ↦ to_free k ls x i n ])
  | inr w ↦ subst (λ (b : Bool). IsIn (cond b (free_of k ls) (l ∷ free_of k ls)) x) (sym w.0)
      (elim h [ inl e ↦ inl e | inr i ↦ inr (to_free k ls x i n) ])
]

of_free : (k : List Bar) (ls : List Lit) (x : Lit) → IsIn (free_of k ls) x → IsIn ls x × (¬ SomeBars k x)
of_free k [] x h = absurd h
of_free k (l ∷ ls) x h = elim (barred_or k l) [
  | inl w ↦
      let r = of_free k ls x (subst (λ (b : Bool). IsIn (cond b (free_of k ls) (l ∷ free_of k ls)) x) w.0 h) in (inr r.0, r.1)
  | inr w ↦
      let h' : IsIn (l ∷ free_of k ls) x = subst (λ (b : Bool). IsIn (cond b (free_of k ls) (l ∷ free_of k ls)) x) w.0 h in
      elim h' [
        | inl e ↦ (inl e, subst (λ (z : Lit). ¬ SomeBars k z) e w.1)
        | inr i ↦ let r = of_free k ls x i in (inr r.0, r.1)
      ]
]

pub set_there : (cs : List (List Lit)) (m : Lit) → IsSetBy cs m → IsIn (literals_of cs) m
set_there [] m h = absurd h
set_there (c ∷ cs) m (inl h) = in-left c (literals_of cs) m h
set_there (c ∷ cs) m (inr h) = in-right c (literals_of cs) m (set_there cs m h)

there_set : (cs : List (List Lit)) (m : Lit) → IsIn (literals_of cs) m → IsSetBy cs m
there_set [] m h = absurd h
there_set (c ∷ cs) m h = elim (in-either c (literals_of cs) m h) [ inl i ↦ inl i | inr i ↦ inr (there_set cs m i) ]

assigned_there : (t : Tree) (m : Lit) → Assigns t m → IsIn (assigned_in t) m
assigned_there (Leaf cs) m h = set_there cs m h
assigned_there (Node l t e) m (inl h) = in-left (assigned_in t) (assigned_in e) m (assigned_there t m h)
assigned_there (Node l t e) m (inr h) = in-right (assigned_in t) (assigned_in e) m (assigned_there e m h)

there_assigned : (t : Tree) (m : Lit) → IsIn (assigned_in t) m → Assigns t m
there_assigned (Leaf cs) m h = there_set cs m h
there_assigned (Node l t e) m h = elim (in-either (assigned_in t) (assigned_in e) m h) [ inl i ↦ inl (there_assigned t m i) | inr i ↦ inr (there_assigned e m i) ]

has_there : (l : Lit) (ls : List Lit) → has_lit l ls ≡ true → IsIn ls l
has_there l [] h = let e : false ≡ true = h in absurd (cc)
has_there l (m ∷ ls) h = elim (eqb_tells (rank l) (rank m)) [
  | inl y ↦ inl (sym (same_rank l m y.1))
  | inr n ↦ inr (has_there l ls (subst (λ (b : Bool). (b || has_lit l ls) ≡ true) n.0 h))
]

bool_or : (b : Bool) → (b ≡ true) ⊎ (b ≡ false)
bool_or true = inl refl
bool_or false = inr refl

one_more : (l : Lit) (ls : List Lit) → ¬ IsIn ls l → length (distinct (l ∷ ls)) ≡ 1 + length (distinct ls)
one_more l ls n = elim (bool_or (has_lit l ls)) [
  | inl y ↦ absurd (n (has_there l ls y))
  | inr f ↦ ap (λ b. length (cond b (distinct ls) (l ∷ distinct ls))) f ∙ omega arith
]

pub pending_within : (k j : List Bar) (t u : Tree) → ((x : Lit) → Assigns u x → Assigns t x) → ((x : Lit) → SomeBars k x → SomeBars j x) → pending j u ≤ pending k t
pending_within k j t u s b = count_within (free_of j (assigned_in u)) (free_of k (assigned_in t)) (λ m i.
    let r = of_free j (assigned_in u) m i in to_free k (assigned_in t) m (assigned_there t m (s m (there_assigned u m r.0))) (λ z. r.1 (b m z)))

pub pending_falls : (k j : List Bar) (t u : Tree) (l : Lit) → ((x : Lit) → Assigns u x → Assigns t x) → ((x : Lit) → SomeBars k x → SomeBars j x) → Assigns t l → ¬ SomeBars k l → (Assigns u l → SomeBars j l) → pending j u < pending k t
pending_falls k j t u l s b a n h =
    let w : length (distinct (l ∷ free_of j (assigned_in u))) ≤ pending k t = count_within (l ∷ free_of j (assigned_in u)) (free_of k (assigned_in t)) (λ m i. elim i [
      | inl e ↦ subst (λ (z : Lit). IsIn (free_of k (assigned_in t)) z) e (to_free k (assigned_in t) l (assigned_there t l a) n)
      | inr v ↦ let r = of_free j (assigned_in u) m v in to_free k (assigned_in t) m (assigned_there t m (s m (there_assigned u m r.0))) (λ z. r.1 (b m z))
    ]) in
    let o = one_more l (free_of j (assigned_in u)) (λ v. let r = of_free j (assigned_in u) l v in r.1 (h (there_assigned u l r.0))) in
    omega (arith, w, o)

-- a diagram that tests no more has no higher level
pub level_within : (t u : Tree) → IsCanonical t → ((m : Lit) → Tests u m → Tests t m) → level u ≤ level t
level_within t (Leaf cs) h s = omega arith
level_within (Leaf cs) (Node m y n) h s = absurd (s m (inl refl))
level_within (Node l t e) (Node m y n) h s =
    let a = tests_from (Node l t e) (rank l) m (omega arith, h.ordered.1, h.ordered.2) (s m (inl refl)) in
    let b = rank_small m in
    let c = rank_small l in
    omega (arith, a, b, c)

pub weight_of_part : (k i : List Bar) (l : Lit) (a u : Tree) → IsCanonical a → Cuts l a u → Narrows k i (OfField (place (lit_field l))) u → Assigns a l → ¬ SomeBars k l → weight i u < weight k a
weight_of_part k i l a u h c w s n =
    let p = pending_falls k i a u l c.assigns w.kept s n (λ z. w.has l z refl) in
    let v = level_within a u h c.tests in
    omega (arith, p, v)

pub weight_of_rest : (k j : List Bar) (l : Lit) (a : Tree) → Narrows k j (Literal l) a → Assigns a l → ¬ SomeBars k l → weight j a < weight k a
weight_of_rest k j l a w s n =
    let p = pending_falls k j a a l (λ x z. z) w.kept s n (λ z. w.has l z refl) in
    omega (arith, p)

pub weight_of_branch : (k j : List Bar) (a u : Tree) → ((x : Lit) → Assigns u x → Assigns a x) → ((x : Lit) → SomeBars k x → SomeBars j x) → level u < level a → weight j u < weight k a
weight_of_branch k j a u s b v = let p = pending_within k j a u s b in omega (arith, p, v)
