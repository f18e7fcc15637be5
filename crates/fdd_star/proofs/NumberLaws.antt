-- Cells by their numbers.
use Rattle.std.specs.Prelude.{slice_get, slice_set, OnOk}
use Rattle.std.specs.List.{list_any}
use Rattle.std.proofs.Common.{rules, ◌≡◌, ◌⊎◌, ℕ, zero, suc, ◌<◌, inl, inr, refl, ap, sym, ◌∙◌, subst, arith, Bool, true, false, not, Option, Some, None, List, [], ◌∷◌, ◌++◌, length, get_or, map, Result, Ok, Err, if◌then◌else◌}
use Rattle.std.proofs.lemmas.Bool.{false≢true, not-false, not-true}
use Rattle.std.proofs.lemmas.List.{append_assoc, append-nil}
use Rattle.indexmap.specs.IndexSet.{insert_key}
use Rattle.nk_values.specs.declared.packet.Packet.{Packet}
use Rattle.nk_values.specs.declared.lit.Lit.{Lit}
use Rattle.nk_values.specs.Members.{IsIn}
use Rattle.nk_values.proofs.MemberLaws.{in-either}
use Rattle.fdd_nodes.specs.Copies.{IsCopy, after}
use Rattle.fdd_nodes.specs.Trees.{apply, outcomes}
use Rattle.fdd_star.specs.declared.keys.Key.{Key}
use Rattle.fdd_star.specs.contracts.keys.KeyPartialEq.TheImpl as key_impl
use Rattle.fdd_star.specs.declared.visits.Successor.{Successor}
use Rattle.fdd_star.specs.declared.visits.Visit.{Visit}
use Rattle.fdd_star.specs.declared.visits.Visits.{Visits}
use Rattle.fdd_star.specs.Asks.{AreApart, AreVisits, IsNumberOf, IsVisitAt, KeepsNumbers, copy_of, numbered}
use Rattle.fdd_star.specs.declared.reach.Reach.{Reach}
use Rattle.fdd_star.specs.Marks.{PutsNumber}
use Rattle.fdd_star.specs.Reaches.{AreNumbersOf, HoldsAll, NotesNumber, asked_of, reached_copies}
use Rattle.fdd_star.proofs.FirstLaws.{apply_held}
use Rattle.fdd_star.proofs.NamedLaws.{there_found}
use Rattle.fdd_store.specs.Stores.{Kept}

-- keys

abbrev pub key_eq : Key → Key → Bool
key_eq = key_impl.eq-value.it

pub same_key : (x y : Key) → key_eq x y ≡ true → x ≡ y
same_key x y h = search rules

pub key_itself : (x : Key) → key_eq x x ≡ true
key_itself x = search rules

abbrev pub key_of : ℕ → Packet → Key
key_of d q = record { diagram = d; cell = q }

-- elements at places

pub some_same : {X : Type 0} (x y : X) → Some x ≡ Some y → x ≡ y
some_same {X = X} x y e = ap (λ (o : Option X). value o) e
  where
    value : Option X → X
    value None = x
    value (Some z) = z

pub at_more : {X : Type 0} (xs ys : List X) (n : ℕ) (x : X) → slice_get xs n ≡ Some x → slice_get (xs ++ ys) n ≡ Some x
at_more [] ys n x h = absurd (none_some x h)
  where
    none_some : {X : Type 0} (x : X) → None ≡ Some x → ⊥
    none_some x e = search rules
at_more (y ∷ xs) ys zero x h = h
at_more (y ∷ xs) ys (suc n) x h = at_more xs ys n x h

pub at_in : {X : Type 0} (xs : List X) (n : ℕ) (x : X) → slice_get xs n ≡ Some x → IsIn xs x
at_in [] n x h = search rules
at_in (y ∷ xs) zero x h = inl (some_same y x h)
at_in (y ∷ xs) (suc n) x h = inr (at_in xs n x h)

pub at_within : {X : Type 0} (xs : List X) (n : ℕ) (x : X) → slice_get xs n ≡ Some x → n < length xs
at_within [] n x h = search rules
at_within (y ∷ xs) zero x h = omega arith
at_within (y ∷ xs) (suc n) x h = let b = at_within xs n x h in omega (arith, b)

pub at_end : {X : Type 0} (xs : List X) (y : X) (n : ℕ) (x : X) → slice_get (xs ++ y ∷ []) n ≡ Some x → (slice_get xs n ≡ Some x) ⊎ ((n ≡ length xs) × (y ≡ x))
at_end [] y zero x h = inr (refl, some_same y x h)
at_end [] y (suc n) x h = search rules
at_end (z ∷ xs) y zero x h = inl h
at_end (z ∷ xs) y (suc n) x h = elim (at_end xs y n x h) [ inl w ↦ inl w | inr w ↦ inr (ap suc w.0, w.1) ]

pub at_last : {X : Type 0} (xs : List X) (y : X) → slice_get (xs ++ y ∷ []) (length xs) ≡ Some y
at_last [] y = refl
at_last (x ∷ xs) y = at_last xs y

-- numbers of what copies make

number_key : (keys : List Key) (d : ℕ) (p q : Packet) (n : ℕ) → IsNumberOf keys d p n → IsNumberOf keys d q n → p ≡ q
number_key keys d p q n h k = ap (λ (x : Key). x.cell) (some_same (key_of d p) (key_of d q) (sym h ∙ k))

module _ (keys : List Key) (d : ℕ) (c : Packet) where
  pub numbers_made : (xs : List (List Lit)) (ns : List ℕ) (q : Packet) (n : ℕ) → AreNumbersOf keys d c xs ns → IsNumberOf keys d q n → IsIn ns n → IsIn (outcomes xs c) q
  numbers_made (x ∷ xs) (m ∷ ns) q n h k (inl e) = inl (number_key keys d (apply x c) q n (subst (IsNumberOf keys d (apply x c)) e h.0) k)
  numbers_made (x ∷ xs) (m ∷ ns) q n h k (inr w) = inr (numbers_made xs ns q n h.1 k w)
  numbers_made [] [] q n h k w = w
  numbers_made [] (m ∷ ns) q n h k w = absurd h
  numbers_made (x ∷ xs) [] q n h k w = absurd h

  pub numbers_have : (xs : List (List Lit)) (ns : List ℕ) (q : Packet) (n : ℕ) → AreApart keys → AreNumbersOf keys d c xs ns → IsNumberOf keys d q n → IsIn (outcomes xs c) q → IsIn ns n
  numbers_have (x ∷ xs) (m ∷ ns) q n a h k (inl e) = inl (a m n (key_of d q) (subst (λ (z : Packet). IsNumberOf keys d z m) e h.0) k)
  numbers_have (x ∷ xs) (m ∷ ns) q n a h k (inr w) = inr (numbers_have xs ns q n a h.1 k w)
  numbers_have [] ns q n a h k w = absurd w
  numbers_have (x ∷ xs) [] q n a h k w = absurd h

  pub numbers_next : (xs : List (List Lit)) (ns : List ℕ) (y : List Lit) (n : ℕ) → AreNumbersOf keys d c xs ns → IsNumberOf keys d (apply y c) n → AreNumbersOf keys d c (xs ++ y ∷ []) (ns ++ n ∷ [])
  numbers_next [] [] y n h k = (k, tt)
  numbers_next (x ∷ xs) (m ∷ ns) y n h k = (h.0, numbers_next xs ns y n h.1 k)
  numbers_next [] (m ∷ ns) y n h k = absurd h
  numbers_next (x ∷ xs) [] y n h k = absurd h

  pub numbers_count : (xs : List (List Lit)) (ns : List ℕ) → AreNumbersOf keys d c xs ns → length ns ≡ length xs
  numbers_count [] [] h = refl
  numbers_count (x ∷ xs) (m ∷ ns) h = ap suc (numbers_count xs ns h.1)
  numbers_count [] (m ∷ ns) h = absurd h
  numbers_count (x ∷ xs) [] h = absurd h

  pub numbers_at : (xs : List (List Lit)) (ns : List ℕ) (i n : ℕ) (x : List Lit) → AreNumbersOf keys d c xs ns → slice_get xs i ≡ Some x → slice_get ns i ≡ Some n → IsNumberOf keys d (apply x c) n
  numbers_at (y ∷ xs) (m ∷ ns) zero n x h e w = subst (IsNumberOf keys d (apply x c)) (some_same m n w) (subst (λ (z : List Lit). IsNumberOf keys d (apply z c) m) (some_same y x e) h.0)
  numbers_at (y ∷ xs) (m ∷ ns) (suc i) n x h e w = numbers_at xs ns i n x h.1 e w
  numbers_at [] ns i n x h e w = search rules
  numbers_at (y ∷ xs) [] i n x h e w = absurd h

  pub numbers_more : (more : List Key) (xs : List (List Lit)) (ns : List ℕ) → AreNumbersOf keys d c xs ns → AreNumbersOf (keys ++ more) d c xs ns
  numbers_more more [] [] h = h
  numbers_more more (x ∷ xs) (m ∷ ns) h = (at_more keys more m _ h.0, numbers_more more xs ns h.1)
  numbers_more more [] (m ∷ ns) h = absurd h
  numbers_more more (x ∷ xs) [] h = absurd h

-- cells that keep their numbers

pub keeps_itself : (v : Visits) → KeepsNumbers v v
keeps_itself v = ([], sym (append-nil (numbered v)))

pub keeps_on : (u v w : Visits) → KeepsNumbers u v → KeepsNumbers v w → KeepsNumbers u w
keeps_on u v w h k = (h.0 ++ k.0, k.1 ∙ ap (λ (xs : List Key). xs ++ k.0) h.1 ∙ append_assoc (numbered u) h.0 k.0)

pub number_kept : (u v : Visits) (d : ℕ) (q : Packet) (n : ℕ) → KeepsNumbers u v → IsNumberOf (numbered u) d q n → IsNumberOf (numbered v) d q n
number_kept u v d q n k h = subst (λ (xs : List Key). IsNumberOf xs d q n) (sym k.1) (at_more (numbered u) k.0 n _ h)

pub numbers_kept : (u v : Visits) (d : ℕ) (c : Packet) (xs : List (List Lit)) (ns : List ℕ) → KeepsNumbers u v → AreNumbersOf (numbered u) d c xs ns → AreNumbersOf (numbered v) d c xs ns
numbers_kept u v d c xs ns k h = subst (λ (keys : List Key). AreNumbersOf keys d c xs ns) (sym k.1) (numbers_more (numbered u) d c k.0 xs ns h)

pub visit_kept : (k : Kept) (keys more : List Key) (d : ℕ) (q : Packet) (w : Visit) → IsVisitAt k keys d q w → IsVisitAt k (keys ++ more) d q w
visit_kept k keys more d q w h = record { has = h.has; asked = h.asked; copies = h.copies; numbers = λ s i. at_more keys more s.number _ (h.numbers s i) }

-- one cell more

apart_more : (keys : List Key) (key : Key) → AreApart keys → ¬ IsIn keys key → AreApart (keys ++ key ∷ [])
apart_more keys key a new n m x h k = elim (at_end keys key n x h) [
  | inl v ↦ elim (at_end keys key m x k) [
    | inl w ↦ a n m x v w
    | inr w ↦ absurd (new (subst (IsIn keys) (sym w.1) (at_in keys n x v)))
  ]
  | inr v ↦ elim (at_end keys key m x k) [
    | inl w ↦ absurd (new (subst (IsIn keys) (sym v.1) (at_in keys m x w)))
    | inr w ↦ v.0 ∙ sym w.0
  ]
]

visits_same : (k : Kept) (u v : Visits) → numbered v ≡ numbered u → v.known.items ≡ u.known.items → AreVisits k u → AreVisits k v
visits_same k u v e f h = record {
  apart = subst AreApart (sym e) h.apart;
  count = ap length f ∙ h.count ∙ ap length (sym e);
  right = λ n d q w i j. subst (λ (keys : List Key). IsVisitAt k keys d q w) (sym e)
      (h.right n d q w (subst (λ (keys : List Key). IsNumberOf keys d q n) e i) (subst (λ (xs : List (Option Visit)). slice_get xs n ≡ Some (Some w)) f j));
}

some_none : (w : Visit) → None ≡ Some w → ⊥
some_none w e = search rules

visits_more : (k : Kept) (u v : Visits) (key : Key) → ¬ IsIn (numbered u) key → numbered v ≡ numbered u ++ key ∷ [] → v.known.items ≡ u.known.items ++ None ∷ [] → AreVisits k u → AreVisits k v
visits_more k u v key new e f h = record {
  apart = subst AreApart (sym e) (apart_more (numbered u) key h.apart new);
  count = ap length f ∙ length_end u.known.items None ∙ ap suc h.count ∙ sym (length_end (numbered u) key) ∙ ap length (sym e);
  right = λ n d q w i j. elim (at_end u.known.items None n (Some w) (subst (λ (xs : List (Option Visit)). slice_get xs n ≡ Some (Some w)) f j)) [
    | inl y ↦
        let here : IsNumberOf (numbered u) d q n = elim (at_end (numbered u) key n (key_of d q) (subst (λ (keys : List Key). IsNumberOf keys d q n) e i)) [
          | inl z ↦ z
          | inr z ↦ absurd (let b = at_within u.known.items n (Some w) y in let g = h.count in let m = z.0 in omega (arith, b, g, m))
        ] in
        subst (λ (keys : List Key). IsVisitAt k keys d q w) (sym e) (visit_kept k (numbered u) (key ∷ []) d q w (h.right n d q w here y))
    | inr y ↦ absurd (some_none w y.1)
  ];
}
  where
    length_end : {X : Type 0} (xs : List X) (x : X) → length (xs ++ x ∷ []) ≡ suc (length xs)
    length_end [] x = refl
    length_end (y ∷ xs) x = ap suc (length_end xs x)

module _ (u v : Visits) (key : Key) (keys : numbered v ≡ insert_key key_eq (numbered u) key) where
  pub old_numbered : (k : Kept) → false ≡ not (list_any (key_eq key) (numbered u)) → v.known ≡ u.known → AreVisits k u → AreVisits k v
  old_numbered k b f h = visits_same k u v (keys ∙ ap (λ (c : Bool). if c then numbered u else numbered u ++ key ∷ []) (not-false (list_any (key_eq key) (numbered u)) (sym b))) (ap (λ x. x.items) f) h

  pub new_numbered : (k : Kept) → true ≡ not (list_any (key_eq key) (numbered u)) → v.known.items ≡ u.known.items ++ None ∷ [] → AreVisits k u → AreVisits k v
  new_numbered k b f h =
      let away = not-true (list_any (key_eq key) (numbered u)) (sym b) in
      visits_more k u v key (λ i. false≢true (sym away ∙ there_found key_eq key_itself key (numbered u) i)) (keys ∙ ap (λ (c : Bool). if c then numbered u else numbered u ++ key ∷ []) away) f h

  pub keeps_numbered : KeepsNumbers u v
  keeps_numbered = by (list_any (key_eq key) (numbered u)) refl
    where
      by : (b : Bool) → list_any (key_eq key) (numbered u) ≡ b → KeepsNumbers u v
      by true e = ([], keys ∙ ap (λ (c : Bool). if c then numbered u else numbered u ++ key ∷ []) e ∙ sym (append-nil (numbered u)))
      by false e = (key ∷ [], keys ∙ ap (λ (c : Bool). if c then numbered u else numbered u ++ key ∷ []) e)

-- a visit that is kept

pub set_at : {X : Type 0} (xs : List X) (n m : ℕ) (x y : X) → slice_get (slice_set xs n x) m ≡ Some y → ((m ≡ n) × (x ≡ y)) ⊎ (slice_get xs m ≡ Some y)
set_at [] n m x y h = search rules
set_at (z ∷ xs) zero zero x y h = inl (refl, some_same x y h)
set_at (z ∷ xs) zero (suc m) x y h = inr h
set_at (z ∷ xs) (suc n) zero x y h = inr h
set_at (z ∷ xs) (suc n) (suc m) x y h = elim (set_at xs n m x y h) [ inl w ↦ inl (ap suc w.0, w.1) | inr w ↦ inr w ]

set_length : {X : Type 0} (xs : List X) (n : ℕ) (x : X) → length (slice_set xs n x) ≡ length xs
set_length [] n x = refl
set_length (y ∷ xs) zero x = refl
set_length (y ∷ xs) (suc n) x = ap suc (set_length xs n x)

pub visits_put : (k : Kept) (u v : Visits) (n d : ℕ) (q : Packet) (w : Visit) → numbered v ≡ numbered u → v.known.items ≡ slice_set u.known.items n (Some w) → AreVisits k u → IsNumberOf (numbered u) d q n → IsVisitAt k (numbered u) d q w → AreVisits k v
visits_put k u v n d q w e f h at is = record {
  apart = subst AreApart (sym e) h.apart;
  count = ap length f ∙ set_length u.known.items n (Some w) ∙ h.count ∙ ap length (sym e);
  right = λ m d' q' w' i j.
      let here = subst (λ (keys : List Key). IsNumberOf keys d' q' m) e i in
      subst (λ (keys : List Key). IsVisitAt k keys d' q' w') (sym e) (by m d' q' w' here (set_at u.known.items n m (Some w) (Some w') (subst (λ (xs : List (Option Visit)). slice_get xs m ≡ Some (Some w')) f j)));
}
  where
    by : (m d' : ℕ) (q' : Packet) (w' : Visit) → IsNumberOf (numbered u) d' q' m → ((m ≡ n) × (Some w ≡ Some w')) ⊎ (slice_get u.known.items m ≡ Some (Some w')) → IsVisitAt k (numbered u) d' q' w'
    by m d' q' w' i (inl y) =
        let key = some_same (key_of d q) (key_of d' q') (sym at ∙ ap (slice_get (numbered u)) (sym y.0) ∙ i) in
        subst (λ (x : Key). IsVisitAt k (numbered u) x.diagram x.cell w') key (subst (IsVisitAt k (numbered u) d q) (some_same w w' y.1) is)
    by m d' q' w' i (inr y) = h.right m d' q' w' i y

-- successors

pub map_end : (ss : List Successor) (s : Successor) → map copy_of (ss ++ s ∷ []) ≡ map copy_of ss ++ s.copy ∷ []
map_end [] s = refl
map_end (x ∷ ss) s = ap (λ (zs : List (List Lit)). x.copy ∷ zs) (map_end ss s)

pub successors_next : (keys : List Key) (d : ℕ) (q : Packet) (ss ts : List Successor) (s : Successor) → ts ≡ ss ++ s ∷ [] → ((t : Successor) → IsIn ss t → IsNumberOf keys d (apply t.copy q) t.number) → IsNumberOf keys d (apply s.copy q) s.number → (t : Successor) → IsIn ts t → IsNumberOf keys d (apply t.copy q) t.number
successors_next keys d q ss ts s e h k t i = elim (in-either ss (s ∷ []) t (subst (λ (xs : List Successor). IsIn xs t) e i)) [
  | inl w ↦ h t w
  | inr w ↦ elim w [ inl y ↦ subst (λ (x : Successor). IsNumberOf keys d (apply x.copy q) x.number) y k | inr n ↦ absurd n ]
]

-- numbers that are noted

pub noted_old : (n : ℕ) (x d : List Lit) (old new : Reach) → PutsNumber n false old.numbers new.numbers → reached_copies new ≡ reached_copies old → asked_of new ≡ asked_of old → NotesNumber n x d old new
noted_old n x d old new p copies asked = let w = p.kept refl in record { asked = asked; which = inl (w.0, w.1, copies) }

pub noted_new : (n : ℕ) (x d : List Lit) (old new : Reach) → PutsNumber n true old.numbers new.numbers → reached_copies new ≡ reached_copies old ++ after x d ∷ [] → IsCopy x → asked_of new ≡ asked_of old → NotesNumber n x d old new
noted_new n x d old new p copies copy asked = let w = p.put refl in record { asked = asked; which = inr (w.0, w.1, copies, copy) }

-- the first copy

pub start_numbered : (keys : List Key) (d n : ℕ) (c : Packet) (s : List Lit) (xs : List (List Lit)) (ns : List ℕ) → HoldsAll c s → IsNumberOf keys d c n → ns ≡ n ∷ [] → xs ≡ s ∷ [] → AreNumbersOf keys d c xs ns
start_numbered keys d n c s xs ns held h e f =
    subst (AreNumbersOf keys d c xs) (sym e)
    (subst (λ (ys : List (List Lit)). AreNumbersOf keys d c ys (n ∷ [])) (sym f) (subst (λ (q : Packet). IsNumberOf keys d q n) (sym (apply_held s c held)) h, tt))

-- an item of a list

pub item_in : {X : Type 0} (xs : List X) (i : ℕ) (x : X) → i < length xs → x ≡ get_or xs i x → IsIn xs x
item_in [] i x b e = absurd (omega (arith, b))
item_in (y ∷ xs) zero x b e = inl (sym e)
item_in (y ∷ xs) (suc i) x b e = inr (item_in xs i x (omega (arith, b)) e)

-- each of two facts that hold if a call succeeds

pub ok_first : {A E : Type 0} (r : Result A E) (P Q : Type 0) → OnOk r (P × Q) → OnOk r P
ok_first (Ok x) P Q h = h.0
ok_first (Err e) P Q h = tt

pub ok_second : {A E : Type 0} (r : Result A E) (P Q : Type 0) → OnOk r (P × Q) → OnOk r Q
ok_second (Ok x) P Q h = h.1
ok_second (Err e) P Q h = tt
