-- Iterates, counted.
use Rattle.std.proofs.Common.{◌≡◌, ℕ, zero, suc, ◌+◌, ◌<◌, ◌≤◌, ◌⊎◌, inl, inr, refl, ap, sym, ◌∙◌, subst, arith, List, [], ◌∷◌, ◌++◌, take, drop, length, get_or, add-one}
use Rattle.std.proofs.lemmas.List.{take-append-drop, length-append}
use Rattle.std.proofs.Math.Seq.{take-append_seam, drop-append_seam, take-length}
use Rattle.nk_values.specs.declared.packet.Packet.{Packet}
use Rattle.nk_values.specs.declared.lit.Lit.{Lit}
use Rattle.nk_values.specs.Members.{IsIn}
use Rattle.nk_values.proofs.MemberLaws.{in-left, in-right, in-either}
use Rattle.fdd_nodes.specs.Trees.{Tree, apply, outcomes, answers}
use Rattle.fdd_nodes.proofs.MakesLaws.{source, outcome}
use Rattle.fdd_star.specs.declared.reach.Reach.{Reach}
use Rattle.nk_values.specs.Lits.{lit_field}
use Rattle.nk_values.specs.Packets.{IsInRange}
use Rattle.fdd_nodes.specs.Cells.{IsFresh, IsValid, fill}
use Rattle.fdd_nodes.proofs.CellLaws.{fill_in_range}
use Rattle.fdd_star.specs.Reaches.{reached_copies, Follows, HoldsAll, Starts, Grows, Fewer, IsIterated, IsClosed}
use Rattle.fdd_star.specs.Stars.{Iterates, IsDeep}
use Rattle.fdd_star.proofs.FirstLaws.{apply_held, first_follows}
use Rattle.fdd_star.proofs.FillLaws.{asks_free, asks_tests, turns_free, turns_filled, filled_turns, filled_once, fresh_escapes}

-- a iteration more at the end
pub turn_more : (p : Tree) (n : ℕ) (q r s : Packet) → Iterates p n q r → IsIn (answers p r) s → Iterates p (suc n) q s
turn_more p zero q r s h k = (s, subst (λ (x : Packet). IsIn (answers p x) s) (sym h) k, refl)
turn_more p (suc n) q r s h k = (h.0, h.1, turn_more p n h.0 r s h.2 k)

-- the last of some iterations
pub last_turn : (p : Tree) (n : ℕ) (q s : Packet) → Iterates p (suc n) q s → (r : Packet) × Iterates p n q r × IsIn (answers p r) s
last_turn p zero q s h = (q, refl, subst (IsIn (answers p q)) h.2 h.1)
last_turn p (suc n) q s h = let w = last_turn p n h.0 s h.2 in (w.0, (h.0, h.1, w.1), w.2)

-- members of two lists, and of what they make

pub outcome_left : (xs ys : List (List Lit)) (c q : Packet) → IsIn (outcomes xs c) q → IsIn (outcomes (xs ++ ys) c) q
outcome_left xs ys c q h = let s = source xs c q h in subst (IsIn (outcomes (xs ++ ys) c)) s.makes (outcome (xs ++ ys) s.copy c (in-left xs ys s.copy s.among))

pub outcome_in : (xs ys : List (List Lit)) (c q : Packet) → xs ≡ ys → IsIn (outcomes xs c) q → IsIn (outcomes ys c) q
outcome_in xs ys c q e h = subst (λ (zs : List (List Lit)). IsIn (outcomes zs c) q) e h

pub in_same : {X : Type 0} (xs ys : List X) (x : X) → xs ≡ ys → IsIn xs x → IsIn ys x
in_same {X = X} xs ys x e h = subst (λ (zs : List X). IsIn zs x) e h

-- an element is before a place, or from it on
in_parts : {X : Type 0} (n : ℕ) (xs : List X) (x : X) → IsIn xs x → IsIn (take n xs) x ⊎ IsIn (drop n xs) x
in_parts n xs x h = in-either (take n xs) (drop n xs) x (in_same xs _ x (sym (take-append-drop n xs)) h)

fewer_more : (p : Tree) (n : ℕ) (c q : Packet) → Fewer p n c q → Fewer p (suc n) c q
fewer_more p n c q h = (h.0, (let b = h.1 in omega (arith, b)), h.2)

fewer_turn : (p : Tree) (n : ℕ) (c q r : Packet) → Fewer p n c q → IsIn (answers p q) r → Fewer p (suc n) c r
fewer_turn p n c q r h k = (suc h.0, (let b = h.1 in omega (arith, b)), turn_more p h.0 c q r h.2 k)

-- nothing more is reached by the next iteration from what fewer than n iterations reach
pub turned_start : (f : List Lit) (p : Tree) (c : Packet) (r : Reach) → HoldsAll c f → Starts f r → IsIterated f p c 0 0 r
turned_start f p c r held s = record {
  within = omega arith;
  made = λ x h. elim (in_same _ _ x s.copies h) [ inl e ↦ (0, omega arith, sym (apply_held f c held) ∙ ap (λ (y : List Lit). apply y c) e) | inr n ↦ absurd n ];
  all = λ q h. outcome_in _ _ c q (sym s.copies) (inl (apply_held f c held ∙ no_turn p h.0 c q (let b = h.1 in omega (arith, b)) h.2));
  early = λ x h. absurd h;
  late = λ x h k. (let b = k.1 in omega (arith, b));
  named = λ x m h k. elim (in_same _ _ x s.copies h) [ inl e ↦ inl (in_same _ _ m (sym e) k) | inr n ↦ absurd n ];
  follows = λ x h. elim (in_same _ _ x s.copies h) [ inl e ↦ subst (Follows f) e (first_follows f c held) | inr n ↦ absurd n ];
  asks = λ x m h k. absurd h;
  is_unset = λ m h. absurd (in_same _ _ m s.asked h);
  tests = λ m h. absurd (in_same _ _ m s.asked h);
}
  where
    no_turn : (p : Tree) (k : ℕ) (c q : Packet) → k ≤ 0 → Iterates p k c q → c ≡ q
    no_turn p zero c q b h = h
    no_turn p (suc k) c q b h = absurd (omega (arith, b))

-- all that one iteration more reaches is noted
turned_all : (f : List Lit) (p : Tree) (c : Packet) (n place : ℕ) (r s : Reach) → IsIterated f p c n place r → Grows p c (drop place (reached_copies r)) r s → (k : ℕ) (q : Packet) → k < suc (suc n) → Iterates p k c q → IsIn (outcomes (reached_copies s) c) q
turned_all f p c n place r s t g zero q b h = outcome_in _ _ c q (sym g.joined) (outcome_left _ _ c q (t.all q (0, omega arith, h)))
turned_all f p c n place r s t g (suc k) q b h =
    let w = last_turn p k c q h in
    let o = source (reached_copies r) c w.0 (t.all w.0 (k, omega (arith, b), w.1)) in
    let step = subst (λ (y : Packet). IsIn (answers p y) q) (sym o.makes) w.2 in
    elim (in_parts place (reached_copies r) o.copy o.among) [
      | inl i ↦ outcome_in _ _ c q (sym g.joined) (outcome_left _ _ c q (t.all q (fewer_turn p n c (apply o.copy c) q (t.early o.copy i) step)))
      | inr i ↦ g.has o.copy q i step
    ]

pub turned_more : (f : List Lit) (p : Tree) (c : Packet) (n place : ℕ) (r s : Reach) → IsIterated f p c n place r → Grows p c (drop place (reached_copies r)) r s → IsIterated f p c (suc n) (length (reached_copies r)) s
turned_more f p c n place r s t g =
    let front = ap (take (length (reached_copies r))) g.joined ∙ take-append_seam (reached_copies r) g.more in
    let behind = ap (drop (length (reached_copies r))) g.joined ∙ drop-append_seam (reached_copies r) g.more in
    let from_drop : (x : List Lit) → IsIn (drop place (reached_copies r)) x → IsIn (reached_copies r) x = λ x i. in_same _ _ x (take-append-drop place (reached_copies r)) (in-right (take place (reached_copies r)) (drop place (reached_copies r)) x i) in
    record {
      within = (let e = ap length g.joined ∙ length-append (reached_copies r) g.more in omega (arith, e));
      made = λ x h. elim (in-either (reached_copies r) g.more x (in_same _ _ x g.joined h)) [
        | inl i ↦ fewer_more p (suc n) c (apply x c) (t.made x i)
        | inr i ↦ let w = g.only x i in fewer_turn p (suc n) c (apply w.0 c) (apply x c) (t.made w.0 (from_drop w.0 w.1)) w.2.made
      ];
      all = λ q h. turned_all f p c n place r s t g h.0 q h.1 h.2;
      early = λ x h. t.made x (in_same _ _ x front h);
      late = λ x h k. g.late x (in_same _ _ x behind h) (t.all (apply x c) k);
      named = λ x m h k. elim (in-either (reached_copies r) g.more x (in_same _ _ x g.joined h)) [
        | inl i ↦ t.named x m i k
        | inr i ↦ let w = g.only x i in elim (w.2.named m k) [ inl v ↦ t.named w.0 m (from_drop w.0 w.1) v | inr v ↦ inr v ]
      ];
      follows = λ x h. elim (in-either (reached_copies r) g.more x (in_same _ _ x g.joined h)) [
        | inl i ↦ t.follows x i
        | inr i ↦ let w = g.only x i in w.2.follows f (t.follows w.0 (from_drop w.0 w.1))
      ];
      asks = λ x m h k. elim (in_parts place (reached_copies r) x (in_same _ _ x front h)) [
        | inl i ↦ g.kept m (t.asks x m i k)
        | inr i ↦ g.asks x m i k
      ];
      is_unset = λ m h. elim (g.asked m h) [
        | inl i ↦ t.is_unset m i
        | inr i ↦ let w = t.made i.0 (from_drop i.0 i.1) in turns_free p w.0 c (apply i.0 c) w.2 (lit_field m) (asks_free p (apply i.0 c) m i.2)
      ];
      tests = λ m h. elim (g.asked m h) [ inl i ↦ t.tests m i | inr i ↦ asks_tests p (apply i.0 c) m i.2 ];
    }

-- where the last iteration added nothing, no number of iterations does
closed_all : (f : List Lit) (p : Tree) (c : Packet) (n : ℕ) (r : Reach) → IsIterated f p c n (length (reached_copies r)) r → (k : ℕ) (q : Packet) → Iterates p k c q → IsIn (outcomes (reached_copies r) c) q
closed_all f p c n r t zero q h = t.all q (0, omega arith, h)
closed_all f p c n r t (suc k) q h =
    let w = last_turn p k c q h in
    let o = source (reached_copies r) c w.0 (closed_all f p c n r t k w.0 w.1) in
    t.all q (fewer_turn p n c (apply o.copy c) q (t.early o.copy (in_same _ _ o.copy (sym (take-length (reached_copies r))) o.among)) (subst (λ (y : Packet). IsIn (answers p y) q) (sym o.makes) w.2))

pub closed_of : (f : List Lit) (p : Tree) (c : Packet) (n place : ℕ) (r : Reach) → n ≤ 513 → place ≡ length (reached_copies r) → IsIterated f p c n place r → IsClosed f p c r
closed_of f p c n place r b e t' =
    let t = subst (λ (k : ℕ). IsIterated f p c n k r) e t' in
    let whole : (x : List Lit) → IsIn (reached_copies r) x → IsIn (take (length (reached_copies r)) (reached_copies r)) x = λ x h. in_same _ _ x (sym (take-length (reached_copies r))) h in
    record {
      made = λ x h. let w = t.early x (whole x h) in (w.0, (let k = w.1 in omega (arith, k, b)), w.2);
      all = closed_all f p c n r t;
      named = t.named;
      follows = t.follows;
      asks = λ x m h k. t.asks x m (whole x h) k;
      is_unset = t.is_unset;
      tests = t.tests;
    }

-- what a iteration more than 512 adds is late, also for the packet that is filled with a fresh one
pub deep_of : (f : List Lit) (p : Tree) (c : Packet) (place : ℕ) (r : Reach) (x : List Lit) (g : Packet) → IsValid c → IsInRange g → IsFresh g p → IsIterated f p c 513 place r → IsIn (drop place (reached_copies r)) x → IsDeep p (fill c g) (fill (apply x c) g)
deep_of f p c place r x g v range fresh t h =
    let w = t.made x (in_same _ _ x (take-append-drop place (reached_copies r)) (in-right (take place (reached_copies r)) (drop place (reached_copies r)) x h)) in
    record {
      in_range = fill_in_range c g v range;
      made = (w.0, (let b = w.1 in omega (arith, b)), turns_filled p w.0 c (apply x c) g (fresh_escapes p c g fresh) w.2);
      late = λ k.
          let z = filled_turns p k.0 c (fill (apply x c) g) g (fresh_escapes p c g fresh) k.2 in
          let same = filled_once p k.0 w.0 c z.0 (apply x c) g fresh z.1 w.2 z.2 in
          t.late x h (k.0, (let b = k.1 in omega (arith, b)), subst (Iterates p k.0 c) same z.1);
    }

-- the same, as a loop has it

pub turned_next : (f : List Lit) (p : Tree) (c : Packet) (n place until : ℕ) (r s : Reach) → until ≡ length (reached_copies r) → IsIterated f p c n place r → Grows p c (drop place (reached_copies r)) r s → IsIterated f p c (n + 1) until s
turned_next f p c n place until r s e t g = subst (λ (k : ℕ). IsIterated f p c k until s) (sym (add-one n)) (subst (λ (k : ℕ). IsIterated f p c (suc n) k s) (sym e) (turned_more f p c n place r s t g))

in_drop : (n : ℕ) (xs : List (List Lit)) (x : List Lit) → n < length xs → x ≡ get_or xs n x → IsIn (drop n xs) x
in_drop n [] x h e = absurd (omega (arith, h))
in_drop zero (y ∷ ys) x h e = inl (sym e)
in_drop (suc n) (y ∷ ys) x h e = in_drop n ys x (omega (arith, h)) e

pub deep_named : (f : List Lit) (p : Tree) (c q : Packet) (n place : ℕ) (r : Reach) (x : List Lit) (g pk out : Packet) → pk ≡ fill c g → out ≡ fill q g → q ≡ apply x c → IsValid c → IsInRange g → IsFresh g p
    → n ≡ 513 → IsIterated f p c n place r → place < length (reached_copies r) → x ≡ get_or (reached_copies r) place x → IsDeep p pk out
deep_named f p c q n place r x g pk out epk eout eq v range fresh en turned b at =
    let out' = eout ∙ ap (λ (z : Packet). fill z g) eq in
    let turned' = subst (λ (k : ℕ). IsIterated f p c k place r) en turned in
    subst (λ (z : Packet). IsDeep p z out) (sym epk) (subst (IsDeep p (fill c g)) (sym out') (deep_of f p c place r x g v range fresh turned' (in_drop place (reached_copies r) x b at)))
