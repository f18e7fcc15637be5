-- The steps of a sweep, over a store that grows.
use Rattle.std.proofs.Common.{false, true, ◌==◌, ◌≡◌, ℕ, zero, suc, ◌+◌, ◌-◌, ◌<◌, ◌≤◌, inl, inr, refl, ap, sym, ◌∙◌, subst, arith, List, [], ◌∷◌, ◌++◌, Option, Some, None, unwrap_or, length, length-drop, map, get_or, take, drop}
use Rattle.std.specs.List.{slice_get}
use Rattle.std.specs.Option.{is_some}
use Rattle.std.proofs.lemmas.Bool.{eqb-true, false≢true}
use Rattle.std.proofs.Math.Seq.{take-add}
use Rattle.std.proofs.lemmas.List.{append-nil, append_assoc, get_or-drop, length-map, length-take-le, map-append, take-append-drop, take_more}
use Rattle.nk_values.specs.Members.{IsIn}
use Rattle.nk_values.proofs.MemberLaws.{in-left, in-right, in-either}
use Rattle.nk_values.specs.declared.lit.Lit.{Lit}
use Rattle.fdd_nodes.specs.Names.{AreFew, IsFew}
use Rattle.fdd_nodes.specs.Normals.{IsNormal}
use Rattle.fdd_nodes.specs.Trees.{Tree, Leaf, Node}
use Rattle.fdd_store.specs.Operations.{ZeroOf, UnionOf, JoinOf}
use Rattle.fdd_store.specs.Stores.{Kept, Has, Gives, Grows, tree_at}
use Rattle.fdd_store.proofs.StoreLaws.{grows_on, tree_grown, has_grown}
use Rattle.fdd_compile.specs.declared.summand.Summand.{Summand}
use Rattle.fdd_compile.specs.Folds.{AreSmall, UnionOfAll}
use Rattle.fdd_compile.specs.Sums.{AreAlike, AreThere, HaveAt, HaveNoneAt, below_of, if_all, if_holds, left_of}
use Rattle.fdd_compile.proofs.FoldLaws.{small_left, small_right}
use Rattle.fdd_compile.proofs.AlikeLaws.{alike_as, alike_both, alike_of, alike_swap, alike_trans, small_alike, take_past, union_alike}
use Rattle.fdd_compile.proofs.SumLaws.{few_join, few_two, joined, nothing_alike, small_behind, union_two}

-- summands of a store that grows

pub left_kept : (n : ℕ) (old new : Kept) (s : Summand) → Grows old new → Has old s.below → left_of n new s ≡ left_of n old s
left_kept n old new s g h = ap (if_all (drop n s.tests.items)) (tree_grown old new s.below g h)

pub lefts_kept : (n : ℕ) (old new : Kept) (ss : List Summand) → Grows old new → AreThere old ss → map (left_of n new) ss ≡ map (left_of n old) ss
lefts_kept n old new [] g h = refl
lefts_kept n old new (s ∷ ss) g h =
    let e = left_kept n old new s g (h s (inl refl)) in
    let r = lefts_kept n old new ss g (λ x i. h x (inr i)) in
    λ x. e x ∷ r x

pub there_grown : (old new : Kept) (ss : List Summand) → Grows old new → AreThere old ss → AreThere new ss
there_grown old new ss g h = λ s i. has_grown old new s.below g (h s i)

-- a test at a place

no_more : (ls : List Lit) (n : ℕ) → slice_get ls n ≡ None → drop n ls ≡ []
no_more [] zero e = refl
no_more [] (suc n) e = refl
no_more (l ∷ ls) zero e = absurd (let w : Some l ≡ None = e in cc)
no_more (l ∷ ls) (suc n) e = no_more ls n e

same_some : (m l : Lit) → Some m ≡ Some l → m ≡ l
same_some m l e = ap (λ (o : Option Lit). unwrap_or o m) e

one_more : (ls : List Lit) (n : ℕ) (l : Lit) → slice_get ls n ≡ Some l → drop n ls ≡ l ∷ drop (n + 1) ls
one_more [] n l e = absurd (let w : None ≡ Some l = e in cc)
one_more (m ∷ ls) zero l e = ap (λ (x : Lit). x ∷ ls) (same_some m l e)
one_more (m ∷ ls) (suc n) l e = one_more ls n l e ∙ ap (λ (k : ℕ). l ∷ drop k (m ∷ ls)) (let w : suc (n + 1) ≡ suc n + 1 = omega arith in w)

-- one summand more with a test at a place

pub have_more : (n i : ℕ) (o : Option Lit) (ss : List Summand) (x : Summand) → i < length ss → x ≡ get_or ss i x → HaveAt n o (take i ss) → slice_get x.tests.items n ≡ o → HaveAt n o (take (i + 1) ss)
have_more n i o ss x l e h k =
    let t : take (i + 1) ss ≡ take i ss ++ x ∷ [] = take_more ss i x l ∙ ap (λ (y : Summand). take i ss ++ y ∷ []) (sym e) in
    subst (HaveAt n o) (sym t) (λ s m. elim (in-either (take i ss) (x ∷ []) s m) [
      | inl a ↦ h s a
      | inr a ↦ elim a [ inl q ↦ subst (λ (y : Summand). slice_get y.tests.items n ≡ o) q k | inr b ↦ absurd b ]
    ])

pub have_none : (o : Option Lit) → false ≡ is_some o → o ≡ None
have_none None e = refl
have_none (Some l) e = absurd (false≢true e)

-- summands up to the end of a run, from its start
pub run_first : (n start : ℕ) (o : Option Lit) (ss : List Summand) → HaveAt n o (take 1 (drop start ss)) → HaveAt n o (take (start + 1 - start) (drop start ss))
run_first n start o ss h = subst (λ (m : ℕ). HaveAt n o (take m (drop start ss))) (let w : 1 ≡ start + 1 - start = omega arith in w) h

pub run_more : (n start end : ℕ) (o : Option Lit) (ss : List Summand) (x : Summand) → start < end → end < length ss → x ≡ get_or ss end x → HaveAt n o (take (end - start) (drop start ss)) → slice_get x.tests.items n ≡ o → HaveAt n o (take (end + 1 - start) (drop start ss))
run_more n start end o ss x l b e h k =
    let at : get_or (drop start ss) (end - start) x ≡ get_or ss end x = get_or-drop start ss (end - start) x ∙ ap (λ (m : ℕ). get_or ss m x) (let w : start + (end - start) ≡ end = omega (arith, l) in w) in
    subst (λ (m : ℕ). HaveAt n o (take m (drop start ss))) (let w : end - start + 1 ≡ end + 1 - start = omega (arith, l) in w)
    (have_more n (end - start) o (drop start ss) x (omega (arith, l, b, length-drop start ss)) (e ∙ sym at) h k)

pub run_one : (n start : ℕ) (o : Option Lit) (ss : List Summand) (x : Summand) → start < length ss → x ≡ get_or ss start x → slice_get x.tests.items n ≡ o → HaveAt n o (take 1 (drop start ss))
run_one n start o ss x l e k =
    let at : get_or (drop start ss) 0 x ≡ get_or ss start x = get_or-drop start ss 0 x ∙ ap (λ (m : ℕ). get_or ss m x) (let w : start + 0 ≡ start = omega arith in w) in
    have_more n 0 o (drop start ss) x (omega (arith, l, length-drop start ss)) (e ∙ sym at) (λ s m. absurd m) k

-- summands without a test there are their diagrams
pub bare_left : (k : Kept) (n : ℕ) (ss : List Summand) → HaveNoneAt n ss → map (left_of n k) ss ≡ map (below_of k) ss
bare_left k n [] h = refl
bare_left k n (s ∷ ss) h =
    let e : left_of n k s ≡ below_of k s = ap (λ (ls : List Lit). if_all ls (tree_at k s.below)) (no_more s.tests.items n (h s (inl refl))) in
    let r = bare_left k n ss (λ x i. h x (inr i)) in
    λ x. e x ∷ r x

-- summands with one test there are diagrams after it
pub led_left : (k : Kept) (n : ℕ) (l : Lit) (ss : List Summand) → HaveAt n (Some l) ss → map (left_of n k) ss ≡ if_holds l (map (left_of (n + 1) k) ss)
led_left k n l [] h = refl
led_left k n l (s ∷ ss) h =
    let e : left_of n k s ≡ Node l (left_of (n + 1) k s) (Leaf []) = ap (λ (ls : List Lit). if_all ls (tree_at k s.below)) (one_more s.tests.items n l (h s (inl refl))) in
    let r = led_left k n l ss (λ x i. h x (inr i)) in
    λ x. e x ∷ r x

-- how many tests are left

abbrev pub tests_left : ℕ → List Summand → ℕ
tests_left n [] = 0
tests_left n (s ∷ ss) = length (drop n s.tests.items) + tests_left n ss

left_split : (n : ℕ) (xs ys : List Summand) → tests_left n (xs ++ ys) ≡ tests_left n xs + tests_left n ys
left_split n [] ys = omega arith
left_split n (x ∷ xs) ys = let w = left_split n xs ys in let e : tests_left n ((x ∷ xs) ++ ys) ≡ length (drop n x.tests.items) + tests_left n (xs ++ ys) = refl in omega (arith, w, e)

pub left_take : (n i : ℕ) (xs ys : List Summand) → ys ≡ take i xs → tests_left n ys ≤ tests_left n xs
left_take n i xs ys e = let s = left_split n (take i xs) (drop i xs) in let w = ap (tests_left n) (take-append-drop i xs) in let v = ap (tests_left n) e in omega (arith, s, w, v)

pub left_drop : (n i : ℕ) (xs ys : List Summand) → ys ≡ drop i xs → tests_left n ys ≤ tests_left n xs
left_drop n i xs ys e = let s = left_split n (take i xs) (drop i xs) in let w = ap (tests_left n) (take-append-drop i xs) in let v = ap (tests_left n) e in omega (arith, s, w, v)

pub left_less : (n : ℕ) (l : Lit) (ss : List Summand) → HaveAt n (Some l) ss → 0 < length ss → tests_left (n + 1) ss < tests_left n ss
left_less n l [] h p = absurd (omega (arith, p))
left_less n l (s ∷ ss) h p = omega (arith, one s (h s (inl refl)), rest ss (λ x i. h x (inr i))) where
  one : (x : Summand) → slice_get x.tests.items n ≡ Some l → length (drop (n + 1) x.tests.items) < length (drop n x.tests.items)
  one x e = let w = ap length (one_more x.tests.items n l e) in omega (arith, w)

  rest : (xs : List Summand) → HaveAt n (Some l) xs → tests_left (n + 1) xs ≤ tests_left n xs
  rest [] g = omega arith
  rest (x ∷ xs) g = let a = one x (g x (inl refl)) in let b = rest xs (λ y i. g y (inr i)) in omega (arith, a, b)

-- a run is closed

module _ (k0 : Kept) (n whole : ℕ) (l : Lit) (run : List Summand) (some : 0 < length run) (at : HaveAt n (Some l) run) (gw : Gives k0 whole IsNormal) (small : AreSmall (tree_at k0 whole ∷ map (left_of n k0) run)) where
  led_small : AreSmall (tree_at k0 whole ∷ if_holds l (map (left_of (n + 1) k0) run))
  led_small = subst (λ (ts : List Tree). AreSmall (tree_at k0 whole ∷ ts)) (led_left k0 n l run at) small

  pub inner_small : AreSmall (map (left_of (n + 1) k0) run)
  inner_small = small_behind l (tree_at k0 whole) (map (left_of (n + 1) k0) run) led_small

  module _ (k1 : Kept) (sum : ℕ) (g : Grows k0 k1) (gs : Gives k1 sum (UnionOfAll (map (left_of (n + 1) k0) run))) where
    some_left : 1 ≤ length (map (left_of (n + 1) k0) run)
    some_left = omega (arith, some, length-map run (left_of (n + 1) k0))

    same_whole : tree_at k1 whole ≡ tree_at k0 whole
    same_whole = tree_grown k0 k1 whole g gw.has

    pub closed_few : IsFew (Node l (tree_at k1 sum) (tree_at k1 whole))
    closed_few = subst (λ (t : Tree). IsFew (Node l (tree_at k1 sum) t)) (sym same_whole) (few_join l (tree_at k0 whole) (tree_at k1 sum) (map (left_of (n + 1) k0) run) some_left led_small gs.is)

    pub closed_sum : (x : Tree) → JoinOf l (tree_at k1 sum) (tree_at k1 whole) x → UnionOfAll (tree_at k0 whole ∷ map (left_of n k0) run) x
    closed_sum x h =
        subst (λ (ts : List Tree). UnionOfAll (tree_at k0 whole ∷ ts) x) (sym (led_left k0 n l run at))
        (joined l (tree_at k0 whole) (tree_at k1 sum) x (map (left_of (n + 1) k0) run) some_left gs.is
        (subst (λ (t : Tree). JoinOf l (tree_at k1 sum) t x) same_whole h))

-- summands with no more tests are put beside the rest

module _ (k0 : Kept) (n whole : ℕ) (run : List Summand) (at : HaveNoneAt n run) (gw : Gives k0 whole IsNormal) (small : AreSmall (tree_at k0 whole ∷ map (left_of n k0) run)) where
  bare_all : AreSmall (tree_at k0 whole ∷ map (below_of k0) run)
  bare_all = subst (λ (ts : List Tree). AreSmall (tree_at k0 whole ∷ ts)) (bare_left k0 n run at) small

  pub beside_small : AreSmall (map (below_of k0) run)
  beside_small = small_right (tree_at k0 whole ∷ []) (map (below_of k0) run) bare_all

  module _ (k1 : Kept) (sum : ℕ) (g : Grows k0 k1) (gs : Gives k1 sum (UnionOfAll (map (below_of k0) run))) where
    pub beside_has : Has k1 whole
    beside_has = has_grown k0 k1 whole g gw.has

    beside_alike : AreAlike (tree_at k1 whole ∷ tree_at k1 sum ∷ []) (tree_at k0 whole ∷ map (left_of n k0) run)
    beside_alike =
        alike_both (tree_at k1 whole ∷ []) (tree_at k0 whole ∷ []) (tree_at k1 sum ∷ []) (map (left_of n k0) run)
        (alike_as _ _ (ap (λ (t : Tree). t ∷ []) (tree_grown k0 k1 whole g gw.has)))
        (alike_trans _ _ _ (alike_of _ _ gs.is) (alike_as _ _ (sym (bare_left k0 n run at))))

    pub beside_few : AreFew (tree_at k1 whole) (tree_at k1 sum)
    beside_few = few_two _ _ (small_alike _ _ beside_alike small)

    pub beside_sum : (x : Tree) → UnionOf (tree_at k1 whole) (tree_at k1 sum) x → UnionOfAll (tree_at k0 whole ∷ map (left_of n k0) run) x
    beside_sum x h = union_alike _ _ x beside_alike (union_two _ _ x h)

-- runs are taken one by one

part_of : {X : Type 0} (i j : ℕ) (xs : List X) → i ≤ j → take i xs ++ take (j - i) (drop i xs) ≡ take j xs
part_of {X} i j xs h = sym (take-add i (j - i) xs) ∙ ap (λ (m : ℕ). take m xs) (let e : i + (j - i) ≡ j = omega (arith, h) in e)

module _ (k0 k1 : Kept) (n rest whole start end : ℕ) (all run : List Summand) (there : AreThere k0 all) (small : AreSmall (tree_at k0 rest ∷ map (left_of n k0) all)) (g : Grows k0 k1) (gw : Gives k1 whole (UnionOfAll (tree_at k0 rest ∷ map (left_of n k0) (take start all)))) (l : start ≤ end) (er : run ≡ take (end - start) (drop start all)) where
  so_far : take start all ++ run ≡ take end all
  so_far = ap (λ (xs : List Summand). take start all ++ xs) er ∙ part_of start end all l

  run_there0 : AreThere k0 run
  run_there0 = λ s i. there s (subst (λ (xs : List Summand). IsIn xs s) (take-append-drop end all) (in-left (take end all) (drop end all) s (subst (λ (xs : List Summand). IsIn xs s) so_far (in-right (take start all) run s i))))

  pub run_there : AreThere k1 run
  run_there = there_grown k0 k1 run g run_there0

  run_alike : AreAlike (tree_at k1 whole ∷ map (left_of n k1) run) (tree_at k0 rest ∷ map (left_of n k0) (take end all))
  run_alike =
      alike_trans _ _ _ (alike_both (tree_at k1 whole ∷ []) (tree_at k0 rest ∷ map (left_of n k0) (take start all)) (map (left_of n k1) run) (map (left_of n k0) run)
      (alike_of _ _ gw.is) (alike_as _ _ (lefts_kept n k0 k1 run g run_there0)))
      (alike_as _ _ (ap (λ (ts : List Tree). tree_at k0 rest ∷ ts) (sym (map-append (left_of n k0) (take start all) run) ∙ ap (map (left_of n k0)) so_far)))

  end_small : AreSmall (tree_at k0 rest ∷ map (left_of n k0) (take end all))
  end_small =
      small_left (tree_at k0 rest ∷ map (left_of n k0) (take end all)) (map (left_of n k0) (drop end all))
      (subst (λ (ts : List Tree). AreSmall (tree_at k0 rest ∷ ts)) (sym (sym (map-append (left_of n k0) (take end all) (drop end all)) ∙ ap (map (left_of n k0)) (take-append-drop end all))) small)

  pub run_small : AreSmall (tree_at k1 whole ∷ map (left_of n k1) run)
  run_small = small_alike _ _ run_alike end_small

  pub run_normal : Gives k1 whole IsNormal
  run_normal = record { has = gw.has; made = gw.made; is = gw.is.normal }

  pub run_sum : (x : Tree) → UnionOfAll (tree_at k1 whole ∷ map (left_of n k1) run) x → UnionOfAll (tree_at k0 rest ∷ map (left_of n k0) (take end all)) x
  run_sum x h = union_alike _ _ x run_alike h

  pub run_within : tests_left n run ≤ tests_left n all
  run_within =
      let s = left_split n (take start all) run in
      let e = ap (tests_left n) so_far in
      let w = left_take n end all (take end all) refl in
      omega (arith, s, e, w)

pub swept_all : (k : Kept) (n : ℕ) (t x : Tree) (all : List Summand) (i : ℕ) → length all ≤ i → UnionOfAll (t ∷ map (left_of n k) (take i all)) x → UnionOfAll (t ∷ map (left_of n k) all) x
swept_all k n t x all i e h =
    subst (λ (ss : List Summand). UnionOfAll (t ∷ map (left_of n k) ss) x) (take_past i all e) h

append_none : (xs ys : List Summand) → (length ys == 0) ≡ true → xs ++ ys ≡ xs
append_none xs [] e = append-nil xs
append_none xs (y ∷ ys) e = absurd (let w : suc (length ys) ≡ 0 = eqb-true _ _ e in omega (arith, w))

-- summands with no more tests, and those that come before them or after them

module _ (k0 : Kept) (n i : ℕ) (all bare led : List Summand) (there : AreThere k0 all) (small : AreSmall (map (left_of n k0) all)) (none : HaveNoneAt n (take i all)) (ew : bare ≡ take i all) (el : led ≡ drop i all) where
  parts : bare ++ led ≡ all
  parts = (λ x. ew x ++ el x) ∙ take-append-drop i all

  pub bare_there : AreThere k0 bare
  bare_there = λ s m. there s (subst (λ (xs : List Summand). IsIn xs s) parts (in-left bare led s m))

  led_there0 : AreThere k0 led
  led_there0 = λ s m. there s (subst (λ (xs : List Summand). IsIn xs s) parts (in-right bare led s m))

  bare_none : map (left_of n k0) bare ≡ map (below_of k0) bare
  bare_none = bare_left k0 n bare (subst (HaveNoneAt n) (sym ew) none)

  both_parts : map (left_of n k0) bare ++ map (left_of n k0) led ≡ map (left_of n k0) all
  both_parts = sym (map-append (left_of n k0) bare led) ∙ ap (map (left_of n k0)) parts

  parts_small : AreSmall (map (left_of n k0) bare ++ map (left_of n k0) led)
  parts_small = subst AreSmall (sym both_parts) small

  pub bare_small : AreSmall (map (below_of k0) bare)
  bare_small = subst AreSmall bare_none (small_left (map (left_of n k0) bare) (map (left_of n k0) led) parts_small)

  module _ (k1 : Kept) (rest : ℕ) (g1 : Grows k0 k1) (gr : Gives k1 rest (UnionOfAll (map (below_of k0) bare))) where
    rest_alike : AreAlike (tree_at k1 rest ∷ []) (map (left_of n k0) bare)
    rest_alike = alike_trans _ _ _ (alike_of _ _ gr.is) (alike_as _ _ (sym bare_none))

    pub rest_alone : (length led == 0) ≡ true → (x : Tree) → UnionOfAll (map (below_of k0) bare) x → UnionOfAll (map (left_of n k0) all) x
    rest_alone e x h = subst (λ (ts : List Tree). UnionOfAll ts x) (sym bare_none ∙ ap (map (left_of n k0)) (sym (append_none bare led e) ∙ parts)) h

    module _ (k2 : Kept) (zero j : ℕ) (late early : List Summand) (g2 : Grows k1 k2) (gz : Gives k2 zero ZeroOf) (ea : late ≡ take j led) (eb : early ≡ drop j led) where
      g02 : Grows k0 k2
      g02 = grows_on k0 k1 k2 g1 g2

      led_parts : late ++ early ≡ led
      led_parts = (λ x. ea x ++ eb x) ∙ take-append-drop j led

      late_there0 : AreThere k0 late
      late_there0 = λ s m. led_there0 s (subst (λ (xs : List Summand). IsIn xs s) led_parts (in-left late early s m))

      early_there0 : AreThere k0 early
      early_there0 = λ s m. led_there0 s (subst (λ (xs : List Summand). IsIn xs s) led_parts (in-right late early s m))

      pub late_there : AreThere k2 late
      late_there = there_grown k0 k2 late g02 late_there0

      pub zero_normal : Gives k2 zero IsNormal
      zero_normal = record { has = gz.has; made = gz.made; is = gz.is.normal }

      late_alike : AreAlike (tree_at k2 zero ∷ map (left_of n k2) late) (map (left_of n k0) late)
      late_alike = alike_trans _ _ _ (nothing_alike (tree_at k2 zero) (map (left_of n k2) late) gz.is) (alike_as _ _ (lefts_kept n k0 k2 late g02 late_there0))

      led_both : map (left_of n k0) late ++ map (left_of n k0) early ≡ map (left_of n k0) led
      led_both = sym (map-append (left_of n k0) late early) ∙ ap (map (left_of n k0)) led_parts

      led_small0 : AreSmall (map (left_of n k0) late ++ map (left_of n k0) early)
      led_small0 = subst AreSmall (sym led_both) (small_right (map (left_of n k0) bare) (map (left_of n k0) led) parts_small)

      pub late_small : AreSmall (tree_at k2 zero ∷ map (left_of n k2) late)
      late_small = small_alike _ _ late_alike (small_left (map (left_of n k0) late) (map (left_of n k0) early) led_small0)

      pub late_within : tests_left n late ≤ tests_left n all
      late_within = let a = left_take n j led late ea in let b = left_drop n i all led el in omega (arith, a, b)

      pub early_within : tests_left n early ≤ tests_left n all
      early_within = let a = left_drop n j led early eb in let b = left_drop n i all led el in omega (arith, a, b)

      -- the rest and the late summands, and then the early ones, are all
      order_alike : AreAlike ((map (left_of n k0) bare ++ map (left_of n k0) late) ++ map (left_of n k0) early) (map (left_of n k0) all)
      order_alike = alike_as _ _ (append_assoc (map (left_of n k0) bare) (map (left_of n k0) late) (map (left_of n k0) early) ∙ ap (λ (ts : List Tree). map (left_of n k0) bare ++ ts) led_both ∙ both_parts)

      module _ (k3 : Kept) (sum : ℕ) (g3 : Grows k2 k3) (gs : Gives k3 sum (UnionOfAll (tree_at k2 zero ∷ map (left_of n k2) late))) where
        g13 : Grows k1 k3
        g13 = grows_on k1 k2 k3 g2 g3

        pub rest_has : Has k3 rest
        rest_has = has_grown k1 k3 rest g13 gr.has

        base_alike : AreAlike (tree_at k3 sum ∷ tree_at k3 rest ∷ []) (map (left_of n k0) bare ++ map (left_of n k0) late)
        base_alike =
            alike_trans _ _ _ (alike_both (tree_at k3 sum ∷ []) (map (left_of n k0) late) (tree_at k3 rest ∷ []) (map (left_of n k0) bare)
            (alike_trans _ _ _ (alike_of _ _ gs.is) late_alike)
            (alike_trans _ _ _ (alike_as _ _ (ap (λ (t : Tree). t ∷ []) (tree_grown k1 k3 rest g13 gr.has))) rest_alike))
            (alike_swap (map (left_of n k0) late) (map (left_of n k0) bare))

        pub base_few : AreFew (tree_at k3 sum) (tree_at k3 rest)
        base_few =
            few_two (tree_at k3 sum) (tree_at k3 rest)
            (small_alike _ _ base_alike (small_left (map (left_of n k0) bare ++ map (left_of n k0) late) (map (left_of n k0) early) (small_alike _ _ order_alike small)))

        module _ (k4 : Kept) (base : ℕ) (g4 : Grows k3 k4) (gu : Gives k4 base (UnionOf (tree_at k3 sum) (tree_at k3 rest))) where
          g04 : Grows k0 k4
          g04 = grows_on k0 k1 k4 g1 (grows_on k1 k3 k4 g13 g4)

          pub base_normal : Gives k4 base IsNormal
          base_normal = record { has = gu.has; made = gu.made; is = gu.is.normal }

          pub early_there : AreThere k4 early
          early_there = there_grown k0 k4 early g04 early_there0

          end_alike : AreAlike (tree_at k4 base ∷ map (left_of n k4) early) (map (left_of n k0) all)
          end_alike =
              alike_trans _ _ _ (alike_both (tree_at k4 base ∷ []) (map (left_of n k0) bare ++ map (left_of n k0) late) (map (left_of n k4) early) (map (left_of n k0) early)
              (alike_trans _ _ _ (alike_of _ _ (union_two _ _ _ gu.is)) base_alike)
              (alike_as _ _ (lefts_kept n k0 k4 early g04 early_there0)))
              order_alike

          pub early_small : AreSmall (tree_at k4 base ∷ map (left_of n k4) early)
          early_small = small_alike _ _ end_alike small

          pub end_sum : (x : Tree) → UnionOfAll (tree_at k4 base ∷ map (left_of n k4) early) x → UnionOfAll (map (left_of n k0) all) x
          end_sum x h = union_alike _ _ x end_alike h

pub run_some : (start end : ℕ) (ss : List Summand) → start < end → end ≤ length ss → 0 < length (take (end - start) (drop start ss))
run_some start end ss l h =
    let n = length-take-le (end - start) (drop start ss) (omega (arith, l, h, length-drop start ss)) in
    omega (arith, l, n)

pub one_summand : (k : Kept) (ss : List Summand) (x : Summand) → length ss ≡ 1 → x ≡ get_or ss 0 x → map (below_of k) ss ≡ below_of k x ∷ []
one_summand k [] x h e = absurd (omega (arith, h))
one_summand k (s ∷ []) x h e = let f : x ≡ s = e in ap (λ (y : Summand). below_of k y ∷ []) (sym f)
one_summand k (s ∷ t ∷ ss) x h e = absurd (omega (arith, h))
