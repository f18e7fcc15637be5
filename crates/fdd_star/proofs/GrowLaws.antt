-- How what is reached grows.
use Rattle.std.proofs.Common.{◌≡◌, ◌⊎◌, ℕ, ◌+◌, ◌-◌, ◌<◌, ◌≤◌, inl, inr, refl, ap, sym, ◌∙◌, subst, arith, true, List, [], ◌∷◌, ◌++◌, length, map, take, drop, get_or}
use Rattle.std.proofs.lemmas.Bool.{false≢true, or_cases}
use Rattle.std.proofs.lemmas.List.{append_assoc, append-nil, take_more, take_all, length-drop, get_or-drop, get_or_append_left}
use Rattle.std.specs.declared.cmp.Ordering.{Ordering}
use Rattle.std.specs.declared.cmp.Ordering.TheVariants.{Less, Equal, Greater}
use Rattle.std.specs.BTreeMap.{is_at}
use Rattle.std.specs.BTreeSet.{insert_key}
use Rattle.std.specs.FinMap.{nat_cmp-IsAntisymmetric}
use Rattle.std.specs.List.{list_any}
use Rattle.std.specs.Ordering.{is_eq, match_ordering}
use Rattle.nk_values.specs.declared.packet.Packet.{Packet}
use Rattle.nk_values.specs.declared.lit.Lit.{Lit}
use Rattle.nk_values.specs.Held.{Holds}
use Rattle.nk_values.specs.Lits.{lit_field}
use Rattle.nk_values.specs.Members.{IsIn}
use Rattle.nk_values.specs.Ranks.{rank, lit_cmp}
use Rattle.nk_values.proofs.LitLaws.{same_rank}
use Rattle.nk_values.proofs.MemberLaws.{in-left, in-right, in-either}
use Rattle.fdd_nodes.specs.Cells.{IsUnset}
use Rattle.fdd_nodes.specs.Known.{Bars}
use Rattle.fdd_nodes.specs.Roots.{IsLeaf}
use Rattle.fdd_nodes.specs.Trees.{Tree, Leaf, Node, leaf_at, apply, outcomes, answers}
use Rattle.fdd_nodes.specs.Copies.{after, IsCopy}
use Rattle.fdd_nodes.proofs.CellLaws.{holds_fixed, lit_not_free}
use Rattle.fdd_nodes.proofs.SplitLaws.{leaf_at-then, leaf_at-else}
use Rattle.fdd_nodes.proofs.AfterLaws.{after_apply, after_among}
use Rattle.fdd_nodes.proofs.MakesLaws.{source, outcome, among_lists}
use Rattle.fdd_star.specs.declared.keys.Key.{Key}
use Rattle.fdd_star.specs.declared.reach.Reach.{Reach}
use Rattle.fdd_star.specs.declared.visits.Successor.{Successor}
use Rattle.fdd_star.specs.Asks.{AreApart, Asks, AsksMore, ComesTo, IsNumberOf, Walks, copy_of}
use Rattle.fdd_star.specs.Reaches.{reached_copies, asked_of, AreNumbersOf, AsksAll, IsNumbered, NotesNumber, Grows}
use Rattle.fdd_star.proofs.FillLaws.{leaf_assigns}
use Rattle.fdd_star.proofs.NumberLaws.{map_end, numbers_have, numbers_made, numbers_next}
use Rattle.fdd_star.proofs.TurnLaws.{in_same, outcome_left, outcome_in}
use Rattle.fdd_store.specs.Stores.{Kept, Has, tree_at}

-- literals in their order, with one more

insert_has : (ls : List Lit) (l : Lit) → IsIn (insert_key lit_cmp ls l) l
insert_has [] l = inl refl
insert_has (x ∷ xs) l = by (lit_cmp l x) refl (insert_has xs l)
  where
    by : (r : Ordering) → lit_cmp l x ≡ r → IsIn (insert_key lit_cmp xs l) l → IsIn (match_ordering r (l ∷ x ∷ xs) (x ∷ xs) (x ∷ insert_key lit_cmp xs l)) l
    by Less e h = inl refl
    by Equal e h = inl (sym (same_rank l x (nat_cmp-IsAntisymmetric (rank l) (rank x) e)))
    by Greater e h = inr h

equal : (r : Ordering) → is_eq r ≡ true → r ≡ Equal
equal Less h = absurd (false≢true h)
equal Equal h = refl
equal Greater h = absurd (false≢true h)

pub found_asked : (ls : List Lit) (l : Lit) → list_any (is_at (lit_cmp l)) ls ≡ true → IsIn ls l
found_asked [] l h = absurd (false≢true h)
found_asked (x ∷ xs) l h = elim (or_cases (is_at (lit_cmp l) x) (list_any (is_at (lit_cmp l)) xs) h) [
  | inl e ↦ inl (sym (same_rank l x (nat_cmp-IsAntisymmetric (rank l) (rank x) (equal (lit_cmp l x) e))))
  | inr n ↦ inr (found_asked xs l n)
]

insert_kept : (ls : List Lit) (l m : Lit) → IsIn ls m → IsIn (insert_key lit_cmp ls l) m
insert_kept [] l m h = absurd h
insert_kept (x ∷ xs) l m h = by (lit_cmp l x) (elim h [ inl e ↦ inl e | inr n ↦ inr (insert_kept xs l m n) ])
  where
    by : (r : Ordering) → IsIn (x ∷ insert_key lit_cmp xs l) m → IsIn (match_ordering r (l ∷ x ∷ xs) (x ∷ xs) (x ∷ insert_key lit_cmp xs l)) m
    by Less k = inr h
    by Equal k = h
    by Greater k = k

insert_only : (ls : List Lit) (l m : Lit) → IsIn (insert_key lit_cmp ls l) m → IsIn ls m ⊎ (l ≡ m)
insert_only [] l m h = elim h [ inl e ↦ inr e | inr n ↦ absurd n ]
insert_only (x ∷ xs) l m h = by (lit_cmp l x) (insert_only xs l m) h
  where
    by : (r : Ordering) → (IsIn (insert_key lit_cmp xs l) m → IsIn xs m ⊎ (l ≡ m)) → IsIn (match_ordering r (l ∷ x ∷ xs) (x ∷ xs) (x ∷ insert_key lit_cmp xs l)) m → IsIn (x ∷ xs) m ⊎ (l ≡ m)
    by Less g h = elim h [ inl e ↦ inr e | inr n ↦ inl n ]
    by Equal g h = inl h
    by Greater g h = elim h [ inl e ↦ inl (inl e) | inr n ↦ elim (g n) [ inl i ↦ inl (inr i) | inr e ↦ inr e ] ]

-- what a path asks

asks_leaf : (t : Tree) (q : Packet) (ls : List Lit) → IsLeaf t → AsksMore t q ls ls
asks_leaf (Leaf cs) q ls h = record { kept = λ m k. k; has = λ m k. absurd k; only = λ m k. inl k }
asks_leaf (Node l t e) q ls h = absurd h

comes_leaf : (k : Kept) (t : Tree) (q : Packet) (r : ℕ) → Has k r → tree_at k r ≡ t → IsLeaf t → ComesTo k t q r
comes_leaf k (Leaf cs) q r w e h = record { has = w; is = e }
comes_leaf k (Node l t e') q r w e h = absurd h

pub walks_leaf : (k : Kept) (q : Packet) (ls : List Lit) (r : ℕ) → Has k r → IsLeaf (tree_at k r) → Walks k (tree_at k r) q ls ls r
walks_leaf k q ls r w h = record { leaf = comes_leaf k (tree_at k r) q r w refl h; asked = asks_leaf (tree_at k r) q ls h }

-- at a test that the cell tells, what its branch asks; at an open one it is asked, and what the false branch asks
module _ (k : Kept) (q : Packet) (l : Lit) (a x y : Tree) (old new : List Lit) (r : ℕ) (e : a ≡ Node l x y) where
  pub walks_then : Holds q l → Walks k x q old new r → Walks k a q old new r
  walks_then h w = subst (λ (t : Tree). Walks k t q old new r) (sym e) (record {
    leaf = record { has = w.leaf.has; is = w.leaf.is ∙ ap Leaf (sym (leaf_at-then l x y q h)) };
    asked = record {
      kept = w.asked.kept;
      has = λ m i. elim i [ inl o ↦ absurd (holds_fixed q l h o.0) | inr v ↦ elim v [ inl z ↦ w.asked.has m z.1 | inr n ↦ absurd (n.0 h) ] ];
      only = λ m i. elim (w.asked.only m i) [ inl v ↦ inl v | inr v ↦ inr (inr (inl (h, v))) ];
    };
  })

  pub walks_else : Bars q l → Walks k y q old new r → Walks k a q old new r
  walks_else b w = subst (λ (t : Tree). Walks k t q old new r) (sym e) (record {
    leaf = record { has = w.leaf.has; is = w.leaf.is ∙ ap Leaf (sym (leaf_at-else l x y q b.other)) };
    asked = record {
      kept = w.asked.kept;
      has = λ m i. elim i [ inl o ↦ absurd (b.fixed o.0) | inr v ↦ elim v [ inl z ↦ absurd (b.other z.0) | inr n ↦ w.asked.has m n.1 ] ];
      only = λ m i. elim (w.asked.only m i) [ inl v ↦ inl v | inr v ↦ inr (inr (inr (b.other, v))) ];
    };
  })

  pub walks_open : (mid : List Lit) → IsUnset q (lit_field l) → mid ≡ old ++ l ∷ [] → Walks k y q mid new r → Walks k a q old new r
  walks_open mid o i w = subst (λ (t : Tree). Walks k t q old new r) (sym e) (record {
    leaf = record { has = w.leaf.has; is = w.leaf.is ∙ ap Leaf (sym (leaf_at-else l x y q away)) };
    asked = record {
      kept = λ m j. w.asked.kept m (in_same _ _ m (sym i) (in-left old (l ∷ []) m j));
      has = λ m j. elim j [
        | inl v ↦ w.asked.kept m (in_same _ _ m (sym i) (in-right old (l ∷ []) m (inl v.1)))
        | inr v ↦ elim v [ inl z ↦ absurd (away z.0) | inr z ↦ w.asked.has m z.1 ]
      ];
      only = λ m j. elim (w.asked.only m j) [
        | inl v ↦ elim (in-either old (l ∷ []) m (in_same _ _ m i v)) [
          | inl z ↦ inl z
          | inr z ↦ elim z [ inl s ↦ inr (inl (o, s)) | inr n ↦ absurd n ]
        ]
        | inr v ↦ inr (inr (inr (away, v)))
      ];
    };
  })
    where
      away : ¬ Holds q l
      away z = lit_not_free l (sym z ∙ o)

-- tests noted one by one

pub asks_none : (r : Reach) → AsksAll [] r r
asks_none r = record { kept = λ m h. h; has = λ m h. absurd h; only = λ m h. inl h }

pub asks_one : (ls : List Lit) (l : Lit) (r s s' : Reach) → AsksAll ls r s → asked_of s' ≡ insert_key lit_cmp (asked_of s) l → AsksAll (ls ++ l ∷ []) r s'
asks_one ls l r s s' a e = record {
  kept = λ m h. in_same _ _ m (sym e) (insert_kept (asked_of s) l m (a.kept m h));
  has = λ m h. in_same _ _ m (sym e) (elim (in-either ls (l ∷ []) m h) [
    | inl i ↦ insert_kept (asked_of s) l m (a.has m i)
    | inr i ↦ elim i [ inl w ↦ subst (IsIn (insert_key lit_cmp (asked_of s) l)) w (insert_has (asked_of s) l) | inr n ↦ absurd n ]
  ]);
  only = λ m h. elim (insert_only (asked_of s) l m (in_same _ _ m e h)) [
    | inl i ↦ elim (a.only m i) [ inl w ↦ inl w | inr w ↦ inr (in-left ls (l ∷ []) m w) ]
    | inr w ↦ inr (in-right ls (l ∷ []) m (inl w))
  ];
}

pub asks_kept : (ls : List Lit) (r s s' : Reach) → AsksAll ls r s → asked_of s' ≡ asked_of s → AsksAll ls r s'
asks_kept ls r s s' a e = record {
  kept = λ m h. in_same _ _ m (sym e) (a.kept m h);
  has = λ m h. in_same _ _ m (sym e) (a.has m h);
  only = λ m h. a.only m (in_same _ _ m e h);
}

-- what a visit asks is what its packet's path asks
pub asks_visit : (t : Tree) (q : Packet) (ls : List Lit) (r s : Reach) → AsksMore t q [] ls → AsksAll ls r s → AsksMore t q (asked_of r) (asked_of s)
asks_visit t q ls r s h a = record {
  kept = a.kept;
  has = λ m w. a.has m (h.has m w);
  only = λ m i. elim (a.only m i) [
    | inl w ↦ inl w
    | inr w ↦ elim (h.only m w) [ inl n ↦ absurd n | inr x ↦ inr x ]
  ];
}

-- The copies of a leaf after the copy x: new has what they make, beside what old has.
pub record Adds (c : Packet) (x : List Lit) (ds : List (List Lit)) (old new : Reach) : Type 0 where
  pub more : List (List Lit)
  pub joined : reached_copies new ≡ reached_copies old ++ more
  pub has : (d : List Lit) → IsIn ds d → IsIn (outcomes (reached_copies new) c) (apply d (apply x c))
  pub only : (y : List Lit) → IsIn more y → (d : List Lit) × IsIn ds d × (y ≡ after x d) × IsCopy x
  pub late : (y : List Lit) → IsIn more y → ¬ IsIn (outcomes (reached_copies old) c) (apply y c)

pub adds_none : (c : Packet) (x : List Lit) (r s : Reach) → reached_copies s ≡ reached_copies r → Adds c x [] r s
adds_none c x r s e = record {
  more = [];
  joined = e ∙ sym (append-nil (reached_copies r));
  has = λ d h. absurd h;
  only = λ y h. absurd h;
  late = λ y h. absurd h;
}

-- a copy that makes a packet which is there
adds_old : (c : Packet) (x : List Lit) (ds : List (List Lit)) (d : List Lit) (r s s' : Reach) → Adds c x ds r s → reached_copies s' ≡ reached_copies s → IsIn (outcomes (reached_copies s) c) (apply d (apply x c)) → Adds c x (ds ++ d ∷ []) r s'
adds_old c x ds d r s s' a e h = record {
  more = a.more;
  joined = e ∙ a.joined;
  has = λ d' k. outcome_in _ _ c _ (sym e) (elim (in-either ds (d ∷ []) d' k) [
    | inl i ↦ a.has d' i
    | inr i ↦ elim i [ inl w ↦ subst (λ (z : List Lit). IsIn (outcomes (reached_copies s) c) (apply z (apply x c))) w h | inr n ↦ absurd n ]
  ]);
  only = λ y k. let w = a.only y k in (w.0, in-left ds (d ∷ []) w.0 w.1, w.2, w.3);
  late = a.late;
}

-- a copy that makes a new one
adds_new : (c : Packet) (x : List Lit) (ds : List (List Lit)) (d y : List Lit) (r s s' : Reach) → Adds c x ds r s → reached_copies s' ≡ reached_copies s ++ y ∷ [] → y ≡ after x d → IsCopy x → apply y c ≡ apply d (apply x c) → ¬ IsIn (outcomes (reached_copies s) c) (apply d (apply x c)) → Adds c x (ds ++ d ∷ []) r s'
adds_new c x ds d y r s s' a e ey copy makes new = record {
  more = a.more ++ y ∷ [];
  joined = e ∙ ap (λ (zs : List (List Lit)). zs ++ y ∷ []) a.joined ∙ append_assoc (reached_copies r) a.more (y ∷ []);
  has = λ d' k. outcome_in _ _ c _ (sym e) (elim (in-either ds (d ∷ []) d' k) [
    | inl i ↦ outcome_left _ _ c _ (a.has d' i)
    | inr i ↦ elim i [
      | inl w ↦ subst (λ (z : List Lit). IsIn (outcomes (reached_copies s ++ y ∷ []) c) (apply z (apply x c))) w (subst (IsIn (outcomes (reached_copies s ++ y ∷ []) c)) makes (outcome (reached_copies s ++ y ∷ []) y c (in-right (reached_copies s) (y ∷ []) y (inl refl))))
      | inr n ↦ absurd n
    ]
  ]);
  only = λ z k. elim (in-either a.more (y ∷ []) z k) [
    | inl i ↦ let w = a.only z i in (w.0, in-left ds (d ∷ []) w.0 w.1, w.2, w.3)
    | inr i ↦ elim i [ inl w ↦ (d, in-right ds (d ∷ []) d (inl refl), sym w ∙ ey, copy) | inr n ↦ absurd n ]
  ];
  late = λ z k h. elim (in-either a.more (y ∷ []) z k) [
    | inl i ↦ a.late z i h
    | inr i ↦ elim i [
      | inl w ↦ new (outcome_in _ _ c _ (sym a.joined) (outcome_left (reached_copies r) a.more c _ (subst (IsIn (outcomes (reached_copies r) c)) (ap (λ (v : List Lit). apply v c) (sym w) ∙ makes) h)))
      | inr n ↦ absurd n
    ]
  ];
}

-- The copies of a leaf after the copy x, as they are added one by one: the cells stay numbered.
abbrev pub AddsSuccessors : List Key → ℕ → Packet → List Lit → List Successor → Reach → Reach → Type 0
AddsSuccessors keys d c x ss old new = IsNumbered keys d c new × Adds c x (map copy_of ss) old new

-- a successor more
pub adds_more : (keys : List Key) (d : ℕ) (c : Packet) (x : List Lit) (ss : List Successor) (t : Successor) (r s s' : Reach) → AreApart keys → IsNumberOf keys d (apply t.copy (apply x c)) t.number → AddsSuccessors keys d c x ss r s → NotesNumber t.number x t.copy s s' → AddsSuccessors keys d c x (ss ++ t ∷ []) r s'
adds_more keys d c x ss t r s s' apart number a n =
    let back = λ (z : Adds c x (map copy_of ss ++ t.copy ∷ []) r s'). subst (λ (ds : List (List Lit)). Adds c x ds r s') (sym (map_end ss t)) z in
    elim n.which [
      | inl w ↦ (
        subst (AreNumbersOf keys d c (reached_copies s')) (sym w.1) (subst (λ (ys : List (List Lit)). AreNumbersOf keys d c ys s.numbers) (sym w.2) a.0),
        back (adds_old c x (map copy_of ss) t.copy r s s' a.1 w.2 (numbers_made keys d c (reached_copies s) s.numbers (apply t.copy (apply x c)) t.number a.0 number w.0)),
      )
      | inr w ↦
          let makes = after_apply x t.copy c w.3 in
          let next = numbers_next keys d c (reached_copies s) s.numbers (after x t.copy) t.number a.0 (subst (λ (z : Packet). IsNumberOf keys d z t.number) (sym makes) number) in (
            subst (AreNumbersOf keys d c (reached_copies s')) (sym w.1) (subst (λ (ys : List (List Lit)). AreNumbersOf keys d c ys (s.numbers ++ t.number ∷ [])) (sym w.2) next),
            back (adds_new c x (map copy_of ss) t.copy (after x t.copy) r s s' a.1 w.2 refl w.3 makes (λ k. w.0 (numbers_have keys d c (reached_copies s) s.numbers (apply t.copy (apply x c)) t.number apart a.0 number k))),
          )
    ]

-- growing

pub grows_none : (p : Tree) (c : Packet) (r : Reach) → Grows p c [] r r
grows_none p c r = record {
  more = [];
  joined = sym (append-nil (reached_copies r));
  has = λ x q h. absurd h;
  only = λ y h. absurd h;
  late = λ y h. absurd h;
  kept = λ m h. h;
  asks = λ x m h. absurd h;
  asked = λ m h. inl h;
}

pub grows_more : (p : Tree) (c : Packet) (xs ys : List (List Lit)) (r s t : Reach) → Grows p c xs r s → Grows p c ys s t → Grows p c (xs ++ ys) r t
grows_more p c xs ys r s t g h = record {
  more = g.more ++ h.more;
  joined = h.joined ∙ ap (λ (zs : List (List Lit)). zs ++ h.more) g.joined ∙ append_assoc (reached_copies r) g.more h.more;
  has = λ x q k w. elim (in-either xs ys x k) [
    | inl i ↦ outcome_in _ _ c q (sym h.joined) (outcome_left _ _ c q (g.has x q i w))
    | inr i ↦ h.has x q i w
  ];
  only = λ y k. elim (in-either g.more h.more y k) [
    | inl i ↦ let w = g.only y i in (w.0, in-left xs ys w.0 w.1, w.2)
    | inr i ↦ let w = h.only y i in (w.0, in-right xs ys w.0 w.1, w.2)
  ];
  late = λ y k w. elim (in-either g.more h.more y k) [
    | inl i ↦ g.late y i w
    | inr i ↦ h.late y i (outcome_in _ _ c _ (sym g.joined) (outcome_left _ _ c _ w))
  ];
  kept = λ m k. h.kept m (g.kept m k);
  asks = λ x m k w. elim (in-either xs ys x k) [
    | inl i ↦ h.kept m (g.asks x m i w)
    | inr i ↦ h.asks x m i w
  ];
  asked = λ m k. elim (h.asked m k) [
    | inl i ↦ elim (g.asked m i) [ inl j ↦ inl j | inr j ↦ inr (j.0, in-left xs ys j.0 j.1, j.2) ]
    | inr i ↦ inr (i.0, in-right xs ys i.0 i.1, i.2)
  ];
}

-- the copies of the leaf where a copy comes to, and what its path asks
pub grows_one : (p : Tree) (c : Packet) (x : List Lit) (r s : Reach) → Adds c x (leaf_at p (apply x c)) r s → AsksMore p (apply x c) (asked_of r) (asked_of s) → Grows p c (x ∷ []) r s
grows_one p c x r s a k = record {
  more = a.more;
  joined = a.joined;
  has = λ y q h w.
      let o = source (leaf_at p (apply y c)) (apply y c) q w in
      elim h [
        | inl e ↦
            let among = subst (λ (z : List Lit). IsIn (leaf_at p (apply z c)) o.copy) (sym e) o.among in
            subst (IsIn (outcomes (reached_copies s) c)) (ap (λ (z : List Lit). apply o.copy (apply z c)) e ∙ o.makes) (a.has o.copy among)
        | inr n ↦ absurd n
      ];
  only = λ y h.
      let w = a.only y h in (
        x,
        inl refl,
        record {
          made = subst (IsIn (answers p (apply x c))) (sym (after_apply x w.0 c w.3) ∙ ap (λ (z : List Lit). apply z c) (sym w.2)) (outcome (leaf_at p (apply x c)) w.0 (apply x c) w.1);
          named = λ m i. elim (after_among x w.0 m (in_same _ _ m w.2 i)) [
            | inl v ↦ inl v
            | inr v ↦ inr (leaf_assigns p (apply x c) m (among_lists (leaf_at p (apply x c)) w.0 m w.1 v))
          ];
          follows = λ s f pk. ap (λ (z : List Lit). apply z (apply s pk)) w.2 ∙ after_apply x w.0 (apply s pk) w.3 ∙ ap (apply w.0) (f pk) ∙ sym (after_apply x w.0 pk w.3) ∙ ap (λ (z : List Lit). apply z pk) (sym w.2);
        },
      );
  late = a.late;
  kept = k.kept;
  asks = λ y m h w. elim h [
    | inl e ↦ k.has m (subst (λ (z : List Lit). Asks p (apply z c) m) (sym e) w)
    | inr n ↦ absurd n
  ];
  asked = λ m h. elim (k.only m h) [ inl w ↦ inl w | inr w ↦ inr (x, inl refl, w) ];
}

-- from a place on, up to another

pub none_yet : (n : ℕ) (xs : List (List Lit)) → take (n - n) (drop n xs) ≡ []
none_yet n xs = let z : n - n ≡ 0 = omega arith in ap (λ (k : ℕ). take k (drop n xs)) z

pub one_more : (n i : ℕ) (xs more : List (List Lit)) (d : List Lit) → n ≤ i → i < length xs → take (i + 1 - n) (drop n xs) ≡ take (i - n) (drop n xs) ++ get_or (xs ++ more) i d ∷ []
one_more n i xs more d b h =
    let z : i + 1 - n ≡ (i - n) + 1 = omega (arith, b) in
    let k = ap (λ (j : ℕ). take j (drop n xs)) z in
    let m = take_more (drop n xs) (i - n) d (let e = length-drop n xs in omega (arith, e, b, h)) in
    let y : n + (i - n) ≡ i = omega (arith, b) in
    let g = get_or-drop n xs (i - n) d ∙ ap (λ (j : ℕ). get_or xs j d) y ∙ sym (get_or_append_left xs more d i h) in
    k ∙ m ∙ ap (λ (x : List Lit). take (i - n) (drop n xs) ++ x ∷ []) g

pub all_done : (n i : ℕ) (xs : List (List Lit)) → length xs ≤ i → take (i - n) (drop n xs) ≡ drop n xs
all_done n i xs h = take_all (i - n) (drop n xs) (let e = length-drop n xs in omega (arith, e, h))
