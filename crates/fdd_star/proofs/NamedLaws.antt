-- Names that are gathered.
use Rattle.std.proofs.Common.{◌≡◌, ◌⊎◌, ℕ, inl, inr, refl, sym, subst, arith, Bool, true, false, cond, not, ◌∙◌, List, [], ◌∷◌, ◌++◌}
use Rattle.std.proofs.lemmas.Bool.{false≢true, not-true, or_cases, or_left, or_right}
use Rattle.std.specs.List.{list_any}
use Rattle.indexmap.specs.IndexSet.{insert_key}
use Rattle.nk_values.specs.declared.packet.Packet.{Packet}
use Rattle.nk_values.specs.declared.lit.Lit.{Lit}
use Rattle.nk_values.specs.Members.{IsIn}
use Rattle.nk_values.specs.Ranks.{lit_eq}
use Rattle.nk_values.proofs.LitLaws.{lit_eq-Decides}
use Rattle.nk_values.proofs.MemberLaws.{in-left, in-right, in-either}
use Rattle.fdd_nodes.specs.Cells.{IsFresh}
use Rattle.fdd_nodes.specs.Names.{IsFew, literals}
use Rattle.fdd_nodes.specs.Trees.{Tree, Leaf, Node, IsSetBy, Assigns}
use Rattle.fdd_nodes.proofs.NameLaws.{count_within, tests_literal, assigns_literal}
use Rattle.fdd_differ.specs.Unnamed.{AreFewNames, IsFreshOf}
use Rattle.fdd_star.specs.declared.names.Names.{Names}
use Rattle.fdd_star.specs.Named.{AddsNames, AreNamed, Covers, Gains, NamesLit}
use Rattle.fdd_star.proofs.FieldLaws.{id_eq, same_id}
use Rattle.fdd_store.specs.Stores.{Kept, tree_at}

-- members of a set with one key more

pub found_in : {K : Type 0} (eq : K → K → Bool) (same : (x y : K) → eq x y ≡ true → x ≡ y) (q : K) (ks : List K) → list_any (eq q) ks ≡ true → IsIn ks q
found_in eq same q [] h = absurd (false≢true h)
found_in eq same q (k ∷ ks) h = elim (or_cases (eq q k) (list_any (eq q) ks) h) [
  | inl e ↦ inl (sym (same q k e))
  | inr n ↦ inr (found_in eq same q ks n)
]

pub there_found : {K : Type 0} (eq : K → K → Bool) (itself : (x : K) → eq x x ≡ true) (q : K) (ks : List K) → IsIn ks q → list_any (eq q) ks ≡ true
there_found eq itself q (k ∷ ks) h = elim h [
  | inl e ↦ or_left (eq q k) (list_any (eq q) ks) (subst (λ x. eq q x ≡ true) (sym e) (itself q))
  | inr n ↦ or_right (eq q k) (list_any (eq q) ks) (there_found eq itself q ks n)
]
there_found eq itself q [] h = absurd h

module _ {K : Type 0} (eq : K → K → Bool) (same : (x y : K) → eq x y ≡ true → x ≡ y) (q : K) (ks : List K) where
  pub with_has : IsIn (insert_key eq ks q) q
  with_has = by (list_any (eq q) ks) refl
    where
      by : (b : Bool) → list_any (eq q) ks ≡ b → IsIn (cond b ks (ks ++ q ∷ [])) q
      by true e = found_in eq same q ks e
      by false e = in-right ks (q ∷ []) q (inl refl)

  pub with_kept : (x : K) → IsIn ks x → IsIn (insert_key eq ks q) x
  with_kept x h = by (list_any (eq q) ks)
    where
      by : (b : Bool) → IsIn (cond b ks (ks ++ q ∷ [])) x
      by true = h
      by false = in-left ks (q ∷ []) x h

  pub with_only : (x : K) → IsIn (insert_key eq ks q) x → IsIn ks x ⊎ (q ≡ x)
  with_only x h = by (list_any (eq q) ks) h
    where
      by : (b : Bool) → IsIn (cond b ks (ks ++ q ∷ [])) x → IsIn ks x ⊎ (q ≡ x)
      by true k = inl k
      by false k = elim (in-either ks (q ∷ []) x k) [ inl w ↦ inl w | inr w ↦ elim w [ inl e ↦ inr e | inr n ↦ absurd n ] ]

pub same_lits : (x y : Lit) → lit_eq x y ≡ true → x ≡ y
same_lits x y h = (lit_eq-Decides x y).0 h

-- gaining

pub gains_none : (P : Lit → Type 0) (ls : List Lit) → ((m : Lit) → P m → IsIn ls m) → Gains P ls ls
gains_none P ls h = record { kept = λ m k. k; has = h; only = λ m k. inl k }

pub gains_one : (l : Lit) (ls ms : List Lit) → ms ≡ insert_key lit_eq ls l → Gains (λ m. l ≡ m) ls ms
gains_one l ls ms e = subst (Gains (λ m. l ≡ m) ls) (sym e) (record {
  kept = with_kept lit_eq same_lits l ls;
  has = λ m k. subst (IsIn (insert_key lit_eq ls l)) k (with_has lit_eq same_lits l ls);
  only = with_only lit_eq same_lits l ls;
})

pub gains_on : (P Q : Lit → Type 0) (ls ms ns : List Lit) → Gains P ls ms → Gains Q ms ns → Gains (λ m. P m ⊎ Q m) ls ns
gains_on P Q ls ms ns g h = record {
  kept = λ m k. h.kept m (g.kept m k);
  has = λ m k. elim k [ inl w ↦ h.kept m (g.has m w) | inr w ↦ h.has m w ];
  only = λ m k. elim (h.only m k) [ inl w ↦ elim (g.only m w) [ inl u ↦ inl u | inr u ↦ inr (inl u) ] | inr w ↦ inr (inr w) ];
}

pub gains_as : (P Q : Lit → Type 0) (ls ms : List Lit) → ((m : Lit) → P m → Q m) → ((m : Lit) → Q m → P m) → Gains P ls ms → Gains Q ls ms
gains_as P Q ls ms f b g = record { kept = g.kept; has = λ m k. g.has m (b m k); only = λ m k. elim (g.only m k) [ inl w ↦ inl w | inr w ↦ inr (f m w) ] }

-- what a leaf names
pub gains_leaf : (t : Tree) (cs : List (List Lit)) (ls ms : List Lit) → t ≡ Leaf cs → Gains (IsSetBy cs) ls ms → Gains (NamesLit t) ls ms
gains_leaf t cs ls ms e g = subst (λ (x : Tree). Gains (NamesLit x) ls ms) (sym e) (gains_as _ _ ls ms (λ m k. inr k) (λ m k. elim k [ inl n ↦ absurd n | inr w ↦ w ]) g)

-- what a test names, and what its branches do
pub gains_test : (l : Lit) (t e : Tree) (ls ms ns os : List Lit) → ms ≡ insert_key lit_eq ls l → Gains (NamesLit t) ms ns → Gains (NamesLit e) ns os → Gains (NamesLit (Node l t e)) ls os
gains_test l t e ls ms ns os i g h =
    gains_as _ _ ls os
    (λ m k. elim k [
      | inl s ↦ inl (inl s)
      | inr w ↦ elim w [ inl u ↦ elim u [ inl x ↦ inl (inr (inl x)) | inr x ↦ inr (inl x) ] | inr u ↦ elim u [ inl x ↦ inl (inr (inr x)) | inr x ↦ inr (inr x) ] ]
    ])
    (λ m k. elim k [
      | inl u ↦ elim u [ inl s ↦ inl s | inr w ↦ elim w [ inl x ↦ inr (inl (inl x)) | inr x ↦ inr (inr (inl x)) ] ]
      | inr u ↦ elim u [ inl x ↦ inr (inl (inr x)) | inr x ↦ inr (inr (inr x)) ]
    ])
    (gains_on _ _ ls ms os (gains_one l ls ms i) (gains_on _ _ ms ns os g h))

-- lists one by one

pub gains_lit : (xs : List Lit) (l : Lit) (ls ms ns : List Lit) → Gains (IsIn xs) ls ms → ns ≡ insert_key lit_eq ms l → Gains (IsIn (xs ++ l ∷ [])) ls ns
gains_lit xs l ls ms ns g e = gains_as _ _ ls ns
    (λ m k. elim k [ inl w ↦ in-left xs (l ∷ []) m w | inr w ↦ in-right xs (l ∷ []) m (inl w) ])
    (λ m k. elim (in-either xs (l ∷ []) m k) [ inl w ↦ inl w | inr w ↦ elim w [ inl s ↦ inr s | inr n ↦ absurd n ] ])
    (gains_on _ _ ls ms ns g (gains_one l ms ns e))

set_either : (cs : List (List Lit)) (c : List Lit) (m : Lit) → IsSetBy (cs ++ c ∷ []) m → IsSetBy cs m ⊎ IsIn c m
set_either [] c m h = elim h [ inl w ↦ inr w | inr n ↦ absurd n ]
set_either (x ∷ cs) c m h = elim h [ inl w ↦ inl (inl w) | inr w ↦ elim (set_either cs c m w) [ inl u ↦ inl (inr u) | inr u ↦ inr u ] ]

set_before : (cs : List (List Lit)) (c : List Lit) (m : Lit) → IsSetBy cs m → IsSetBy (cs ++ c ∷ []) m
set_before [] c m h = absurd h
set_before (x ∷ cs) c m h = elim h [ inl w ↦ inl w | inr w ↦ inr (set_before cs c m w) ]

set_last : (cs : List (List Lit)) (c : List Lit) (m : Lit) → IsIn c m → IsSetBy (cs ++ c ∷ []) m
set_last [] c m h = inl h
set_last (x ∷ cs) c m h = inr (set_last cs c m h)

pub gains_copy : (cs : List (List Lit)) (c : List Lit) (ls ms ns : List Lit) → Gains (IsSetBy cs) ls ms → Gains (IsIn c) ms ns → Gains (IsSetBy (cs ++ c ∷ [])) ls ns
gains_copy cs c ls ms ns g h = gains_as _ _ ls ns (λ m k. elim k [ inl w ↦ set_before cs c m w | inr w ↦ set_last cs c m w ]) (set_either cs c) (gains_on _ _ ls ms ns g h)

-- diagrams that are gone through

named_more : (k : Kept) (a : ℕ) (old new : Names) → new.done.keys ≡ insert_key id_eq old.done.keys a → new.named.keys ≡ old.named.keys → new.assigned.keys ≡ old.assigned.keys → AreNamed k old → ((m : Lit) → NamesLit (tree_at k a) m → IsIn old.named.keys m) → Covers old.assigned.keys (tree_at k a) → AreNamed k new
named_more k a old new e n s h f g = record {
  named = λ b i m w. subst (λ (xs : List Lit). IsIn xs m) (sym n) (elim (gone b i) [ inl j ↦ h.named b j m w | inr y ↦ f m (subst (λ (x : ℕ). NamesLit (tree_at k x) m) (sym y) w) ]);
  assigned = λ b i m w. subst (λ (xs : List Lit). IsIn xs m) (sym s) (elim (gone b i) [ inl j ↦ h.assigned b j m w | inr y ↦ g m (subst (λ (x : ℕ). Assigns (tree_at k x) m) (sym y) w) ]);
}
  where
    gone : (b : ℕ) → IsIn new.done.keys b → IsIn old.done.keys b ⊎ (a ≡ b)
    gone b i = with_only id_eq same_id a old.done.keys b (subst (λ (xs : List ℕ). IsIn xs b) e i)

-- where more literals are named, and as many diagrams were gone through
named_on : (k : Kept) (old new : Names) → new.done.keys ≡ old.done.keys → ((m : Lit) → IsIn old.named.keys m → IsIn new.named.keys m) → ((m : Lit) → IsIn old.assigned.keys m → IsIn new.assigned.keys m) → AreNamed k old → AreNamed k new
named_on k old new e f g h = record {
  named = λ a i m w. f m (h.named a (subst (λ (xs : List ℕ). IsIn xs a) e i) m w);
  assigned = λ a i m w. g m (h.assigned a (subst (λ (xs : List ℕ). IsIn xs a) e i) m w);
}

pub named_first : (k : Kept) (n : Names) → n.done.keys ≡ [] → AreNamed k n
named_first k n e = record { named = λ a i. absurd (subst (λ (xs : List ℕ). IsIn xs a) e i); assigned = λ a i. absurd (subst (λ (xs : List ℕ). IsIn xs a) e i) }

pub named_test : (k : Kept) (l : Lit) (old new : Names) → new.named.keys ≡ insert_key lit_eq old.named.keys l → new.assigned.keys ≡ old.assigned.keys → new.done.keys ≡ old.done.keys → AreNamed k old → AreNamed k new
named_test k l old new e s d h = named_on k old new d (gains_one l _ _ e).kept (λ m w. subst (λ (xs : List Lit). IsIn xs m) (sym s) w) h

pub adds_there : (k : Kept) (a : ℕ) (n : Names) → list_any (id_eq a) n.done.keys ≡ true → AreNamed k n → AddsNames k (tree_at k a) n n
adds_there k a n e h =
    let i = found_in id_eq same_id a n.done.keys e in
    record { named = gains_none _ _ (h.named a i); assigned = gains_none _ _ (h.assigned a i); done = h }

pub adds_leaf : (k : Kept) (t : Tree) (cs : List (List Lit)) (old new : Names) → t ≡ Leaf cs → Gains (IsSetBy cs) old.named.keys new.named.keys → Gains (IsSetBy cs) old.assigned.keys new.assigned.keys → new.done.keys ≡ old.done.keys → AreNamed k old → AddsNames k t old new
adds_leaf k t cs old new e g h d w = record {
  named = gains_leaf t cs _ _ e g;
  assigned = subst (λ (x : Tree). Gains (Assigns x) old.assigned.keys new.assigned.keys) (sym e) h;
  done = named_on k old new d g.kept h.kept w;
}

pub adds_fork : (k : Kept) (l : Lit) (t x y : Tree) (old test mid new : Names) → t ≡ Node l x y → test.named.keys ≡ insert_key lit_eq old.named.keys l → test.assigned.keys ≡ old.assigned.keys → AddsNames k x test mid → AddsNames k y mid new → AddsNames k t old new
adds_fork k l t x y old test mid new e i s g h = record {
  named = subst (λ (z : Tree). Gains (NamesLit z) old.named.keys new.named.keys) (sym e) (gains_test l x y _ _ _ _ i g.named h.named);
  assigned = subst (λ (z : Tree). Gains (Assigns z) old.assigned.keys new.assigned.keys) (sym e) (gains_on _ _ _ _ _ (subst (λ (xs : List Lit). Gains (Assigns x) xs mid.assigned.keys) s g.assigned) h.assigned);
  done = h.done;
}

-- and it is gone through itself
pub adds_done : (k : Kept) (a : ℕ) (old mid new : Names) → new.done.keys ≡ insert_key id_eq mid.done.keys a → new.named.keys ≡ mid.named.keys → new.assigned.keys ≡ mid.assigned.keys → AddsNames k (tree_at k a) old mid → AddsNames k (tree_at k a) old new
adds_done k a old mid new e n s h = record {
  named = subst (Gains (NamesLit (tree_at k a)) old.named.keys) (sym n) h.named;
  assigned = subst (Gains (Assigns (tree_at k a)) old.assigned.keys) (sym s) h.assigned;
  done = named_more k a mid new e n s h.done h.named.has h.assigned.has;
}

pub not_in : (ks : List Lit) (l : Lit) (b : Bool) → b ≡ list_any (lit_eq l) ks → not b ≡ true → ¬ IsIn ks l
not_in ks l b e n h = false≢true (sym (not-true b n) ∙ e ∙ there_found lit_eq (λ x. (lit_eq-Decides x x).1 refl) l ks h)

-- a packet that holds none of the names

pub few_names : (t : Tree) (ls : List Lit) → IsFew t → Gains (NamesLit t) [] ls → AreFewNames ls
few_names t ls few g = record {
  bound =
      let k = count_within ls (literals t) (λ m h. elim (g.only m h) [
        | inl n ↦ absurd n
        | inr w ↦ elim w [ inl x ↦ tests_literal t m x | inr x ↦ assigns_literal t m x ]
      ]) in
      omega (arith, k, few);
}

pub fresh_of : (t : Tree) (ls : List Lit) (g : Packet) → Gains (NamesLit t) [] ls → IsFreshOf ls g → IsFresh g t
fresh_of t ls g n f = record { tested = λ m k. f.missing m (n.has m (inl k)); assigned = λ m k. f.missing m (n.has m (inr k)) }
