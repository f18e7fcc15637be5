-- What is kept by keys: what is found is right, and so is what is added.
use Rattle.std.specs.Prelude.{IfSome, option_copied, slice_get}
use Rattle.std.proofs.Common.{rules, Bor, ◌≡◌, ◌⊎◌, inl, inr, ℕ, zero, suc, refl, sym, ◌∙◌, ap, subst, Bool, true, false, cond, List, [], ◌∷◌, ◌++◌, length, set, Option, Some, None, if◌then◌else◌}
use Rattle.std.specs.Map.{lookup}
use Rattle.std.specs.Cmp.Lexicographic.{pointwise_decides}
use Rattle.indexmap.specs.IndexMap.{insert_entry}
use Rattle.nk_values.specs.declared.lit.Lit.{Lit}
use Rattle.nk_values.proofs.LitLaws.{lit_eq-Decides}
use Rattle.fdd_nodes.specs.declared.node.Node.{Node}
use Rattle.fdd_nodes.specs.Trees.{Tree, tree}
use Rattle.fdd_store.specs.Stores.{Kept, Has, Grows, tree_at}
use Rattle.fdd_store.proofs.NodeLaws.{nodes_grown}
use Rattle.fdd_store.proofs.StoreLaws.{has_grown, tree_grown}
use Rattle.fdd_split.specs.declared.bars.Bar.{Bar}
use Rattle.fdd_split.specs.declared.memo.Key.{Key}
use Rattle.fdd_split.specs.declared.memo.Part.{Part}
use Rattle.fdd_split.specs.declared.memo.Memo.{Memo}
use Rattle.fdd_split.specs.contracts.memo.KeyPartialEq.TheImpl as key_impl
use Rattle.fdd_split.specs.Divides.{Divides}
use Rattle.fdd_split.specs.Pairs.{IsFirstOf}
use Rattle.fdd_split.specs.Threats.{Threat}
use Rattle.fdd_split.specs.Memos.{EachIs, ArePlainEntries, IsPlain, IsPlainEntry, IsThreatEntry, IsPartEntry, AreKept}

lent : {V : Type 0} (P : V → Type 0) (o : Option (Bor V)) → IfSome (option_copied o) P → IfSome o (λ v. P v.now)
lent P None h = tt
lent P (Some v) h = h

-- where a test tells that two keys are one, what is right for one is right for the other
module _ {K V : Type 0} (eq : K → K → Bool) (P : K → V → Type 0) (to : (x y : K) → eq x y ≡ true → (v : V) → P x v → P y v) (back : (x y : K) → eq x y ≡ true → (v : V) → P y v → P x v) where
  right_found : (q : K) (es : List (K × V)) → EachIs P es → IfSome (lookup (eq q) es) (P q)
  right_found q [] h = tt
  right_found q (x ∷ xs) h = by (eq q x.0) refl (right_found q xs h.1)
    where
      by : (b : Bool) → eq q x.0 ≡ b → IfSome (lookup (eq q) xs) (P q) → IfSome (cond b (Some x.1) (lookup (eq q) xs)) (P q)
      by true e k = back q x.0 e x.1 h.0
      by false e k = k

  pub found_right : (q : K) (es : List (K × V)) (o : Option (Bor V)) → EachIs P es → option_copied o ≡ lookup (eq q) es → IfSome o (λ v. P q v.now)
  found_right q es o h e = lent (P q) o (subst (λ (x : Option V). IfSome x (P q)) (sym e) (right_found q es h))

  pub right_added : (q : K) (v : V) (es : List (K × V)) → EachIs P es → P q v → EachIs P (insert_entry eq es q v)
  right_added q v [] h k = (k, tt)
  right_added q v (x ∷ xs) h k = by (eq q x.0) refl (right_added q v xs h.1 k)
    where
      by : (b : Bool) → eq q x.0 ≡ b → EachIs P (insert_entry eq xs q v) → EachIs P (if b then (x.0, v) ∷ xs else x ∷ insert_entry eq xs q v)
      by true e n = (to q x.0 e v k, h.1)
      by false e n = (h.0, n)

-- what is kept stays right where a law leads from old to new
each_on : {K V : Type 0} (P Q : K → V → Type 0) (es : List (K × V)) → ((x : K) (v : V) → P x v → Q x v) → EachIs P es → EachIs Q es
each_on P Q [] f h = tt
each_on P Q (e ∷ es) f h = (f e.0 e.1 h.0, each_on P Q es f h.1)

-- what is known of places

last_or : {X : Type 0} (xs : List X) (y z : X) (i : ℕ) → slice_get (xs ++ y ∷ []) i ≡ Some z → (slice_get xs i ≡ Some z) ⊎ ((i ≡ length xs) × (y ≡ z))
last_or [] y z zero e = inr (refl, cc)
last_or [] y z (suc i) e = absurd (let w : None ≡ Some z = e in cc)
last_or (x ∷ xs) y z zero e = inl e
last_or (x ∷ xs) y z (suc i) e = elim (last_or xs y z i e) [ inl h ↦ inl h | inr h ↦ inr (ap suc h.0, h.1) ]

pub unknown_added : (k : Kept) (known : List (Option Bool)) → ArePlainEntries k known → ArePlainEntries k (known ++ None ∷ [])
unknown_added k known h a b e = elim (last_or known None (Some b) a e) [ inl s ↦ h a b s | inr n ↦ absurd (let w : None ≡ Some b = n.1 in cc) ]

same_known : (b c : Bool) → Some b ≡ Some c → b ≡ c
same_known b c e = cc

pub known_added : (k : Kept) (known : List (Option Bool)) (a : ℕ) (b : Bool) → length known ≡ a → ArePlainEntries k known → IsPlainEntry k a b → ArePlainEntries k (known ++ Some b ∷ [])
known_added k known a b n h w x c e = elim (last_or known (Some b) (Some c) x e) [
  | inl s ↦ h x c s
  | inr m ↦
      subst (λ (d : Bool). IsPlainEntry k x d) (same_known b c m.1) (subst (λ (y : ℕ). IsPlainEntry k y b) (sym n ∙ sym m.0) w)
]

set_or : {X : Type 0} (xs : List X) (i : ℕ) (y z : X) (j : ℕ) → slice_get (set xs i y) j ≡ Some z → (slice_get xs j ≡ Some z) ⊎ ((j ≡ i) × (y ≡ z))
set_or [] i y z j e = inl e
set_or (x ∷ xs) zero y z zero e = inr (refl, cc)
set_or (x ∷ xs) zero y z (suc j) e = inl e
set_or (x ∷ xs) (suc i) y z zero e = inl e
set_or (x ∷ xs) (suc i) y z (suc j) e = elim (set_or xs i y z j e) [ inl h ↦ inl h | inr h ↦ inr (ap suc h.0, h.1) ]

pub known_set : (k : Kept) (known : List (Option Bool)) (a i : ℕ) (b : Bool) → i ≡ a → ArePlainEntries k known → IsPlainEntry k a b → ArePlainEntries k (set known i (Some b))
known_set k known a i b n h w x c e = elim (set_or known i (Some b) (Some c) x e) [
  | inl s ↦ h x c s
  | inr m ↦ subst (λ (d : Bool). IsPlainEntry k x d) (same_known b c m.1) (subst (λ (y : ℕ). IsPlainEntry k y b) (sym (m.0 ∙ n)) w)
]

-- keys

abbrev pub key_eq : Key → Key → Bool
key_eq = key_impl.eq-value.it

pub same_bars : (x y : Key) → key_eq x y ≡ true → x.bars.items ≡ y.bars.items
same_bars x y h = search (rules, lit_eq-Decides, pointwise_decides)

pub same_diagram : (x y : Key) → key_eq x y ≡ true → x.diagram ≡ y.diagram
same_diagram x y h = search rules

module _ (k : Kept) where
  pub threat_to : (x y : Key) → key_eq x y ≡ true → (o : Option Lit) → IsThreatEntry k x o → IsThreatEntry k y o
  threat_to x y e o h = subst (λ z. Has k z × IsFirstOf (Threat y.bars.items (tree_at k z)) o) (same_diagram x y e) (subst (λ z. Has k x.diagram × IsFirstOf (Threat z (tree_at k x.diagram)) o) (same_bars x y e) h)

  pub threat_back : (x y : Key) → key_eq x y ≡ true → (o : Option Lit) → IsThreatEntry k y o → IsThreatEntry k x o
  threat_back x y e o h = subst (λ z. Has k z × IsFirstOf (Threat x.bars.items (tree_at k z)) o) (sym (same_diagram x y e)) (subst (λ z. Has k y.diagram × IsFirstOf (Threat z (tree_at k y.diagram)) o) (sym (same_bars x y e)) h)

  pub part_to : (x y : Key) → key_eq x y ≡ true → (r : Part) → IsPartEntry k x r → IsPartEntry k y r
  part_to x y e r h = subst (λ z. Has k z × Divides y.bars.items (tree_at k z) (tree r.root.value)) (same_diagram x y e) (subst (λ z. Has k x.diagram × Divides z (tree_at k x.diagram) (tree r.root.value)) (same_bars x y e) h)

  pub part_back : (x y : Key) → key_eq x y ≡ true → (r : Part) → IsPartEntry k y r → IsPartEntry k x r
  part_back x y e r h = subst (λ z. Has k z × Divides x.bars.items (tree_at k z) (tree r.root.value)) (sym (same_diagram x y e)) (subst (λ z. Has k y.diagram × Divides z (tree_at k y.diagram) (tree r.root.value)) (sym (same_bars x y e)) h)

-- what is kept stays right in a store that grows
pub kept_grown : (old new : Kept) (m : Memo) → Grows old new → AreKept old m → AreKept new m
kept_grown old new m g h = record {
  plain = λ a b e.
      let w = h.plain a b e in
      (has_grown old new a g w.0, λ z. subst (λ (x : Tree). IsPlain x) (sym (tree_grown old new a g w.0)) (w.1 z));
  threats = each_on (IsThreatEntry old) (IsThreatEntry new) m.threats.entries
      (λ q o w. (has_grown old new q.diagram g w.0, subst (λ (x : Tree). IsFirstOf (Threat q.bars.items x) o) (sym (tree_grown old new q.diagram g w.0)) w.1))
      h.threats;
  parts = each_on (IsPartEntry old) (IsPartEntry new) m.parts.entries
      (λ q r w. (has_grown old new q.diagram g w.0, subst (λ (x : Tree). Divides q.bars.items x (tree r.root.value)) (sym (tree_grown old new q.diagram g w.0)) w.1))
      h.parts;
  nodes = nodes_grown old new m.nodes g h.nodes;
}

-- what was divided is right where it is kept
pub part_kept : (old new : Kept) (q : Key) (k : List Bar) (a : ℕ) (r : Part) (n : Node) → q.bars.items ≡ k → q.diagram ≡ a → Grows old new → Has old a → Divides k (tree_at old a) (tree n) → r.root.value ≡ n → IsPartEntry new q r
part_kept old new q k a r n b d g h w e =
    subst (λ z. Has new z × Divides q.bars.items (tree_at new z) (tree r.root.value)) (sym d) (
      has_grown old new a g h,
      subst (λ (z : List Bar). Divides z (tree_at new a) (tree r.root.value)) (sym b)
          (subst (λ (x : Tree). Divides k x (tree r.root.value)) (sym (tree_grown old new a g h)) (subst (λ (z : Node). Divides k (tree_at old a) (tree z)) (sym e) w)),
    )
