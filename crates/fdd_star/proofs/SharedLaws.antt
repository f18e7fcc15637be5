-- Parts that are kept for other literals, and literals that are missed.
use Rattle.std.proofs.Common.{◌≡◌, ◌⊎◌, ◌<◌, ◌-◌, ℕ, arith, length, take, inl, inr, refl, sym, ap, ◌∙◌, subst, Bool, true, false, cond, not, List, [], ◌∷◌, ◌++◌}
use Rattle.std.proofs.lemmas.Bool.{not-false, not-true}
use Rattle.std.proofs.lemmas.List.{append_assoc, append-nil, length-append}
use Rattle.std.proofs.Math.Seq.{take-append_seam}
use Rattle.std.specs.List.{list_any}
use Rattle.indexmap.specs.IndexMap.{insert_entry}
use Rattle.indexmap.specs.IndexSet.{insert_key}
use Rattle.nk_values.specs.declared.field.Field.{Field}
use Rattle.nk_values.specs.declared.packet.Packet.{Packet}
use Rattle.nk_values.specs.declared.lit.Lit.{Lit}
use Rattle.nk_values.specs.Held.{put}
use Rattle.nk_values.specs.Lits.{lit_field}
use Rattle.nk_values.specs.Members.{IsIn}
use Rattle.nk_values.specs.Ranks.{lit_eq}
use Rattle.nk_values.proofs.MemberLaws.{in-either}
use Rattle.fdd_nodes.specs.Cells.{IsUnset}
use Rattle.fdd_nodes.specs.Trees.{Tree, Assigns}
use Rattle.fdd_star.specs.declared.shared.SharedParts.{SharedParts}
use Rattle.fdd_star.specs.Kept.{EachIs}
use Rattle.fdd_star.specs.Reaches.{HoldsAll, StarBut}
use Rattle.fdd_star.specs.Shared.{AreShared, IsLeft, IsShared, MovesTo}
use Rattle.fdd_star.proofs.KeptLaws.{each_on, right_added}
use Rattle.fdd_star.proofs.NamedLaws.{same_lits, with_has, with_kept}
use Rattle.fdd_star.proofs.FieldLaws.{id_eq, same_id}
use Rattle.fdd_star.proofs.ShareLaws.{star_shared}
use Rattle.fdd_star.proofs.StarLaws.{open_within, star_as}
use Rattle.fdd_store.specs.Operations.{CofactorOf, LeavesOut}
use Rattle.fdd_store.specs.Stores.{Kept, Has, Gives, Grows, tree_at}
use Rattle.fdd_store.proofs.StoreLaws.{gives_as, gives_grown, has_grown, tree_grown}

-- in a store that grows

shared_on : (old new : Kept) (first : List Lit) (p : Tree) (c : Packet) (ls : List Lit) (f : Field) (q a : ℕ) → Grows old new → IsShared old first p c ls f q a → IsShared new first p c ls f q a
shared_on old new first p c ls f q a g h = record {
  has = has_grown old new q g h.has;
  star = λ l e w. gives_grown old new a _ g (h.star l e (subst (CofactorOf l p) (tree_grown old new q g h.has) w));
}

pub shared_grown : (old new : Kept) (first : List Lit) (p : Tree) (c : Packet) (ls : List Lit) (s : SharedParts) → Grows old new → AreShared old first p c ls s → AreShared new first p c ls s
shared_grown old new first p c ls s g h = each_on _ _ s.parts.entries (λ q a w. shared_on old new first p c ls s.field q a g w) h

pub shared_none : (k : Kept) (first : List Lit) (p : Tree) (c : Packet) (ls : List Lit) (s : SharedParts) → s.parts.entries ≡ [] → AreShared k first p c ls s
shared_none k first p c ls s e = subst (EachIs (IsShared k first p c ls s.field)) (sym e) tt

-- when the last literal is missed no more, and a field's parts are kept at most

shared_on_move : (k : Kept) (first : List Lit) (p : Tree) (c : Packet) (ls ms : List Lit) (l : Lit) (q a : ℕ) → ls ≡ ms ++ l ∷ [] → IsShared k first p c ls (lit_field l) q a → IsShared k first p c ms (lit_field l) q a
shared_on_move k first p c ls ms l q a e h = record {
  has = h.has;
  star = λ j s w. gives_as _ _ _ _ (λ r x. star_as first p (put j c) ls ms r (λ m i o. elim (in-either ms (l ∷ []) m (subst (λ (xs : List Lit). IsIn xs m) e i)) [
    | inl n ↦ n
    | inr n ↦ elim n [ inl y ↦ absurd ((open_within c j (lit_field m) o).0 (s ∙ ap lit_field y)) | inr z ↦ absurd z ]
  ]) x) (h.star j s w);
}

pub shared_moved : (k : Kept) (first : List Lit) (p : Tree) (c : Packet) (ls ms : List Lit) (l : Lit) (s t : SharedParts) → ls ≡ ms ++ l ∷ [] → MovesTo (lit_field l) s t → AreShared k first p c ls s → AreShared k first p c ms t
shared_moved k first p c ls ms l s t e turns h = elim turns.kept [
  | inl w ↦
      let old = subst (λ (f : Field). EachIs (IsShared k first p c ls f) s.parts.entries) w.0 h in
      let new = each_on (IsShared k first p c ls (lit_field l)) (IsShared k first p c ms (lit_field l)) s.parts.entries (λ q a. shared_on_move k first p c ls ms l q a e) old in
      subst (EachIs (IsShared k first p c ms t.field)) (sym w.1) (subst (λ (f : Field). EachIs (IsShared k first p c ms f) s.parts.entries) (sym turns.field) new)
  | inr w ↦ shared_none k first p c ms t w
]

-- the part where a literal holds is that of the others of which the same is left
pub shared_of : (k : Kept) (first : List Lit) (p : Tree) (c : Packet) (ls : List Lit) (l : Lit) (q a : ℕ) → HoldsAll c first → Has k q → CofactorOf l p (tree_at k q) → LeavesOut (lit_field l) (tree_at k q) → ¬ Assigns p l → IsUnset c (lit_field l) → Gives k a (StarBut first p (put l c) ls) → IsShared k first p c ls (lit_field l) q a
shared_of k first p c ls l q a held has w out unset o g = record {
  has = has;
  star = λ j e v. gives_as _ _ _ _ (λ r x. star_shared l j e first p (tree_at k q) c ls r held w.answer v.answer w.assigns out unset o x) g;
}

pub shared_kept : (k : Kept) (first : List Lit) (p : Tree) (c : Packet) (ls : List Lit) (s t : SharedParts) (q a : ℕ) → t.field ≡ s.field → t.parts.entries ≡ insert_entry id_eq s.parts.entries q a → AreShared k first p c ls s → IsShared k first p c ls s.field q a → AreShared k first p c ls t
shared_kept k first p c ls s t q a e e' h w = subst (λ (f : Field). EachIs (IsShared k first p c ls f) t.parts.entries) (sym e) (subst (EachIs (IsShared k first p c ls s.field)) (sym e') (right_added id_eq same_id (IsShared k first p c ls s.field) q a s.parts.entries h w))

-- tests that were asked, one by one

-- ms is old and after it left, which is of what was asked; the rest is of it too, and there is no more of it
pub record Lists (old asked ms rest left : List Lit) : Type 0 where
  pub joined : ms ≡ old ++ left
  pub has : (m : Lit) → IsIn asked m → IsIn ms m ⊎ IsIn rest m
  pub only : (m : Lit) → IsIn left m → IsIn asked m
  pub within : (m : Lit) → IsIn rest m → IsIn asked m

pub lists_start : (old asked : List Lit) → Lists old asked old asked []
lists_start old asked = record { joined = sym (append-nil old); has = λ m k. inr k; only = λ m k. absurd k; within = λ m k. k }

pub lists_end : (old asked ms rest left : List Lit) → rest ≡ [] → Lists old asked ms rest left → IsLeft old asked ms left
lists_end old asked ms rest left e h = record {
  joined = h.joined;
  has = λ m k. elim (h.has m k) [ inl w ↦ w | inr w ↦ absurd (subst (λ (xs : List Lit). IsIn xs m) e w) ];
  only = h.only;
}

module _ (old asked ms ns rest more left : List Lit) (l : Lit) (took : rest ≡ l ∷ more) (keys : ns ≡ insert_key lit_eq ms l) (h : Lists old asked ms rest left) where
  turned : (m : Lit) → IsIn asked m → IsIn ns m ⊎ IsIn more m
  turned m k = elim (h.has m k) [
    | inl w ↦ inl (subst (λ (xs : List Lit). IsIn xs m) (sym keys) (with_kept lit_eq same_lits l ms m w))
    | inr w ↦ elim (subst (λ (xs : List Lit). IsIn xs m) took w) [
      | inl e ↦ inl (subst (λ (xs : List Lit). IsIn xs m) (sym keys) (subst (IsIn (insert_key lit_eq ms l)) e (with_has lit_eq same_lits l ms)))
      | inr n ↦ inr n
    ]
  ]

  rests : (m : Lit) → IsIn more m → IsIn asked m
  rests m k = h.within m (subst (λ (xs : List Lit). IsIn xs m) (sym took) (inr k))

  pub lists_new : (all : List Lit) → true ≡ not (list_any (lit_eq l) ms) → all ≡ left ++ l ∷ [] → Lists old asked ns more all
  lists_new all b e = record {
    joined = keys ∙ ap (λ (c : Bool). cond c ms (ms ++ l ∷ [])) (not-true (list_any (lit_eq l) ms) (sym b)) ∙ ap (λ (xs : List Lit). xs ++ l ∷ []) h.joined ∙ append_assoc old left (l ∷ []) ∙ ap (λ (xs : List Lit). old ++ xs) (sym e);
    has = turned;
    only = λ m k. elim (in-either left (l ∷ []) m (subst (λ (xs : List Lit). IsIn xs m) e k)) [
      | inl w ↦ h.only m w
      | inr w ↦ elim w [ inl s ↦ h.within m (subst (λ (xs : List Lit). IsIn xs m) (sym took) (inl s)) | inr n ↦ absurd n ]
    ];
    within = rests;
  }

  pub lists_old : false ≡ not (list_any (lit_eq l) ms) → Lists old asked ns more left
  lists_old b = record { joined = keys ∙ ap (λ (c : Bool). cond c ms (ms ++ l ∷ [])) (not-false (list_any (lit_eq l) ms) (sym b)) ∙ h.joined; has = turned; only = h.only; within = rests }

-- without the last one

pub took_last : (ks old left rest ms : List Lit) (l : Lit) (n : ℕ) → ks ≡ old ++ left → left ≡ rest ++ l ∷ [] → ms ≡ take n ks → n ≡ length ks - 1 → (ms ≡ old ++ rest) × (ks ≡ ms ++ l ∷ [])
took_last ks old left rest ms l n e e' took b =
    let whole = e ∙ ap (λ (xs : List Lit). old ++ xs) e' ∙ sym (append_assoc old rest (l ∷ [])) in
    let size : n ≡ length (old ++ rest) = (let w = ap length whole in let k = length-append (old ++ rest) (l ∷ []) in omega (arith, b, w, k)) in
    let now = took ∙ ap (λ (k : ℕ). take k ks) size ∙ ap (take (length (old ++ rest))) whole ∙ take-append_seam (old ++ rest) (l ∷ []) in
    (now, whole ∙ ap (λ (xs : List Lit). xs ++ l ∷ []) (sym now))

pub none_left : (ls : List Lit) → (0 < length ls → ⊥) → ls ≡ []
none_left [] h = refl
none_left (l ∷ ls) h = absurd (h (omega arith))
