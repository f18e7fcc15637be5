-- What is told of the diagrams of a store.
use Rattle.std.proofs.Common.{◌≡◌, ◌≢◌, ℕ, zero, suc, ◌<◌, ◌≤◌, inl, inr, refl, ap, sym, ◌∙◌, subst, arith, Bool, true, false, ◌||◌, ◌⊎◌, cond, List, [], ◌∷◌, ◌++◌, length, take, drop, get_or, slice_get, Some}
use Rattle.std.proofs.lemmas.Bool.{eq-eqb, ne_eqb, false≢true}
use Rattle.std.proofs.lemmas.Bool.Decides.{eqb_tells}
use Rattle.std.proofs.lemmas.List.{append-nil, take-append-drop, length-append}
use Rattle.std.proofs.lemmas.Option.{slice_get_within, get_or_from_slice_get}
use Rattle.std.specs.List.{list_any}
use Rattle.nk_values.specs.declared.field.Field.{Field}
use Rattle.nk_values.specs.declared.lit.Lit.{Lit}
use Rattle.nk_values.specs.Lits.{lit_field}
use Rattle.nk_values.specs.Ranges.{place}
use Rattle.nk_values.specs.Ranks.{rank}
use Rattle.nk_values.proofs.LitLaws.{lit_small}
use Rattle.fdd_nodes.specs.Trees.{Tree, Leaf, Node}
use Rattle.fdd_store.specs.declared.digest.Digest.{Digest}
use Rattle.fdd_store.specs.declared.fields.Fields.{Fields}
use Rattle.fdd_store.specs.declared.shape.Shape.{Shape}
use Rattle.fdd_store.specs.Digests.{behind, IsDigest, SetsAre, DigestAt, AreDigests}
use Rattle.fdd_store.specs.Canonical.{IsCanonical, IsLater, IsPastOf}
use Rattle.fdd_store.specs.Results.{Passes}
use Rattle.fdd_store.specs.Sets.{has}
use Rattle.fdd_store.specs.Stores.{Kept, Has, Grows, shape_tree, trees}
use Rattle.fdd_store.proofs.AlikeLaws.{shape_eq}
use Rattle.fdd_store.proofs.ForkLaws.{passes_itself, passes_else}
use Rattle.fdd_store.proofs.MadeLaws.{tests_from, made_else}
use Rattle.fdd_store.proofs.StoreLaws.{tree_grown, with_shape, more_grows, more, tree_last, last_place}

-- the fields that a diagram assigns

same_sets : (t t' : Tree) (s : Fields) → t ≡ t' → SetsAre t s → SetsAre t' s
same_sets t t' s e h = subst (λ (x : Tree). SetsAre x s) e h

pub sets_leaf : (cs ds : List (List Lit)) (s : Fields) → cs ≡ ds → SetsAre (Leaf cs) s → SetsAre (Leaf ds) s
sets_leaf cs ds s e h = same_sets (Leaf cs) (Leaf ds) s (ap Leaf e) h

either_true : (a b : Bool) → (a || b) ≡ true → (a ≡ true) ⊎ (b ≡ true)
either_true true b h = inl refl
either_true false b h = inr h

left_true : (a b : Bool) → a ≡ true → (a || b) ≡ true
left_true true b h = refl
left_true false b h = absurd (false≢true h)

right_true : (a b : Bool) → b ≡ true → (a || b) ≡ true
right_true true b h = refl
right_true false b h = h

pub sets_test : (l : Lit) (t e : Tree) (a b c : Fields) → ((f : Field) → has c f ≡ (has a f || has b f)) → SetsAre t a → SetsAre e b → SetsAre (Node l t e) c
sets_test l t e a b c h x y = record {
  each = λ m k. elim k [
    | inl w ↦ h (lit_field m) ∙ left_true _ _ (x.each m w)
    | inr w ↦ h (lit_field m) ∙ right_true _ _ (y.each m w)
  ];
  only = λ f k. elim (either_true _ _ (sym (h f) ∙ k)) [
    | inl w ↦ let s = x.only f w in record { lit = s.lit; assigned = inl s.assigned; field = s.field }
    | inr w ↦ let s = y.only f w in record { lit = s.lit; assigned = inr s.assigned; field = s.field }
  ];
}

-- lists of digests

kept_digest : {X : Type 0} (n i : ℕ) (es ys : List X) (x : X) → i < n → slice_get es i ≡ Some x → slice_get (take n es ++ ys) i ≡ Some x
kept_digest zero i es ys x h e = absurd (omega (arith, h))
kept_digest (suc n) i [] ys x h e = absurd (let w = slice_get_within [] i x e in omega (arith, w))
kept_digest (suc n) zero (y ∷ es) ys x h e = e
kept_digest (suc n) (suc i) (y ∷ es) ys x h e = kept_digest n i es ys x (omega (arith, h)) e

last_digest : {X : Type 0} (n : ℕ) (es : List X) (x : X) → n ≤ length es → slice_get (take n es ++ x ∷ []) n ≡ Some x
last_digest zero es x h = refl
last_digest (suc n) [] x h = absurd (omega (arith, h))
last_digest (suc n) (y ∷ es) x h = last_digest n es x (omega (arith, h))

long_by : (k : Kept) (es : List Digest) (n : ℕ) → n ≤ length k.shapes → AreDigests k es → n ≤ length es
long_by k es zero h a = omega arith
long_by k es (suc n) h a = let e = a n (omega (arith, h)) in let w = slice_get_within es n e.digest e.there in omega (arith, w)

-- other digests after those of the places
pub digests_kept : (k : Kept) (es ys : List Digest) (n : ℕ) → n ≡ length k.shapes → AreDigests k es → AreDigests k (take n es ++ ys)
digests_kept k es ys n h a = λ i w. record { digest = (a i w).digest; there = kept_digest n i es ys _ (omega (arith, h, w)) (a i w).there; right = (a i w).right }

pub digests_taken : (k : Kept) (es : List Digest) (n : ℕ) → n ≡ length k.shapes → AreDigests k es → AreDigests k (take n es)
digests_taken k es n h a = subst (λ (x : List Digest). AreDigests k x) (append-nil (take n es)) (digests_kept k es [] n h a)

pub digest_read : (es : List Digest) (i : ℕ) (x y d : Digest) → slice_get es i ≡ Some x → y ≡ get_or es i d → y ≡ x
digest_read es i x y d h e = e ∙ get_or_from_slice_get es i x d h

-- growth

pub digest_grown : (old new : Kept) (n : ℕ) (t : Tree) (e : Digest) → Grows old new → n ≤ length old.shapes → IsDigest old n t e → IsDigest new n t e
digest_grown old new n t e g h r = record {
  leads = λ l x y w. let z = r.leads l x y w in (z.0, tree_grown old new e.behind g (omega (arith, h, z.0)) ∙ z.1);
  sets = r.sets;
}

at_grown : (old new : Kept) (es : List Digest) (i : ℕ) → Grows old new → Has old i → DigestAt old es i → DigestAt new es i
at_grown old new es i g h a = record {
  digest = a.digest;
  there = a.there;
  right = subst (λ (t : Tree). IsDigest new i t a.digest) (sym (tree_grown old new i g h)) (digest_grown old new i _ a.digest g (omega (arith, h)) a.right);
}

-- more results, and no more places
pub digests_grown : (old new : Kept) (es : List Digest) → Grows old new → length new.shapes ≡ length old.shapes → AreDigests old es → AreDigests new es
digests_grown old new es g n a = λ i w. let h : Has old i = omega (arith, w, n) in at_grown old new es i g h (a i h)

more_digests : (k : Kept) (s : Shape) (es : List Digest) (e : Digest) → AreDigests k es → IsDigest k (length k.shapes) (shape_tree (trees k.shapes) s) e → AreDigests (more k s) (take (length k.shapes) es ++ e ∷ [])
more_digests k s es e a r = λ i w. elim (last_place k s i w) [
  | inl o ↦ at_grown k (more k s) _ i (more_grows k s) o (digests_kept k es (e ∷ []) (length k.shapes) refl a i o)
  | inr n ↦ subst (λ (j : ℕ). DigestAt (more k s) (take (length k.shapes) es ++ e ∷ []) j) (sym n) (record {
    digest = e;
    there = last_digest (length k.shapes) es e (long_by k es (length k.shapes) (omega arith) a);
    right = subst (λ (t : Tree). IsDigest (more k s) (length k.shapes) t e) (sym (tree_last k s)) (digest_grown k (more k s) (length k.shapes) _ e (more_grows k s) (omega arith) r);
  })
]

digests_by : (k : Kept) (s : Shape) (es : List Digest) (e : Digest) (b : Bool) → AreDigests k es → IsDigest k (length k.shapes) (shape_tree (trees k.shapes) s) e → AreDigests (record { shapes = cond b k.shapes (k.shapes ++ s ∷ []); known = k.known }) (take (length k.shapes) es ++ e ∷ [])
digests_by k s es e true a r = digests_kept k es (e ∷ []) (length k.shapes) refl a
digests_by k s es e false a r = more_digests k s es e a r

-- with a node or leaf, new or not
pub digests_with : (k : Kept) (s : Shape) (es : List Digest) (e : Digest) → AreDigests k es → IsDigest k (length k.shapes) (shape_tree (trees k.shapes) s) e → AreDigests (with_shape k s) (take (length k.shapes) es ++ e ∷ [])
digests_with k s es e a r = digests_by k s es e (list_any (shape_eq s) k.shapes) a r

-- going back

length_taken : {X : Type 0} (n : ℕ) (xs : List X) → length (take n xs) ≤ n
length_taken zero xs = omega arith
length_taken (suc n) [] = omega arith
length_taken (suc n) (x ∷ xs) = let a = length_taken n xs in omega (arith, a)

digests_cut : (old new : Kept) (es : List Digest) (n : ℕ) → length old.shapes ≤ n → Grows old new → AreDigests new es → AreDigests old (take n es)
digests_cut old new es n h g a = λ i w.
    let b = length-append old.shapes g.shapes.0 in
    let c : length new.shapes ≡ length (old.shapes ++ g.shapes.0) = ap length g.shapes.1 in
    let e = a i (omega (arith, b, c, w)) in
    let s = kept_digest n i es [] e.digest (omega (arith, h, w)) e.there in
    record {
      digest = e.digest;
      there = subst (λ (x : List Digest). slice_get x i ≡ Some e.digest) (append-nil (take n es)) s;
      right = record {
        leads = λ l x y q.
            let z = e.right.leads l x y (tree_grown old new i g w ∙ q) in
            (z.0, sym (tree_grown old new e.digest.behind g (omega (arith, z.0, w))) ∙ z.1 ∙ ap (behind (place (lit_field l))) (tree_grown old new i g w));
        sets = subst (λ (t : Tree). SetsAre t e.digest.sets) (tree_grown old new i g w) e.right.sets;
      };
    }

pub cut_digests : (k : Kept) (n m : ℕ) (es : List Digest) → AreDigests k es → AreDigests (record { shapes = take n k.shapes; known = take m k.known }) (take n es)
cut_digests k n m es a =
    let back : Kept = record { shapes = take n k.shapes; known = take m k.known } in
    let g : Grows back k = record { shapes = (drop n k.shapes, sym (take-append-drop n k.shapes)); known = (drop m k.known, sym (take-append-drop m k.known)) } in
    digests_cut back k es n (length_taken n k.shapes) g a

-- what stands after a field

pub behind_same : (f : ℕ) (l : Lit) (t e : Tree) → place (lit_field l) ≡ f → behind f (Node l t e) ≡ behind f e
behind_same f l t e h = ap (λ b. cond b (behind f e) (Node l t e)) (eq-eqb _ _ h)

pub behind_other : (f : ℕ) (l : Lit) (t e : Tree) → place (lit_field l) ≢ f → behind f (Node l t e) ≡ Node l t e
behind_other f l t e h = ap (λ b. cond b (behind f e) (Node l t e)) (ne_eqb _ _ h)

past_other : (l m : Lit) (t e : Tree) → IsCanonical (Node m t e) → IsLater l (Node m t e) → place (lit_field m) ≢ place (lit_field l) → IsPastOf l (Node m t e)
past_other l m t e h w d = λ n u.
    let from = tests_from (Node m t e) (rank m) n (omega arith, h.ordered.1, h.ordered.2) u in
    let first = w m (inl refl) in
    omega (arith, from, first, d, lit_small l, lit_small m, lit_small n)

pub passes_behind : (l : Lit) (t : Tree) → IsCanonical t → IsLater l t → Passes l t (behind (place (lit_field l)) t)
passes_behind l (Leaf cs) h w = passes_itself l (Leaf cs) (λ m k. absurd k)
passes_behind l (Node m t e) h w = elim (eqb_tells (place (lit_field m)) (place (lit_field l))) [
  | inl y ↦ subst (λ (x : Tree). Passes l (Node m t e) x) (sym (behind_same _ m t e y.1))
      (passes_else l m t e _ y.1 (w m (inl refl)) (passes_behind l e (made_else m t e h) (λ n u. w n (inr (inr u)))))
  | inr n ↦ subst (λ (x : Tree). Passes l (Node m t e) x) (sym (behind_other _ m t e n.1)) (passes_itself l (Node m t e) (past_other l m t e h w n.1))
]
