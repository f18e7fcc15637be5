-- No test of a divided diagram is idle.
use Rattle.std.proofs.Common.{◌≡◌, ◌≢◌, ℕ, ◌+◌, ◌*◌, ◌⊎◌, inl, inr, refl, ap, sym, ◌∙◌, subst, arith, List, [], ◌∷◌, ◌++◌}
use Rattle.nk_values.specs.declared.field.Field.{Field}
use Rattle.nk_values.specs.declared.packet.Packet.{Packet}
use Rattle.nk_values.specs.declared.lit.Lit.{Lit}
use Rattle.nk_values.specs.Held.{Holds, put}
use Rattle.nk_values.specs.Lits.{lit_field, lit_value}
use Rattle.nk_values.specs.Members.{IsIn, EachOnce}
use Rattle.nk_values.specs.Packets.{get, with_value}
use Rattle.nk_values.specs.Ranges.{place}
use Rattle.nk_values.specs.Ranks.{step, rank}
use Rattle.nk_values.proofs.Permuted.{once-permuted}
use Rattle.nk_values.proofs.PacketLaws.{get-with_same, get-with_other, same_packet, same_field, field_cases}
use Rattle.fdd_nodes.specs.Trees.{Tree, Leaf, Node, leaf_at, apply, answers, SameAnswers, Assigns}
use Rattle.fdd_nodes.specs.Cells.{unset}
use Rattle.fdd_nodes.specs.Copies.{IsCopy}
use Rattle.fdd_nodes.specs.Paths.{Way, with_true, with_false}
use Rattle.fdd_nodes.proofs.MakesLaws.{Source, source, outcome, same_outcomes_at}
use Rattle.fdd_store.specs.Canonical.{IsCanonical, IsLater, AreProper}
use Rattle.fdd_store.proofs.MadeLaws.{tests_from, made_then, made_else, then_beyond, else_later}
use Rattle.fdd_store.proofs.MoveLaws.{leaf_assigns, one_leaf, same_through}
use Rattle.fdd_store.proofs.SameLaws.{same_trans, same_sym}
use Rattle.fdd_split.specs.declared.bars.Bar.{Bar}
use Rattle.fdd_split.specs.declared.bars.Bar.TheVariants.{OfField, Literal}
use Rattle.fdd_split.specs.Bars.{SomeBars}
use Rattle.fdd_split.specs.Divides.{Divides, Doubles}
use Rattle.fdd_split.specs.Laws.{IsLike}
use Rattle.fdd_split.specs.Split.{IsIdleOn, HasNoIdle}
use Rattle.fdd_split.specs.Threats.{Threat, KeepsField}
use Rattle.fdd_split.proofs.BarLaws.{bars_pushed, bars_kept, bars_last}
use Rattle.fdd_split.proofs.AnswerLaws.{like_itself, like_of, alone_assigned, threat_assigned}
use Rattle.fdd_split.proofs.CleanLaws.{unbarred_of, once_on}
use Rattle.fdd_split.proofs.CopyLaws.{moved, moved_at, held, sets_value, leaves_value, holds_other, held_other, not_free, one_held}
use Rattle.fdd_split.proofs.CountLaws.{members_moved, made_once}
use Rattle.fdd_split.proofs.LandLaws.{Lands, Reaches, reaches_yes, reaches_no}
use Rattle.fdd_split.proofs.NarrowLaws.{still_alone, still_one}
use Rattle.fdd_split.proofs.OrderLaws.{IsReady, made_here, ready_then, ready_else, ready_part, ready_rest, ordered_of, proper_of}
use Rattle.fdd_split.proofs.ThreatLaws.{leaf_copy, threat_free}
use Rattle.fdd_split.proofs.TidyLaws.{tidy_of}

-- a test of a made diagram is not idle on a path, whatever its branches become
not_idle : (w : Way) (k : List Bar) (l : Lit) (y n t e : Tree) → IsCanonical (Node l y n) → Reaches w k (Node l y n) → IsLike y t → IsLike n e → ¬ IsIdleOn w l t e
not_idle w k l y n t e h ra lt le i = h.reduced.0 (record {
  same = λ p hp.
      let z : Lands w k (Node l y n) p = ra p in
      let q : Packet = z.packet in
      let hq : Holds q l = (z.passes l (inl refl)).0 hp in
      let te : SameAnswers (answers t q) (answers e q) = same_sym _ _ (members_moved (answers t q) (answers e q) (i.same q z.ranged z.on hq)) in
      let yn : SameAnswers (answers y q) (answers n q) = same_trans _ _ _ (same_sym _ _ (lt.same q)) (same_trans _ _ _ te (le.same q)) in
      same_through (leaf_at y q) (leaf_at y p) (leaf_at n q) (leaf_at n p) p
      (one_leaf y q p (λ m s. let v = z.passes m (inr (inl s)) in (v.1, v.0)))
      (one_leaf n q p (λ m s. let v = z.passes m (inr (inr s)) in (v.1, v.0)))
      (same_outcomes_at (leaf_at y q) (leaf_at n q) q p
      (λ c d hc hd f. elim (z.same f) [
        | inl u ↦ inl u
        | inr u ↦ inr (
          (λ m j g v. u m (inl (leaf_assigns y q c m hc j)) g (ap (λ x. get q x) g ∙ sym v)),
          λ m j g v. u m (inr (leaf_assigns n q d m hd j)) g (ap (λ x. get q x) g ∙ sym v),
        )
      ])
      yn);
})

-- where a test of a made diagram holds, and where not

branch_yes : (w : Way) (k j : List Bar) (l : Lit) (y n : Tree) → IsCanonical (Node l y n) → Reaches w k (Node l y n) → ((x : Lit) → SomeBars k x → SomeBars j x) → ((x : Lit) → Assigns y x → place (lit_field x) ≡ place (lit_field l) → SomeBars j x) → ((x : Lit) → SomeBars j x → SomeBars k x ⊎ (place (lit_field x) ≡ place (lit_field l))) → Reaches (with_true w l) j y
branch_yes w k j l y n h ra kept has only =
    reaches_yes w k j l (Node l y n) y ra (λ p z v. (z.passes l (inl refl)).0 v) (then_beyond l y n h) (λ m s. inr (inl s)) (λ m s. inl s) kept has only

branch_no : (w : Way) (k j : List Bar) (l : Lit) (y n : Tree) → IsCanonical (Node l y n) → Reaches w k (Node l y n) → ((x : Lit) → SomeBars k x → SomeBars j x) → ((x : Lit) → Assigns n x → l ≡ x → SomeBars j x) → ((x : Lit) → SomeBars j x → SomeBars k x ⊎ (l ≡ x)) → Reaches (with_false w l) j n
branch_no w k j l y n h ra kept has only =
    reaches_no w k j l (Node l y n) n ra (λ p z v x. v ((z.passes l (inl refl)).1 x)) (else_later l y n h) (λ m s. inr (inr s)) (λ m s. inr s) kept has only

-- a made diagram has no idle test on a path
made_needed : (a : Tree) (k : List Bar) (w : Way) → IsCanonical a → Reaches w k a → HasNoIdle w a
made_needed (Leaf cs) k w h ra = tt
made_needed (Node l y n) k w h ra = (
  not_idle w k l y n y n h ra (like_itself y y refl) (like_itself n n refl),
  made_needed y (k ++ OfField (place (lit_field l)) ∷ []) (with_true w l) (made_then l y n h)
      (branch_yes w k _ l y n h ra (bars_kept k _) (λ x s e. bars_last k (OfField (place (lit_field l))) x e) (bars_pushed k (OfField (place (lit_field l))))),
  made_needed n (k ++ Literal l ∷ []) (with_false w l) (made_else l y n h)
      (branch_no w k _ l y n h ra (bars_kept k _) (λ x s e. bars_last k (Literal l) x e) (bars_pushed k (Literal l))),
)

-- a diagram that tests only later literals, on a packet without the literal
leaf_later : (t : Tree) (l : Lit) (q : Packet) → IsLater l t → Holds q l → leaf_at t q ≡ leaf_at t (with_value q (lit_field l) unset)
leaf_later t l q later y = one_leaf t q (with_value q (lit_field l) unset) (λ m s. elim (field_cases (lit_field l) (lit_field m)) [
  | inl g ↦ (
    (λ v. let r : rank l ≡ rank m = ap rank (one_held q l m g y v) in let o = later m s in absurd (omega (arith, r, o))),
    λ v. absurd (not_free q (lit_field l) m g v),
  )
  | inr d ↦ (holds_other q (lit_field l) unset m d, held_other q (lit_field l) unset m d)
])

put_back : (q : Packet) (l : Lit) → Holds q l → put l (with_value q (lit_field l) unset) ≡ q
put_back q l h = same_packet _ _ (λ f. elim (field_cases (lit_field l) f) [
  | inl e ↦ subst (λ (g : Field). get (put l (with_value q (lit_field l) unset)) g ≡ get q g) e (get-with_same (with_value q (lit_field l) unset) (lit_field l) (lit_value l) ∙ sym h)
  | inr d ↦ get-with_other (with_value q (lit_field l) unset) (lit_field l) f (lit_value l) d ∙ get-with_other q (lit_field l) f unset d
])

-- a diagram that answers as a, and tests only literals after l, gives a packet twice of which two copies of a's leaf make one,
-- where just one of them assigns l
gives_twice : (a e : Tree) (l : Lit) (q : Packet) (c d : List Lit) → AreProper a → AreProper e → IsLater l a → IsLater l e → IsLike a e → Holds q l → IsIn (leaf_at a q) c → IsIn (leaf_at a q) d → apply c q ≡ apply d q → IsIn c l → KeepsField d (lit_field l) → ¬ EachOnce (answers e q)
gives_twice a e l q c d pa pe la lae like hq ic id one sets leaves once =
    let q0 : Packet = with_value q (lit_field l) unset in
    let cc : IsCopy c = leaf_copy a q c pa ic in
    let cd : IsCopy d = leaf_copy a q d pa id in
    let leaf_a : leaf_at a q ≡ leaf_at a q0 = leaf_later a l q la hq in
    let leaf_e : leaf_at e q ≡ leaf_at e q0 = leaf_later e l q lae hq in
    let c0 : IsIn (leaf_at a q0) c = subst (λ (z : List (List Lit)). IsIn z c) leaf_a ic in
    let d0 : IsIn (leaf_at a q0) d = subst (λ (z : List (List Lit)). IsIn z d) leaf_a id in
    let s1 : Source (leaf_at e q0) q0 (apply c q0) = source (leaf_at e q0) q0 (apply c q0) ((like.same q0).back _ (outcome (leaf_at a q0) c q0 c0)) in
    let s2 : Source (leaf_at e q0) q0 (apply d q0) = source (leaf_at e q0) q0 (apply d q0) ((like.same q0).back _ (outcome (leaf_at a q0) d q0 d0)) in
    let c1 : IsCopy s1.copy = leaf_copy e q0 s1.copy pe s1.among in
    let c2 : IsCopy s2.copy = leaf_copy e q0 s2.copy pe s2.among in
    let bare : get q0 (lit_field l) ≡ unset = get-with_same q (lit_field l) unset in
    let at_x : get (apply c q0) (lit_field l) ≡ lit_value l = sets_value c 0 l q0 cc sets in
    let own : get (apply d q0) (lit_field l) ≡ unset = leaves_value d (lit_field l) q0 leaves ∙ bare in
    let rest : (f : Field) → lit_field l ≢ f → get (apply c q0) f ≡ get (apply d q0) f = λ f n. moved_at c d q q0 f cc cd one
    (λ y al g. holds_other q (lit_field l) unset y (λ s. n (s ∙ g)) (held c d q y cc cd one al)) in
    let same : apply s1.copy q ≡ apply s2.copy q = subst (λ (x : Packet). apply s1.copy x ≡ apply s2.copy x) (put_back q l hq)
    (still_one e q0 l c d s1.copy s2.copy bare c1 c2 s1.makes s2.makes at_x own rest) in
    let i1 : IsIn (leaf_at e q) s1.copy = subst (λ (z : List (List Lit)). IsIn z s1.copy) (sym leaf_e) s1.among in
    let i2 : IsIn (leaf_at e q) s2.copy = subst (λ (z : List (List Lit)). IsIn z s2.copy) (sym leaf_e) s2.among in
    let eq : s1.copy ≡ s2.copy = made_once (leaf_at e q) q s1.copy s2.copy once i1 i2 same in
    elim (still_alone e q0 l c d s1.copy s2.copy bare c1 c2 s1.makes s2.makes at_x own rest) [
      | inl al ↦ al.1 l (subst (λ (z : List Lit). IsIn z l) eq al.0) refl
      | inr al ↦ al.1 l (subst (λ (z : List Lit). IsIn z l) (sym eq) al.0) refl
    ]

-- the test of a first threat is not idle on a path
module _ (w : Way) (k : List Bar) (a : Tree) (n : ℕ) (l : Lit) (t e : Tree) (r : IsReady k a n) (ra : Reaches w k a) (d : Doubles k a l (λ j x. Divides j x t) (λ j x. Divides j x e)) where
  assigned : Assigns a l
  assigned = threat_assigned k a l d.threat

  free_here : ¬ SomeBars k l
  free_here = threat_free k a l r.made.proper d.threat

  later_else : IsLater l e
  later_else m s = let o = tests_from e (rank l + 1) m (ordered_of e _ a _ (ready_rest k a n r l t e d) d.else_is) s in omega (arith, o)

  pub doubled_yes : Reaches (with_true w l) d.yes_bars d.part
  doubled_yes =
      reaches_yes w k _ l a d.part ra (λ p z v. z.holds l assigned free_here v) d.cuts.beyond d.cuts.tests d.cuts.assigns d.yes_narrows.kept d.yes_narrows.has d.yes_narrows.only

  pub doubled_no : Reaches (with_false w l) d.no_bars a
  doubled_no =
      reaches_no w k _ l a a ra
      (λ p z v x. elim (z.same (lit_field l)) [ inl u ↦ v (sym u ∙ x) | inr u ↦ u l assigned refl x ])
      d.before (λ m s. s) (λ m s. s) d.no_narrows.kept d.no_narrows.has d.no_narrows.only

  pub doubled_needed : ¬ IsIdleOn w l t e
  doubled_needed i =
      let th : Threat k a l = d.threat in
      let p : Packet = th.packet in
      let c1 : IsCopy th.one = leaf_copy a p th.one r.made.proper th.has_one in
      let c2 : IsCopy th.other = leaf_copy a p th.other r.made.proper th.has_other in
      let z : Lands w k a p = ra p in
      let q : Packet = z.packet in
      let hp : Holds p l = held th.one th.other p l c1 c2 th.same th.alone in
      let hq : Holds q l = z.holds l assigned free_here hp in
      let kp : List Bar = d.yes_bars in
      let rt : IsReady kp d.part (step * (place (lit_field l) + 1)) = ready_part k a n r l t e d in
      let lt : IsLike d.part t = like_of t kp d.part d.then_is in
      let avoid : (y : Lit) → Assigns t y → SomeBars kp y → ¬ Holds q y = λ y s b x. elim (d.yes_narrows.only y b) [
        | inl u ↦ z.lacks y (d.cuts.assigns y (lt.assigns y s)) u x
        | inr u ↦
            d.cuts.beyond.clean (subst (λ (v : Lit). Assigns d.part v) (sym (one_held q l y (sym (same_field _ _ u)) hq x)) (lt.assigns y s))
      ] in
      let once_t : EachOnce (answers t q) = once_on t kp q (proper_of t kp d.part d.made.proper d.then_is) (tidy_of t kp d.part _ rt d.then_is).none
      (unbarred_of t kp d.part _ rt d.then_is) avoid in
      let once_e : EachOnce (answers e q) = once-permuted Packet _ _ (i.same q z.ranged z.on hq) once_t in
      let leaf : leaf_at a p ≡ leaf_at a q = one_leaf a p q (λ m s. z.passes m s) in
      let i1 : IsIn (leaf_at a q) th.one = subst (λ (x : List (List Lit)). IsIn x th.one) leaf th.has_one in
      let i2 : IsIn (leaf_at a q) th.other = subst (λ (x : List (List Lit)). IsIn x th.other) leaf th.has_other in
      let same : apply th.one q ≡ apply th.other q = moved th.one th.other p q c1 c2 th.same
      (λ y al x. z.holds y (alone_assigned a p th.one th.other y th.has_one th.has_other al) (λ b. th.clear y b x) x) in
      let le : IsLike a e = like_of e _ a d.else_is in
      let pe : AreProper e = proper_of e _ a r.made.proper d.else_is in
      elim th.alone [
        | inl al ↦ gives_twice a e l q th.one th.other r.made.proper pe d.before later_else le hq i1 i2 same al.0 al.1 once_e
        | inr al ↦ gives_twice a e l q th.other th.one r.made.proper pe d.before later_else le hq i2 i1 (sym same) al.0 al.1 once_e
      ]

pub needed_of : (r : Tree) (k : List Bar) (a : Tree) (n : ℕ) (w : Way) → IsReady k a n → Reaches w k a → Divides k a r → HasNoIdle w r
needed_of (Leaf cs) k a n w h ra d = tt
needed_of (Node l t e) k a n w h ra (inl d) = subst (λ (x : Tree). HasNoIdle w x) d.1 (made_needed a k w h.made ra)
needed_of (Node l t e) k a n w h ra (inr (inl b)) =
    let m : IsCanonical (Node l b.yes b.no) = made_here k a n h l t e b in
    let ra' : Reaches w k (Node l b.yes b.no) = subst (λ (x : Tree). Reaches w k x) b.is ra in (
      not_idle w k l b.yes b.no t e m ra' (like_of t b.yes_bars b.yes b.then_is) (like_of e b.no_bars b.no b.else_is),
      needed_of t b.yes_bars b.yes _ (with_true w l) (ready_then k a n h l t e b) (branch_yes w k b.yes_bars l b.yes b.no m ra' b.yes_narrows.kept b.yes_narrows.has b.yes_narrows.only) b.then_is,
      needed_of e b.no_bars b.no _ (with_false w l) (ready_else k a n h l t e b) (branch_no w k b.no_bars l b.yes b.no m ra' b.no_narrows.kept b.no_narrows.has b.no_narrows.only) b.else_is,
    )
needed_of (Node l t e) k a n w h ra (inr (inr d)) = (
  doubled_needed w k a n l t e h ra d,
  needed_of t _ d.part _ (with_true w l) (ready_part k a n h l t e d) (doubled_yes w k a n l t e h ra d) d.then_is,
  needed_of e _ a _ (with_false w l) (ready_rest k a n h l t e d) (doubled_no w k a n l t e h ra d) d.else_is,
)
