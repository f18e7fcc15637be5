-- Stars that are followed by an assignment.
use Rattle.std.proofs.Common.{◌≡◌, ℕ, ◌<◌, inl, inr, refl, ap, sym, ◌∙◌, subst, arith, List, [], ◌∷◌, length, map, get_or, Box}
use Rattle.std.specs.declared.alloc.Global.{Global}
use Rattle.nk_values.specs.declared.packet.Packet.{Packet}
use Rattle.nk_values.specs.declared.lit.Lit.{Lit}
use Rattle.nk_values.specs.Held.{put}
use Rattle.nk_values.specs.Lits.{lit_field, lit_value}
use Rattle.nk_values.specs.Members.{IsIn}
use Rattle.nk_values.specs.Trails.{Trail, one_packet, renewed}
use Rattle.nk_syntax.specs.Terms.{Term, Terms, Assign, Seq, Star, no_terms, term}
use Rattle.nk_syntax.specs.Views.{term_row, term_of}
use Rattle.nk_syntax.specs.declared.pol.Pol.{Pol}
use Rattle.nk_syntax.specs.declared.pol.Pol.TheVariants as pol
use Rattle.nk_syntax.proofs.Equations.{term_of-assign, term_of-star}
use Rattle.history_meaning.specs.Laws.{IsFlat}
use Rattle.history_meaning.specs.Plain.{HasResult}
use Rattle.fdd_nodes.specs.Names.{AreFew}
use Rattle.fdd_nodes.specs.Trees.{Tree, Leaf, answers, Tests, Assigns}
use Rattle.fdd_store.specs.Operations.{AssignmentOf, SequenceOf}
use Rattle.fdd_star.specs.declared.fault.StarError.{StarError}
use Rattle.fdd_star.specs.Stars.{EndedStarOf, StarOf, IsErrorOf}
use Rattle.fdd_compile.specs.Builds.{BuiltOf, two}
use Rattle.fdd_compile.specs.Deep.{HasNoDeep, IsDeepStar, TellsDeep}
use Rattle.fdd_compile.specs.declared.folds.Fold.TheVariants.{Sequence}
use Rattle.fdd_compile.specs.Folds.{SomeTests, SomeAssigns}
use Rattle.fdd_compile.specs.Named.{AreFewNamed, TermsName}
use Rattle.fdd_compile.specs.Results.{DiagramOf}
use Rattle.fdd_compile.proofs.BuildLaws.{built_assign, built_star_of, deep_here, deep_in_star, deep_seq, here, row_small}
use Rattle.fdd_compile.proofs.FaultLaws.{repeated_of, turns_of}
use Rattle.fdd_compile.proofs.FoldLaws.{few_of_parts, one_folded, sequence_both}
use Rattle.fdd_compile.proofs.NamedLaws.{small_of}
use Rattle.fdd_compile.proofs.ResultLaws.{answer_as, diagram_seq, just, seq_split, seq_step}
use Rattle.fdd_compile.proofs.StarTermLaws.{star_made, star_turns}

-- an assignment in a row of its own

assign_made : (l : Lit) (pk : Packet) → HasResult (Seq (term (Assign (lit_field l) (lit_value l)) no_terms)) pk (put l pk)
assign_made l pk =
    seq_step (Assign (lit_field l) (lit_value l)) no_terms tt pk (put l pk) (put l pk)
    (record { history = one_packet (put l pk); is_result = (0, inl refl); newest = refl })
    (record { history = one_packet (put l pk); is_result = (0, inl refl); newest = refl })

assign_all : (l : Lit) (pk q : Packet) → HasResult (Seq (term (Assign (lit_field l) (lit_value l)) no_terms)) pk q → put l pk ≡ q
assign_all l pk q k =
    let w = seq_split (Assign (lit_field l) (lit_value l)) no_terms tt pk q k in
    let e : put l pk ≡ w.0 = ap (λ (t : Trail). t.newest) (just (renewed (one_packet pk) (put l pk)) w.1.history w.1.is_result.1) ∙ w.1.newest in
    let f : w.0 ≡ q = ap (λ (t : Trail). t.newest) (just (one_packet w.0) w.2.history w.2.is_result.1) ∙ w.2.newest in
    e ∙ f

-- it ends a star

ended_diagram : (p : Term) (a r : Tree) (l : Lit) → IsFlat p → DiagramOf p a → EndedStarOf a l r → DiagramOf (Seq (two (Star p) (Assign (lit_field l) (lit_value l)))) r
ended_diagram p a r l flat h s = record {
  made = λ pk q i.
      let w = s.made pk q i in
      subst (HasResult (Seq (two (Star p) (Assign (lit_field l) (lit_value l)))) pk) (sym w.2)
      (seq_step (Star p) (term (Assign (lit_field l) (lit_value l)) no_terms) flat pk w.0 (put l w.0) (star_made p a flat h w.1.0 pk w.0 w.1.2) (assign_made l w.0));
  all = λ pk q range k.
      let w = seq_split (Star p) (term (Assign (lit_field l) (lit_value l)) no_terms) flat pk q k in
      let t = star_turns p a flat h pk w.0 range w.1 in
      subst (IsIn (answers r pk)) (assign_all l w.0 q w.2) (s.all t.0 pk w.0 range t.1);
  normal = s.normal;
  tests = λ m k. inl (h.tests m (s.tests m k));
  assigns = λ m k. elim (s.assigns m k) [ inl e ↦ inr (inl (ap lit_field e, ap lit_value e)) | inr w ↦ inl (h.assigns m w) ];
}

no_deep : (p : Term) (a r : Tree) (l : Lit) → DiagramOf p a → EndedStarOf a l r → (pk q : Packet) → ¬ IsDeepStar p pk q
no_deep p a r l h s pk q d = s.shallow pk q (record {
  in_range = d.in_range;
  made = (d.made.0, d.made.1, turns_of p a h d.made.0 pk q d.in_range d.made.2);
  late = λ t. d.late (t.0, t.1, repeated_of p a h t.0 pk q t.2);
})

as_two : (x y : Pol) (b : Box Pol Global) (l : Lit) → x ≡ pol.Star b → y ≡ pol.Assign l → two (Star (term_of b.value)) (Assign (lit_field l) (lit_value l)) ≡ two (term_of x) (term_of y)
as_two x y b l ex ey =
    let a : Star (term_of b.value) ≡ term_of x = sym (ap term_of ex ∙ term_of-star b) in
    let e : Assign (lit_field l) (lit_value l) ≡ term_of y = sym (ap term_of ey ∙ term_of-assign l) in
    ap (λ (t : Term). two t (Assign (lit_field l) (lit_value l))) a ∙ ap (two (term_of x)) e

module _ (x y : Pol) (b : Box Pol Global) (l : Lit) (ex : x ≡ pol.Star b) (ey : y ≡ pol.Assign l) where
  pub built_ended : (part r : Tree) → IsFlat (term_of b.value) → BuiltOf (term_of b.value) part → EndedStarOf part l r → BuiltOf (Seq (two (term_of x) (term_of y))) r
  built_ended part r flat h s = subst (λ (row : Terms). BuiltOf (Seq row) r) (as_two x y b l ex ey) (record {
    diagram = ended_diagram (term_of b.value) part r l flat h.diagram s;
    shallow = ((h.shallow, no_deep (term_of b.value) part r l h.diagram s), (tt, tt));
  })

  pub few_ended : (part : Tree) → BuiltOf (term_of b.value) part → AreFewNamed (TermsName (two (term_of x) (term_of y))) → AreFew (Leaf ((l ∷ []) ∷ [])) part
  few_ended part h few =
      let first = Leaf ((l ∷ []) ∷ []) in
      let whole = subst (λ (row : Terms). AreFewNamed (TermsName row)) (sym (as_two x y b l ex ey)) few in
      let row = two (Star (term_of b.value)) (Assign (lit_field l) (lit_value l)) in
      few_of_parts (first ∷ []) (part ∷ []) first part (small_of (TermsName row) (first ∷ part ∷ []) whole tested assigned) (λ m k. inl k) (λ m k. inl k) (λ m k. inl k) (λ m k. inl k)
    where
      tested : (m : Lit) → SomeTests (Leaf ((l ∷ []) ∷ []) ∷ part ∷ []) m → TermsName (two (Star (term_of b.value)) (Assign (lit_field l) (lit_value l))) (lit_field m) (lit_value m)
      tested m k = elim k [ inl n ↦ absurd n | inr w ↦ elim w [ inl v ↦ inl (inl (h.diagram.tests m v)) | inr n ↦ absurd n ] ]

      assigned : (m : Lit) → SomeAssigns (Leaf ((l ∷ []) ∷ []) ∷ part ∷ []) m → TermsName (two (Star (term_of b.value)) (Assign (lit_field l) (lit_value l))) (lit_field m) (lit_value m)
      assigned m k = elim k [
        | inl s ↦ elim s [
          | inl i ↦ elim i [ inl e ↦ inr (inr (inl (ap lit_field e, ap lit_value e))) | inr n ↦ absurd n ]
          | inr n ↦ absurd n
        ]
        | inr w ↦ elim w [ inl v ↦ inr (inl (h.diagram.assigns m v)) | inr n ↦ absurd n ]
      ]

  -- faults

  pub ended_inner : (e : StarError) → TellsDeep (term_of b.value) e → TellsDeep (Seq (two (term_of x) (term_of y))) e
  ended_inner e h = deep_seq (two (term_of x) (term_of y)) e (here (term_of x) (term (term_of y) no_terms) e (deep_in_star x b e ex h))

  pub ended_here : (part : Tree) (e : StarError) → BuiltOf (term_of b.value) part → IsErrorOf part e → TellsDeep (Seq (two (term_of x) (term_of y))) e
  ended_here part e h k = deep_seq (two (term_of x) (term_of y)) e (here (term_of x) (term (term_of y) no_terms) e (deep_here x b part e ex h k))

  -- the star and the assignment, each by itself

  module _ (part star end : Tree) (flat : IsFlat (term_of b.value)) (h : BuiltOf (term_of b.value) part) (s : StarOf part star) (a : AssignmentOf l end) where
    on_star : BuiltOf (term_of x) star
    on_star = built_star_of x b part star ex flat h s

    on_end : BuiltOf (term_of y) end
    on_end = built_assign y l end ey a

    pub few_both : AreFewNamed (TermsName (two (term_of x) (term_of y))) → AreFew star end
    few_both few =
        few_of_parts (star ∷ []) (end ∷ []) star end (row_small (term_of x ∷ term_of y ∷ []) (star ∷ end ∷ []) (answer_as (term_of x ∷ term_of y ∷ []) (star ∷ end ∷ []) (on_star.diagram, (on_end.diagram, tt))) few) (λ m k. inl k) (λ m k. inl k) (λ m k. inl k) (λ m k. inl k)

    pub built_both : IsFlat (term_of x) → (r : Tree) → SequenceOf star end r → BuiltOf (Seq (two (term_of x) (term_of y))) r
    built_both whole r u =
        let last : IsFlat (term_of y) = subst IsFlat (sym (ap term_of ey ∙ term_of-assign l)) tt in
        record {
          diagram = diagram_seq (term_of x ∷ term_of y ∷ []) (star ∷ end ∷ []) r (whole, (last, tt)) (on_star.diagram, (on_end.diagram, tt))
              (sequence_both (star ∷ []) (end ∷ []) star end r (one_folded Sequence star on_star.diagram.normal) (one_folded Sequence end on_end.diagram.normal) u);
          shallow = (on_star.shallow, (on_end.shallow, tt));
        }

-- two policies in a row
pub two_row : (pols : List Pol) (x y : Pol) → length pols ≡ 2 → x ≡ get_or pols 0 x → y ≡ get_or pols 1 y → term_row (map term_of pols) ≡ two (term_of x) (term_of y)
two_row [] x y h ex ey = absurd (omega (arith, h))
two_row (p ∷ []) x y h ex ey = absurd (omega (arith, h))
two_row (p ∷ q ∷ []) x y h ex ey =
    let e : x ≡ p = ex in
    let f : y ≡ q = ey in
    ap (λ (z : Pol). two (term_of z) (term_of q)) (sym e) ∙ ap (λ (z : Pol). two (term_of x) (term_of z)) (sym f)
two_row (p ∷ q ∷ z ∷ ps) x y h ex ey = absurd (omega (arith, h))
