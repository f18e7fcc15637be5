-- What readers of documents stand for.
use Rattle.std.proofs.Common.{◌≡◌, ◌≢◌, ℕ, zero, suc, ◌+◌, ◌-◌, ◌==◌, cond, ◌<◌, ◌≤◌, ◌⊎◌, inl, inr, Bool, true, false, List, [], ◌∷◌, ◌++◌, length, take, drop, refl, sym, ap, ◌∙◌, subst, arith, append_assoc, length-append, length-drop, Result, Ok, Err}
use Rattle.std.proofs.Math.Seq.{take-length, drop-length}
use Rattle.std.specs.List.{count_by}
use Rattle.std.specs.Result.{OnErr}
use Rattle.std.proofs.lemmas.Bool.{cases_lt}
use Rattle.std.proofs.lemmas.List.{append-nil, length-take-le, take_all}
use Rattle.std.proofs.lemmas.List.Sums.{sum_by-append}
use Rattle.nk_values.specs.declared.text_fault.TextFault.{TextFault}
use Rattle.nk_syntax.specs.Terms.{Term}
use Rattle.netkat_parser.specs.declared.fault.ParseFault.{ParseFault}
use Rattle.netkat_parser.specs.Cuts.{EndsAt}
use Rattle.netkat_parser.specs.Grammar.{IsText}
use Rattle.netkat_parser.specs.declared.fault.Position.{Position}
use Rattle.netkat_parser.specs.declared.feeding.PolicyReader.{PolicyReader}
use Rattle.netkat_parser.specs.Places.{HasFault, position_after}
use Rattle.netkat_parser.specs.Readers as policy
use Rattle.netkat_parser.proofs.Standing.{ends-of, position-near, position-append}
use Rattle.document_text.specs.declared.doc_reader.DocReader.{DocReader}
use Rattle.document_text.specs.declared.doc_reader.Spot.{Spot}
use Rattle.document_text.specs.declared.doc_reader.Spot.TheVariants as spot
use Rattle.document_text.specs.declared.fault.DocFault.{DocFault}
use Rattle.document_text.specs.declared.document.Document.{Document}
use Rattle.document_text.specs.declared.fault.DocumentError.{DocumentError}
use Rattle.document_text.specs.declared.fault.DocumentError.TheVariants as document
use Rattle.document_text.specs.Answers.{state_of, IsNextState, IsOpening, IsStop, AnswersDocument, IsAnswer, CutsText, LacksAnswer, doc_of}
use Rattle.document_text.specs.Documents.{Outcome, Accepted, Refused}
use Rattle.document_text.specs.Grammar.{Lines, IsFrom, IsReading, LacksEnd, finished, line_start, line_behind, most_bytes}
use Rattle.document_text.specs.States.{State, initial_state, with_policy}
use Rattle.document_text.specs.Steps.{step}
use Rattle.document_text.specs.Texts.{lines_of, words_of, is_end}
use Rattle.document_text.specs.Feeding.{ComesAt, Comes, StandsIn, HoldsAt, HoldsBytes, counted, StandsBy, StandsFor, Reaches, IsLine, IsPiece, KeepsSpot, GivesNothing}
use Rattle.document_text.proofs.Readings.{reading-small, reading-large}
use Rattle.document_text.proofs.Turning.{line-next, line-opening, line-stop, text-line, text-end, inside-line, text-piece, inside-piece}

-- ---- from one reader to another

-- a spot, a state, a line and what is pending
abbrev At : Type 0
At = Spot × (State × (ℕ × List ℕ))

-- nothing was read
pub stays : (end : Bool) (old new : DocReader) → new.fed ≡ old.fed → new.row ≡ old.row → new.spot ≡ old.spot → state_of new.reader ≡ state_of old.reader → new.line ≡ old.line
    → new.pending.items ≡ old.pending.items → ((front : List ℕ) → HoldsBytes old front → HoldsBytes new front) → Reaches end old new
stays end old new f r a b c d h = record {
  fed = f;
  row = r;
  goes = λ front k. (front, h front k, λ rest o e w. subst (λ (x : At). ComesAt x.0 x.1.0 x.1.1.0 front (x.1.1.1 ++ rest) o) (λ i. (a i, (b i, (c i, d i)))) w);
}

pub reaches-trans : (end : Bool) (a b c : DocReader) → Reaches end a b → Reaches end b c → Reaches end a c
reaches-trans end a b c h k = record {
  fed = k.fed ∙ h.fed;
  row = k.row ∙ h.row;
  goes = λ front x.
      let y = h.goes front x in
      let z = k.goes y.0 y.1 in
      (z.0, z.1, λ rest o e w. y.2 rest o e (z.2 rest o e w));
}

module _ (end : Bool) (old new : DocReader) (f : new.fed ≡ old.fed) (r : new.row ≡ old.row) where
  -- what comes of the text at one spot comes of it at the other
  abbrev Follows : Spot → Spot → State → ℕ → List ℕ → Type 0
  Follows x y s n q =
      (front : List ℕ) → HoldsAt x old.policy old.behind front → (after : List ℕ) × HoldsAt y new.policy new.behind after
      × ((rest : List ℕ) (o : Outcome) → EndsAt end rest → ComesAt y s n after (q ++ rest) o → ComesAt x (state_of old.reader) old.line front (old.pending.items ++ rest) o)

  reaches-by : (x y : Spot) (s : State) (n : ℕ) (q : List ℕ) → old.spot ≡ x → new.spot ≡ y → state_of new.reader ≡ s → new.line ≡ n → new.pending.items ≡ q
      → Follows x y s n q → Reaches end old new
  reaches-by x y s n q a b c d e h = record {
    fed = f;
    row = r;
    goes = λ front k.
        let z = h front (subst (λ u. HoldsAt u old.policy old.behind front) a k) in (
          z.0,
          subst (λ u. HoldsAt u new.policy new.behind z.0) (sym b) z.1,
          λ rest o m w.
              subst (λ u. ComesAt u (state_of old.reader) old.line front (old.pending.items ++ rest) o) (sym a)
              (z.2 rest o m (subst (λ (u : At). ComesAt u.0 u.1.0 u.1.1.0 z.0 (u.1.1.1 ++ rest) o) (λ i. (b i, (c i, (d i, e i)))) w)),
        );
  }

  -- ---- a line of the document

  module _ (len : ℕ) (some : 0 < len) (within : len ≤ length old.pending.items) (first : IsLine end old.pending.items len) (q : new.pending.items ≡ drop len old.pending.items) (a : old.spot ≡ spot.Line) where
    pub next-reaches : new.spot ≡ spot.Line → new.line ≡ old.line + 1 → IsNextState (step (state_of old.reader) old.line (words_of (take len old.pending.items))) (state_of new.reader) → Reaches end old new
    next-reaches b d h =
        reaches-by spot.Line spot.Line (state_of new.reader) (old.line + 1) (drop len old.pending.items) a b refl d q
        (λ front k. ([], tt, λ rest o e w. line-next end old.pending.items len some within first (state_of old.reader) old.line rest e (state_of new.reader) o h w))

    pub opening-reaches : new.spot ≡ spot.Text (old.line + 1) → new.line ≡ old.line + 1 → policy.StandsFor (line_start (old.line + 1)) new.policy [] → new.behind ≡ line_start (old.line + 1)
        → IsOpening (step (state_of old.reader) old.line (words_of (take len old.pending.items))) (state_of new.reader) → Reaches end old new
    opening-reaches b d p at h =
        reaches-by spot.Line (spot.Text (old.line + 1)) (state_of new.reader) (old.line + 1) (drop len old.pending.items) a b refl d q
        (λ front k. ([], (p, sym at), λ rest o e w. line-opening end old.pending.items len some within first (state_of old.reader) old.line rest e (state_of new.reader) o h w))

    pub stop-reaches : (t : TextFault) → new.spot ≡ spot.Refused (record { fault = t; line = old.line; column = 1 })
        → IsStop (step (state_of old.reader) old.line (words_of (take len old.pending.items))) t → Reaches end old new
    stop-reaches t b h =
        reaches-by spot.Line (spot.Refused (record { fault = t; line = old.line; column = 1 })) (state_of new.reader) new.line (drop len old.pending.items) a b refl refl q
        (λ front k. (
          [],
          tt,
          λ rest o e w.
              subst (λ x. IsFrom (Lines (state_of old.reader)) old.line (lines_of (old.pending.items ++ rest)) x) (sym w)
              (line-stop end old.pending.items len some within first (state_of old.reader) old.line rest e t h),
        ))

  -- ---- a line of a policy's text

  module _ (begin len : ℕ) (c : state_of new.reader ≡ state_of old.reader) (q : new.pending.items ≡ drop len old.pending.items) where
    pub end-reaches : new.policy ≡ old.policy → 0 < len → len ≤ length old.pending.items → IsLine end old.pending.items len → is_end (words_of (take len old.pending.items)) ≡ true
        → old.spot ≡ spot.Text begin → new.spot ≡ spot.Closing begin → new.line ≡ old.line + 1 → Reaches end old new
    end-reaches p some within first last a b d =
        reaches-by (spot.Text begin) (spot.Closing begin) (state_of old.reader) (old.line + 1) (drop len old.pending.items) a b c d q
        (λ front k. (
          front,
          subst (λ z. policy.EndsFor (line_start begin) z front) (sym p) (ends-of (line_start begin) old.policy front k.0),
          λ rest o e w.
              text-end (state_of old.reader) begin old.line front o end old.pending.items len some within first rest e last w,
        ))

    module _ (g : (front : List ℕ) → StandsIn begin old.policy old.behind front → StandsIn begin new.policy new.behind (front ++ take len old.pending.items)) where
      pub text-reaches : 0 < len → len ≤ length old.pending.items → IsLine end old.pending.items len → is_end (words_of (take len old.pending.items)) ≡ false
          → old.spot ≡ spot.Text begin → new.spot ≡ spot.Text begin → new.line ≡ old.line + 1 → Reaches end old new
      text-reaches some within first other a b d =
          reaches-by (spot.Text begin) (spot.Text begin) (state_of old.reader) (old.line + 1) (drop len old.pending.items) a b c d q
          (λ front k. (
            front ++ take len old.pending.items,
            g front k,
            λ rest o e w.
                text-line (state_of old.reader) begin old.line front o end old.pending.items len some within first rest e other w,
          ))

      pub inside-reaches : 0 < len → len ≤ length old.pending.items → IsLine end old.pending.items len
          → old.spot ≡ spot.Inside begin → new.spot ≡ spot.Text begin → new.line ≡ old.line + 1 → Reaches end old new
      inside-reaches some within first a b d =
          reaches-by (spot.Inside begin) (spot.Text begin) (state_of old.reader) (old.line + 1) (drop len old.pending.items) a b c d q
          (λ front k. (
            front ++ take len old.pending.items,
            g front k,
            λ rest o e w.
                inside-line (state_of old.reader) begin old.line front o end old.pending.items len some within first rest e w,
          ))

      -- all that is pending
      module _ (all : len ≡ length old.pending.items) (d : new.line ≡ old.line) (b : new.spot ≡ spot.Inside begin) where
        whole : take len old.pending.items ≡ old.pending.items
        whole = ap (λ n. take n old.pending.items) all ∙ take-length old.pending.items

        none : new.pending.items ≡ []
        none = q ∙ ap (λ n. drop n old.pending.items) all ∙ drop-length old.pending.items

        held : (front : List ℕ) → StandsIn begin old.policy old.behind front → StandsIn begin new.policy new.behind (front ++ old.pending.items)
        held front k = subst (λ t. StandsIn begin new.policy new.behind (front ++ t)) whole (g front k)

        pub text-piece-reaches : IsPiece old.pending.items → old.pending.items ≢ [] → ((more : List ℕ) → is_end (words_of (old.pending.items ++ more)) ≡ false) → old.spot ≡ spot.Text begin → Reaches end old new
        text-piece-reaches piece some other a =
            reaches-by (spot.Text begin) (spot.Inside begin) (state_of old.reader) old.line [] a b c d none
            (λ front k. (
              front ++ old.pending.items,
              held front k,
              λ rest o e w.
                  text-piece (state_of old.reader) begin old.line front o old.pending.items piece rest some other w,
            ))

        pub inside-piece-reaches : IsPiece old.pending.items → old.spot ≡ spot.Inside begin → Reaches end old new
        inside-piece-reaches piece a =
            reaches-by (spot.Inside begin) (spot.Inside begin) (state_of old.reader) old.line [] a b c d none
            (λ front k. (
              front ++ old.pending.items,
              held front k,
              λ rest o e w.
                  inside-piece (state_of old.reader) begin old.line front o old.pending.items piece rest w,
            ))

  -- ---- a policy after its `end` line

  module _ (begin : ℕ) (a : old.spot ≡ spot.Closing begin) (q : new.pending.items ≡ old.pending.items) where
    pub made-reaches : (p : Term) → ((front : List ℕ) → policy.EndsFor (line_start begin) old.policy front → IsText front p)
        → state_of new.reader ≡ with_policy (state_of old.reader) p → new.line ≡ old.line → new.spot ≡ spot.Line → Reaches end old new
    made-reaches p h c d b =
        reaches-by (spot.Closing begin) spot.Line (with_policy (state_of old.reader) p) old.line old.pending.items a b c d q
        (λ front k. ([], tt, λ rest o e w. inl (p, h front k, w)))

    pub refused-reaches : (g : ParseFault) → ((front : List ℕ) → policy.EndsFor (line_start begin) old.policy front → HasFault (line_start begin) front g)
        → new.spot ≡ spot.Refused (record { fault = g.fault; line = g.line; column = g.column }) → Reaches end old new
    refused-reaches g h b =
        reaches-by (spot.Closing begin) (spot.Refused (record { fault = g.fault; line = g.line; column = g.column })) (state_of new.reader) new.line old.pending.items a b refl refl q
        (λ front k. ([], tt, λ rest o e w. inr (g, h front k, w)))

-- ---- texts

pub stands-on : (end : Bool) (old new : DocReader) (text : List ℕ) → Reaches end old new → StandsBy end old text → StandsBy end new text
stands-on end old new text h k =
    let x = h.goes k.front k.holds in
    record {
      fed = h.fed ∙ k.fed;
      row = h.row ∙ k.row;
      front = x.0;
      holds = x.1;
      goes = λ rest o e w. k.goes rest o e (x.2 rest o e w);
    }

-- at the end nothing may follow
pub stands-end : (r : DocReader) (text : List ℕ) → StandsFor r text → StandsBy true r text
stands-end r text h = record {
  fed = h.fed;
  row = h.row;
  front = h.front;
  holds = h.holds;
  goes = λ rest o e w. h.goes rest o (λ z. let clash : false ≡ true = z in cc) w;
}

-- ---- a policy's text

-- the place after some bytes
pub given-place : (p q : Position) (xs ys : List ℕ) (n fed : ℕ) → n ≤ length xs → q ≡ position_after p (take n xs) → ys ≡ drop n xs → p.line + length xs ≤ fed + 1 → p.column + length xs ≤ fed + 1
    → (q.line + length ys ≤ fed + 1) × (q.column + length ys ≤ fed + 1)
given-place p q xs ys n fed within e f l k =
    let near = position-near p (take n xs) in
    let front = length-take-le n xs within in
    let behind = ap length f ∙ length-drop n xs in
    (omega (arith, near.0, front, behind, ap (λ (z : Position). z.line) e, l, within), omega (arith, near.1, front, behind, ap (λ (z : Position). z.column) e, k, within))

pub gives-on : (begin : ℕ) (p q : PolicyReader) (at behind : Position) (front line : List ℕ) → (policy.StandsFor (line_start begin) p front → policy.StandsFor (line_start begin) q (front ++ line))
    → behind ≡ position_after at line → StandsIn begin p at front → StandsIn begin q behind (front ++ line)
gives-on begin p q at behind front line h e k =
    (h k.0, position-append (line_start begin) front line ∙ ap (λ z. position_after z line) k.1 ∙ sym e)

-- out of memory in a policy's text
pub given-none : (end : Bool) (old new : DocReader) (begin : ℕ) → KeepsSpot old new → GivesNothing old new → (old.spot ≡ spot.Text begin) ⊎ (old.spot ≡ spot.Inside begin) → Reaches end old new
given-none end old new begin k g (inl a) =
    stays end old new k.fed k.row k.spot (ap state_of k.reader) k.line (ap (λ b. b.items) g.pending)
    (λ front h. subst (λ z. HoldsAt z new.policy new.behind front) (sym (k.spot ∙ a)) (g.stands begin front (subst (λ z. HoldsAt z old.policy old.behind front) a h)))
given-none end old new begin k g (inr a) =
    stays end old new k.fed k.row k.spot (ap state_of k.reader) k.line (ap (λ b. b.items) g.pending)
    (λ front h. subst (λ z. HoldsAt z new.policy new.behind front) (sym (k.spot ∙ a)) (g.stands begin front (subst (λ z. HoldsAt z old.policy old.behind front) a h)))

-- ---- the end

answers-map : (P Q : Outcome → Type 0) → ((o : Outcome) → P o → Q o) → (a : Result Document DocumentError) → AnswersDocument P a → AnswersDocument Q a
answers-map P Q f (Ok d) h = f (Accepted (doc_of d)) h
answers-map P Q f (Err (document.Fault g)) h = f (Refused g) h
answers-map P Q f (Err document.Memory) h = tt

answers-one : (P : Outcome → Type 0) (x : Outcome) → ((o : Outcome) → o ≡ x → P o) → (a : Result Document DocumentError) → IsAnswer x a → AnswersDocument P a
answers-one P x f (Ok d) h = f (Accepted (doc_of d)) (sym h)
answers-one P x f (Err (document.Fault g)) h = f (Refused g) (sym h)
answers-one P x f (Err document.Memory) h = tt

-- what comes of no more text at a spot comes of it after the reader
ended-by : (r : DocReader) (x : Spot) (front : List ℕ) (a : Result Document DocumentError) → r.spot ≡ x → r.pending.items ≡ []
    → AnswersDocument (λ o. ComesAt x (state_of r.reader) r.line front [] o) a → AnswersDocument (λ o. Comes r front [] o) a
ended-by r x front a e p h =
    answers-map (λ o. ComesAt x (state_of r.reader) r.line front [] o) (λ o. Comes r front [] o)
    (λ o k. subst (λ (u : Spot × List ℕ). ComesAt u.0 (state_of r.reader) r.line front (u.1 ++ []) o) (λ i. (sym e i, sym p i)) k) a h

pub ended-line : (r : DocReader) (front : List ℕ) (a : Result Document DocumentError) → r.spot ≡ spot.Line → r.pending.items ≡ [] → IsAnswer (finished (state_of r.reader) r.line) a
    → AnswersDocument (λ o. Comes r front [] o) a
ended-line r front a e p h =
    ended-by r spot.Line front a e p
    (answers-one (λ o. ComesAt spot.Line (state_of r.reader) r.line front [] o) (finished (state_of r.reader) r.line) (λ o k. k) a h)

lacks : (n begin : ℕ) (front : List ℕ) (d : DocumentError) → LacksAnswer n begin front d → AnswersDocument (λ o. LacksEnd n begin front o) (Err d)
lacks n begin front (document.Fault f) h = h
lacks n begin front document.Memory h = tt

-- no policy's text is whole at the end
abbrev Lacks : DocReader → ℕ → DocumentError → Type 0
Lacks r n d = (begin : ℕ) (front : List ℕ) → policy.StandsFor (line_start begin) r.policy front → position_after (line_start begin) front ≡ r.behind → LacksAnswer n begin front d

pub ended-text : (r : DocReader) (begin : ℕ) (front : List ℕ) (d : DocumentError) → r.spot ≡ spot.Text begin → r.pending.items ≡ [] → Lacks r r.line d → HoldsBytes r front
    → AnswersDocument (λ o. Comes r front [] o) (Err d)
ended-text r begin front d e p h k =
    let at : StandsIn begin r.policy r.behind front = subst (λ x. HoldsAt x r.policy r.behind front) e k in
    ended-by r (spot.Text begin) front (Err d) e p (lacks r.line begin front d (h begin front at.0 at.1))

pub ended-inside : (r : DocReader) (begin : ℕ) (front : List ℕ) (d : DocumentError) → r.spot ≡ spot.Inside begin → r.pending.items ≡ [] → Lacks r (r.line + 1) d → HoldsBytes r front
    → AnswersDocument (λ o. Comes r front [] o) (Err d)
ended-inside r begin front d e p h k =
    let at : StandsIn begin r.policy r.behind front = subst (λ x. HoldsAt x r.policy r.behind front) e k in
    ended-by r (spot.Inside begin) front (Err d) e p
    (subst (λ t. AnswersDocument (λ o. LacksEnd (r.line + 1) begin t o) (Err d)) (sym (append-nil front)) (lacks (r.line + 1) begin front d (h begin front at.0 at.1)))

pub ended-refused : (r : DocReader) (f : DocFault) (front : List ℕ) → r.spot ≡ spot.Refused f → r.pending.items ≡ [] → AnswersDocument (λ o. Comes r front [] o) (Err (document.Fault f))
ended-refused r f front e p = ended-by r (spot.Refused f) front (Err (document.Fault f)) e p refl

-- what was read to its end
pub lines-end : (r : DocReader) (text : List ℕ) (a : Result Document DocumentError) (s : StandsBy true r text) → AnswersDocument (λ o. Comes r s.front [] o) a
    → AnswersDocument (IsFrom (Lines initial_state) 1 (lines_of (counted text))) a
lines-end r text a s h =
    answers-map (λ o. Comes r s.front [] o) (IsFrom (Lines initial_state) 1 (lines_of (counted text)))
    (λ o k. subst (λ t. IsFrom (Lines initial_state) 1 (lines_of t) o) (append-nil (counted text)) (s.goes [] o (λ z. refl) k)) a h

-- ---- more bytes

pub on-err : {A E P : Type 0} (r : Result A E) → P → OnErr r P
on-err (Ok a) p = tt
on-err (Err e) p = p

-- the first bytes of two texts
first-both : (m : ℕ) (xs ys : List ℕ) → take m (xs ++ ys) ≡ take m xs ++ take (m - length (take m xs)) ys
first-both zero xs ys = refl
first-both (suc m) [] ys = let k : suc m ≡ suc m - 0 = omega arith in ap (λ n. take n ys) k
first-both (suc m) (x ∷ xs) ys =
    let k : m - length (take m xs) ≡ suc m - suc (length (take m xs)) = omega arith in
    ap (λ zs. x ∷ zs) (first-both m xs ys ∙ ap (λ n. take m xs ++ take n ys) k)

-- one byte more or less leaves as little room
room-both : (m : ℕ) (xs : List ℕ) → m - length (take m xs) ≡ m - length (take (m + 1) xs)
room-both m xs = elim (cases_lt (length xs) (m + 1)) [
  | inl h ↦
      let a = ap length (take_all m xs (omega (arith, h))) in
      let b = ap length (take_all (m + 1) xs (omega (arith, h))) in
      omega (arith, a, b)
  | inr h ↦
      let a = length-take-le m xs (omega (arith, h)) in
      let b = length-take-le (m + 1) xs (omega (arith, h)) in
      omega (arith, a, b)
]

lines-append : (xs ys : List ℕ) → line_behind (xs ++ ys) + 1 ≡ line_behind xs + line_behind ys
lines-append xs ys =
    let h : count_by (λ b. b == 10) (xs ++ ys) ≡ count_by (λ b. b == 10) xs + count_by (λ b. b == 10) ys = sum_by-append (λ b. cond (b == 10) 1 0) xs ys in
    add-two (count_by (λ b. b == 10) (xs ++ ys)) (count_by (λ b. b == 10) xs) (count_by (λ b. b == 10) ys) h
  where
    add-two : (c a b : ℕ) → c ≡ a + b → (c + 1) + 1 ≡ (a + 1) + (b + 1)
    add-two c a b h = omega (arith, h)

row-sum : (a b c new row : ℕ) → row ≡ a → new + 1 ≡ row + b → c + 1 ≡ a + b → new ≡ c
row-sum a b c new row e f g = omega (arith, e, f, g)

-- a text and the bytes after it that count
module _ (text piece few shown : List ℕ) (fed : ℕ) (e : fed ≡ length (counted text)) (few_is : few ≡ take (4194305 - fed) piece) (shown_is : shown ≡ take (4194304 - fed) piece) where
  pub counted-both : counted (text ++ piece) ≡ counted text ++ few
  counted-both = first-both 4194305 text piece ∙ ap (λ n. counted text ++ take (4194305 - n) piece) (sym e) ∙ ap (λ zs. counted text ++ zs) (sym few_is)

  pub fed-both : fed + length few ≡ length (counted (text ++ piece))
  fed-both = omega (arith, e, ap length counted-both, length-append (counted text) few)

  pub row-both : (row new : ℕ) → row ≡ line_behind (take most_bytes text) → new + 1 ≡ row + line_behind shown → new ≡ line_behind (take most_bytes (text ++ piece))
  row-both row new r h =
      let room : 4194304 - length (take 4194304 text) ≡ 4194304 - fed = room-both 4194304 text ∙ ap (λ n. 4194304 - n) (sym e) in
      let k : take most_bytes (text ++ piece) ≡ take most_bytes text ++ shown = first-both 4194304 text piece ∙ ap (λ n. take 4194304 text ++ take n piece) room ∙ ap (λ zs. take 4194304 text ++ zs) (sym shown_is) in
      row-sum (line_behind (take most_bytes text)) (line_behind shown) (line_behind (take most_bytes text ++ shown)) new row r h (lines-append (take most_bytes text) shown)
      ∙ sym (ap line_behind k)

-- a reader that holds some bytes more
pub held-on : (old new : DocReader) (text piece few shown : List ℕ) → few ≡ take (4194305 - old.fed) piece → shown ≡ take (4194304 - old.fed) piece
    → new.reader ≡ old.reader → new.spot ≡ old.spot → new.line ≡ old.line → new.policy ≡ old.policy → new.behind ≡ old.behind → new.pending.items ≡ old.pending.items ++ few
    → new.fed ≡ old.fed + length few → new.row + 1 ≡ old.row + line_behind shown → StandsFor old text → StandsFor new (text ++ piece)
held-on old new text piece few shown few_is shown_is a b c d p q f r h =
    let both = counted-both text piece few shown old.fed h.fed few_is shown_is in
    record {
      fed = f ∙ fed-both text piece few shown old.fed h.fed few_is shown_is;
      row = row-both text piece few shown old.fed h.fed few_is shown_is old.row new.row h.row r;
      front = h.front;
      holds = subst (λ (u : Spot × (PolicyReader × Position)). HoldsAt u.0 u.1.0 u.1.1 h.front) (λ i. (sym b i, (sym d i, sym p i))) h.holds;
      goes = λ rest o e k.
          subst (λ t. IsFrom (Lines initial_state) 1 (lines_of t) o) (sym (append_assoc (counted text) few rest) ∙ ap (λ t. t ++ rest) (sym both))
          (h.goes (few ++ rest) o (λ z. let clash : false ≡ true = z in cc)
          (subst (λ t. ComesAt old.spot (state_of old.reader) old.line h.front t o) (append_assoc old.pending.items few rest)
          (subst (λ (u : At). ComesAt u.0 u.1.0 u.1.1.0 h.front (u.1.1.1 ++ rest) o) (λ i. (b i, (state_of (a i), (c i, q i)))) k)));
    }

-- a reader that holds no more
pub held-none : (old new : DocReader) → new.reader ≡ old.reader → new.spot ≡ old.spot → new.line ≡ old.line → new.policy ≡ old.policy → new.behind ≡ old.behind → new.pending.items ≡ old.pending.items
    → new.fed ≡ old.fed → new.row ≡ old.row → (text : List ℕ) → StandsFor old text → StandsFor new text
held-none old new a b c d p q f r text h =
    stands-on false old new text
    (stays false old new f r b (ap state_of a) c q (λ front k. subst (λ (u : Spot × (PolicyReader × Position)). HoldsAt u.0 u.1.0 u.1.1 front) (λ i. (sym b i, (sym d i, sym p i))) k)) h

-- ---- readings

few-bytes : (text : List ℕ) (fed : ℕ) → fed ≡ length (counted text) → fed ≤ 4194304 → length text ≤ 4194304
few-bytes text fed e f = elim (cases_lt (length text) 4194305) [
  | inl h ↦ omega (arith, h)
  | inr h ↦ absurd (omega (arith, e, f, length-take-le 4194305 text h))
]

many-bytes : (text : List ℕ) (fed : ℕ) → fed ≡ length (counted text) → 4194304 < fed → 4194304 < length text
many-bytes text fed e f = elim (cases_lt (length text) 4194305) [
  | inl h ↦ omega (arith, e, f, ap length (take_all 4194305 text (omega (arith, h))))
  | inr h ↦ omega (arith, h)
]

-- what comes of all lines of a text after a reader
abbrev Ended : DocReader → Result Document DocumentError → Type 0
Ended r a = (front : List ℕ) → HoldsBytes r front → AnswersDocument (λ o. Comes r front [] o) a

pub read-small : (old r : DocReader) (text : List ℕ) (a : Result Document DocumentError) → Reaches true old r → Ended r a → r.fed ≤ 4194304 → StandsFor old text → AnswersDocument (IsReading text) a
read-small old r text a on h f k =
    let s = stands-on true old r text on (stands-end old text k) in
    reading-small text a (few-bytes text r.fed s.fed f) (lines-end r text a s (h s.front s.holds))

pub read-large : (old r : DocReader) (text : List ℕ) (a : Result Document DocumentError) (e : DocumentError) → Reaches true old r → Ended r a → 4194304 < r.fed → CutsText r.row a e → StandsFor old text
    → AnswersDocument (IsReading text) (Err e)
read-large old r text a e on h f c k =
    let s = stands-on true old r text on (stands-end old text k) in
    reading-large text a e (many-bytes text r.fed s.fed f) (lines-end r text a s (h s.front s.holds)) (subst (λ n. CutsText n a e) s.row c)
