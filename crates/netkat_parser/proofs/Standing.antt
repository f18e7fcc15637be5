-- What readers stand for.
use Rattle.std.proofs.Common.{◌≡◌, ℕ, ◌+◌, ◌<◌, ◌≤◌, Bool, true, false, cond, ◌==◌, List, [], ◌∷◌, ◌++◌, length, take, drop, ◌⊎◌, inl, inr, Option, Some, None, Result, Ok, Err, refl, sym, ap, ◌∙◌, subst, append_assoc, length-append, arith}
use Rattle.std.proofs.lemmas.List.{append-nil, take-append-drop}
use Rattle.nk_values.specs.declared.text_fault.TextFault.{TextFault}
use Rattle.std.specs.Result.{IfOk, IsErrAnd, MatchResult}
use Rattle.nk_syntax.specs.Terms.{Term}
use Rattle.nk_syntax.specs.Views.{term_of}
use Rattle.nk_syntax.specs.declared.pol.Pol.{Pol}
use Rattle.netkat_parser.specs.declared.fault.ParseError.{ParseError}
use Rattle.netkat_parser.specs.declared.fault.ParseError.TheVariants as error
use Rattle.netkat_parser.proofs.Unique.{text-one}
use Rattle.netkat_parser.proofs.Outcomes.{no-both, fault-one}
use Rattle.netkat_parser.specs.declared.sign.Sign.TheVariants.{End}
use Rattle.netkat_parser.specs.declared.fault.Position.{Position}
use Rattle.netkat_parser.specs.declared.fault.ParseFault.{ParseFault}
use Rattle.netkat_parser.specs.declared.reading.Halt.TheVariants as halt
use Rattle.netkat_parser.specs.declared.advance.Pause.{Pause}
use Rattle.netkat_parser.specs.declared.advance.Pause.TheVariants as pause
use Rattle.netkat_parser.specs.declared.feeding.PolicyReader.{PolicyReader}
use Rattle.netkat_parser.specs.Signs.{ahead, sign}
use Rattle.netkat_parser.specs.Grammar.{Got, Read, Bad, IsReading, IsText}
use Rattle.netkat_parser.specs.Places.{next_position, position_after, HasFault}
use Rattle.netkat_parser.specs.Answers.{spot}
use Rattle.netkat_parser.specs.Pairs.{pairs}
use Rattle.netkat_parser.specs.Going.{Comes}
use Rattle.netkat_parser.specs.Views.{View, view_of, first_reach, GivesWhole, KeepsView}
use Rattle.netkat_parser.specs.Standing.{Leaves, Advances}
use Rattle.netkat_parser.specs.Readers.{IsOpen, IsFaulty, StandsBy, StandsFor, EndsBy, EndsFor, AnswersFor, Settles}
use Rattle.netkat_parser.proofs.Goes.{policy-of}

-- ---- places

next-near : (c : Bool) (p : Position) → let q : Position = cond c (record { line = p.line + 1; column = 1 }) (record { line = p.line; column = p.column + 1 }) in (q.line ≤ p.line + 1) × (q.column ≤ p.column + 1)
next-near true p = (omega arith, omega arith)
next-near false p = (omega arith, omega arith)

pub position-near : (p : Position) (front : List ℕ) → ((position_after p front).line ≤ p.line + length front) × ((position_after p front).column ≤ p.column + length front)
position-near p [] = (omega arith, omega arith)
position-near p (b ∷ bs) =
    let h = position-near (next_position p b) bs in
    let k = next-near (b == 10) p in
    (omega (arith, h.0, k.0), omega (arith, h.1, k.1))

-- what was read is no longer pending
pub position-bound : (p q : Position) (xs ys zs : List ℕ) (n room most : ℕ) → q ≡ position_after p (take n ys) → xs ≡ drop n ys → zs ≡ ys
    → p.line + length zs + room < most → p.column + length zs + room < most → (q.line + length xs + room < most) × (q.column + length xs + room < most)
position-bound p q xs ys zs n room most e f g l k =
    let near = position-near p (take n ys) in
    let parts = ap length (sym (take-append-drop n ys)) ∙ length-append (take n ys) (drop n ys) in
    let whole = ap length g in
    let rest = ap length f in
    let line = ap (λ (z : Position). z.line) e in
    let column = ap (λ (z : Position). z.column) e in
    (omega (arith, near.0, parts, whole, rest, line, l), omega (arith, near.1, parts, whole, rest, column, k))

pub position-append : (p : Position) (xs ys : List ℕ) → position_after p (xs ++ ys) ≡ position_after (position_after p xs) ys
position-append p [] ys = refl
position-append p (x ∷ xs) ys = position-append (next_position p x) xs ys

-- ---- before the first byte

pub first-goes : (rest : List ℕ) (o : Got Term) → Comes first_reach (spot (ahead false rest) []) o → IsReading rest o
first-goes rest o h = (h.2.0, policy-of 0 false (spot (ahead false rest) []) h.0 h.2.0 h.1 h.2.1, h.2.2)

-- ---- after what is whole

module _ (end : Bool) (begin : Position) (text : List ℕ) (old new : PolicyReader) (n : ℕ)
    (p : new.pending.items ≡ drop n old.pending.items) (q : new.position ≡ position_after old.position (take n old.pending.items)) (h : IsOpen end begin old text) where
  whole-parts : text ≡ (h.front ++ take n old.pending.items) ++ drop n old.pending.items
  whole-parts =
      h.parts ∙ ap (λ xs. h.front ++ xs) (sym (take-append-drop n old.pending.items))
      ∙ sym (append_assoc h.front (take n old.pending.items) (drop n old.pending.items))

  whole-position : position_after begin (h.front ++ take n old.pending.items) ≡ new.position
  whole-position =
      position-append begin h.front (take n old.pending.items) ∙ ap (λ z. position_after z (take n old.pending.items)) h.position ∙ sym q

  leaves-open : Leaves (view_of old.reading) old.in_comment old.pending.items end (view_of new.reading) new.in_comment (drop n old.pending.items) → IsOpen end begin new text
  leaves-open l =
      let y = l h.reach h.shows in
      record {
        front = h.front ++ take n old.pending.items;
        parts = whole-parts ∙ ap (λ xs. (h.front ++ take n old.pending.items) ++ xs) (sym p);
        position = whole-position;
        reach = y.0;
        shows = y.1;
        goes = λ rest o e k. h.goes rest o e (y.2 rest o e (subst (λ xs. Comes y.0 (spot (ahead new.in_comment (xs ++ rest)) (pairs new.reading.named)) o) p k));
      }

  pub settles-by : (s : Pause) → Advances (view_of old.reading) old.in_comment old.pending.items end (view_of new.reading) n new.in_comment s → Settles end begin text new s
  settles-by pause.Wait a = leaves-open a.1
  settles-by (pause.Halt halt.Memory) a = leaves-open a
  settles-by (pause.Halt halt.Done) a =
      (leaves-open a.0, λ rest e. subst (λ xs. sign (ahead new.in_comment (xs ++ rest)) ≡ End) (sym p) (a.2 rest e))
  settles-by (pause.Halt (halt.Fault f)) a = λ rest e. record {
    front = h.front ++ take n old.pending.items;
    at = drop n old.pending.items ++ rest;
    parts = ap (λ xs. xs ++ rest) whole-parts ∙ append_assoc (h.front ++ take n old.pending.items) (drop n old.pending.items) rest;
    first = h.goes rest (Bad f (drop n old.pending.items ++ rest)) e (a h.reach h.shows rest e);
    position = whole-position;
  }

-- ---- at the end of the text

pub ends-open : (begin : Position) (r : PolicyReader) (text : List ℕ) → IsOpen false begin r text → IsOpen true begin r text
ends-open begin r text h = record {
  front = h.front;
  parts = h.parts;
  position = h.position;
  reach = h.reach;
  shows = h.shows;
  goes = λ rest o e k. h.goes rest o (λ z. absurd (let clash = z in cc)) k;
}

ends-by : (g : Option ParseFault) (begin : Position) (r : PolicyReader) (text : List ℕ) → StandsBy g begin r text → EndsBy g begin r text
ends-by None begin r text h = ends-open begin r text h
ends-by (Some f) begin r text h = h

pub ends-of : (begin : Position) (r : PolicyReader) (text : List ℕ) → StandsFor begin r text → EndsFor begin r text
ends-of begin r text h = ends-by r.fault begin r text h

pub open-of : (begin : Position) (r : PolicyReader) (text : List ℕ) → r.fault ≡ None → EndsFor begin r text → IsOpen true begin r text
open-of begin r text e h = subst (λ f. EndsBy f begin r text) e h

pub faulty-of : (begin : Position) (r : PolicyReader) (text : List ℕ) (f : ParseFault) → r.fault ≡ Some f → EndsFor begin r text → HasFault begin text f
faulty-of begin r text f e h =
    let k : IsFaulty begin text f = subst (λ g. EndsBy g begin r text) e h in
    subst (λ t. HasFault begin t f) (append-nil text) (k [])

-- room that is made changes nothing of it
pub given-still : (old new : View) (p : Term) → KeepsView old new → GivesWhole new p → GivesWhole old p
given-still old new p k g = λ x s t e. subst (λ ns. Comes x (spot t ns) (Read p (spot t ns))) k.1 (g x (k.0 x s) t e)

pub whole-text : (begin : Position) (r : PolicyReader) (text : List ℕ) (p : Term) → Settles true begin text r (pause.Halt halt.Done) → GivesWhole (view_of r.reading) p → IsText text p
whole-text begin r text p s g =
    let t = ahead r.in_comment (r.pending.items ++ []) in
    let o = Read p (spot t (pairs r.reading.named)) in (
      spot t (pairs r.reading.named),
      subst (λ x. IsReading x o) (append-nil text) (s.0.goes [] o (λ z. refl) (g s.0.reach s.0.shows t (s.1 [] (λ z. refl)))),
    )

pub whole-fault : (begin : Position) (r : PolicyReader) (text : List ℕ) (f : TextFault) → Settles true begin text r (pause.Halt (halt.Fault f))
    → HasFault begin text (record { fault = f; line = r.position.line; column = r.position.column })
whole-fault begin r text f s =
    let g : ParseFault = record { fault = f; line = r.position.line; column = r.position.column } in
    subst (λ t. HasFault begin t g) (append-nil text) (s [] (λ z. refl))

-- ---- answers

module _ (begin : Position) (text : List ℕ) where
  pub answers-read : (r : Result Pol ParseError) → AnswersFor begin text r → IfOk r (λ pol. IsText text (term_of pol))
  answers-read (Ok pol) h = h
  answers-read (Err e) h = tt

  pub answers-fault : (r : Result Pol ParseError) → AnswersFor begin text r → (f : ParseFault) → r ≡ Err (error.Fault f) → HasFault begin text f
  answers-fault r h f e = subst (AnswersFor begin text) e h

  pub answers-each_read : (r : Result Pol ParseError) → AnswersFor begin text r → (p : Term) → IsText text p → MatchResult r (λ pol. term_of pol ≡ p) (λ e. e ≡ error.Memory)
  answers-each_read (Ok pol) h p k = text-one text (term_of pol) p h k
  answers-each_read (Err (error.Fault f)) h p k = absurd (no-both begin text p f k h)
  answers-each_read (Err error.Memory) h p k = refl

  pub answers-each_fault : (r : Result Pol ParseError) → AnswersFor begin text r → (f : ParseFault) → HasFault begin text f → IsErrAnd r (λ e. (e ≡ error.Fault f) ⊎ (e ≡ error.Memory))
  answers-each_fault (Ok pol) h f k = no-both begin text (term_of pol) f h k
  answers-each_fault (Err (error.Fault g)) h f k = inl (ap error.Fault (fault-one begin text g f h k))
  answers-each_fault (Err error.Memory) h f k = inr refl
