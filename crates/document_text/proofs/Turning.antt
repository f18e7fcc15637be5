-- One line after another.
use Rattle.std.proofs.Common.{◌≡◌, ◌≢◌, ℕ, ◌+◌, ◌<◌, ◌≤◌, inl, inr, Bool, false, true, List, [], ◌∷◌, ◌++◌, length, take, drop, refl, sym, ap, ◌∙◌, subst, arith, append_assoc, length-append}
use Rattle.std.proofs.Math.Seq.{take-append-add, drop-append-add}
use Rattle.std.proofs.lemmas.List.{take-append-le, drop-append-le}
use Rattle.nk_values.specs.declared.text_fault.TextFault.{TextFault}
use Rattle.netkat_parser.specs.Cuts.{EndsAt}
use Rattle.document_text.specs.Documents.{Outcome}
use Rattle.document_text.specs.States.{State}
use Rattle.document_text.specs.Steps.{Step, Next, Enters, Opens, Stops, step}
use Rattle.document_text.specs.Texts.{first_len, lines_of, words_of, is_end}
use Rattle.document_text.specs.Grammar.{Mode, Lines, Block, Does, Closes, Chosen, IsFrom, refused_at}
use Rattle.document_text.specs.Answers.{IsNextState, IsOpening, IsStop}
use Rattle.document_text.specs.Feeding.{IsLine, IsPiece}
use Rattle.document_text.proofs.Pieces.{lines-cut}

-- ---- what comes of a step

next-does : (Go : Mode → Type 0) (n : ℕ) (o : Outcome) (x : Step) (t : State) → IsNextState x t → Go (Lines t) → Does Go n o x
next-does Go n o (Next s) t h k = subst (λ u. Go (Lines u)) h k
next-does Go n o (Enters p s) t h k = inl (h.0, subst (λ u. Go (Lines u)) h.1 k)
next-does Go n o (Opens s) t h k = absurd h
next-does Go n o (Stops f) t h k = absurd h

opening-does : (Go : Mode → Type 0) (n : ℕ) (o : Outcome) (x : Step) (t : State) → IsOpening x t → Go (Block t (n + 1) []) → Does Go n o x
opening-does Go n o (Next s) t h k = absurd h
opening-does Go n o (Enters p s) t h k = absurd h
opening-does Go n o (Opens s) t h k = subst (λ u. Go (Block u (n + 1) [])) h k
opening-does Go n o (Stops f) t h k = absurd h

stop-does : (Go : Mode → Type 0) (n : ℕ) (x : Step) (f : TextFault) → IsStop x f → Does Go n (refused_at n f) x
stop-does Go n (Next s) f h = absurd h
stop-does Go n (Enters p s) f h = inr (h.0, ap (refused_at n) h.1)
stop-does Go n (Opens s) f h = absurd h
stop-does Go n (Stops g) f h = ap (refused_at n) h

-- ---- the first line of a text that may go on

longer : (p rest : List ℕ) → 0 < length p → 0 < length (p ++ rest)
longer p rest some = omega (arith, some, length-append p rest)

filled : (p : List ℕ) → p ≢ [] → 0 < length p
filled [] h = absurd (h refl)
filled (x ∷ xs) h = omega arith

-- a line of a text that goes on after `p`
module _ (end : Bool) (p : List ℕ) (n : ℕ) (some : 0 < n) (within : n ≤ length p) (first : IsLine end p n) (rest : List ℕ) (e : EndsAt end rest) where
  pub line-front : take (first_len (p ++ rest)) (p ++ rest) ≡ take n p
  line-front = ap (λ k. take k (p ++ rest)) (first rest e) ∙ take-append-le n p rest within

  pub line-behind : drop (first_len (p ++ rest)) (p ++ rest) ≡ drop n p ++ rest
  line-behind = ap (λ k. drop k (p ++ rest)) (first rest e) ∙ drop-append-le n p rest within

  line-of : lines_of (p ++ rest) ≡ take n p ∷ lines_of (drop n p ++ rest)
  line-of =
      lines-cut (p ++ rest) (longer p rest (omega (arith, some, within)))
      ∙ ap (λ l. l ∷ lines_of (drop (first_len (p ++ rest)) (p ++ rest))) line-front ∙ ap (λ l. take n p ∷ lines_of l) line-behind

-- what there is of a line
module _ (p : List ℕ) (piece : IsPiece p) (rest : List ℕ) where
  pub piece-front : take (first_len (p ++ rest)) (p ++ rest) ≡ p ++ take (first_len rest) rest
  piece-front = ap (λ k. take k (p ++ rest)) (piece rest) ∙ take-append-add p rest (first_len rest)

  pub piece-behind : drop (first_len (p ++ rest)) (p ++ rest) ≡ drop (first_len rest) rest
  piece-behind = ap (λ k. drop k (p ++ rest)) (piece rest) ∙ drop-append-add p rest (first_len rest)

  piece-of : p ≢ [] → lines_of (p ++ rest) ≡ (p ++ take (first_len rest) rest) ∷ lines_of (drop (first_len rest) rest)
  piece-of some =
      lines-cut (p ++ rest) (longer p rest (filled p some))
      ∙ ap (λ l. l ∷ lines_of (drop (first_len (p ++ rest)) (p ++ rest))) piece-front ∙ ap (λ l. (p ++ take (first_len rest) rest) ∷ lines_of l) piece-behind

-- ---- a line of the document

module _ (end : Bool) (p : List ℕ) (len : ℕ) (some : 0 < len) (within : len ≤ length p) (first : IsLine end p len) (s : State) (n : ℕ) (rest : List ℕ) (e : EndsAt end rest) where
  line-does : (o : Outcome) → Does (λ m. IsFrom m (n + 1) (lines_of (drop len p ++ rest)) o) n o (step s n (words_of (take len p))) → IsFrom (Lines s) n (lines_of (p ++ rest)) o
  line-does o h = subst (λ ls. IsFrom (Lines s) n ls o) (sym (line-of end p len some within first rest e)) h

  pub line-next : (t : State) (o : Outcome) → IsNextState (step s n (words_of (take len p))) t
      → IsFrom (Lines t) (n + 1) (lines_of (drop len p ++ rest)) o → IsFrom (Lines s) n (lines_of (p ++ rest)) o
  line-next t o h k = line-does o (next-does (λ m. IsFrom m (n + 1) (lines_of (drop len p ++ rest)) o) n o (step s n (words_of (take len p))) t h k)

  pub line-opening : (t : State) (o : Outcome) → IsOpening (step s n (words_of (take len p))) t
      → IsFrom (Block t (n + 1) []) (n + 1) (lines_of (drop len p ++ rest)) o → IsFrom (Lines s) n (lines_of (p ++ rest)) o
  line-opening t o h k = line-does o (opening-does (λ m. IsFrom m (n + 1) (lines_of (drop len p ++ rest)) o) n o (step s n (words_of (take len p))) t h k)

  pub line-stop : (f : TextFault) → IsStop (step s n (words_of (take len p))) f → IsFrom (Lines s) n (lines_of (p ++ rest)) (refused_at n f)
  line-stop f h = line-does (refused_at n f) (stop-does (λ m. IsFrom m (n + 1) (lines_of (drop len p ++ rest)) (refused_at n f)) n (step s n (words_of (take len p))) f h)

-- ---- a line of a policy's text

module _ (s : State) (begin n : ℕ) (front : List ℕ) (o : Outcome) where
  block-does : (text line behind : List ℕ) → lines_of text ≡ line ∷ lines_of behind
      → Chosen (is_end (words_of line)) (Closes (λ m. IsFrom m (n + 1) (lines_of behind) o) o s begin front) (IsFrom (Block s begin (front ++ line)) (n + 1) (lines_of behind) o)
      → IsFrom (Block s begin front) n (lines_of text) o
  block-does text line behind e h = subst (λ ls. IsFrom (Block s begin front) n ls o) (sym e) h

  block-more : (text line behind : List ℕ) → lines_of text ≡ line ∷ lines_of behind → is_end (words_of line) ≡ false
      → IsFrom (Block s begin (front ++ line)) (n + 1) (lines_of behind) o → IsFrom (Block s begin front) n (lines_of text) o
  block-more text line behind e other h =
      block-does text line behind e
      (subst (λ b. Chosen b (Closes (λ m. IsFrom m (n + 1) (lines_of behind) o) o s begin front) (IsFrom (Block s begin (front ++ line)) (n + 1) (lines_of behind) o)) (sym other) h)

  module _ (end : Bool) (p : List ℕ) (len : ℕ) (some : 0 < len) (within : len ≤ length p) (first : IsLine end p len) (rest : List ℕ) (e : EndsAt end rest) where
    pub text-line : is_end (words_of (take len p)) ≡ false
        → IsFrom (Block s begin (front ++ take len p)) (n + 1) (lines_of (drop len p ++ rest)) o → IsFrom (Block s begin front) n (lines_of (p ++ rest)) o
    text-line other h = block-more (p ++ rest) (take len p) (drop len p ++ rest) (line-of end p len some within first rest e) other h

    pub text-end : is_end (words_of (take len p)) ≡ true
        → Closes (λ m. IsFrom m (n + 1) (lines_of (drop len p ++ rest)) o) o s begin front → IsFrom (Block s begin front) n (lines_of (p ++ rest)) o
    text-end last h =
        block-does (p ++ rest) (take len p) (drop len p ++ rest) (line-of end p len some within first rest e)
        (subst (λ b. Chosen b (Closes (λ m. IsFrom m (n + 1) (lines_of (drop len p ++ rest)) o) o s begin front)
        (IsFrom (Block s begin (front ++ take len p)) (n + 1) (lines_of (drop len p ++ rest)) o)) (sym last) h)

    pub inside-line : IsFrom (Block s begin (front ++ take len p)) (n + 1) (lines_of (drop len p ++ rest)) o
        → IsFrom (Block s begin (front ++ take (first_len (p ++ rest)) (p ++ rest))) (n + 1) (lines_of (drop (first_len (p ++ rest)) (p ++ rest))) o
    inside-line h =
        rw (line-front end p len some within first rest e, line-behind end p len some within first rest e) h

  module _ (p : List ℕ) (piece : IsPiece p) (rest : List ℕ) where
    piece-more : IsFrom (Block s begin ((front ++ p) ++ take (first_len rest) rest)) (n + 1) (lines_of (drop (first_len rest) rest)) o
        → IsFrom (Block s begin (front ++ (p ++ take (first_len rest) rest))) (n + 1) (lines_of (drop (first_len rest) rest)) o
    piece-more h = subst (λ t. IsFrom (Block s begin t) (n + 1) (lines_of (drop (first_len rest) rest)) o) (append_assoc front p (take (first_len rest) rest)) h

    pub text-piece : p ≢ [] → ((more : List ℕ) → is_end (words_of (p ++ more)) ≡ false)
        → IsFrom (Block s begin ((front ++ p) ++ take (first_len rest) rest)) (n + 1) (lines_of (drop (first_len rest) rest)) o → IsFrom (Block s begin front) n (lines_of (p ++ rest)) o
    text-piece some other h =
        block-more (p ++ rest) (p ++ take (first_len rest) rest) (drop (first_len rest) rest) (piece-of p piece rest some) (other (take (first_len rest) rest)) (piece-more h)

    pub inside-piece : IsFrom (Block s begin ((front ++ p) ++ take (first_len rest) rest)) (n + 1) (lines_of (drop (first_len rest) rest)) o
        → IsFrom (Block s begin (front ++ take (first_len (p ++ rest)) (p ++ rest))) (n + 1) (lines_of (drop (first_len (p ++ rest)) (p ++ rest))) o
    inside-piece h = rw (piece-front p piece rest, piece-behind p piece rest) (piece-more h)
