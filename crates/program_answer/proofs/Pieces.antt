-- A text reads as its first 4,194,305 bytes do.
use Rattle.std.proofs.Common.{rules, ◌≡◌, ℕ, ◌+◌, ◌-◌, ◌≤◌, ◌<◌, inl, inr, false, cond, nat_le, nat_lt, List, [], ◌++◌, take, drop, length, Option, None, Some, IfSome, refl, sym, ap, ◌∙◌, subst, arith}
use Rattle.std.specs.Io.KnownBytes.{Consumes, Keeps, IsAtEnd}
use Rattle.std.specs.Prelude.{min}
use Rattle.std.proofs.KnownBytes.{Consumes-trans}
use Rattle.std.proofs.Math.Seq.{take-append_seam, drop-append_seam}
use Rattle.std.proofs.lemmas.Bool.{cases_lt, lt-leb, leb-true, cases_Bool}
use Rattle.std.proofs.lemmas.List.{append-nil, take_all, drop_all, take-take, length-take-le}
use Rattle.nk_values.specs.declared.text_fault.TextFault.TheVariants.{Limit}
use Rattle.outside_io.specs.Lists.{TakesFirst}
use Rattle.document_text.specs.declared.doc_reader.DocReader.{DocReader}
use Rattle.document_text.specs.Documents.{Doc, Outcome, Accepted, Refused}
use Rattle.document_text.specs.Grammar.{Lines, IsFrom, IsReading, within_limit, cut_off, line_behind, refused_at}
use Rattle.document_text.specs.States.{initial_state}
use Rattle.document_text.specs.Texts.{lines_of}
use Rattle.program_answer.specs.Input.{Feeds, IsReadAs}
use Rattle.program_answer.specs.Lines.{line_after}
use Rattle.program_answer.specs.declared.lines.LineCount.{LineCount}

limit : (xs : List ℕ) (o : Outcome) → within_limit (take 4194305 xs) o ≡ within_limit xs o
limit xs o = elim (cases_lt (length xs) 4194305) [
  | inl h ↦ ap (λ ys. within_limit ys o) (take_all 4194305 xs (omega (arith, h)))
  | inr h ↦
      let cut = length-take-le 4194305 xs h in
      let a : nat_le (length (take 4194305 xs)) 4194304 ≡ false = lt-leb (length (take 4194305 xs)) 4194304 (omega (arith, cut)) in
      let b : nat_le (length xs) 4194304 ≡ false = lt-leb (length xs) 4194304 (omega (arith, h)) in
      ap (λ t. cond t o (cut_off (line_behind (take 4194304 (take 4194305 xs))) o)) a
      ∙ ap (λ ys. cut_off (line_behind ys) o) (take-take 4194304 4194305 xs (omega arith))
      ∙ sym (ap (λ t. cond t o (cut_off (line_behind (take 4194304 xs)) o)) b)
]

reading-take : (xs : List ℕ) (o : Outcome) → IsReading (take 4194305 xs) o → IsReading xs o
reading-take xs o r = (r.0, subst (λ ys. IsFrom (Lines initial_state) 1 (lines_of ys) r.0) (take-take 4194305 4194305 xs (omega arith)) r.1, r.2 ∙ limit xs r.0)

cut-refuses : (n : ℕ) (o : Outcome) (d : Doc) → Accepted d ≡ cut_off n o → ⊥
cut-refuses n (Accepted e) d h = cc
cut-refuses n (Refused f) d h = elim (cases_Bool (nat_lt f.line n)) [
  | inl t ↦ let k : Accepted d ≡ Refused f = h ∙ ap (λ b. cond b (Refused f) (refused_at n Limit)) t in cc
  | inr t ↦ let k : Accepted d ≡ refused_at n Limit = h ∙ ap (λ b. cond b (Refused f) (refused_at n Limit)) t in cc
]

-- a document has no more than 4,194,304 bytes
pub short : (xs : List ℕ) (d : Doc) → IsReading xs (Accepted d) → length xs ≤ 4194304
short xs d r = elim (cases_Bool (nat_le (length xs) 4194304)) [
  | inl t ↦ leb-true (length xs) 4194304 t
  | inr t ↦ absurd (cut-refuses (line_behind (take 4194304 xs)) r.0 d (r.2 ∙ ap (λ b. cond b r.0 (cut_off (line_behind (take 4194304 xs)) r.0)) t))
]

-- ---- pieces

-- bytes that were taken, all of a text or the most
taken-first : (xs ys bytes : List ℕ) → xs ≡ bytes ++ ys → length bytes ≤ 4194305 → (length bytes < 4194305 → ys ≡ []) → (bytes ≡ take 4194305 xs) × (ys ≡ drop 4194305 xs)
taken-first xs ys bytes e within end = elim (cases_lt (length bytes) 4194305) [
  | inl h ↦
      let all : xs ≡ bytes = e ∙ ap (λ zs. bytes ++ zs) (end h) ∙ append-nil bytes in
      let few : length xs ≤ 4194305 = omega (arith, ap length all, within) in
      (sym all ∙ sym (take_all 4194305 xs few), end h ∙ sym (drop_all 4194305 xs few))
  | inr h ↦
      let n : length bytes ≡ 4194305 = omega (arith, h, within) in
      (sym (ap (take 4194305) e ∙ ap (λ k. take k (bytes ++ ys)) (sym n) ∙ take-append_seam bytes ys), sym (ap (drop 4194305) e ∙ ap (λ k. drop k (bytes ++ ys)) (sym n) ∙ drop-append_seam bytes ys))
]

-- what the bytes that a reader was fed are, the source is
pub feeds-reading : (old new : Option (List ℕ)) (r : DocReader) (c : LineCount) (f : Feeds old new r c) (o : Outcome) → IsReading f.bytes o → IfSome old (λ xs. IsReading xs o)
feeds-reading None new r c f o h = tt
feeds-reading (Some xs) None r c f o h = absurd f.taken
feeds-reading (Some xs) (Some ys) r c f o h = reading-take xs o (subst (λ zs. IsReading zs o) (taken-first xs ys f.bytes f.taken f.within f.ended).0 h)

pub feeds-taken : (old new : Option (List ℕ)) (r : DocReader) (c : LineCount) → Feeds old new r c → TakesFirst 4194305 old new
feeds-taken None new r c f = tt
feeds-taken (Some xs) None r c f = f.taken
feeds-taken (Some xs) (Some ys) r c f = (taken-first xs ys f.bytes f.taken f.within f.ended).1

-- the lines of a document's bytes are those of what a reader was fed
pub feeds-read : (old new : Option (List ℕ)) (r : DocReader) (c : LineCount) (f : Feeds old new r c) (d : Doc) (after : ℕ) → after ≡ line_after f.bytes → IsReading f.bytes (Accepted d) → IfSome old (λ xs. IsReadAs xs d after)
feeds-read None new r c f d after e h = tt
feeds-read (Some xs) None r c f d after e h = absurd f.taken
feeds-read (Some xs) (Some ys) r c f d after e h =
    let ended : ys ≡ [] = f.ended (omega (arith, short f.bytes d h)) in
    let whole : f.bytes ≡ xs = sym (append-nil f.bytes) ∙ ap (λ zs. f.bytes ++ zs) (sym ended) ∙ sym f.taken in
    record { document = subst (λ zs. IsReading zs (Accepted d)) whole h; after_is = e ∙ ap line_after whole }

-- a text that is read as a document was fed whole
pub feeds-ended : (old new : Option (List ℕ)) (r : DocReader) (c : LineCount) (f : Feeds old new r c) (d : Doc) → IsReading f.bytes (Accepted d) → IsAtEnd new
feeds-ended old new r c f d h = f.ended (omega (arith, short f.bytes d h))

pub consumes-none : (a : Option (List ℕ)) → Consumes a a []
consumes-none None = tt
consumes-none (Some xs) = refl

pub consumes-kept : (a b c : Option (List ℕ)) (xs : List ℕ) → Consumes a b xs → Keeps b c → Consumes a c xs
consumes-kept None b c xs h k = tt
consumes-kept (Some as') None c xs h k = absurd h
consumes-kept (Some as') (Some bs) None xs h k = absurd k
consumes-kept (Some as') (Some bs) (Some cs) xs h k = h ∙ ap (λ zs. xs ++ zs) (sym k)

-- how many bytes are asked for
pub asked : (fed room : ℕ) → fed < 4194305 → room ≡ min 4096 (4194305 - fed) → (0 < room) × (room ≤ 4096) × (fed + room ≤ 4194305)
asked fed room h e = (grind (arith, e, rules), grind (arith, e, rules), grind (arith, e, rules))

-- no bytes more
pub consumes-nothing : (a b c : Option (List ℕ)) (xs : List ℕ) → Consumes a b xs → Consumes b c [] → Consumes a c xs
consumes-nothing a b c xs h k = subst (Consumes a c) (append-nil xs) (Consumes-trans a b c xs [] h k)

pub of-each : (old : Option (List ℕ)) (P : List ℕ → Type 0) → ((xs : List ℕ) → P xs) → IfSome old P
of-each None P f = tt
of-each (Some xs) P f = f xs
