-- What is printed is read back: the parts.
use Rattle.std.proofs.Common.{◌≡◌, ◌≢◌, ℕ, ◌+◌, ◌<◌, Bool, true, false, List, [], ◌∷◌, ◌++◌, codes, decimal, refl, sym, ap, ◌∙◌, subst, append_assoc, arith}
use Rattle.std.proofs.lemmas.Fmt.{decimal_nonempty}
use Rattle.nk_values.specs.declared.field.Field.{Field}
use Rattle.nk_values.specs.declared.field.Field.TheVariants.{Sw, Pt, EthTyp, IpProto, EthSrc, EthDst, Ip4Src, Ip4Dst, TcpSrcPort, TcpDstPort}
use Rattle.nk_values.specs.Ranges.{IsLiteralOf}
use Rattle.nk_syntax.specs.Terms.{Term, Filter, Test, Assign, Dup, One, Zero}
use Rattle.nk_syntax.specs.Terms as to
use Rattle.nk_syntax.specs.Prints.{bracketed, pair_text}
use Rattle.nk_values.specs.Names.{name_of}
use Rattle.netkat_parser.specs.declared.sign.Sign.{Sign}
use Rattle.netkat_parser.specs.declared.sign.Sign.TheVariants as to_sign
use Rattle.netkat_parser.specs.declared.sign.Sign.TheVariants.{Skip, Name, Equals, Becomes, Plus, Semicolon, Open, Close}
use Rattle.netkat_parser.specs.Signs.{sign, past, run, ahead}
use Rattle.netkat_parser.specs.Grammar.{Spot, Read, step, negated, sum_of, seq_of, with_pair, IsRun, IsPair, IsLeaf, IsPolicy, AreSummands, IsSequence, AreFactors, IsUnary, IsAtom, sum, last_summand, more_summands, sequence, last_factor, more_factors, negation, leaf}
use Rattle.netkat_parser.specs.Answers.{spot}
use Rattle.netkat_parser.specs.Printed.{IsRoomy}
use Rattle.netkat_parser.proofs.Decimals.{decimal-digits, number-decimal, EndsRun, run-digits, past_run-digits, ahead-digits}
use Rattle.netkat_parser.proofs.Literals.{literal-small}
use Rattle.netkat_parser.proofs.Rooms.{room-pair}
use Rattle.netkat_parser.proofs.Rules.{closing, star, no-star}
use Rattle.netkat_parser.proofs.Values.{run-literal, read-by, test, assignment}

abbrev Names : Type 0
Names = List (Field × ℕ)

-- what may stand after the printed text of an operand
pub data IsStop : List ℕ → Type 0 where
  stop_end : IsStop []
  stop_close : (rest : List ℕ) → IsStop (41 ∷ rest)
  stop_plus : (rest : List ℕ) → IsStop (32 ∷ 43 ∷ 32 ∷ rest)
  stop_semicolon : (rest : List ℕ) → IsStop (59 ∷ 32 ∷ rest)

ends-run : (rest : List ℕ) → IsStop rest → EndsRun rest
ends-run rest stop_end = tt
ends-run rest (stop_close r) = refl
ends-run rest (stop_plus r) = refl
ends-run rest (stop_semicolon r) = refl

not-star : (rest : List ℕ) → IsStop rest → sign (ahead false rest) ≢ to_sign.Star
not-star rest stop_end = λ e. cc
not-star rest (stop_close r) = λ e. cc
not-star rest (stop_plus r) = λ e. cc
not-star rest (stop_semicolon r) = λ e. cc

-- The text reads as the policy, as an operand, whatever stops it, and names its pairs.
pub record Backs (depth : ℕ) (inside : Bool) (text : List ℕ) (p : Term) (naming : Names → Names) : Type 0 where
  pub starts : (r : List ℕ) → ahead false (text ++ r) ≡ text ++ r
  pub reads : (rest : List ℕ) (named : Names) → IsStop rest → IsRoomy (naming named)
      → IsUnary depth inside (spot (text ++ rest) named) (Read p (spot (ahead false rest) (naming named)))

-- more operands, each after a sign
pub data Row (depth : ℕ) (inside : Bool) (between : List ℕ) : List ℕ → List Term → (Names → Names) → Type 0 where
  row_end : Row depth inside between [] [] (λ named. named)
  row_more : (text more : List ℕ) (p : Term) (ps : List Term) (naming naming' : Names → Names)
      → Backs depth inside text p naming → Row depth inside between more ps naming' → ((named : Names) → IsRoomy (naming' named) → IsRoomy named)
      → Row depth inside between (between ++ (text ++ more)) (p ∷ ps) (λ named. naming' (naming named))

pub sequence-of : (depth : ℕ) (inside : Bool) (s : Spot) (p : Term) (t : Spot) → IsUnary depth inside s (Read p t) → sign t.text ≢ Semicolon → IsSequence depth inside s (Read p t)
sequence-of depth inside s p t h ne = sequence depth inside s (Read (p ∷ []) t) (last_factor depth inside s (Read p t) h ne)

pub policy-of : (depth : ℕ) (inside : Bool) (s : Spot) (p : Term) (t : Spot) → IsSequence depth inside s (Read p t) → sign t.text ≢ Plus → IsPolicy depth inside s (Read p t)
policy-of depth inside s p t h ne = sum depth inside s (Read (p ∷ []) t) (last_summand depth inside s (Read p t) h ne)

-- one operand before a closing bracket
pub closed-policy : (depth : ℕ) (inside : Bool) (text : List ℕ) (p : Term) (naming : Names → Names) → Backs depth inside text p naming
    → (rest : List ℕ) (named : Names) → IsRoomy (naming named)
    → IsPolicy depth inside (spot (text ++ 41 ∷ rest) named) (Read p (spot (41 ∷ rest) (naming named)))
closed-policy depth inside text p naming b rest named room =
    policy-of depth inside _ p (spot (41 ∷ rest) (naming named)) (sequence-of depth inside _ p (spot (41 ∷ rest) (naming named)) (b.reads (41 ∷ rest) named (stop_close rest) room) (λ e. cc)) (λ e. cc)

sum-row : (depth : ℕ) (inside : Bool) (text more : List ℕ) (p : Term) (ps : List Term) (naming naming' : Names → Names)
    → Backs depth inside text p naming → Row depth inside (codes " + ") more ps naming' → ((named : Names) → IsRoomy (naming' named) → IsRoomy named)
    → (rest : List ℕ) (named : Names) → IsRoomy (naming' (naming named))
    → AreSummands depth inside (spot (text ++ (more ++ 41 ∷ rest)) named) (Read (p ∷ ps) (spot (41 ∷ rest) (naming' (naming named))))
sum-row depth inside text more p ps naming naming' b row_end grows rest named room =
    last_summand depth inside _ (Read p (spot (41 ∷ rest) (naming named))) (sequence-of depth inside _ p (spot (41 ∷ rest) (naming named)) (b.reads (41 ∷ rest) named (stop_close rest) room) (λ e. cc)) (λ e. cc)
sum-row depth inside text more p ps naming naming' b (row_more text2 more2 p2 ps2 n2 n2' b2 row grows2) grows rest named room =
    let x = text2 ++ (more2 ++ 41 ∷ rest) in
    let assoc : (text2 ++ more2) ++ 41 ∷ rest ≡ x = append_assoc text2 more2 (41 ∷ rest) in
    let first = b.reads (32 ∷ 43 ∷ 32 ∷ x) named (stop_plus x) (grows (naming named) room) in
    let others = sum-row depth inside text2 more2 p2 ps2 n2 n2' b2 row grows2 rest (naming named) room in
    subst (λ (y : List ℕ). AreSummands depth inside (spot (text ++ 32 ∷ 43 ∷ 32 ∷ y) named) (Read (p ∷ p2 ∷ ps2) (spot (41 ∷ rest) (n2' (n2 (naming named)))))) (sym assoc)
    (more_summands depth inside (spot (text ++ 32 ∷ 43 ∷ 32 ∷ x) named) p (spot (43 ∷ 32 ∷ x) (naming named)) (Read (p2 ∷ ps2) (spot (41 ∷ rest) (n2' (n2 (naming named)))))
    (sequence-of depth inside _ p (spot (43 ∷ 32 ∷ x) (naming named)) first (λ e. cc)) refl
    (subst (λ (y : List ℕ). AreSummands depth inside (spot y (naming named)) (Read (p2 ∷ ps2) (spot (41 ∷ rest) (n2' (n2 (naming named)))))) (sym (b2.starts (more2 ++ 41 ∷ rest))) others))

factor-row : (depth : ℕ) (inside : Bool) (text more : List ℕ) (p : Term) (ps : List Term) (naming naming' : Names → Names)
    → Backs depth inside text p naming → Row depth inside (codes "; ") more ps naming' → ((named : Names) → IsRoomy (naming' named) → IsRoomy named)
    → (rest : List ℕ) (named : Names) → IsRoomy (naming' (naming named))
    → AreFactors depth inside (spot (text ++ (more ++ 41 ∷ rest)) named) (Read (p ∷ ps) (spot (41 ∷ rest) (naming' (naming named))))
factor-row depth inside text more p ps naming naming' b row_end grows rest named room =
    last_factor depth inside _ (Read p (spot (41 ∷ rest) (naming named))) (b.reads (41 ∷ rest) named (stop_close rest) room) (λ e. cc)
factor-row depth inside text more p ps naming naming' b (row_more text2 more2 p2 ps2 n2 n2' b2 row grows2) grows rest named room =
    let x = text2 ++ (more2 ++ 41 ∷ rest) in
    let assoc : (text2 ++ more2) ++ 41 ∷ rest ≡ x = append_assoc text2 more2 (41 ∷ rest) in
    let first = b.reads (59 ∷ 32 ∷ x) named (stop_semicolon x) (grows (naming named) room) in
    let others = factor-row depth inside text2 more2 p2 ps2 n2 n2' b2 row grows2 rest (naming named) room in
    subst (λ (y : List ℕ). AreFactors depth inside (spot (text ++ 59 ∷ 32 ∷ y) named) (Read (p ∷ p2 ∷ ps2) (spot (41 ∷ rest) (n2' (n2 (naming named)))))) (sym assoc)
    (more_factors depth inside (spot (text ++ 59 ∷ 32 ∷ x) named) p (spot (59 ∷ 32 ∷ x) (naming named)) (Read (p2 ∷ ps2) (spot (41 ∷ rest) (n2' (n2 (naming named)))))
    first refl
    (subst (λ (y : List ℕ). AreFactors depth inside (spot y (naming named)) (Read (p2 ∷ ps2) (spot (41 ∷ rest) (n2' (n2 (naming named)))))) (sym (b2.starts (more2 ++ 41 ∷ rest))) others))

-- a policy in brackets
in-brackets : (depth : ℕ) (inside : Bool) (body : List ℕ) (q : Term) (named named' : Names) (rest : List ℕ) → depth < 200
    → ahead false (body ++ 41 ∷ rest) ≡ body ++ 41 ∷ rest
    → IsPolicy (depth + 1) inside (spot (body ++ 41 ∷ rest) named) (Read q (spot (41 ∷ rest) named'))
    → IsAtom depth inside (spot (40 ∷ (body ++ 41 ∷ rest)) named) (Read q (spot (ahead false rest) named'))
in-brackets depth inside body q named named' rest room starts h =
    closing depth inside (spot (40 ∷ (body ++ 41 ∷ rest)) named) q (spot (41 ∷ rest) named') (refl, room)
    (subst (λ (y : List ℕ). IsPolicy (depth + 1) inside (spot y named) (Read q (spot (41 ∷ rest) named'))) (sym starts) h) refl

pub bracket-backs : (depth : ℕ) (inside : Bool) (body : List ℕ) (q : Term) (naming : Names → Names) → depth < 200
    → ((r : List ℕ) → ahead false (body ++ r) ≡ body ++ r)
    → ((rest : List ℕ) (named : Names) → IsRoomy (naming named) → IsPolicy (depth + 1) inside (spot (body ++ 41 ∷ rest) named) (Read q (spot (41 ∷ rest) (naming named))))
    → Backs depth inside (bracketed body) q naming
bracket-backs depth inside body q naming deep starts policy = record {
  starts = λ r. refl;
  reads = λ rest named stop room.
      subst (λ (y : List ℕ). IsUnary depth inside (spot (40 ∷ y) named) (Read q (spot (ahead false rest) (naming named)))) (sym (append_assoc body (41 ∷ []) rest))
      (no-star depth inside (spot (40 ∷ (body ++ 41 ∷ rest)) named) q (spot (ahead false rest) (naming named)) (λ o. let e = o.0 in cc)
      (in-brackets depth inside body q named (naming named) rest deep (starts (41 ∷ rest)) (policy rest named room)) (not-star rest stop));
}

row-starts : (text more : List ℕ) → ((r : List ℕ) → ahead false (text ++ r) ≡ text ++ r) → (r : List ℕ) → ahead false ((text ++ more) ++ r) ≡ (text ++ more) ++ r
row-starts text more starts r = subst (λ (y : List ℕ). ahead false y ≡ y) (sym (append_assoc text more r)) (starts (more ++ r))

pub sum-backs : (depth : ℕ) (inside : Bool) (text more : List ℕ) (p : Term) (ps : List Term) (naming naming' : Names → Names) → depth < 200
    → Backs (depth + 1) inside text p naming → Row (depth + 1) inside (codes " + ") more ps naming' → ((named : Names) → IsRoomy (naming' named) → IsRoomy named)
    → Backs depth inside (bracketed (text ++ more)) (sum_of (p ∷ ps)) (λ named. naming' (naming named))
sum-backs depth inside text more p ps naming naming' deep b row grows =
    bracket-backs depth inside (text ++ more) (sum_of (p ∷ ps)) (λ named. naming' (naming named)) deep (row-starts text more b.starts)
    (λ rest named room.
    subst (λ (y : List ℕ). IsPolicy (depth + 1) inside (spot y named) (Read (sum_of (p ∷ ps)) (spot (41 ∷ rest) (naming' (naming named))))) (sym (append_assoc text more (41 ∷ rest)))
    (sum (depth + 1) inside _ (Read (p ∷ ps) (spot (41 ∷ rest) (naming' (naming named)))) (sum-row (depth + 1) inside text more p ps naming naming' b row grows rest named room)))

pub seq-backs : (depth : ℕ) (inside : Bool) (text more : List ℕ) (p : Term) (ps : List Term) (naming naming' : Names → Names) → depth < 200
    → Backs (depth + 1) inside text p naming → Row (depth + 1) inside (codes "; ") more ps naming' → ((named : Names) → IsRoomy (naming' named) → IsRoomy named)
    → Backs depth inside (bracketed (text ++ more)) (seq_of (p ∷ ps)) (λ named. naming' (naming named))
seq-backs depth inside text more p ps naming naming' deep b row grows =
    bracket-backs depth inside (text ++ more) (seq_of (p ∷ ps)) (λ named. naming' (naming named)) deep (row-starts text more b.starts)
    (λ rest named room.
    subst (λ (y : List ℕ). IsPolicy (depth + 1) inside (spot y named) (Read (seq_of (p ∷ ps)) (spot (41 ∷ rest) (naming' (naming named))))) (sym (append_assoc text more (41 ∷ rest)))
    (policy-of (depth + 1) inside _ (seq_of (p ∷ ps)) (spot (41 ∷ rest) (naming' (naming named)))
    (sequence (depth + 1) inside _ (Read (p ∷ ps) (spot (41 ∷ rest) (naming' (naming named)))) (factor-row (depth + 1) inside text more p ps naming naming' b row grows rest named room)) (λ e. cc)))

pub not-backs : (depth : ℕ) (inside : Bool) (text : List ℕ) (q : Term) (naming : Names → Names) → depth + 1 < 200
    → Backs (depth + 1 + 1) true text q naming → Backs depth inside (codes "not " ++ bracketed text) (negated q) naming
not-backs depth inside text q naming deep b = record {
  starts = λ r. refl;
  reads = λ rest named stop room.
      let inner = bracket-backs (depth + 1) true text q naming deep b.starts (closed-policy (depth + 1 + 1) true text q naming b) in
      negation depth inside (spot ((codes "not " ++ bracketed text) ++ rest) named) (Read q (spot (ahead false rest) (naming named))) (refl, omega arith) (inner.reads rest named stop room);
}

pub star-backs : (depth : ℕ) (text : List ℕ) (p : Term) (naming : Names → Names) → depth < 200
    → Backs (depth + 1) false text p naming → Backs depth false (bracketed text ++ codes "*") (to.Star p) naming
star-backs depth text p naming deep b = record {
  starts = λ r. refl;
  reads = λ rest named stop room.
      subst (λ (y : List ℕ). IsUnary depth false (spot (40 ∷ y) named) (Read (to.Star p) (spot (ahead false rest) (naming named))))
      (sym (append_assoc (text ++ 41 ∷ []) (42 ∷ []) rest ∙ append_assoc text (41 ∷ []) (42 ∷ rest)))
      (star depth false (spot (40 ∷ (text ++ 41 ∷ 42 ∷ rest)) named) p (spot (42 ∷ rest) (naming named)) (λ o. let e = o.0 in cc)
      (in-brackets depth false text p named (naming named) (42 ∷ rest) deep (b.starts (41 ∷ 42 ∷ rest)) (closed-policy (depth + 1) false text p naming b (42 ∷ rest) named room)) refl refl);
}

-- an atom of one word
word-backs : (depth : ℕ) (inside : Bool) (text : List ℕ) (t : Sign) (p : Term) → ((r : List ℕ) → ahead false (text ++ r) ≡ text ++ r)
    → ((rest : List ℕ) → IsStop rest → (sign (text ++ rest) ≡ t) × (past (text ++ rest) ≡ ahead false rest))
    → t ≢ to_sign.Not → t ≢ Open → ((s : Spot) → IsLeaf depth inside s t (Read p (step s)))
    → Backs depth inside text p (λ named. named)
word-backs depth inside text t p starts lexed no_not no_open is_leaf = record {
  starts = starts;
  reads = λ rest named stop room.
      let s = spot (text ++ rest) named in
      let e = lexed rest stop in
      no-star depth inside s p (spot (ahead false rest) named) (λ o. no_not (sym e.0 ∙ o.0))
      (leaf depth inside s (Read p (spot (ahead false rest) named)) (λ o. no_open (sym e.0 ∙ o.0))
      (subst (λ u. IsLeaf depth inside s u (Read p (spot (ahead false rest) named))) (sym e.0)
      (subst (λ (y : List ℕ). IsLeaf depth inside s t (Read p (spot y named))) e.1 (is_leaf s)))) (not-star rest stop);
}

lexed-skip : (rest : List ℕ) → IsStop rest → (sign (codes "skip" ++ rest) ≡ Skip) × (past (codes "skip" ++ rest) ≡ ahead false rest)
lexed-skip rest stop_end = (refl, refl)
lexed-skip rest (stop_close r) = (refl, refl)
lexed-skip rest (stop_plus r) = (refl, refl)
lexed-skip rest (stop_semicolon r) = (refl, refl)

lexed-drop : (rest : List ℕ) → IsStop rest → (sign (codes "drop" ++ rest) ≡ to_sign.Drop) × (past (codes "drop" ++ rest) ≡ ahead false rest)
lexed-drop rest stop_end = (refl, refl)
lexed-drop rest (stop_close r) = (refl, refl)
lexed-drop rest (stop_plus r) = (refl, refl)
lexed-drop rest (stop_semicolon r) = (refl, refl)

lexed-dup : (rest : List ℕ) → IsStop rest → (sign (codes "dup" ++ rest) ≡ to_sign.Dup) × (past (codes "dup" ++ rest) ≡ ahead false rest)
lexed-dup rest stop_end = (refl, refl)
lexed-dup rest (stop_close r) = (refl, refl)
lexed-dup rest (stop_plus r) = (refl, refl)
lexed-dup rest (stop_semicolon r) = (refl, refl)

pub skip-backs : (depth : ℕ) (inside : Bool) → Backs depth inside (codes "skip") (Filter One) (λ named. named)
skip-backs depth inside = word-backs depth inside (codes "skip") Skip (Filter One) (λ r. refl) lexed-skip (λ e. cc) (λ e. cc) (λ s. refl)

pub drop-backs : (depth : ℕ) (inside : Bool) → Backs depth inside (codes "drop") (Filter Zero) (λ named. named)
drop-backs depth inside = word-backs depth inside (codes "drop") to_sign.Drop (Filter Zero) (λ r. refl) lexed-drop (λ e. cc) (λ e. cc) (λ s. refl)

pub dup-backs : (depth : ℕ) → Backs depth false (codes "dup") Dup (λ named. named)
dup-backs depth = word-backs depth false (codes "dup") to_sign.Dup Dup (λ r. refl) lexed-dup (λ e. cc) (λ e. cc) (λ s. refl)

-- names
name-starts : (f : Field) (r : List ℕ) → ahead false (name_of f ++ r) ≡ name_of f ++ r
name-starts Sw r = refl
name-starts Pt r = refl
name-starts EthTyp r = refl
name-starts IpProto r = refl
name-starts EthSrc r = refl
name-starts EthDst r = refl
name-starts Ip4Src r = refl
name-starts Ip4Dst r = refl
name-starts TcpSrcPort r = refl
name-starts TcpDstPort r = refl

lexed-test : (f : Field) (r : List ℕ) → (sign (name_of f ++ 61 ∷ r) ≡ Name f) × (past (name_of f ++ 61 ∷ r) ≡ 61 ∷ r)
lexed-test Sw r = (refl, refl)
lexed-test Pt r = (refl, refl)
lexed-test EthTyp r = (refl, refl)
lexed-test IpProto r = (refl, refl)
lexed-test EthSrc r = (refl, refl)
lexed-test EthDst r = (refl, refl)
lexed-test Ip4Src r = (refl, refl)
lexed-test Ip4Dst r = (refl, refl)
lexed-test TcpSrcPort r = (refl, refl)
lexed-test TcpDstPort r = (refl, refl)

lexed-assignment : (f : Field) (r : List ℕ) → (sign (name_of f ++ 58 ∷ 61 ∷ r) ≡ Name f) × (past (name_of f ++ 58 ∷ 61 ∷ r) ≡ 58 ∷ 61 ∷ r)
lexed-assignment Sw r = (refl, refl)
lexed-assignment Pt r = (refl, refl)
lexed-assignment EthTyp r = (refl, refl)
lexed-assignment IpProto r = (refl, refl)
lexed-assignment EthSrc r = (refl, refl)
lexed-assignment EthDst r = (refl, refl)
lexed-assignment Ip4Src r = (refl, refl)
lexed-assignment Ip4Dst r = (refl, refl)
lexed-assignment TcpSrcPort r = (refl, refl)
lexed-assignment TcpDstPort r = (refl, refl)

-- a number after a sign
value-back : (depth : ℕ) (f : Field) (make : ℕ → Term) (n : ℕ) (rest : List ℕ) (named : Names) → IsLiteralOf f n → IsStop rest → IsRoomy (with_pair named f n)
    → IsRun depth f make (spot (decimal n ++ rest) named) (run (decimal n ++ rest)) (Read (make n) (spot (ahead false rest) (with_pair named f n)))
value-back depth f make n rest named lit stop room =
    let small = literal-small f n lit in
    let ds = decimal-digits n small in
    let ends = ends-run rest stop in
    let o = Read (make n) (spot (ahead false rest) (with_pair named f n)) in
    subst (λ (r : List ℕ). IsRun depth f make (spot (decimal n ++ rest) named) r o) (sym (run-digits (decimal n) rest ds ends))
    (run-literal depth f make (spot (decimal n ++ rest) named) (decimal n) n o (λ e. omega (arith, e, decimal_nonempty n small)) (number-decimal f n small) lit
    (ap (λ (y : List ℕ). Read (make n) (spot y (with_pair named f n))) (sym (past_run-digits (decimal n) rest ds ends))
    ∙ read-by f make (spot (decimal n ++ rest) named) n _ (room-pair named f n room)))

value-ahead : (f : Field) (n : ℕ) (rest : List ℕ) → IsLiteralOf f n → ahead false (decimal n ++ rest) ≡ decimal n ++ rest
value-ahead f n rest lit = let small = literal-small f n lit in ahead-digits (decimal n) rest (decimal-digits n small) (decimal_nonempty n small)

-- an atom that begins with a field
field-leaf : (depth : ℕ) (inside : Bool) (f : Field) (text behind : List ℕ) (named : Names) (p : Term) (t : Spot)
    → sign text ≡ Name f → past text ≡ behind → IsPair depth inside f (spot behind named) (sign behind) (Read p t) → sign (t.text) ≢ to_sign.Star
    → IsUnary depth inside (spot text named) (Read p t)
field-leaf depth inside f text behind named p t is_name is_behind pair ne =
    no-star depth inside (spot text named) p t (λ o. let e : Name f ≡ to_sign.Not = sym is_name ∙ o.0 in cc)
    (leaf depth inside (spot text named) (Read p t) (λ o. let e : Name f ≡ Open = sym is_name ∙ o.0 in cc)
    (subst (λ u. IsLeaf depth inside (spot text named) u (Read p t)) (sym is_name)
    (subst (λ (y : List ℕ). IsPair depth inside f (spot y named) (sign y) (Read p t)) (sym is_behind) pair))) ne

pub test-backs : (depth : ℕ) (inside : Bool) (f : Field) (n : ℕ) → IsLiteralOf f n → Backs depth inside (pair_text f (codes "=") n) (Filter (Test f n)) (λ named. with_pair named f n)
test-backs depth inside f n lit = record {
  starts = λ r. subst (λ (y : List ℕ). ahead false y ≡ y) (sym (append_assoc (name_of f) (codes "=" ++ decimal n) r)) (name-starts f ((codes "=" ++ decimal n) ++ r));
  reads = λ rest named stop room.
      let x = decimal n ++ rest in
      let lexed = lexed-test f x in
      subst (λ (y : List ℕ). IsUnary depth inside (spot y named) (Read (Filter (Test f n)) (spot (ahead false rest) (with_pair named f n)))) (sym (append_assoc (name_of f) (codes "=" ++ decimal n) rest))
      (field-leaf depth inside f (name_of f ++ 61 ∷ x) (61 ∷ x) named (Filter (Test f n)) (spot (ahead false rest) (with_pair named f n)) lexed.0 lexed.1
      (test depth inside f (61 ∷ x) x named _ refl (sym (value-ahead f n rest lit)) (value-back depth f (λ m. Filter (Test f m)) n rest named lit stop room)) (not-star rest stop));
}

pub assignment-backs : (depth : ℕ) (f : Field) (n : ℕ) → IsLiteralOf f n → Backs depth false (pair_text f (codes ":=") n) (Assign f n) (λ named. with_pair named f n)
assignment-backs depth f n lit = record {
  starts = λ r. subst (λ (y : List ℕ). ahead false y ≡ y) (sym (append_assoc (name_of f) (codes ":=" ++ decimal n) r)) (name-starts f ((codes ":=" ++ decimal n) ++ r));
  reads = λ rest named stop room.
      let x = decimal n ++ rest in
      let lexed = lexed-assignment f x in
      subst (λ (y : List ℕ). IsUnary depth false (spot y named) (Read (Assign f n) (spot (ahead false rest) (with_pair named f n)))) (sym (append_assoc (name_of f) (codes ":=" ++ decimal n) rest))
      (field-leaf depth false f (name_of f ++ 58 ∷ 61 ∷ x) (58 ∷ 61 ∷ x) named (Assign f n) (spot (ahead false rest) (with_pair named f n)) lexed.0 lexed.1
      (assignment depth false f (58 ∷ 61 ∷ x) x named _ refl refl (sym (value-ahead f n rest lit)) (value-back depth f (Assign f) n rest named lit stop room)) (not-star rest stop));
}
