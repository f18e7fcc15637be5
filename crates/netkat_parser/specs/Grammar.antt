-- The grammar of policies, with the first token at which reading cannot go on:
--   policy   = sequence { "+" sequence }
--   sequence = unary { ";" unary }
--   unary    = "not" unary | post
--   post     = atom [ "*" ]
--   atom     = "skip" | "drop" | "dup" | field "=" value | field ":=" value | "(" policy ")"
use Rattle.std.specs.Prelude.{◌≡◌, ◌≢◌, ◌⊎◌, ⊤, ℕ, ◌+◌, ◌<◌, nat_le, Bool, true, false, not, ◌==◌, ◌&&◌, ◌||◌, List, []}
use Rattle.std.specs.Prelude.{◌∷◌, ◌++◌, length, count_by, Option, None, Some, if◌then◌else◌}
use Rattle.std.specs.List.{list_any}
use Rattle.nk_values.specs.declared.field.Field.{Field}
use Rattle.nk_values.specs.declared.field.Field.TheVariants.{IpProto}
use Rattle.nk_values.specs.Ranges.{place, IsLiteralOf}
use Rattle.nk_syntax.specs.Terms.{Guard, Guards, One, Zero, Test, Or, And, no_guards, guard, Term, Terms, Filter}
use Rattle.nk_syntax.specs.Terms.{Assign, Sum, Seq, Dup, no_terms, term}
use Rattle.nk_syntax.specs.Terms as to
use Rattle.nk_syntax.specs.Views.{term_row}
use Rattle.nk_values.specs.declared.text_fault.TextFault.{TextFault}
use Rattle.nk_values.specs.declared.text_fault.TextFault.TheVariants as fault
use Rattle.netkat_parser.specs.declared.sign.Sign.{Sign}
use Rattle.netkat_parser.specs.declared.sign.Sign.TheVariants as to_sign
use Rattle.netkat_parser.specs.declared.sign.Sign.TheVariants.{Name, Equals, Becomes, Plus, Semicolon, Star, Open}
use Rattle.netkat_parser.specs.declared.sign.Sign.TheVariants.{Close, End}
use Rattle.netkat_parser.specs.Signs.{sign, past, run, past_run, ahead}
use Rattle.netkat_parser.specs.Numbers.{number}

-- Where reading stands: the text from the next sign on, and the pairs of field and value named so far, each once.
pub record Spot : Type 0 where
  pub text : List ℕ
  pub named : List (Field × ℕ)

-- what was read, and the spot after it; or a fault, and the text from it on
pub data Got (A : Type 0) : Type 0 where
  Read : A → Spot → Got A
  Bad : TextFault → List ℕ → Got A

-- at the first sign of a text
abbrev pub first_spot : List ℕ → Spot
first_spot text = record { text = ahead false text; named = [] }

-- after the next sign
abbrev pub step : Spot → Spot
step s = record { text = past s.text; named = s.named }

-- the fault of a sign where the grammar has no place for it, with so many brackets and nots open
abbrev pub stray : ℕ → Sign → TextFault
stray depth to_sign.Strange = fault.BadChar
stray depth to_sign.Unlisted = fault.UnknownName
stray depth Open = if nat_le 200 depth then fault.TooDeep else fault.Unexpected
stray depth to_sign.Not = if nat_le 200 depth then fault.TooDeep else fault.Unexpected
stray depth _ = fault.Unexpected

-- reading stops here, at a sign that has no place
abbrev pub strays : {A : Type 0} → ℕ → Spot → Got A
strays depth s = Bad (stray depth (sign s.text)) s.text

-- the result of a change to what was read
abbrev pub gathered : {A B : Type 0} → (A → B) → Got A → Got B
gathered f (Read x s) = Read (f x) s
gathered f (Bad e at) = Bad e at

-- a chain of two or more is one sum or sequence, a single operand is itself
abbrev pub sum_of : List Term → Term
sum_of (p ∷ []) = p
sum_of ps = Sum (term_row ps)

abbrev pub seq_of : List Term → Term
seq_of (p ∷ []) = p
seq_of ps = Seq (term_row ps)

-- a policy taken as a predicate; inside a `not` none of the last kind is read
abbrev mutual
  pub taken : Term → Guard
  taken (Filter a) = a
  taken (Sum ps) = Or (all_taken ps)
  taken (Seq ps) = And (all_taken ps)
  taken _ = Zero

  pub all_taken : Terms → Guards
  all_taken no_terms = no_guards
  all_taken (term p ps) = guard (taken p) (all_taken ps)

-- the filter of the predicate that a `not` makes of its operand
abbrev pub negated : Term → Term
negated p = Filter (to.Not (taken p))

-- A where P holds, and else B
abbrev pub Where : Type 0 → Type 0 → Type 0 → Type 0
Where P A B = (P × A) ⊎ ((P → ⊥) × B)

abbrev pub is_pair : Field → ℕ → Field × ℕ → Bool
is_pair f n pair = (place f == place pair.0) && (n == pair.1)

-- the pair is among them
abbrev pub is_named : List (Field × ℕ) → Field → ℕ → Bool
is_named named f n = list_any (is_pair f n) named

-- how many pairs with ipProto are named
abbrev pub protos : List (Field × ℕ) → ℕ
protos named = count_by (λ pair. place pair.0 == place IpProto) named

-- a pair that is not named yet would be the 2,001st, or the 101st with ipProto
abbrev pub is_too_many : List (Field × ℕ) → Field → ℕ → Bool
is_too_many named f n =
    not (is_named named f n) &&
    (nat_le 2000 (length named) || ((place f == place IpProto) && nat_le 100 (protos named)))

-- the pairs with this one among them
abbrev pub with_pair : List (Field × ℕ) → Field → ℕ → List (Field × ℕ)
with_pair named f n = if is_named named f n then named else named ++ (f, n) ∷ []

-- the outcome at a literal, which may be one too many
abbrev pub literal : Field → (ℕ → Term) → Spot → ℕ → Got Term
literal f make s n =
    if is_too_many s.named f n then Bad fault.TooManyValues s.text
    else Read (make n) (record { text = past_run s.text; named = with_pair s.named f n })

-- the number of a run, where it has one
abbrev pub IsNumber : Field → (ℕ → Term) → Spot → Option ℕ → Got Term → Type 0
IsNumber f make s None o = o ≡ Bad fault.ValueRange s.text
IsNumber f make s (Some n) o = Where (IsLiteralOf f n) (o ≡ literal f make s n) (o ≡ Bad fault.ValueRange s.text)

-- the run after `=` or `:=`
abbrev pub IsRun : ℕ → Field → (ℕ → Term) → Spot → List ℕ → Got Term → Type 0
IsRun depth f make s [] o = o ≡ strays depth s
IsRun depth f make s (b ∷ bs) o = IsNumber f make s (number f (b ∷ bs)) o

-- a test or an assignment, by the sign after the field
abbrev pub IsPair : ℕ → Bool → Field → Spot → Sign → Got Term → Type 0
IsPair depth inside f s Equals o = IsRun depth f (λ n. Filter (Test f n)) (step s) (run (past s.text)) o
IsPair depth false f s Becomes o = IsRun depth f (Assign f) (step s) (run (past s.text)) o
IsPair depth true f s Becomes o = o ≡ Bad fault.NotPredicate s.text
IsPair depth inside f s _ o = o ≡ strays depth s

-- an atom that is no policy in brackets, by its first sign
abbrev pub IsLeaf : ℕ → Bool → Spot → Sign → Got Term → Type 0
IsLeaf depth inside s to_sign.Skip o = o ≡ Read (Filter One) (step s)
IsLeaf depth inside s to_sign.Drop o = o ≡ Read (Filter Zero) (step s)
IsLeaf depth false s to_sign.Dup o = o ≡ Read Dup (step s)
IsLeaf depth true s to_sign.Dup o = o ≡ Bad fault.NotPredicate s.text
IsLeaf depth inside s (Name f) o = IsPair depth inside f (step s) (sign (past s.text)) o
IsLeaf depth inside s _ o = o ≡ strays depth s

-- a closing bracket after what was read
abbrev pub closed_by : ℕ → Term → Spot → Sign → Got Term
closed_by depth p s Close = Read p (step s)
closed_by depth p s _ = strays depth s

abbrev pub closed : ℕ → Got Term → Got Term
closed depth (Read p s) = closed_by depth p s (sign s.text)
closed depth (Bad e at) = Bad e at

-- a star after it, where there is one
abbrev pub starred_by : Bool → Term → Spot → Sign → Got Term
starred_by false p s Star = Read (to.Star p) (step s)
starred_by true p s Star = Bad fault.NotPredicate s.text
starred_by inside p s _ = Read p s

abbrev pub starred : Bool → Got Term → Got Term
starred inside (Read p s) = starred_by inside p s (sign s.text)
starred inside (Bad e at) = Bad e at

-- the end of the text after it
abbrev pub ended_by : Term → Spot → Sign → Got Term
ended_by p s End = Read p s
ended_by p s _ = strays 0 s

abbrev pub ended : Got Term → Got Term
ended (Read p s) = ended_by p s (sign s.text)
ended (Bad e at) = Bad e at

-- a chain of this sign goes no further
abbrev pub EndsBefore : {A : Type 0} → Sign → Got A → Type 0
EndsBefore t (Read x s) = sign s.text ≢ t
EndsBefore t (Bad e at) = ⊤

-- the sign opens one more bracket or not
abbrev pub Opens : Sign → ℕ → Spot → Type 0
Opens t depth s = (sign s.text ≡ t) × (depth < 200)

-- Each with the number of brackets and nots open around it, and whether it stands inside a not.
mutual
  pub data IsPolicy : ℕ → Bool → Spot → Got Term → Type 0 where
    sum : (depth : ℕ) (inside : Bool) (s : Spot) (o : Got (List Term)) → AreSummands depth inside s o →
        IsPolicy depth inside s (gathered sum_of o)

  pub data AreSummands : ℕ → Bool → Spot → Got (List Term) → Type 0 where
    last_summand : (depth : ℕ) (inside : Bool) (s : Spot) (o : Got Term)
        → IsSequence depth inside s o → EndsBefore Plus o → AreSummands depth inside s (gathered (λ p. p ∷ []) o)
    more_summands : (depth : ℕ) (inside : Bool) (s : Spot) (p : Term) (t : Spot) (o : Got (List Term))
        → IsSequence depth inside s (Read p t) → sign t.text ≡ Plus → AreSummands depth inside (step t) o →
        AreSummands depth inside s (gathered (λ ps. p ∷ ps) o)

  pub data IsSequence : ℕ → Bool → Spot → Got Term → Type 0 where
    sequence : (depth : ℕ) (inside : Bool) (s : Spot) (o : Got (List Term)) → AreFactors depth inside s o →
        IsSequence depth inside s (gathered seq_of o)

  pub data AreFactors : ℕ → Bool → Spot → Got (List Term) → Type 0 where
    last_factor : (depth : ℕ) (inside : Bool) (s : Spot) (o : Got Term)
        → IsUnary depth inside s o → EndsBefore Semicolon o → AreFactors depth inside s (gathered (λ p. p ∷ []) o)
    more_factors : (depth : ℕ) (inside : Bool) (s : Spot) (p : Term) (t : Spot) (o : Got (List Term))
        → IsUnary depth inside s (Read p t) → sign t.text ≡ Semicolon → AreFactors depth inside (step t) o →
        AreFactors depth inside s (gathered (λ ps. p ∷ ps) o)

  pub data IsUnary : ℕ → Bool → Spot → Got Term → Type 0 where
    negation : (depth : ℕ) (inside : Bool) (s : Spot) (o : Got Term)
        → Opens to_sign.Not depth s → IsUnary (depth + 1) true (step s) o → IsUnary depth inside s (gathered negated o)
    post : (depth : ℕ) (inside : Bool) (s : Spot) (o : Got Term)
        → ¬ (Opens to_sign.Not depth s) → IsAtom depth inside s o → IsUnary depth inside s (starred inside o)

  pub data IsAtom : ℕ → Bool → Spot → Got Term → Type 0 where
    bracket : (depth : ℕ) (inside : Bool) (s : Spot) (o : Got Term)
        → Opens Open depth s → IsPolicy (depth + 1) inside (step s) o → IsAtom depth inside s (closed (depth + 1) o)
    leaf : (depth : ℕ) (inside : Bool) (s : Spot) (o : Got Term)
        → ¬ (Opens Open depth s) → IsLeaf depth inside s (sign s.text) o → IsAtom depth inside s o

-- what reading a whole text gives
abbrev pub IsReading : List ℕ → Got Term → Type 0
IsReading text o = (whole : Got Term) × IsPolicy 0 false (first_spot text) whole × (o ≡ ended whole)

-- the text is read as the policy
abbrev pub IsText : List ℕ → Term → Type 0
IsText text p = (s : Spot) × IsReading text (Read p s)
