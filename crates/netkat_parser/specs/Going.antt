-- What comes of a text from a position on, after what a reader has read.
use Rattle.std.specs.Prelude.{◌≡◌, ◌≢◌, ◌⊎◌, ℕ, ◌+◌, Bool, true, false, List, [], ◌∷◌, ◌++◌}
use Rattle.nk_values.specs.declared.field.Field.{Field}
use Rattle.nk_syntax.specs.Terms.{Term, Filter, Test, Assign}
use Rattle.netkat_parser.specs.declared.sign.Sign.TheVariants.{Plus, Semicolon}
use Rattle.netkat_parser.specs.declared.stage.Operator.{Operator}
use Rattle.netkat_parser.specs.declared.stage.Operator.TheVariants as operator
use Rattle.netkat_parser.specs.Signs.{sign, run}
use Rattle.netkat_parser.specs.Grammar.{Spot, Got, Read, Bad, step, gathered, sum_of, seq_of, negated, closed, starred}
use Rattle.netkat_parser.specs.Grammar.{ended, IsRun, IsPair, AreSummands, AreFactors, IsUnary}

-- What is open around a position, from the inside out: a `not`, or a bracket with the summands and factors in front
-- of it.
pub data Frame : Type 0 where
  Negated : Frame
  Bracketed : List Term → List Term → Frame

-- how many brackets and nots are open
abbrev pub depth_of : List Frame → ℕ
depth_of [] = 0
depth_of (f ∷ fs) = depth_of fs + 1

-- some `not` is open
abbrev pub is_inside : List Frame → Bool
is_inside [] = false
is_inside (Negated ∷ fs) = true
is_inside (Bracketed ss qs ∷ fs) = is_inside fs

-- some `not` is open around the innermost bracket
abbrev pub is_based : List Frame → Bool
is_based [] = false
is_based (Negated ∷ fs) = is_based fs
is_based (Bracketed ss qs ∷ fs) = is_inside fs

-- the factors of a sequence, with these in front, where the next operand has this outcome
abbrev pub MoreFactors : ℕ → Bool → List Term → Got Term → Got (List Term) → Type 0
MoreFactors depth inside qs (Read p t) o =
    ((sign t.text ≢ Semicolon) × (o ≡ Read (qs ++ p ∷ []) t))
    ⊎ ((sign t.text ≡ Semicolon) × (more : Got (List Term)) × AreFactors depth inside (step t) more ×
    (o ≡ gathered (λ ps. qs ++ p ∷ ps) more))
MoreFactors depth inside qs (Bad e at) o = o ≡ Bad e at

-- the summands of a policy likewise
abbrev pub MoreSummands : ℕ → Bool → List Term → Got Term → Got (List Term) → Type 0
MoreSummands depth inside ss (Read p t) o =
    ((sign t.text ≢ Plus) × (o ≡ Read (ss ++ p ∷ []) t))
    ⊎ ((sign t.text ≡ Plus) × (more : Got (List Term)) × AreSummands depth inside (step t) more ×
    (o ≡ gathered (λ ps. ss ++ p ∷ ps) more))
MoreSummands depth inside ss (Bad e at) o = o ≡ Bad e at

-- the policy with these summands and factors in front, where the next operand has this outcome
abbrev pub MakesPolicy : ℕ → Bool → List Term → List Term → Got Term → Got Term → Type 0
MakesPolicy depth inside ss qs u o =
    (a : Got (List Term)) × MoreFactors depth inside qs u a × (b : Got (List Term)) ×
    MoreSummands depth inside ss (gathered seq_of a) b × (o ≡ gathered sum_of b)

-- the outcome of the whole text, where the next operand has this one
abbrev pub Leads : List Frame → List Term → List Term → Got Term → Got Term → Type 0
Leads [] ss qs u o = (w : Got Term) × MakesPolicy 0 false ss qs u w × (o ≡ ended w)
Leads (Negated ∷ fs) ss qs u o = Leads fs ss qs (gathered negated u) o
Leads (Bracketed ss' qs' ∷ fs) ss qs u o =
    (w : Got Term) × MakesPolicy (depth_of fs + 1) (is_inside fs) ss qs u w ×
    Leads fs ss' qs' (starred (is_inside fs) (closed (depth_of fs + 1) w)) o

-- Where reading stands between two signs: an operand begins; a sign stands after a field's name; a value stands after
-- it; or an operand was read, which is an atom or not.
pub data Phase : Type 0 where
  Operand : Phase
  Relation : Field → Phase
  Number : Field → Operator → Phase
  Behind : Term → Bool → Phase

-- what a pair of field and value makes
abbrev pub made : Operator → Field → ℕ → Term
made operator.Test f n = Filter (Test f n)
made operator.Assign f n = Assign f n

-- what was read up to a position
pub record Reach : Type 0 where
  pub phase : Phase
  pub frames : List Frame
  pub summands : List Term
  pub factors : List Term

-- the outcome of the whole text in a phase, where reading goes on at a spot
abbrev pub ComesIn : Phase → List Frame → List Term → List Term → Spot → Got Term → Type 0
ComesIn Operand fs ss qs s o = (u : Got Term) × IsUnary (depth_of fs) (is_inside fs) s u × Leads fs ss qs u o
ComesIn (Relation f) fs ss qs s o = (u : Got Term) × IsPair (depth_of fs) (is_inside fs) f s (sign s.text) u ×
    Leads fs ss qs (starred (is_inside fs) u) o
ComesIn (Number f op) fs ss qs s o = (u : Got Term) × IsRun (depth_of fs) f (made op f) s (run s.text) u ×
    Leads fs ss qs (starred (is_inside fs) u) o
ComesIn (Behind p true) fs ss qs s o = Leads fs ss qs (starred (is_inside fs) (Read p s)) o
ComesIn (Behind p false) fs ss qs s o = Leads fs ss qs (Read p s) o

abbrev pub Comes : Reach → Spot → Got Term → Type 0
Comes r s o = ComesIn r.phase r.frames r.summands r.factors s o
