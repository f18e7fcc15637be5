-- A reader's state and the moves that it makes, sign by sign.
use Rattle.std.specs.Prelude.{◌≡◌, ◌≢◌, ℕ, ◌+◌, length, Bool, true, false, List, [], ◌∷◌, reverse, Some, Result, Ok}
use Rattle.std.specs.Prelude.{Err}
use Rattle.nk_values.specs.declared.field.Field.{Field}
use Rattle.nk_values.specs.declared.text_fault.TextFault.{TextFault}
use Rattle.nk_values.specs.declared.lit.Lit.{Lit}
use Rattle.nk_values.specs.Lits.{lit_field, lit_value}
use Rattle.nk_syntax.specs.Terms.{Term}
use Rattle.nk_syntax.specs.declared.pol.Pol.{Pol}
use Rattle.netkat_parser.specs.declared.sign.Sign.{Sign}
use Rattle.netkat_parser.specs.declared.sign.Sign.TheVariants.{Name, Close, End}
use Rattle.netkat_parser.specs.declared.stage.Stage.{Stage}
use Rattle.netkat_parser.specs.declared.stage.Stage.TheVariants as stage
use Rattle.netkat_parser.specs.declared.stage.Operator.{Operator}
use Rattle.netkat_parser.specs.declared.stage.Operator.TheVariants as operator
use Rattle.netkat_parser.specs.declared.chain.Chain.{Chain}
use Rattle.netkat_parser.specs.declared.reading.Level.{Level}
use Rattle.netkat_parser.specs.declared.reading.Level.TheVariants as level
use Rattle.netkat_parser.specs.declared.reading.Reading.{Reading}
use Rattle.netkat_parser.specs.declared.reading.Halt.{Halt}
use Rattle.netkat_parser.specs.declared.reading.Halt.TheVariants as halt
use Rattle.netkat_parser.specs.Signs.{sign, past, run, past_run}
use Rattle.netkat_parser.specs.Grammar.{Got, Read, Bad}
use Rattle.netkat_parser.specs.Numbers.{number}
use Rattle.netkat_parser.specs.Cuts.{relation}
use Rattle.netkat_parser.specs.Answers.{spot}
use Rattle.netkat_parser.specs.Pairs.{pairs}
use Rattle.netkat_parser.specs.Going.{Frame, Negated, Bracketed, is_inside, is_based, Phase, Operand, Relation, Number}
use Rattle.netkat_parser.specs.Going.{Behind, Reach, Comes}
use Rattle.netkat_parser.specs.Showing.{IsOperand, AreChain}

-- a reader's state, what is open from the inside out
pub record View : Type 0 where
  pub named : List (Field × ℕ)
  pub stage : Stage
  pub levels : List Level
  pub inside : Bool
  pub chain : Chain

abbrev pub view_of : Reading → View
view_of r = record {
  named = pairs r.named;
  stage = r.stage;
  levels = reverse r.levels.items;
  inside =
      r.inside;
  chain = r.chain;
}

-- the same at another stage, and with one more level inside
abbrev pub at : Reading → Stage → View
at r s = record {
  named = pairs r.named;
  stage = s;
  levels = reverse r.levels.items;
  inside = r.inside;
  chain =
      r.chain;
}

abbrev pub within : Reading → Stage → Level → View
within r s l = record {
  named = pairs r.named;
  stage = s;
  levels = l ∷ reverse r.levels.items;
  inside =
      r.inside;
  chain = r.chain;
}

-- no assignment is read inside a `not`
abbrev pub MayStand : Bool → Operator → Type 0
MayStand true operator.Assign = ⊥
MayStand true operator.Test = Unit {0}
MayStand false op = Unit {0}

abbrev pub IsStage : Bool → Stage → Phase → Type 0
IsStage i stage.Operand x = x ≡ Operand
IsStage i (stage.Relation f) x = x ≡ Relation f
IsStage i (stage.Number f op) x = (x ≡ Number f op) × MayStand i op
IsStage i (stage.Behind pol atom) x = (p : Term) × IsOperand i pol p × (x ≡ Behind p atom)

abbrev pub AreLevels : List Level → List Frame → Type 0
AreLevels [] [] = Unit {0}
AreLevels [] (f ∷ fs) = ⊥
AreLevels (level.Not was ∷ ls) [] = ⊥
AreLevels (level.Not was ∷ ls) (Negated ∷ fs) = (was ≡ is_inside fs) × AreLevels ls fs
AreLevels (level.Not was ∷ ls) (Bracketed ss qs ∷ fs) = ⊥
AreLevels (level.Bracket c ∷ ls) [] = ⊥
AreLevels (level.Bracket c ∷ ls) (Negated ∷ fs) = ⊥
AreLevels (level.Bracket c ∷ ls) (Bracketed ss qs ∷ fs) = AreChain (is_based fs) c ss qs × AreLevels ls fs

-- the state is what was read
pub record Shows (v : View) (x : Reach) : Type 0 where
  pub stage : IsStage (is_inside x.frames) v.stage x.phase
  pub levels : AreLevels v.levels x.frames
  pub inside : v.inside ≡ is_inside x.frames
  pub chain : AreChain (is_based x.frames) v.chain x.summands x.factors

-- before the first sign
abbrev pub first_reach : Reach
first_reach = record { phase = Operand; frames = []; summands = []; factors = [] }

-- the sign was taken, which is not the end: what comes after it comes from it on
abbrev pub TakesSign : View → Sign → View → Type 0
TakesSign old g new = (g ≢ End) × ((x : Reach) → Shows old x → (y : Reach) × Shows new y
    × ((text : List ℕ) (o : Got Term) → sign text ≡ g → Comes y (spot (past text) new.named) o →
    Comes x (spot text old.named) o))

-- where a value is to come, no byte of one stands
abbrev pub HasNoRun : Stage → List ℕ → Type 0
HasNoRun (stage.Number f op) text = run text ≡ []
HasNoRun _ text = Unit {0}

-- a `not` ended in front of the sign: one level less is open
abbrev pub EndsNot : View → Sign → View → Type 0
EndsNot old g new = (length new.levels + 1 ≡ length old.levels) ×
    ((text : List ℕ) → HasNoRun old.stage text → HasNoRun new.stage text) ×
    ((x : Reach) → Shows old x → (y : Reach) × Shows new y
    × ((text : List ℕ) (o : Got Term) → sign text ≡ g → Comes y (spot text new.named) o →
    Comes x (spot text old.named) o))

-- the sign has this fault
abbrev pub StopsAt : View → Sign → TextFault → Type 0
StopsAt old g f = (x : Reach) → Shows old x → (text : List ℕ) → sign text ≡ g → HasNoRun old.stage text →
    Comes x (spot text old.named) (Bad f text)

-- the state is as it was
abbrev pub KeepsView : View → View → Type 0
KeepsView old new = ((x : Reach) → Shows old x → Shows new x) × (new.named ≡ old.named)

-- the whole text was read, of which this is the last operand
abbrev pub IsWhole : View → Type 0
IsWhole v = (pol : Pol) × (atom : Bool) × (v.stage ≡ stage.Behind pol atom) × (v.levels ≡ [])

-- what comes from one state comes from the other, where the sign is next
abbrev pub Reaches : View → Sign → View → Type 0
Reaches old g new = (x : Reach) → Shows old x → (y : Reach) × Shows new y
    × ((text : List ℕ) (o : Got Term) → sign text ≡ g → Comes y (spot text new.named) o →
    Comes x (spot text old.named) o)

-- at most nots ended in front of the sign
abbrev pub FollowsNots : View → Sign → View → Type 0
FollowsNots old g new = ((text : List ℕ) → HasNoRun old.stage text → HasNoRun new.stage text) × Reaches old g new

abbrev pub Moves : View → Sign → View → Result Bool Halt → Type 0
Moves old g new (Ok true) = TakesSign old g new
Moves old g new (Ok false) = EndsNot old g new
Moves old g new (Err (halt.Fault f)) = StopsAt old g f
Moves old g new (Err halt.Done) = (g ≡ End) × KeepsView old new × IsWhole new
Moves old g new (Err halt.Memory) = KeepsView old new

-- the value was taken, which these bytes write
abbrev pub TakesNumber : View → List ℕ → View → Type 0
TakesNumber old bs new = (x : Reach) → Shows old x → (y : Reach) × Shows new y
    × ((text : List ℕ) (o : Got Term) → run text ≡ bs → Comes y (spot (past_run text) new.named) o →
    Comes x (spot text old.named) o)

abbrev pub StopsAtRun : View → List ℕ → TextFault → Type 0
StopsAtRun old bs f = (x : Reach) → Shows old x → (text : List ℕ) → run text ≡ bs →
    Comes x (spot text old.named) (Bad f text)

abbrev pub TakesRun : {U : Type 0} → View → List ℕ → View → Result U Halt → Type 0
TakesRun old bs new (Ok u) = TakesNumber old bs new
TakesRun old bs new (Err (halt.Fault f)) = StopsAtRun old bs f
TakesRun old bs new (Err halt.Done) = ⊥
TakesRun old bs new (Err halt.Memory) = KeepsView old new

-- the pair of field and value was taken
abbrev pub TakesPair : View → Operator → Lit → View → Type 0
TakesPair old op l new = (bs : List ℕ) → number (lit_field l) bs ≡ Some (lit_value l) → (x : Reach) → Shows old x →
    (y : Reach) × Shows new y
    × ((text : List ℕ) (o : Got Term) → sign text ≡ Name (lit_field l) → sign (past text) ≡ relation op →
    run (past (past text)) ≡ bs
    → Comes y (spot (past_run (past (past text))) new.named) o → Comes x (spot text old.named) o)

-- no `not` ends in front of the sign, and the sign ends neither the bracket nor the text
abbrev pub GoesOn : List Level → Sign → Type 0
GoesOn [] g = g ≢ End
GoesOn (level.Not was ∷ ls) g = ⊥
GoesOn (level.Bracket c ∷ ls) g = g ≢ Close

-- where the text ends here, it is read as this policy
abbrev pub GivesWhole : View → Term → Type 0
GivesWhole v p = (x : Reach) → Shows v x → (text : List ℕ) → sign text ≡ End →
    Comes x (spot text v.named) (Read p (spot text v.named))

-- the sign was taken after all nots that end in front of it
abbrev pub MovesOn : {U : Type 0} → View → Sign → View → Result U Halt → Type 0
MovesOn old g new (Ok u) = TakesSign old g new
MovesOn old g new (Err (halt.Fault f)) = StopsAt old g f
MovesOn old g new (Err halt.Done) = (g ≡ End) × Reaches old g new × IsWhole new
MovesOn old g new (Err halt.Memory) = Reaches old g new
