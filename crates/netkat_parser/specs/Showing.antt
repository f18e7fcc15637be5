-- What a reader has of what was read.
use Rattle.std.specs.Prelude.{◌≡◌, ◌<◌, Bool, true, false, List, [], ◌∷◌, map, vec_len, vec_capacity}
use Rattle.nk_syntax.specs.Terms.{Guard, Or, And, Term, Filter}
use Rattle.nk_syntax.specs.Views.{term_of, guard_of, guard_row}
use Rattle.nk_syntax.specs.declared.pol.Pol.{Pol}
use Rattle.netkat_parser.specs.declared.chain.Operands.{Operands}
use Rattle.netkat_parser.specs.declared.chain.Operands.TheVariants.{Policies, Predicates}
use Rattle.netkat_parser.specs.declared.chain.Chain.{Chain}
use Rattle.netkat_parser.specs.Grammar.{taken}

-- a single predicate is itself, more are one
abbrev pub or_of : List Guard → Guard
or_of (a ∷ []) = a
or_of as' = Or (guard_row as')

abbrev pub and_of : List Guard → Guard
and_of (a ∷ []) = a
and_of as' = And (guard_row as')

-- the operand is the term, or inside a `not` the filter that it is taken as
abbrev pub IsOperand : Bool → Pol → Term → Type 0
IsOperand false pol p = term_of pol ≡ p
IsOperand true pol p = term_of pol ≡ Filter (taken p)

abbrev pub AreOperands : Bool → Operands → List Term → Type 0
AreOperands false (Policies pols) ps = map term_of pols.items ≡ ps
AreOperands false (Predicates preds) ps = ⊥
AreOperands true (Policies pols) ps = ⊥
AreOperands true (Predicates preds) ps = map guard_of preds.items ≡ map taken ps

-- there is room for one more
abbrev pub HasOperandRoom : Operands → Type 0
HasOperandRoom (Policies pols) = vec_len pols < vec_capacity pols
HasOperandRoom (Predicates preds) = vec_len preds < vec_capacity preds

abbrev pub AreChain : Bool → Chain → List Term → List Term → Type 0
AreChain i c ss qs = AreOperands i c.summands ss × AreOperands i c.factors qs

abbrev pub HaveRoom : Chain → Type 0
HaveRoom c = HasOperandRoom c.summands × HasOperandRoom c.factors
