-- The policies whose printed text reads as the same policy.
use Rattle.std.specs.Prelude.{ℕ, ◌+◌, ◌≤◌, max, List, [], length, ⊤}
use Rattle.nk_values.specs.declared.field.Field.{Field}
use Rattle.nk_values.specs.Ranges.{IsLiteralOf}
use Rattle.nk_syntax.specs.Terms.{Guard, Guards, One, Zero, Test, Or, And, Not, no_guards, guard, Term, Terms, Filter}
use Rattle.nk_syntax.specs.Terms.{Assign, Sum, Seq, Star, Dup, no_terms, term}
use Rattle.netkat_parser.specs.Grammar.{with_pair, protos}

-- each number is a literal of its field
abbrev mutual
  pub HasGuardLiterals : Guard → Type 0
  HasGuardLiterals (Test f n) = IsLiteralOf f n
  HasGuardLiterals (Or as') = HaveGuardLiterals as'
  HasGuardLiterals (And as') = HaveGuardLiterals as'
  HasGuardLiterals (Not a) = HasGuardLiterals a
  HasGuardLiterals _ = ⊤

  pub HaveGuardLiterals : Guards → Type 0
  HaveGuardLiterals no_guards = ⊤
  HaveGuardLiterals (guard a as') = HasGuardLiterals a × HaveGuardLiterals as'

abbrev mutual
  pub HasLiterals : Term → Type 0
  HasLiterals (Filter a) = HasGuardLiterals a
  HasLiterals (Assign f n) = IsLiteralOf f n
  HasLiterals (Sum ps) = HaveLiterals ps
  HasLiterals (Seq ps) = HaveLiterals ps
  HasLiterals (Star p) = HasLiterals p
  HasLiterals Dup = ⊤

  pub HaveLiterals : Terms → Type 0
  HaveLiterals no_terms = ⊤
  HaveLiterals (term p ps) = HasLiterals p × HaveLiterals ps

-- an `Or` and an `And` have two or more members
abbrev mutual
  pub IsPlainGuard : Guard → Type 0
  IsPlainGuard (Or as') = AreTwoGuards as'
  IsPlainGuard (And as') = AreTwoGuards as'
  IsPlainGuard (Not a) = IsPlainGuard a
  IsPlainGuard _ = ⊤

  pub AreTwoGuards : Guards → Type 0
  AreTwoGuards no_guards = ⊥
  AreTwoGuards (guard a as') = IsPlainGuard a × AreSomeGuards as'

  pub AreSomeGuards : Guards → Type 0
  AreSomeGuards no_guards = ⊥
  AreSomeGuards (guard a as') = IsPlainGuard a × ArePlainGuards as'

  pub ArePlainGuards : Guards → Type 0
  ArePlainGuards no_guards = ⊤
  ArePlainGuards (guard a as') = IsPlainGuard a × ArePlainGuards as'

-- a predicate that a filter holds where it was read: none of a sum or a chain
abbrev pub IsFilter : Guard → Type 0
IsFilter (Or as') = ⊥
IsFilter (And as') = ⊥
IsFilter a = IsPlainGuard a

-- a filter holds `skip`, `drop`, a test or a `not`, and each list has two or more members
abbrev mutual
  pub IsPlain : Term → Type 0
  IsPlain (Filter a) = IsFilter a
  IsPlain (Assign f n) = ⊤
  IsPlain (Sum ps) = AreTwo ps
  IsPlain (Seq ps) = AreTwo ps
  IsPlain (Star p) = IsPlain p
  IsPlain Dup = ⊤

  pub AreTwo : Terms → Type 0
  AreTwo no_terms = ⊥
  AreTwo (term p ps) = IsPlain p × AreSome ps

  pub AreSome : Terms → Type 0
  AreSome no_terms = ⊥
  AreSome (term p ps) = IsPlain p × ArePlain ps

  pub ArePlain : Terms → Type 0
  ArePlain no_terms = ⊤
  ArePlain (term p ps) = IsPlain p × ArePlain ps

-- how deep the printed brackets and nots nest
abbrev mutual
  pub guard_depth : Guard → ℕ
  guard_depth One = 0
  guard_depth Zero = 0
  guard_depth (Test f n) = 0
  guard_depth (Or as') = 1 + guards_depth as'
  guard_depth (And as') = 1 + guards_depth as'
  guard_depth (Not a) = 2 + guard_depth a

  pub guards_depth : Guards → ℕ
  guards_depth no_guards = 0
  guards_depth (guard a as') = max (guard_depth a) (guards_depth as')

abbrev mutual
  pub term_depth : Term → ℕ
  term_depth (Filter a) = guard_depth a
  term_depth (Assign f n) = 0
  term_depth (Sum ps) = 1 + terms_depth ps
  term_depth (Seq ps) = 1 + terms_depth ps
  term_depth (Star p) = 1 + term_depth p
  term_depth Dup = 0

  pub terms_depth : Terms → ℕ
  terms_depth no_terms = 0
  terms_depth (term p ps) = max (term_depth p) (terms_depth ps)

-- the pairs of field and value, each once, when those of a predicate or policy are named after others
abbrev mutual
  pub guard_named : Guard → List (Field × ℕ) → List (Field × ℕ)
  guard_named (Test f n) named = with_pair named f n
  guard_named (Or as') named = guards_named as' named
  guard_named (And as') named = guards_named as' named
  guard_named (Not a) named = guard_named a named
  guard_named _ named = named

  pub guards_named : Guards → List (Field × ℕ) → List (Field × ℕ)
  guards_named no_guards named = named
  guards_named (guard a as') named = guards_named as' (guard_named a named)

abbrev mutual
  pub term_named : Term → List (Field × ℕ) → List (Field × ℕ)
  term_named (Filter a) named = guard_named a named
  term_named (Assign f n) named = with_pair named f n
  term_named (Sum ps) named = terms_named ps named
  term_named (Seq ps) named = terms_named ps named
  term_named (Star p) named = term_named p named
  term_named Dup named = named

  pub terms_named : Terms → List (Field × ℕ) → List (Field × ℕ)
  terms_named no_terms named = named
  terms_named (term p ps) named = terms_named ps (term_named p named)

-- at most 2,000 pairs, at most 100 of these with ipProto
pub record IsRoomy (named : List (Field × ℕ)) : Type 0 where
  pub pairs : length named ≤ 2000
  pub protos : protos named ≤ 100

-- a policy within the limits of policy text
pub record IsPrintable (p : Term) : Type 0 where
  pub plain : IsPlain p
  pub depth : term_depth p ≤ 200
  pub values : IsRoomy (term_named p [])
