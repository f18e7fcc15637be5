-- The printed forms of predicates and policies.
use Rattle.std.specs.Prelude.{ℕ, List, [], ◌++◌, codes}
use Rattle.std.specs.Fmt.{decimal}
use Rattle.nk_values.specs.declared.field.Field.{Field}
use Rattle.nk_values.specs.Names.{name_of}
use Rattle.nk_syntax.specs.Terms.{Guard, Guards, One, Zero, Test, Or, And, Not, no_guards, guard, Term, Terms, Filter}
use Rattle.nk_syntax.specs.Terms.{Assign, Sum, Seq, Star, Dup, no_terms, term}

-- in brackets
abbrev pub bracketed : List ℕ → List ℕ
bracketed text = codes "(" ++ (text ++ codes ")")

-- a field, a sign and a number in decimal
abbrev pub pair_text : Field → List ℕ → ℕ → List ℕ
pair_text f sign n = name_of f ++ (sign ++ decimal n)

abbrev mutual
  -- the text of a predicate
  pub guard_text : Guard → List ℕ
  guard_text One = codes "skip"
  guard_text Zero = codes "drop"
  guard_text (Test f n) = pair_text f (codes "=") n
  guard_text (Or as') = bracketed (guards_text (codes " + ") as')
  guard_text (And as') = bracketed (guards_text (codes "; ") as')
  guard_text (Not a) = codes "not " ++ bracketed (guard_text a)

  -- one after another, with this between
  pub guards_text : List ℕ → Guards → List ℕ
  guards_text between no_guards = []
  guards_text between (guard a as') = guard_text a ++ more_guards between as'

  pub more_guards : List ℕ → Guards → List ℕ
  more_guards between no_guards = []
  more_guards between (guard a as') = between ++ (guard_text a ++ more_guards between as')

abbrev mutual
  -- the text of a policy
  pub term_text : Term → List ℕ
  term_text (Filter a) = guard_text a
  term_text (Assign f n) = pair_text f (codes ":=") n
  term_text (Sum ps) = bracketed (terms_text (codes " + ") ps)
  term_text (Seq ps) = bracketed (terms_text (codes "; ") ps)
  term_text (Star p) = bracketed (term_text p) ++ codes "*"
  term_text Dup = codes "dup"

  pub terms_text : List ℕ → Terms → List ℕ
  terms_text between no_terms = []
  terms_text between (term p ps) = term_text p ++ more_terms between ps

  pub more_terms : List ℕ → Terms → List ℕ
  more_terms between no_terms = []
  more_terms between (term p ps) = between ++ (term_text p ++ more_terms between ps)
