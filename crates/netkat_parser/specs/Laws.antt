-- Laws of the grammar.
use Rattle.std.specs.Prelude.{◌≡◌, ◌⊎◌, ℕ, List, []}
use Rattle.nk_syntax.specs.Terms.{Term}
use Rattle.nk_syntax.specs.Prints.{term_text}
use Rattle.netkat_parser.specs.Grammar.{Got, IsReading, IsText}
use Rattle.netkat_parser.specs.Places.{HasFault}
use Rattle.netkat_parser.specs.declared.fault.Position.{Position}
use Rattle.netkat_parser.specs.declared.fault.ParseFault.{ParseFault}
use Rattle.netkat_parser.specs.Printed.{HasLiterals, IsPrintable, IsRoomy, term_named}
use Rattle.nk_syntax.specs.declared.pol.Pol.{Pol}
use Rattle.nk_syntax.specs.Views.{term_of}

-- A text has one outcome: one policy, or one fault at one position.
abbrev pub OneOutcome : Type 0
OneOutcome = (text : List ℕ) (o o' : Got Term) → IsReading text o → IsReading text o' → o ≡ o'

-- Each text has an outcome: it is read as a policy, or has a first fault.
abbrev pub SomeOutcome : Type 0
SomeOutcome = (begin : Position) (text : List ℕ) → ((p : Term) × IsText text p) ⊎
    ((f : ParseFault) × HasFault begin text f)

-- A text has at most one reading as a policy.
abbrev pub OneReading : Type 0
OneReading = (text : List ℕ) (p q : Term) → IsText text p → IsText text q → p ≡ q

-- The text that is printed for a term within the limits, whose numbers are literals of their fields, is read as the
-- term.
abbrev pub ReadBack : Type 0
ReadBack = (p : Term) → HasLiterals p → IsPrintable p → IsText (term_text p) p

-- The numbers in a `Pol` are such literals, so the text of each policy within the limits is read as the policy.
abbrev pub ReadBackPol : Type 0
ReadBackPol = (pol : Pol) → IsPrintable (term_of pol) → IsText (term_text (term_of pol)) (term_of pol)

-- The pairs of field and value that a text's policy names are within the limits.
abbrev pub NamesFew : Type 0
NamesFew = (text : List ℕ) (p : Term) → IsText text p → IsRoomy (term_named p [])
