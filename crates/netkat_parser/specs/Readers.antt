-- The text that a reader stands for.
use Rattle.std.specs.Prelude.{◌≡◌, ⊤, ℕ, Bool, true, false, List, ◌++◌, Option, None, Some, Result, Ok, Err}
use Rattle.nk_syntax.specs.Terms.{Term}
use Rattle.nk_syntax.specs.Views.{term_of}
use Rattle.nk_syntax.specs.declared.pol.Pol.{Pol}
use Rattle.netkat_parser.specs.declared.sign.Sign.TheVariants.{End}
use Rattle.netkat_parser.specs.declared.fault.Position.{Position}
use Rattle.netkat_parser.specs.declared.fault.ParseFault.{ParseFault}
use Rattle.netkat_parser.specs.declared.fault.ParseError.{ParseError}
use Rattle.netkat_parser.specs.declared.fault.ParseError.TheVariants as error
use Rattle.netkat_parser.specs.declared.reading.Halt.TheVariants as halt
use Rattle.netkat_parser.specs.declared.advance.Pause.{Pause}
use Rattle.netkat_parser.specs.declared.advance.Pause.TheVariants as pause
use Rattle.netkat_parser.specs.declared.feeding.PolicyReader.{PolicyReader}
use Rattle.netkat_parser.specs.Signs.{ahead, sign}
use Rattle.netkat_parser.specs.Grammar.{Got, IsReading, IsText}
use Rattle.netkat_parser.specs.Places.{position_after, HasFault}
use Rattle.netkat_parser.specs.Answers.{spot}
use Rattle.netkat_parser.specs.Pairs.{pairs}
use Rattle.netkat_parser.specs.Going.{Reach, Comes}
use Rattle.netkat_parser.specs.Cuts.{EndsAt}
use Rattle.netkat_parser.specs.Views.{view_of, Shows}

-- No fault was found in a text that began at a position: whatever may follow, what comes of it after what is pending is
-- what the grammar gives of the text with it. At the end nothing may follow.
pub record IsOpen (end : Bool) (begin : Position) (r : PolicyReader) (text : List ℕ) : Type 0 where
  pub front : List ℕ
  pub parts : text ≡ front ++ r.pending.items
  pub position : position_after begin front ≡ r.position
  pub reach : Reach
  pub shows : Shows (view_of r.reading) reach
  pub goes : (rest : List ℕ) (o : Got Term) → EndsAt end rest
      → Comes reach (spot (ahead r.in_comment (r.pending.items ++ rest)) (pairs r.reading.named)) o →
      IsReading (text ++ rest) o

-- the text has this first fault, whatever follows
abbrev pub IsFaulty : Position → List ℕ → ParseFault → Type 0
IsFaulty begin text f = (rest : List ℕ) → HasFault begin (text ++ rest) f

abbrev pub StandsBy : Option ParseFault → Position → PolicyReader → List ℕ → Type 0
StandsBy None begin r text = IsOpen false begin r text
StandsBy (Some f) begin r text = IsFaulty begin text f

-- The reader stands for a text that began at a position: whatever follows, going on over it gives what the grammar
-- gives of the text followed by it.
abbrev pub StandsFor : Position → PolicyReader → List ℕ → Type 0
StandsFor begin r text = StandsBy r.fault begin r text

abbrev pub EndsBy : Option ParseFault → Position → PolicyReader → List ℕ → Type 0
EndsBy None begin r text = IsOpen true begin r text
EndsBy (Some f) begin r text = IsFaulty begin text f

-- The same of a reader of a whole text, after which nothing follows.
abbrev pub EndsFor : Position → PolicyReader → List ℕ → Type 0
EndsFor begin r text = EndsBy r.fault begin r text

-- the answer is the grammar's, unless memory ran out
abbrev pub AnswersFor : Position → List ℕ → Result Pol ParseError → Type 0
AnswersFor begin text (Ok pol) = IsText text (term_of pol)
AnswersFor begin text (Err (error.Fault f)) = HasFault begin text f
AnswersFor begin text (Err error.Memory) = ⊤

-- all that is whole of what is pending was read
abbrev pub Settles : Bool → Position → List ℕ → PolicyReader → Pause → Type 0
Settles end begin text r pause.Wait = IsOpen end begin r text
Settles end begin text r (pause.Halt halt.Memory) = IsOpen end begin r text
Settles end begin text r (pause.Halt halt.Done) = IsOpen end begin r text ×
    ((rest : List ℕ) → EndsAt end rest → sign (ahead r.in_comment (r.pending.items ++ rest)) ≡ End)
Settles end begin text r (pause.Halt (halt.Fault f)) =
    (rest : List ℕ) → EndsAt end rest →
    HasFault begin (text ++ rest) (record { fault = f; line = r.position.line; column = r.position.column })
