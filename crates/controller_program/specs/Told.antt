-- What the words of a call come to before anything is written, as the calls tell it.
use Rattle.std.specs.Prelude.{◌≡◌, Result, Ok, Err}
use Rattle.command_line.specs.declared.command.Command.{Command}
use Rattle.command_line.specs.Commands.{Asks, IsReader}
use Rattle.value_text.specs.declared.fault.Fault.TheVariants as fault
use Rattle.program_answer.specs.declared.answer.Answer.{Answer}
use Rattle.program_answer.specs.declared.answer.AnswerError.{AnswerError}
use Rattle.program_answer.specs.declared.answer.AnswerError.TheVariants as error
use Rattle.program_answer.specs.Called.{IsSame}
use Rattle.controller_program.specs.Called.{Called}
use Rattle.controller_program.specs.Calls.{IsLine}
use Rattle.controller_program.specs.Commands.{IsAnswer, IsStop}

-- a command's report, or the fault that it stops for
abbrev pub AnswersTo : {Q : Type 0} → Command → Called Q → Result Answer AnswerError → Type 0
AnswersTo k c (Ok a) = IsAnswer k c a.status a.text
AnswersTo k c (Err (error.Fault f)) = IsStop k c f
AnswersTo k c (Err error.Memory) = IsSame c.source.faults

-- What the words come to, where these commands are taken.
pub data AnswersWords {Q : Type 0} (Takes : Command → Type 0) (c : Called Q) (r : Result Answer AnswerError) : Type 0
  where
    by : (k : Command) → Takes k → Asks k c.words → AnswersTo k c r → (¬ (IsReader k) → IsSame c.source.faults) →
        AnswersWords Takes c r
    none : ¬ (IsLine Takes c.words) → r ≡ Err (error.Fault fault.Usage) → IsSame c.source.faults →
        AnswersWords Takes c r
    memory : r ≡ Err error.Memory → IsSame c.source.faults → AnswersWords Takes c r
