-- What becomes of the one writing of a call.
use Rattle.std.specs.Prelude.{◌≡◌, ◌⊎◌, ℕ, List, Result, Ok, Err}
use Rattle.std.specs.Io.KnownBytes.{Appends}
use Rattle.outside_io.specs.Lists.{AppendsPrefix}
use Rattle.report_text.specs.Faults.{HasValues, fault_text}
use Rattle.program_answer.specs.declared.answer.Answer.{Answer}
use Rattle.program_answer.specs.declared.answer.AnswerError.{AnswerError}
use Rattle.program_answer.specs.declared.answer.AnswerError.TheVariants as error
use Rattle.program_answer.specs.declared.status.Status.{Status}
use Rattle.program_answer.specs.declared.status.Status.TheVariants as status
use Rattle.program_answer.specs.Called.{SinkSeen, HasRisen, IsSame}
use Rattle.program_answer.specs.Statuses.{status_of}

-- The sink got such a text.
pub record Wrote (IsText : List ℕ → Type 0) (sink : SinkSeen) : Type 0 where
  pub text : List ℕ
  pub due : IsText text
  pub written : Appends sink.written.before sink.written.after text

-- The sink got a prefix of such a text.
pub record WrotePrefix (IsText : List ℕ → Type 0) (sink : SinkSeen) : Type 0 where
  pub text : List ℕ
  pub due : IsText text
  pub written : AppendsPrefix sink.written.before sink.written.after text

-- The sink got the text and the call ends as it is to, or the sink failed and got a prefix of it.
pub data Says (wanted : Status) (text : List ℕ) (result : Status) (sink : SinkSeen) : Type 0 where
  whole : result ≡ wanted → Appends sink.written.before sink.written.after text → IsSame sink.faults →
      Says wanted text result sink
  cut : result ≡ status.WriteFault → AppendsPrefix sink.written.before sink.written.after text → HasRisen sink.faults →
      Says wanted text result sink

-- nothing was written
pub record IsUnsaid (result : Status) (sink : SinkSeen) : Type 0 where
  pub memory : result ≡ status.Memory
  pub unwritten : sink.written.after ≡ sink.written.before
  pub faultless : IsSame sink.faults

-- What becomes of an answer: its text is written, or the line of the fault that stands in its place. Nothing is, if
-- memory ran out, before or for the values of that line.
abbrev pub SaysAnswer : Result Answer AnswerError → Status → SinkSeen → Type 0
SaysAnswer (Ok a) result sink = Says a.status a.text result sink
SaysAnswer (Err (error.Fault f)) result sink = Says (status_of f) (fault_text f) result sink ⊎
    (HasValues f × IsUnsaid result sink)
SaysAnswer (Err error.Memory) result sink = IsUnsaid result sink
