-- What commands share: how a source was read, and why a command over a document stops.
use Rattle.std.specs.Prelude.{ℕ, List, IfSome}
use Rattle.std.specs.Io.KnownBytes.{IsAtEnd}
use Rattle.outside_io.specs.Lists.{TakesFirst}
use Rattle.report_text.specs.Fault.{Fault}
use Rattle.report_text.specs.Fault.TheVariants as fault
use Rattle.program_answer.specs.declared.answer.AnswerError.{AnswerError}
use Rattle.program_answer.specs.declared.answer.AnswerError.TheVariants as error
use Rattle.program_answer.specs.Called.{SourceSeen, HasRisen, IsSame}

-- The source was read to its end, no read failed, and its bytes, if they are known, are such.
pub record Reads (IsSuch : List ℕ → Type 0) (s : SourceSeen) : Type 0 where
  pub ended : IsAtEnd s.left.after
  pub faultless : IsSame s.faults
  pub bytes : IfSome s.left.before IsSuch

-- The source was read to its end, or to the byte that is one too many, no read failed, and its bytes, if they are
-- known, are such.
pub record ReadsFirst (IsSuch : List ℕ → Type 0) (s : SourceSeen) : Type 0 where
  pub taken : TakesFirst 4194305 s.left.before s.left.after
  pub faultless : IsSame s.faults
  pub bytes : IfSome s.left.before IsSuch

-- Why a command stops that takes a source alone: a read failed, or its bytes have this fault.
abbrev pub StopsBy : (List ℕ → Fault → Type 0) → SourceSeen → Fault → Type 0
StopsBy HasFault s fault.Read = HasRisen s.faults
StopsBy HasFault s fault.Net = ⊥
StopsBy HasFault s fault.NoThread = ⊥
StopsBy HasFault s fault.Report = ⊥
StopsBy HasFault s fault.Usage = ⊥
StopsBy HasFault s (fault.Line line column f) = ReadsFirst (λ xs. HasFault xs (fault.Line line column f)) s
StopsBy HasFault s (fault.NotEnabled line) = ReadsFirst (λ xs. HasFault xs (fault.NotEnabled line)) s
StopsBy HasFault s (fault.NotTwo line) = ReadsFirst (λ xs. HasFault xs (fault.NotTwo line)) s
StopsBy HasFault s (fault.Compile policy f) = ReadsFirst (λ xs. HasFault xs (fault.Compile policy f)) s
StopsBy HasFault s (fault.Emit policy f) = ReadsFirst (λ xs. HasFault xs (fault.Emit policy f)) s

-- the same, if it is not out of memory, before which no read failed
abbrev pub Stops : (List ℕ → Fault → Type 0) → SourceSeen → AnswerError → Type 0
Stops HasFault s (error.Fault f) = StopsBy HasFault s f
Stops HasFault s error.Memory = IsSame s.faults
