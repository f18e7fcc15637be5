-- What holds of a call, from what its words came to and what was written.
use Rattle.std.proofs.Common.{◌≡◌, ◌≢◌, ◌⊎◌, inl, inr, ℕ, List, Option, None, Some, IfSome, Result, Ok, Err, refl, sym, subst}
use Rattle.std.specs.Io.KnownBytes.{Appends}
use Rattle.outside_io.specs.Lists.{TakesAtMost, AppendsPrefix}
use Rattle.command_line.specs.declared.command.Command.{Command}
use Rattle.command_line.specs.declared.command.Command.TheVariants.{Rules, Trace, Simulate, Equiv, Audit, Run, Watch, Drive, Generate}
use Rattle.command_line.specs.Commands.{Asks, IsReader}
use Rattle.command_line.proofs.Words.{one_command_asked}
use Rattle.value_text.specs.declared.fault.Fault.{Fault}
use Rattle.value_text.specs.declared.fault.Fault.TheVariants as fault
use Rattle.value_text.specs.Faults.{HasValues, fault_text}
use Rattle.program_answer.specs.declared.answer.Answer.{Answer}
use Rattle.program_answer.specs.declared.answer.AnswerError.{AnswerError}
use Rattle.program_answer.specs.declared.answer.AnswerError.TheVariants as error
use Rattle.program_answer.specs.declared.status.Status.{Status}
use Rattle.program_answer.specs.declared.status.Status.TheVariants as status
use Rattle.program_answer.specs.Answers.{StopsBy}
use Rattle.program_answer.specs.Called.{HasRisen, IsSame, SourceSeen}
use Rattle.program_answer.specs.Input.{IsAccepted, IsInputRefused}
use Rattle.program_answer.specs.Statuses.{IsReport, status_of}
use Rattle.program_answer.specs.Writing.{Says, SaysAnswer, IsUnsaid, whole, cut}
use Rattle.equal_command.specs.Equiv.{IsComparable, IsEquivRefused}
use Rattle.plain_commands.specs.Simulate.{IsSimulateRefused}
use Rattle.controller_program.specs.Called.{Called}
use Rattle.controller_program.specs.Calls.{IsAnswered, IsCall, IsDue, IsLine}
use Rattle.controller_program.specs.Commands.{Accepts, IsAnswer, IsStop}
use Rattle.controller_program.specs.Told.{AnswersWords, AnswersTo, by, none, memory}
use Rattle.controller_program.proofs.Coming.{reports}

-- ---- what is due with a status

-- What is known of a text that is due with this status: whether a read failed, and how the call may end.
record IsMeant {Q : Type 0} (Takes : Command → Type 0) (c : Called Q) (s : Status) (text : List ℕ) : Type 0 where
  due : IsDue Takes c s text
  written : s ≢ status.WriteFault
  reads : s ≢ status.ReadFault → IsSame c.source.faults
  no_command : ¬ (IsLine Takes c.words) → s ≡ status.Usage
  complete : (k : Command) → Takes k → Asks k c.words → ((f : Fault) → ¬ (IsStop k c f)) → (s ≡ status.Done) ⊎ (s ≡ status.Halted)
  refuses : (k : Command) → Takes k → IsReader k → Asks k c.words → ¬ (HasRisen c.source.faults) → IfSome c.source.left.before (λ xs. ¬ (Accepts k xs) → s ≡ status.Refused)

if-known : (left : Option (List ℕ)) (P : List ℕ → Type 0) → ((xs : List ℕ) → P xs) → IfSome left P
if-known None P p = tt
if-known (Some xs) P p = p xs

known-more : (P Q : List ℕ → Type 0) (left : Option (List ℕ)) → ((xs : List ℕ) → P xs → Q xs) → IfSome left P → IfSome left Q
known-more P Q None f h = tt
known-more P Q (Some xs) f h = f xs h

-- ---- reports

accepted-by : {Q : Type 0} (k : Command) (c : Called Q) (s : Status) (text : List ℕ) → IsReader k → IsAnswer k c s text → IfSome c.source.left.before (Accepts k)
accepted-by Rules c s text i a = known-more _ _ c.source.left.before (λ xs r. record { document = r.document; versions = r.versions; is = r.accepted }) a.read.bytes
accepted-by Trace c s text i a = known-more _ _ c.source.left.before (λ xs r. record { document = r.document; versions = r.versions; is = r.accepted }) a.read.bytes
accepted-by Simulate c s text i a = known-more _ _ c.source.left.before (λ xs r. record { document = r.document; versions = r.versions; is = r.accepted }) a.read.bytes
accepted-by Equiv c s text i a = known-more _ _ c.source.left.before (λ xs r. record { document = r.document; read = r.read; first = r.compared.first; second = r.compared.second; two = r.compared.two; meant = r.compared.meant }) a.read.bytes
accepted-by Audit c s text i a = known-more _ _ c.source.left.before (λ xs r. record { document = r.document; versions = r.versions; is = r.accepted }) a.read.bytes
accepted-by Run c s text i a = known-more _ _ c.source.left.before (λ xs r. record { document = r.document; versions = r.versions; is = r.accepted }) a.read.bytes
accepted-by Watch c s text i a = known-more _ _ c.source.left.before (λ xs r. record { document = r.document; versions = r.versions; is = r.accepted }) a.read.bytes
accepted-by (Drive n) c s text i a = known-more _ _ c.source.left.before (λ xs r. record { document = r.document; versions = r.versions; is = r.accepted }) a.read.bytes
accepted-by (Generate n) c s text i a = absurd i

faultless-by : {Q : Type 0} (k : Command) (c : Called Q) (s : Status) (text : List ℕ) → (¬ (IsReader k) → IsSame c.source.faults) → IsAnswer k c s text → IsSame c.source.faults
faultless-by Rules c s text other a = a.read.faultless
faultless-by Trace c s text other a = a.read.faultless
faultless-by Simulate c s text other a = a.read.faultless
faultless-by Equiv c s text other a = a.read.faultless
faultless-by Audit c s text other a = a.read.faultless
faultless-by Run c s text other a = a.read.faultless
faultless-by Watch c s text other a = a.read.faultless
faultless-by (Drive n) c s text other a = a.read.faultless
faultless-by (Generate n) c s text other a = other (λ i. i)

-- words ask for one command
one-command : {Q : Type 0} (k j : Command) (c : Called Q) (P : Command → Type 0) → Asks k c.words → Asks j c.words → P k → P j
one-command k j c P asks asks' p = subst P (one_command_asked k j c.words asks asks') p

is-done : {Q : Type 0} (Takes : Command → Type 0) (c : Called Q) (s : Status) (text : List ℕ) → IsReport s → IsAnswered Takes c s text → IsDue Takes c s text
is-done Takes c status.Done text i a = a
is-done Takes c status.Halted text i a = a
is-done Takes c status.Refused text i a = absurd i
is-done Takes c status.Usage text i a = absurd i
is-done Takes c status.ReadFault text i a = absurd i
is-done Takes c status.WriteFault text i a = absurd i
is-done Takes c status.NetFault text i a = absurd i
is-done Takes c status.NoThread text i a = absurd i
is-done Takes c status.ReportFault text i a = absurd i
is-done Takes c status.Memory text i a = absurd i

either : (s : Status) → IsReport s → (s ≡ status.Done) ⊎ (s ≡ status.Halted)
either status.Done i = inl refl
either status.Halted i = inr refl
either status.Refused i = absurd i
either status.Usage i = absurd i
either status.ReadFault i = absurd i
either status.WriteFault i = absurd i
either status.NetFault i = absurd i
either status.NoThread i = absurd i
either status.ReportFault i = absurd i
either status.Memory i = absurd i

written-report : (s : Status) → IsReport s → s ≢ status.WriteFault
written-report s i e = subst IsReport e i

report-meant : {Q : Type 0} (Takes : Command → Type 0) (c : Called Q) (k : Command) (s : Status) (text : List ℕ) → Takes k → Asks k c.words → (¬ (IsReader k) → IsSame c.source.faults) → IsAnswer k c s text → IsMeant Takes c s text
report-meant Takes c k s text takes asks other a =
    let i = reports k c s text a in record {
      due = is-done Takes c s text i (record { command = k; takes = takes; asks = asks; answer = a });
      written = written-report s i;
      reads = λ _. faultless-by k c s text other a;
      no_command = λ n. absurd (n (k, takes, asks));
      complete = λ j t asks' free. either s i;
      refuses = λ j t reads asks' still. known-more _ _ c.source.left.before (λ xs accepted n. absurd (n accepted))
          (accepted-by j c s text reads (one-command k j c (λ l. IsAnswer l c s text) asks asks' a));
    }

-- ---- faults

stop-due : {Q : Type 0} (Takes : Command → Type 0) (c : Called Q) (k : Command) (f : Fault) → Takes k → Asks k c.words → IsStop k c f → f ≢ fault.Usage → IsDue Takes c (status_of f) (fault_text f)
stop-due Takes c k (fault.Line line column f) takes asks stop u = record { fault = fault.Line line column f; refused = refl; stopped = record { command = k; takes = takes; asks = asks; stop = stop; line = refl } }
stop-due Takes c k (fault.NotEnabled line) takes asks stop u = record { fault = fault.NotEnabled line; refused = refl; stopped = record { command = k; takes = takes; asks = asks; stop = stop; line = refl } }
stop-due Takes c k (fault.NotTwo line) takes asks stop u = record { fault = fault.NotTwo line; refused = refl; stopped = record { command = k; takes = takes; asks = asks; stop = stop; line = refl } }
stop-due Takes c k (fault.Compile policy f) takes asks stop u = record { fault = fault.Compile policy f; refused = refl; stopped = record { command = k; takes = takes; asks = asks; stop = stop; line = refl } }
stop-due Takes c k (fault.Emit policy f) takes asks stop u = record { fault = fault.Emit policy f; refused = refl; stopped = record { command = k; takes = takes; asks = asks; stop = stop; line = refl } }
stop-due Takes c k fault.Read takes asks stop u = record { command = k; takes = takes; asks = asks; stop = stop; line = refl }
stop-due Takes c k fault.Net takes asks stop u = record { command = k; takes = takes; asks = asks; stop = stop; line = refl }
stop-due Takes c k fault.NoThread takes asks stop u = record { command = k; takes = takes; asks = asks; stop = stop; line = refl }
stop-due Takes c k fault.Report takes asks stop u = record { command = k; takes = takes; asks = asks; stop = stop; line = refl }
stop-due Takes c k fault.Usage takes asks stop u = absurd (u refl)

-- no command stops for its words
no-usage : {Q : Type 0} (k : Command) (c : Called Q) → IsStop k c fault.Usage → ⊥
no-usage Rules c stop = stop
no-usage Trace c stop = stop
no-usage Simulate c stop = stop
no-usage Equiv c stop = stop
no-usage Audit c stop = stop
no-usage Run c stop = stop
no-usage Watch c stop = stop
no-usage (Drive n) c stop = stop
no-usage (Generate n) c stop = stop

not-usage : {Q : Type 0} (k : Command) (c : Called Q) (f : Fault) → IsStop k c f → f ≢ fault.Usage
not-usage k c f stop e = no-usage k c (subst (λ (g : Fault). IsStop k c g) e stop)

written-fault : (f : Fault) → status_of f ≢ status.WriteFault
written-fault (fault.Line line column f) e = absurd (cc)
written-fault (fault.NotEnabled line) e = absurd (cc)
written-fault (fault.NotTwo line) e = absurd (cc)
written-fault (fault.Compile policy f) e = absurd (cc)
written-fault (fault.Emit policy f) e = absurd (cc)
written-fault fault.Read e = absurd (cc)
written-fault fault.Net e = absurd (cc)
written-fault fault.NoThread e = absurd (cc)
written-fault fault.Report e = absurd (cc)
written-fault fault.Usage e = absurd (cc)

-- a fault of the document, or one after an accepted document, came without a failed read
by-source : (P : List ℕ → Fault → Type 0) (s : SourceSeen) (f : Fault) → StopsBy P s f → status_of f ≢ status.ReadFault → IsSame s.faults
by-source P s (fault.Line line column f) h n = h.faultless
by-source P s (fault.NotEnabled line) h n = h.faultless
by-source P s (fault.NotTwo line) h n = h.faultless
by-source P s (fault.Compile policy f) h n = h.faultless
by-source P s (fault.Emit policy f) h n = h.faultless
by-source P s fault.Read h n = absurd (n refl)
by-source P s fault.Net h n = absurd h
by-source P s fault.NoThread h n = absurd h
by-source P s fault.Report h n = absurd h
by-source P s fault.Usage h n = absurd h

stop-reads : {Q : Type 0} (k : Command) (c : Called Q) (f : Fault) → IsStop k c f → status_of f ≢ status.ReadFault → IsSame c.source.faults
stop-reads Rules c f h n = by-source IsInputRefused c.source f h n
stop-reads Trace c f h n = by-source IsInputRefused c.source f h n
stop-reads Simulate c f h n = by-source IsSimulateRefused c.source f h n
stop-reads Equiv c f h n = by-source IsEquivRefused c.source f h n
stop-reads Audit c f h n = by-source IsSimulateRefused c.source f h n
stop-reads Run c (fault.Line line column f) h n = h.faultless
stop-reads Run c (fault.NotEnabled line) h n = h.faultless
stop-reads Run c (fault.NotTwo line) h n = h.faultless
stop-reads Run c (fault.Compile policy f) h n = h.faultless
stop-reads Run c (fault.Emit policy f) h n = h.faultless
stop-reads Run c fault.Read h n = absurd (n refl)
stop-reads Run c fault.Net h n = h.read.faultless
stop-reads Run c fault.NoThread h n = h.read.faultless
stop-reads Run c fault.Report h n = absurd h
stop-reads Run c fault.Usage h n = absurd h
stop-reads Watch c (fault.Line line column f) h n = h.faultless
stop-reads Watch c (fault.NotEnabled line) h n = h.faultless
stop-reads Watch c (fault.NotTwo line) h n = h.faultless
stop-reads Watch c (fault.Compile policy f) h n = h.faultless
stop-reads Watch c (fault.Emit policy f) h n = h.faultless
stop-reads Watch c fault.Read h n = absurd (n refl)
stop-reads Watch c fault.Net h n = h.read.faultless
stop-reads Watch c fault.NoThread h n = h.read.faultless
stop-reads Watch c fault.Report h n = absurd h
stop-reads Watch c fault.Usage h n = absurd h
stop-reads (Drive n) c (fault.Line line column f) h m = h.faultless
stop-reads (Drive n) c (fault.NotEnabled line) h m = h.faultless
stop-reads (Drive n) c (fault.NotTwo line) h m = h.faultless
stop-reads (Drive n) c (fault.Compile policy f) h m = h.faultless
stop-reads (Drive n) c (fault.Emit policy f) h m = h.faultless
stop-reads (Drive n) c fault.Read h m = absurd (m refl)
stop-reads (Drive n) c fault.Net h m = h.read.faultless
stop-reads (Drive n) c fault.NoThread h m = h.read.faultless
stop-reads (Drive n) c fault.Report h m = h.read.faultless
stop-reads (Drive n) c fault.Usage h m = absurd h
stop-reads (Generate n) c f h m = absurd h

-- what is not accepted is refused
refused-source : (P : List ℕ → Fault → Type 0) (Takes : List ℕ → Type 0) (s : SourceSeen) (f : Fault) → StopsBy P s f → ¬ (HasRisen s.faults) → IfSome s.left.before (λ xs. ¬ (Takes xs) → status_of f ≡ status.Refused)
refused-source P T s (fault.Line line column f) h still = if-known s.left.before _ (λ xs n. refl)
refused-source P T s (fault.NotEnabled line) h still = if-known s.left.before _ (λ xs n. refl)
refused-source P T s (fault.NotTwo line) h still = if-known s.left.before _ (λ xs n. refl)
refused-source P T s (fault.Compile policy f) h still = if-known s.left.before _ (λ xs n. refl)
refused-source P T s (fault.Emit policy f) h still = if-known s.left.before _ (λ xs n. refl)
refused-source P T s fault.Read h still = absurd (still h)
refused-source P T s fault.Net h still = absurd h
refused-source P T s fault.NoThread h still = absurd h
refused-source P T s fault.Report h still = absurd h
refused-source P T s fault.Usage h still = absurd h

stop-refuses : {Q : Type 0} (k : Command) (c : Called Q) (f : Fault) → IsStop k c f → ¬ (HasRisen c.source.faults) → IfSome c.source.left.before (λ xs. ¬ (Accepts k xs) → status_of f ≡ status.Refused)
stop-refuses Rules c f h still = refused-source IsInputRefused IsAccepted c.source f h still
stop-refuses Trace c f h still = refused-source IsInputRefused IsAccepted c.source f h still
stop-refuses Simulate c f h still = refused-source IsSimulateRefused IsAccepted c.source f h still
stop-refuses Equiv c f h still = refused-source IsEquivRefused IsComparable c.source f h still
stop-refuses Audit c f h still = refused-source IsSimulateRefused IsAccepted c.source f h still
stop-refuses Run c (fault.Line line column f) h still = if-known c.source.left.before _ (λ xs n. refl)
stop-refuses Run c (fault.NotEnabled line) h still = if-known c.source.left.before _ (λ xs n. refl)
stop-refuses Run c (fault.NotTwo line) h still = if-known c.source.left.before _ (λ xs n. refl)
stop-refuses Run c (fault.Compile policy f) h still = if-known c.source.left.before _ (λ xs n. refl)
stop-refuses Run c (fault.Emit policy f) h still = if-known c.source.left.before _ (λ xs n. refl)
stop-refuses Run c fault.Read h still = absurd (still h)
stop-refuses Run c fault.Net h still = known-more _ _ c.source.left.before (λ xs accepted n. absurd (n accepted)) h.read.bytes
stop-refuses Run c fault.NoThread h still = known-more _ _ c.source.left.before (λ xs accepted n. absurd (n accepted)) h.read.bytes
stop-refuses Run c fault.Report h still = absurd h
stop-refuses Run c fault.Usage h still = absurd h
stop-refuses Watch c (fault.Line line column f) h still = if-known c.source.left.before _ (λ xs n. refl)
stop-refuses Watch c (fault.NotEnabled line) h still = if-known c.source.left.before _ (λ xs n. refl)
stop-refuses Watch c (fault.NotTwo line) h still = if-known c.source.left.before _ (λ xs n. refl)
stop-refuses Watch c (fault.Compile policy f) h still = if-known c.source.left.before _ (λ xs n. refl)
stop-refuses Watch c (fault.Emit policy f) h still = if-known c.source.left.before _ (λ xs n. refl)
stop-refuses Watch c fault.Read h still = absurd (still h)
stop-refuses Watch c fault.Net h still = known-more _ _ c.source.left.before (λ xs accepted n. absurd (n accepted)) h.read.bytes
stop-refuses Watch c fault.NoThread h still = known-more _ _ c.source.left.before (λ xs accepted n. absurd (n accepted)) h.read.bytes
stop-refuses Watch c fault.Report h still = absurd h
stop-refuses Watch c fault.Usage h still = absurd h
stop-refuses (Drive n) c (fault.Line line column f) h still = if-known c.source.left.before _ (λ xs m. refl)
stop-refuses (Drive n) c (fault.NotEnabled line) h still = if-known c.source.left.before _ (λ xs m. refl)
stop-refuses (Drive n) c (fault.NotTwo line) h still = if-known c.source.left.before _ (λ xs m. refl)
stop-refuses (Drive n) c (fault.Compile policy f) h still = if-known c.source.left.before _ (λ xs m. refl)
stop-refuses (Drive n) c (fault.Emit policy f) h still = if-known c.source.left.before _ (λ xs m. refl)
stop-refuses (Drive n) c fault.Read h still = absurd (still h)
stop-refuses (Drive n) c fault.Net h still = known-more _ _ c.source.left.before (λ xs accepted m. absurd (m accepted)) h.read.bytes
stop-refuses (Drive n) c fault.NoThread h still = known-more _ _ c.source.left.before (λ xs accepted m. absurd (m accepted)) h.read.bytes
stop-refuses (Drive n) c fault.Report h still = known-more _ _ c.source.left.before (λ xs accepted m. absurd (m accepted)) h.read.bytes
stop-refuses (Drive n) c fault.Usage h still = absurd h
stop-refuses (Generate n) c f h still = absurd h

stop-meant : {Q : Type 0} (Takes : Command → Type 0) (c : Called Q) (k : Command) (f : Fault) → Takes k → Asks k c.words → IsStop k c f → IsMeant Takes c (status_of f) (fault_text f)
stop-meant Takes c k f takes asks stop = record {
  due = stop-due Takes c k f takes asks stop (not-usage k c f stop);
  written = written-fault f;
  reads = stop-reads k c f stop;
  no_command = λ n. absurd (n (k, takes, asks));
  complete = λ j t asks' free. absurd (free f (subst (λ (l : Command). IsStop l c f) (one_command_asked k j c.words asks asks') stop));
  refuses = λ j t reads asks' still. stop-refuses j c f (one-command k j c (λ l. IsStop l c f) asks asks' stop) still;
}

usage-meant : {Q : Type 0} (Takes : Command → Type 0) (c : Called Q) → ¬ (IsLine Takes c.words) → IsSame c.source.faults → IsMeant Takes c status.Usage (fault_text fault.Usage)
usage-meant Takes c n same = record {
  due = record { other = n; line = refl };
  written = written-fault fault.Usage;
  reads = λ _. same;
  no_command = λ _. refl;
  complete = λ j t asks free. absurd (n (j, t, asks));
  refuses = λ j t reads asks still. absurd (n (j, t, asks));
}

-- ---- the call

no-write : (s : Status) → s ≡ status.Memory → s ≡ status.WriteFault → ⊥
no-write s e f = absurd (cc)

said-whole : {Q : Type 0} (Takes : Command → Type 0) (c : Called Q) (d : Status) (text : List ℕ) → IsMeant Takes c d text → TakesAtMost 4194305 c.source.left.before c.source.left.after → Appends c.sink.written.before c.sink.written.after text → IsSame c.sink.faults → IsCall Takes c d
said-whole Takes c d text m most w same = record {
  wrote = λ _ _. record { text = text; due = m.due; written = w };
  write_fault = λ e. absurd (m.written e);
  prefix = λ e. absurd (m.written e);
  reads = λ n _. m.reads n;
  writes = λ _. same;
  taken = most;
  no_command = λ n. inl (inl (m.no_command n));
  complete = λ k t asks free _. inl (m.complete k t asks free);
  refuses = λ k t reads asks still _. known-more _ _ c.source.left.before (λ xs f n. inl (f n)) (m.refuses k t reads asks still);
}

said-cut : {Q : Type 0} (Takes : Command → Type 0) (c : Called Q) (d : Status) (text : List ℕ) → IsMeant Takes c d text → TakesAtMost 4194305 c.source.left.before c.source.left.after → AppendsPrefix c.sink.written.before c.sink.written.after text → HasRisen c.sink.faults → IsCall Takes c status.WriteFault
said-cut Takes c d text m most w rose = record {
  wrote = λ n _. absurd (n refl);
  write_fault = λ _. rose;
  prefix = λ _. record { due = d; prefix = record { text = text; due = m.due; written = w } };
  reads = λ _ n. absurd (n refl);
  writes = λ n. absurd (n refl);
  taken = most;
  no_command = λ _. inl (inr refl);
  complete = λ k t asks free n. absurd (n rose);
  refuses = λ k t reads asks still n. absurd (n rose);
}

said : {Q : Type 0} (Takes : Command → Type 0) (c : Called Q) (d s : Status) (text : List ℕ) → IsMeant Takes c d text → TakesAtMost 4194305 c.source.left.before c.source.left.after → Says d text s c.sink → IsCall Takes c s
said Takes c d s text m most (whole is w same) = subst (λ (x : Status). IsCall Takes c x) (sym is) (said-whole Takes c d text m most w same)
said Takes c d s text m most (cut is w rose) = subst (λ (x : Status). IsCall Takes c x) (sym is) (said-cut Takes c d text m most w rose)

-- without memory nothing was written
unsaid : {Q : Type 0} (Takes : Command → Type 0) (c : Called Q) (s : Status) → IsSame c.source.faults → TakesAtMost 4194305 c.source.left.before c.source.left.after → IsUnsaid s c.sink → IsCall Takes c s
unsaid Takes c s same most u = record {
  wrote = λ _ n. absurd (n u.memory);
  write_fault = λ e. absurd (no-write s u.memory e);
  prefix = λ e. absurd (no-write s u.memory e);
  reads = λ _ _. same;
  writes = λ _. u.faultless;
  taken = most;
  no_command = λ _. inr u.memory;
  complete = λ k t asks free _. inr u.memory;
  refuses = λ k t reads asks still _. if-known c.source.left.before _ (λ xs n. inr u.memory);
}

-- a fault with values to show is no failed read
shown-read : (f : Fault) → HasValues f → status_of f ≢ status.ReadFault
shown-read (fault.Line line column f) v e = absurd (cc)
shown-read (fault.NotEnabled line) v e = absurd (cc)
shown-read (fault.NotTwo line) v e = absurd (cc)
shown-read (fault.Compile policy f) v e = absurd (cc)
shown-read (fault.Emit policy f) v e = absurd (cc)
shown-read fault.Read v e = absurd v
shown-read fault.Net v e = absurd v
shown-read fault.NoThread v e = absurd v
shown-read fault.Report v e = absurd v
shown-read fault.Usage v e = absurd v

-- the fault's line, or nothing if its line takes memory
said-fault : {Q : Type 0} (Takes : Command → Type 0) (c : Called Q) (f : Fault) (s : Status) → IsMeant Takes c (status_of f) (fault_text f) → TakesAtMost 4194305 c.source.left.before c.source.left.after → Says (status_of f) (fault_text f) s c.sink ⊎ (HasValues f × IsUnsaid s c.sink) → IsCall Takes c s
said-fault Takes c f s m most (inl w) = said Takes c (status_of f) s (fault_text f) m most w
said-fault Takes c f s m most (inr u) = unsaid Takes c s (m.reads (shown-read f u.0)) most u.1

by-command : {Q : Type 0} (Takes : Command → Type 0) (c : Called Q) (k : Command) (r : Result Answer AnswerError) (s : Status) → Takes k → Asks k c.words → (¬ (IsReader k) → IsSame c.source.faults) → AnswersTo k c r → TakesAtMost 4194305 c.source.left.before c.source.left.after → SaysAnswer r s c.sink → IsCall Takes c s
by-command Takes c k (Ok a) s takes asks other to most w = said Takes c a.status s a.text (report-meant Takes c k a.status a.text takes asks other to) most w
by-command Takes c k (Err (error.Fault f)) s takes asks other to most w = said-fault Takes c f s (stop-meant Takes c k f takes asks to) most w
by-command Takes c k (Err error.Memory) s takes asks other to most w = unsaid Takes c s to most w

pub is_call : {Q : Type 0} (Takes : Command → Type 0) (c : Called Q) (r : Result Answer AnswerError) (s : Status) → AnswersWords Takes c r → TakesAtMost 4194305 c.source.left.before c.source.left.after → SaysAnswer r s c.sink → IsCall Takes c s
is_call Takes c r s (by k takes asks to other) most w = by-command Takes c k r s takes asks other to most w
is_call Takes c r s (none other is same) most w = said-fault Takes c fault.Usage s (usage-meant Takes c other same) most (subst (λ (x : Result Answer AnswerError). SaysAnswer x s c.sink) is w)
is_call Takes c r s (memory is same) most w = unsaid Takes c s same most (subst (λ (x : Result Answer AnswerError). SaysAnswer x s c.sink) is w)
