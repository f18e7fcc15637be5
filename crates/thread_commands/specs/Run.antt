-- What `nkctl run` answers: the report of a run of a document's policies, with a worker for each session and each
-- switch.
use Rattle.std.specs.Prelude.{◌≡◌, ◌≢◌, ℕ, ◌+◌, ◌-◌, ◌^◌, ◌≤◌, min, ltb, Bool, false, List, [], ◌∷◌, ◌++◌, length, map}
use Rattle.std.specs.Prelude.{reverse, None, Option, Some, IfSome, is_some}
use Rattle.std.specs.List.{filter}
use Rattle.nk_values.specs.Members.{IsIn}
use Rattle.document_text.specs.declared.document.PacketLine.{PacketLine}
use Rattle.document_text.specs.Documents.{Doc}
use Rattle.policy_rows.specs.declared.version.Version.{Version}
use Rattle.watch_text.specs.Reports.{IsWorldReport}
use Rattle.world_journal.specs.Side.{Side}
use Rattle.value_text.specs.declared.fault.Fault.{Fault}
use Rattle.value_text.specs.declared.fault.Fault.TheVariants as fault
use Rattle.worker_desk.specs.Streams.{TellsAt}
use Rattle.world_core.specs.declared.event.Event.{Event}
use Rattle.world_core.specs.declared.event.Event.TheVariants as event
use Rattle.world_core.specs.declared.event.ControllerEvent.TheVariants as of_controller
use Rattle.world_core.specs.Laws.{AreGood, losses}
use Rattle.world_core.specs.Steps.{Runs, Step}
use Rattle.world_core.specs.Worlds.{WorldValue}
use Rattle.world_journal.specs.declared.line.Line.{Line}
use Rattle.world_journal.specs.Arriving.{AreSpent, HaveAllCome, IsLast}
use Rattle.world_journal.specs.Journals.{told}
use Rattle.program_answer.specs.declared.answer.Answer.{Answer}
use Rattle.program_answer.specs.declared.answer.AnswerError.{AnswerError}
use Rattle.program_answer.specs.declared.answer.AnswerError.TheVariants as error
use Rattle.program_answer.specs.declared.status.Status.{Status}
use Rattle.program_answer.specs.Answers.{Reads, StopsBy}
use Rattle.program_answer.specs.Called.{Change, HasRisen, IsSame, NetSeen, SourceSeen}
use Rattle.program_answer.specs.Input.{IsAccepted, IsAcceptedAs, IsInputRefused}
use Rattle.program_answer.specs.Statuses.{report_status}
use Rattle.program_answer.specs.Worlds.{start_of}

-- the packet of a line of the document
abbrev pub line_of : PacketLine → Line
line_of l = record { packet = l.packet; tag = l.tag }

abbrev pub lines_of : Doc → List Line
lines_of d = map line_of d.packets

-- ---- the ends that were given back

-- After the streams that a net told before, it told such ones since. What was not known then is not known now.
pub record ToldSince (before : Option (List (List ℕ))) (all : List (List ℕ)) (AreSuch : List (List ℕ) → Type 0) : Type
    0 where
  pub earlier : List (List ℕ)
  pub since : List (List ℕ)
  pub known : before ≡ Some earlier
  pub told : all ≡ earlier ++ since
  pub such : AreSuch since

-- the same, where the net tells streams at all
abbrev pub AreToldSince : Change (Option (List (List ℕ))) → (List (List ℕ) → Type 0) → Type 0
AreToldSince gathered AreSuch = IfSome gathered.after (λ all. ToldSince gathered.before all AreSuch)

-- The first of these streams has after k messages what `got` spells, or a fault at which these bytes are held.
abbrev pub HasNext : ℕ → List ℕ → List (List ℕ) → Type 0
HasNext k got [] = ⊥
HasNext k got (stream ∷ streams) = TellsAt stream k got

-- these streams are what these ends received, the last end first
abbrev pub AreStreams : {E : Type 0} → (E → Option (List ℕ)) → List E → List (List ℕ) → Type 0
AreStreams received ends streams = map Some streams ≡ map received (reverse ends)

-- What these ends received was told since, the last end first.
abbrev pub AreGathered : {E : Type 0} → (E → Option (List ℕ)) → List E → Change (Option (List (List ℕ))) → Type 0
AreGathered {E} received ends gathered = AreToldSince gathered (AreStreams received ends)

-- how many of these ends had failed
abbrev pub many_broken : {E : Type 0} → (E → ℕ) → List E → ℕ
many_broken {E} faults ends = length (filter (λ (e : E). ltb 0 (faults e)) ends)

-- ---- the run

-- a count rose by as much, or stands at its greatest value
abbrev pub HasRisenBy : ℕ → Change ℕ → Type 0
HasRisenBy n count = min (count.before + n) (2 ^ 64 - 1) ≤ count.after

-- A loss by which the updates halt comes after as many others as the document lets return.
abbrev pub HaltsLast : Doc → List Version → Type 0
HaltsLast d versions = (before : List Event) (v x : WorldValue) (s : ℕ) → Runs (start_of d versions) before v →
    Step v (event.Controller (of_controller.Lost s)) x → x.fleet.control.halt ≢ None →
    losses before ≡ d.settings.rejoins

-- The events lead from the start of the document's policies to this world, and each packet that came in is handled by
-- one policy. Each line came in once and no copy may take another hop, also if the updates are halted. If they are not,
-- the last policy handles all packets and none before it drains. Each lost session cost a broken end: the net's count
-- of these rose by as many. The updates are halted by a lost session only if as many as the document lets return were
-- lost before it. Foreign bytes came next in the first stream that the net told in this call, after as many messages as
-- that side of the switch was told before in its session. They halt, so their end is kept last and given back first. A
-- net tells no names of ends, so none is said.
pub record IsRunBy (events : List Event) (world : WorldValue) (net : NetSeen) (d : Doc) (versions : List Version) :
    Type 0 where
  pub runs : Runs (start_of d versions) events world
  pub good : AreGood world
  pub came : HaveAllCome (lines_of d) world
  pub spent : AreSpent world
  pub done : is_some world.fleet.control.halt ≡ false → IsLast world
  pub lost : (s : ℕ) → IsIn events (event.Controller (of_controller.Lost s)) → HasRisen net.broken
  pub costs : HasRisenBy (losses events) net.broken
  pub last : HaltsLast d versions
  pub foreign : (before rest : List Event) (s : ℕ) (side : Side) (got : List ℕ) →
      events ≡ before ++ event.Foreign s side got ∷ rest → AreToldSince net.gathered (HasNext (told s side before) got)

-- The text is the report of a run of the document's policies and of the world that it led to; `halts` says whether the
-- updates are halted there.
pub record IsRunOf (halts : Bool) (net : NetSeen) (d : Doc) (versions : List Version) (text : List ℕ) : Type 0 where
  pub events : List Event
  pub world : WorldValue
  pub run : IsRunBy events world net d versions
  pub ends : is_some world.fleet.control.halt ≡ halts
  pub text_is : IsWorldReport world events text

-- ---- of a source

-- The bytes are accepted, and the text is the report of a run of their policies.
pub record IsRun (halts : Bool) (net : NetSeen) (xs text : List ℕ) : Type 0 where
  pub document : Doc
  pub versions : List Version
  pub accepted : IsAcceptedAs xs document versions
  pub run : IsRunOf halts net document versions text

-- The source was read to its end, and the text is the report of a run: Halted if the updates are halted, and Done if
-- not.
pub record IsRunAnswer (source : SourceSeen) (net : NetSeen) (status : Status) (text : List ℕ) : Type 0 where
  pub halts : Bool
  pub status_is : status ≡ report_status halts
  pub read : Reads (λ xs. IsRun halts net xs text) source

-- The source was read to its end, its document is accepted, and then a count rose: that of pairs, or that of threads.
pub record IsCut (source : SourceSeen) (count : Change ℕ) : Type 0 where
  pub read : Reads IsAccepted source
  pub rose : HasRisen count

-- why it stops: as every command does, or for a pair or a thread that could not be made
abbrev pub RunStopsBy : SourceSeen → Change ℕ → Change ℕ → Fault → Type 0
RunStopsBy source pairs threads fault.Net = IsCut source pairs
RunStopsBy source pairs threads fault.NoThread = IsCut source threads
RunStopsBy source pairs threads fault.Report = StopsBy IsInputRefused source fault.Report
RunStopsBy source pairs threads fault.Read = StopsBy IsInputRefused source fault.Read
RunStopsBy source pairs threads fault.Usage = StopsBy IsInputRefused source fault.Usage
RunStopsBy source pairs threads (fault.Line line column f) = StopsBy IsInputRefused source (fault.Line line column f)
RunStopsBy source pairs threads (fault.NotEnabled line) = StopsBy IsInputRefused source (fault.NotEnabled line)
RunStopsBy source pairs threads (fault.NotTwo line) = StopsBy IsInputRefused source (fault.NotTwo line)
RunStopsBy source pairs threads (fault.Compile policy f) = StopsBy IsInputRefused source (fault.Compile policy f)
RunStopsBy source pairs threads (fault.Emit policy f) = StopsBy IsInputRefused source (fault.Emit policy f)

-- the same, if it is not out of memory, before which no read failed
abbrev pub RunStops : SourceSeen → Change ℕ → Change ℕ → AnswerError → Type 0
RunStops source pairs threads (error.Fault f) = RunStopsBy source pairs threads f
RunStops source pairs threads error.Memory = IsSame source.faults

-- ---- of a document, as the calls tell it

-- which count rose; nothing is said of memory
abbrev pub TellsCut : Change ℕ → Change ℕ → AnswerError → Type 0
TellsCut pairs threads error.Memory = Unit {0}
TellsCut pairs threads (error.Fault fault.Net) = HasRisen pairs
TellsCut pairs threads (error.Fault fault.NoThread) = HasRisen threads
TellsCut pairs threads (error.Fault fault.Report) = ⊥
TellsCut pairs threads (error.Fault fault.Read) = ⊥
TellsCut pairs threads (error.Fault fault.Usage) = ⊥
TellsCut pairs threads (error.Fault (fault.Line line column f)) = ⊥
TellsCut pairs threads (error.Fault (fault.NotEnabled line)) = ⊥
TellsCut pairs threads (error.Fault (fault.NotTwo line)) = ⊥
TellsCut pairs threads (error.Fault (fault.Compile policy f)) = ⊥
TellsCut pairs threads (error.Fault (fault.Emit policy f)) = ⊥
