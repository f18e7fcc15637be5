-- Runs, as the calls tell them.
use Rattle.std.proofs.Common.{◌≡◌, inl, inr, ℕ, ◌<◌, false, List, [], ◌∷◌, ◌++◌, map, length, Option, None, Some, is_some, refl, sym, ap, subst, ◌∙◌}
use Rattle.std.proofs.lemmas.List.{length-map}
use Rattle.nk_values.specs.Members.{IsIn}
use Rattle.document_text.specs.declared.document.Document.{Document}
use Rattle.document_text.specs.declared.document.PacketLine.{PacketLine}
use Rattle.document_text.specs.Answers.{doc_of}
use Rattle.document_text.specs.Documents.{Doc}
use Rattle.policy_rows.specs.declared.version.Version.{Version}
use Rattle.world_journal.specs.Side.{Side}
use Rattle.value_text.specs.declared.fault.Fault.TheVariants as fault
use Rattle.worker_desk.specs.Streams.{TellsWhereKnown}
use Rattle.world_core.specs.declared.event.Event.{Event}
use Rattle.world_core.specs.declared.event.Event.TheVariants as event
use Rattle.world_core.specs.declared.event.ControllerEvent.TheVariants as of_controller
use Rattle.world_core.specs.Laws.{EveryRunIsGood, HaltsStay, LossesCount, LastLossHalts, losses}
use Rattle.world_core.specs.Steps.{Runs}
use Rattle.world_core.specs.declared.settings.Settings.{Settings}
use Rattle.world_core.specs.Worlds.{WorldValue, initial_world}
use Rattle.world_journal.specs.declared.entry.Entry.{Entry}
use Rattle.world_journal.specs.declared.line.Line.{Line}
use Rattle.world_journal.specs.Arriving.{IsLast, IsOver, IsSettled}
use Rattle.world_journal.specs.Journals.{events_of, switches, told, told_before, IsJournal}
use Rattle.world_journal.proofs.Ended.{kept-cut}
use Rattle.program_answer.specs.declared.answer.Answer.{Answer}
use Rattle.program_answer.specs.declared.answer.AnswerError.{AnswerError}
use Rattle.program_answer.specs.declared.answer.AnswerError.TheVariants as error
use Rattle.program_answer.specs.Answers.{Reads, Stops}
use Rattle.program_answer.specs.Called.{Change, HasRisen, NetSeen, SourceSeen}
use Rattle.program_answer.specs.Input.{IsAccepted, IsAcceptedAs, IsInputRefused}
use Rattle.program_answer.specs.Worlds.{IsWorldAnswer, start_of, world_settings}
use Rattle.program_answer.proofs.Stopping.{reads_more}
use Rattle.fleet_workers.specs.Watching.{AreSightsOf, Post}
use Rattle.thread_commands.specs.Run.{AreGathered, AreStreams, AreToldSince, HasNext, IsRunAnswer, IsRunBy, RunStops, TellsCut, HaltsLast, HasRisenBy, line_of, lines_of, many_broken}
use Rattle.thread_commands.specs.Watch.{IsSeenAnswer, IsWatchAnswer}
use Rattle.thread_commands.proofs.Gathering.{first-is}
use Rattle.thread_commands.proofs.KeptEnds.{kept-last}
use Rattle.thread_commands.proofs.Losing.{halts-last, losses-broken, rose-fewer}

-- ---- the ends that were kept

abbrev AreCounted : {E : Type 0} → (E → ℕ) → List E → Change ℕ → Type 0
AreCounted {E} faults ends broken = (e : E) → IsIn ends e → 0 < faults e → HasRisen broken

was-lost : {E : Type 0} (named faults : E → ℕ) (received : E → Option (List ℕ)) (s0 w : WorldValue) (journal : List Entry) (ends : List E) (broken : Change ℕ) → IsJournal named faults received s0 w journal ends → AreCounted faults ends broken
    → (s : ℕ) → IsIn (events_of journal) (event.Controller (of_controller.Lost s)) → HasRisen broken
was-lost named faults received s0 w journal ends broken j counts s i =
    let k = kept-cut (switches s0) named faults received journal ends j.kept (event.Controller (of_controller.Lost s)) refl i in counts k.0 k.2 k.3.1

has-next : {E : Type 0} (received : E → Option (List ℕ)) (ends front : List E) (e : E) (k : ℕ) (got : List ℕ) (streams : List (List ℕ)) → AreStreams received ends streams → ends ≡ front ++ e ∷ [] → TellsWhereKnown (received e) k got → HasNext k got streams
has-next received ends front e k got streams h last t = let f = first-is received ends front e streams last h in subst (HasNext k got) (sym f.first) (subst (λ (r : Option (List ℕ)). TellsWhereKnown r k got) f.of t)

came-next : {E : Type 0} (received : E → Option (List ℕ)) (ends front : List E) (first now : Option (List (List ℕ))) (e : E) (k : ℕ) (got : List ℕ) → AreGathered received ends (record { before = first; after = now }) → ends ≡ front ++ e ∷ [] → TellsWhereKnown (received e) k got
    → AreToldSince (record { before = first; after = now }) (HasNext k got)
came-next received ends front first None e k got g last t = tt
came-next received ends front first (Some streams) e k got g last t = record { earlier = g.earlier; since = g.since; known = g.known; told = g.told; such = has-next received ends front e k got g.since g.such last t }

was-foreign : {E : Type 0} (named faults : E → ℕ) (received : E → Option (List ℕ)) (s0 w : WorldValue) (journal : List Entry) (ends : List E) (gathered : Change (Option (List (List ℕ)))) → HaltsStay → IsJournal named faults received s0 w journal ends → AreGathered received ends gathered
    → (before rest : List Event) (s : ℕ) (side : Side) (got : List ℕ) → events_of journal ≡ before ++ event.Foreign s side got ∷ rest → AreToldSince gathered (HasNext (told s side before) got)
was-foreign named faults received s0 w journal ends gathered stay j g before rest s side got is =
    let k = kept-last (switches s0) named faults received journal ends j.kept stay s0 w j.runs before rest s side got is in
    let many : told_before s side k.entries ≡ told s side before = ap (told s side) k.same in
    subst (λ (n : ℕ). AreToldSince gathered (HasNext n got)) many (came-next received ends k.front gathered.before gathered.after k.end (told_before s side k.entries) got g k.last k.met.1)

-- ---- the run

none-of : {X : Type 0} (o : Option X) → is_some o ≡ false → o ≡ None
none-of None e = refl
none-of (Some x) e = cc

still-last : (w : WorldValue) → is_some w.fleet.control.halt ≡ false → IsSettled w → IsLast w
still-last w still (inl halts) = absurd (halts (none-of w.fleet.control.halt still))
still-last w still (inr last) = last

all-cost : {E : Type 0} (named faults : E → ℕ) (received : E → Option (List ℕ)) (s0 w : WorldValue) (journal : List Entry) (ends : List E) (broken : Change ℕ) → IsJournal named faults received s0 w journal ends → HasRisenBy (many_broken faults ends) broken → HasRisenBy (losses (events_of journal)) broken
all-cost named faults received s0 w journal ends broken j many = rose-fewer broken.before (losses (events_of journal)) (many_broken faults ends) broken.after (losses-broken (switches s0) named faults received journal ends j.kept) many

start-rejoins : (d : Doc) (versions : List Version) (w : WorldValue) → w ≡ start_of d versions → w.fleet.control.rejoins ≡ d.settings.rejoins
start-rejoins d versions w is = ap (λ (x : WorldValue). x.fleet.control.rejoins) is

loss-halts : LossesCount → LastLossHalts → (d : Doc) (versions : List Version) → HaltsLast d versions
loss-halts counting last d versions before v x s runs lost halts = halts-last counting last (start_of d versions) before v x s runs lost halts ∙ start-rejoins d versions (start_of d versions) refl

-- what a run of threads gave is a run of the document's policies
pub ran_by : {E : Type 0} (named faults : E → ℕ) (received : E → Option (List ℕ)) (net : NetSeen) (d : Doc) (versions : List Version) (s0 w : WorldValue) (journal : List Entry) (ends : List E) (lines : List Line) (events : List Event)
    → s0 ≡ start_of d versions → EveryRunIsGood s0 → LossesCount → LastLossHalts → HaltsStay → IsJournal named faults received s0 w journal ends → AreCounted faults ends net.broken → HasRisenBy (many_broken faults ends) net.broken → AreGathered received ends net.gathered → lines ≡ lines_of d → IsOver lines w → events ≡ events_of journal → IsRunBy events w net d versions
ran_by named faults received net d versions s0 w journal ends lines events is good counting last stay j counts many g same over of =
    let done : IsOver (lines_of d) w = subst (λ (ls : List Line). IsOver ls w) same over in subst (λ (es : List Event). IsRunBy es w net d versions) (sym of) (record {
      runs = subst (λ (x : WorldValue). Runs x (events_of journal) w) is j.runs;
      good = good (events_of journal) w j.runs;
      came = done.came;
      spent = done.spent;
      done = λ still. still-last w still done.settled;
      lost = was-lost named faults received s0 w journal ends net.broken j counts;
      costs = all-cost named faults received s0 w journal ends net.broken j many;
      last = loss-halts counting last d versions;
      foreign = was-foreign named faults received s0 w journal ends net.gathered stay j g;
    })

-- one line more
pub lines_more : (ls : List PacketLine) (l : PacketLine) → map line_of (ls ++ l ∷ []) ≡ map line_of ls ++ line_of l ∷ []
lines_more [] l = refl
lines_more (x ∷ ls) l = ap (λ (xs : List Line). line_of x ∷ xs) (lines_more ls l)

-- the world that the call made is the document's
pub starts_as : (d : Document) (versions : List Version) (w : WorldValue) (settings : Settings) → w ≡ initial_world d.topology versions settings → settings ≡ world_settings d.settings → w ≡ start_of (doc_of d) versions
starts_as d versions w settings a b = a ∙ ap (λ (x : Settings). initial_world d.topology versions x) b

-- ---- of a source

pub run_answers : (s : SourceSeen) (net : NetSeen) (d : Doc) (versions : List Version) (events : List Event) (w : WorldValue) (a : Answer) → Reads (λ xs. IsAcceptedAs xs d versions) s → IsRunBy events w net d versions → IsWorldAnswer w events a → IsRunAnswer s net a.status a.text
run_answers s net d versions events w a read run h = record {
  halts = is_some w.fleet.control.halt;
  status_is = h.status;
  read = reads_more _ _ s (λ xs accepted. record { document = d; versions = versions; accepted = accepted; run = record { events = events; world = w; run = run; ends = refl; text_is = h.report } }) read;
}

pub watch_answers : (s : SourceSeen) (net : NetSeen) (d : Doc) (versions : List Version) (events : List Event) (w : WorldValue) (posts : List Post) (a : Answer)
    → Reads (λ xs. IsAcceptedAs xs d versions) s → IsRunBy events w net d versions → IsSeenAnswer w events posts a → AreSightsOf (start_of d versions) events posts → IsWatchAnswer s net a.status a.text
watch_answers s net d versions events w posts a read run h seen = record {
  halts = is_some w.fleet.control.halt;
  status_is = h.status ∙ h.is.status;
  read = reads_more _ _ s (λ xs accepted. record {
    document = d;
    versions = versions;
    accepted = accepted;
    watch = record { events = events; world = w; run = run; ends = refl; report = h.report.text; report_is = h.is.report; posts = posts; seen = seen; text_is = h.text };
  }) read;
}

-- a document is accepted whose versions are known
is-accepted : (s : SourceSeen) (d : Doc) (versions : List Version) → Reads (λ xs. IsAcceptedAs xs d versions) s → Reads IsAccepted s
is-accepted s d versions read = reads_more _ _ s (λ xs accepted. record { document = d; versions = versions; is = accepted }) read

pub cut_stops : (s : SourceSeen) (pairs threads : Change ℕ) (d : Doc) (versions : List Version) (e : AnswerError) → Reads (λ xs. IsAcceptedAs xs d versions) s → TellsCut pairs threads e → RunStops s pairs threads e
cut_stops s pairs threads d versions error.Memory read h = read.faultless
cut_stops s pairs threads d versions (error.Fault fault.Net) read h = record { read = is-accepted s d versions read; rose = h }
cut_stops s pairs threads d versions (error.Fault fault.NoThread) read h = record { read = is-accepted s d versions read; rose = h }
cut_stops s pairs threads d versions (error.Fault fault.Report) read h = absurd h
cut_stops s pairs threads d versions (error.Fault fault.Read) read h = absurd h
cut_stops s pairs threads d versions (error.Fault fault.Usage) read h = absurd h
cut_stops s pairs threads d versions (error.Fault (fault.Line line column f)) read h = absurd h
cut_stops s pairs threads d versions (error.Fault (fault.NotEnabled line)) read h = absurd h
cut_stops s pairs threads d versions (error.Fault (fault.NotTwo line)) read h = absurd h
cut_stops s pairs threads d versions (error.Fault (fault.Compile policy f)) read h = absurd h
cut_stops s pairs threads d versions (error.Fault (fault.Emit policy f)) read h = absurd h

-- what stops every command stops a run
pub input_stops : (s : SourceSeen) (pairs threads : Change ℕ) (e : AnswerError) → Stops IsInputRefused s e → RunStops s pairs threads e
input_stops s pairs threads error.Memory h = h
input_stops s pairs threads (error.Fault fault.Net) h = absurd h
input_stops s pairs threads (error.Fault fault.NoThread) h = absurd h
input_stops s pairs threads (error.Fault fault.Report) h = absurd h
input_stops s pairs threads (error.Fault fault.Read) h = h
input_stops s pairs threads (error.Fault fault.Usage) h = h
input_stops s pairs threads (error.Fault (fault.Line line column f)) h = h
input_stops s pairs threads (error.Fault (fault.NotEnabled line)) h = h
input_stops s pairs threads (error.Fault (fault.NotTwo line)) h = h
input_stops s pairs threads (error.Fault (fault.Compile policy f)) h = h
input_stops s pairs threads (error.Fault (fault.Emit policy f)) h = h
