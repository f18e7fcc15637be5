-- Simulations, as the calls tell them.
use Rattle.std.proofs.Common.{◌≡◌, ℕ, List, refl, sym, ap, ◌∙◌, inl, inr, subst, Result, Ok, Err, IfOk, IfErr}
use Rattle.document_text.specs.declared.document.Document.{Document}
use Rattle.document_text.specs.declared.document.PacketLine.{PacketLine}
use Rattle.document_text.specs.declared.document.ScheduleLine.{ScheduleLine}
use Rattle.document_text.specs.Answers.{doc_of}
use Rattle.outside_io.specs.Lists.{TakesFirst}
use Rattle.policy_rows.specs.declared.version.Version.{Version}
use Rattle.report_text.specs.Fault.{Fault}
use Rattle.world_core.specs.declared.event.Event.{Event}
use Rattle.world_core.specs.Laws.{EveryRunIsGood}
use Rattle.world_core.specs.declared.settings.Settings.{Settings}
use Rattle.world_core.specs.Worlds.{WorldValue, IsKept, initial_world}
use Rattle.program_answer.specs.declared.answer.Answer.{Answer}
use Rattle.program_answer.specs.declared.answer.AnswerError.{AnswerError}
use Rattle.program_answer.specs.declared.answer.AnswerError.TheVariants as error
use Rattle.program_answer.specs.Answers.{Reads, Stops, StopsBy}
use Rattle.program_answer.specs.Called.{SourceSeen}
use Rattle.program_answer.specs.Input.{IsAcceptedAs, IsInputRefused}
use Rattle.program_answer.specs.Worlds.{start_of, world_settings}
use Rattle.program_answer.proofs.Stopping.{known_more, reads_more, stops_more}
use Rattle.plain_commands.specs.Schedules.{CarriedOut}
use Rattle.plain_commands.specs.Simulate.{IsOutcomeOf, IsSimulateAnswer, IsSimulateRefused}
use Rattle.plain_commands.specs.Told.{IsSimulatedAs, TellsStop, TellsStopIn}
use Rattle.plain_commands.proofs.Scheduling.{carried-runs}

-- the world that the call made is the document's
pub record Starts (d : Document) (versions : List Version) (w : WorldValue) (packets : List PacketLine) (schedule : List ScheduleLine) : Type 0 where
  pub world : w ≡ start_of (doc_of d) versions
  pub kept : IsKept w
  pub runs : EveryRunIsGood w
  pub packets_are : packets ≡ d.packets.items
  pub schedule_is : schedule ≡ d.schedule.items

pub came : (d : Document) (versions : List Version) (w : WorldValue) (packets : List PacketLine) (schedule : List ScheduleLine) (events : List Event) (world : WorldValue) → Starts d versions w packets schedule → CarriedOut w.topology.switches packets w schedule events world → IsOutcomeOf (doc_of d) versions events world
came d versions w packets schedule events world s r =
    let there = subst (λ (ls : List ScheduleLine). CarriedOut w.topology.switches d.packets.items w ls events world) s.schedule_is (subst (λ (ps : List PacketLine). CarriedOut w.topology.switches ps w schedule events world) s.packets_are r) in
    let done = subst (λ (x : WorldValue). CarriedOut x.topology.switches d.packets.items x d.schedule.items events world) s.world there in
    record {
      kept = subst IsKept s.world s.kept;
      done = done;
      runs = carried-runs d.topology.switches d.packets.items (start_of (doc_of d) versions) d.schedule.items events world done;
      good = s.runs events world (carried-runs w.topology.switches packets w schedule events world r);
    }

pub starts : (d : Document) (versions : List Version) (w : WorldValue) (settings : Settings) (packets : List PacketLine) (schedule : List ScheduleLine) → w ≡ initial_world d.topology versions settings → settings ≡ world_settings d.settings → IsKept w → EveryRunIsGood w →
    packets ≡ d.packets.items → schedule ≡ d.schedule.items → Starts d versions w packets schedule
starts d versions w settings packets schedule a b k r p l = record { world = a ∙ ap (λ (x : Settings). initial_world d.topology versions x) b; kept = k; runs = r; packets_are = p; schedule_is = l }

pub stopped : (d : Document) (versions : List Version) (w : WorldValue) (packets : List PacketLine) (schedule : List ScheduleLine) (x : AnswerError) → Starts d versions w packets schedule → TellsStop w.topology.switches packets w schedule x → TellsStopIn d versions x
stopped d versions w packets schedule error.Memory s h = tt
stopped d versions w packets schedule (error.Fault f) s h =
    let there = subst (λ (y : WorldValue). TellsStop y.topology.switches d.packets.items y d.schedule.items (error.Fault f)) s.world
    (subst (λ (ls : List ScheduleLine). TellsStop w.topology.switches d.packets.items w ls (error.Fault f)) s.schedule_is (subst (λ (ps : List PacketLine). TellsStop w.topology.switches ps w schedule (error.Fault f)) s.packets_are h)) in
    (there.0, there.1, record { kept = subst IsKept s.world s.kept; stops = there.2 })

-- ---- of a source

pub simulate_answers : (s : SourceSeen) (d : Document) (versions : List Version) (r : Result Answer AnswerError) → Reads (λ xs. IsAcceptedAs xs (doc_of d) versions) s → IfOk r (IsSimulatedAs d versions) → IfOk r (λ a. IsSimulateAnswer s a.status a.text)
simulate_answers s d versions (Ok a) read h = record {
  halts = h.halts;
  status_is = h.status;
  read = reads_more _ _ s (λ xs accepted. record { document = doc_of d; versions = versions; accepted = accepted; simulation = h.simulation }) read;
}
simulate_answers s d versions (Err x) read h = tt

stops-told : (s : SourceSeen) (d : Document) (versions : List Version) (x : AnswerError) → TakesFirst 4194305 s.left.before s.left.after → Reads (λ xs. IsAcceptedAs xs (doc_of d) versions) s → TellsStopIn d versions x → Stops IsSimulateRefused s x
stops-told s d versions error.Memory taken read h = read.faultless
stops-told s d versions (error.Fault f) taken read h = subst (λ (g : Fault). StopsBy IsSimulateRefused s g) (sym h.1) (record {
  taken = taken;
  faultless = read.faultless;
  bytes = known_more _ _ s.left.before (λ xs accepted. inr (record { document = doc_of d; versions = versions; accepted = accepted; line = h.0; is = refl; stops = h.2 })) read.bytes;
})

pub simulate_stops : (s : SourceSeen) (d : Document) (versions : List Version) (r : Result Answer AnswerError) → TakesFirst 4194305 s.left.before s.left.after → Reads (λ xs. IsAcceptedAs xs (doc_of d) versions) s → IfErr r (TellsStopIn d versions) → IfErr r (Stops IsSimulateRefused s)
simulate_stops s d versions (Ok a) taken read h = tt
simulate_stops s d versions (Err x) taken read h = stops-told s d versions x taken read h

pub refuses_more : (s : SourceSeen) (e : AnswerError) → Stops IsInputRefused s e → Stops IsSimulateRefused s e
refuses_more s e r = stops_more IsInputRefused IsSimulateRefused (λ xs f h. inl h) s e r
