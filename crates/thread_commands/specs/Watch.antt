-- What `nkctl watch` answers: the report of a run, and what one reader saw of it meanwhile.
use Rattle.std.specs.Prelude.{◌≡◌, ℕ, Bool, List, ◌++◌, is_some}
use Rattle.document_text.specs.Documents.{Doc}
use Rattle.policy_rows.specs.declared.version.Version.{Version}
use Rattle.fleet_workers.specs.Watching.{AreSightsOf, Post}
use Rattle.watch_text.specs.Reads.{control_posts}
use Rattle.watch_text.specs.Reports.{IsWorldReport}
use Rattle.world_core.specs.declared.event.Event.{Event}
use Rattle.world_core.specs.Worlds.{WorldValue}
use Rattle.program_answer.specs.declared.status.Status.{Status}
use Rattle.program_answer.specs.Answers.{Reads}
use Rattle.program_answer.specs.Called.{NetSeen, SourceSeen}
use Rattle.program_answer.specs.Input.{IsAcceptedAs}
use Rattle.program_answer.specs.Statuses.{report_status}
use Rattle.program_answer.specs.declared.answer.Answer.{Answer}
use Rattle.program_answer.specs.Worlds.{IsWorldAnswer, start_of}
use Rattle.thread_commands.specs.Run.{IsRunBy}

-- The report of these events and of the world then, and after it a line for each of these posts; the status is that of
-- the report.
pub record IsSeenAnswer (w : WorldValue) (events : List Event) (posts : List Post) (a : Answer) : Type 0 where
  pub report : Answer
  pub is : IsWorldAnswer w events report
  pub status : a.status ≡ report.status
  pub text : a.text ≡ report.text ++ control_posts w.fleet.control posts

-- The text is the report of a run of the document's policies, as `run` writes it, and then a line for each post that
-- was seen of it; `halts` says whether the updates are halted at its end.
pub record IsWatchOf (halts : Bool) (net : NetSeen) (d : Doc) (versions : List Version) (text : List ℕ) : Type 0 where
  pub events : List Event
  pub world : WorldValue
  pub run : IsRunBy events world net d versions
  pub ends : is_some world.fleet.control.halt ≡ halts
  pub report : List ℕ
  pub report_is : IsWorldReport world events report
  pub posts : List Post
  pub seen : AreSightsOf (start_of d versions) events posts
  pub text_is : text ≡ report ++ control_posts world.fleet.control posts

-- The bytes are accepted, and the text is that of a watched run of their policies.
pub record IsWatch (halts : Bool) (net : NetSeen) (xs text : List ℕ) : Type 0 where
  pub document : Doc
  pub versions : List Version
  pub accepted : IsAcceptedAs xs document versions
  pub watch : IsWatchOf halts net document versions text

-- The source was read to its end, and the text is that of a watched run: Halted if the updates are halted, and Done if
-- not.
pub record IsWatchAnswer (source : SourceSeen) (net : NetSeen) (status : Status) (text : List ℕ) : Type 0 where
  pub halts : Bool
  pub status_is : status ≡ report_status halts
  pub read : Reads (λ xs. IsWatch halts net xs text) source
