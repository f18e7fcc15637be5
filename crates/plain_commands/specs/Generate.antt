-- What `nkctl generate` answers: the line of a number's workload.
use Rattle.std.specs.Prelude.{◌≡◌, ℕ, List}
use Rattle.report_text.specs.Generated.{IsGeneratedText}
use Rattle.program_answer.specs.declared.status.Status.{Status}
use Rattle.program_answer.specs.declared.status.Status.TheVariants.{Done}
use Rattle.workload_gen.specs.Laws.{IsRunOf}
use Rattle.world_core.specs.declared.event.Event.{Event}
use Rattle.world_core.specs.Worlds.{WorldValue}

-- The number's document was driven to its end by drawn events: the text counts its switches, policies and packets,
-- these events, and the histories that were finished.
pub record IsWorkload (n : ℕ) (text : List ℕ) : Type 0 where
  pub packets : ℕ
  pub world : WorldValue
  pub events : List Event
  pub run : IsRunOf n packets world events
  pub text_is : IsGeneratedText packets world events text

-- The text is the line of the number's workload. It takes no source.
pub record IsGenerateAnswer (n : ℕ) (status : Status) (text : List ℕ) : Type 0 where
  pub status_is : status ≡ Done
  pub workload : IsWorkload n text
