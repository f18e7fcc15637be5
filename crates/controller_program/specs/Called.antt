-- What a call was: its words, and of all that was handed in what was seen before the call and after it.
use Rattle.std.specs.Prelude.{ℕ, List, String}
use Rattle.std.specs.declared.alloc.Global.{Global}
use Rattle.program_answer.specs.Called.{Change, NetSeen, SinkSeen, SourceSeen}

-- a reporter of drains: how often it failed, and the stamps that its reports name
pub record ReporterSeen (Q : Type 0) : Type 0 where
  pub faults : Change ℕ
  pub stamped : Q → ℕ

abbrev pub reporter_of : {Q : Type 0} → (Q → ℕ) → Change ℕ → ReporterSeen Q
reporter_of stamped faults = record { faults = faults; stamped = stamped }

-- a call: its words, its source, its sink, its net, how often a thread could not be made, and its reporter, which makes
-- reports Q
pub record Called (Q : Type 0) : Type 0 where
  pub words : List (String Global)
  pub source : SourceSeen
  pub sink : SinkSeen
  pub net : NetSeen
  pub threads : Change ℕ
  pub reporter : ReporterSeen Q

abbrev pub called : {Q : Type 0} → List (String Global) → SourceSeen → SinkSeen → NetSeen → Change ℕ → ReporterSeen Q →
    Called Q
called words source sink net threads reporter =
    record { words = words; source = source; sink = sink; net = net; threads = threads; reporter = reporter }
