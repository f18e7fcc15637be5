-- What the faults of a drive need: the count of the object that was handed in.
use Rattle.std.specs.Prelude.{◌≡◌, ℕ, ◌≤◌, Result, Ok, Err}
use Rattle.outside_io.specs.Causes.{Rose}
use Rattle.drive_workers.specs.declared.fault.DriveError.{DriveError}
use Rattle.drive_workers.specs.declared.fault.DriveError.TheVariants.{Fault, Memory}
use Rattle.drive_workers.specs.declared.fault.DriveFault.TheVariants.{Net, NoThread, Report}

-- A fault of the reporter raised its count, and nothing else changed it.
abbrev pub AskCause : {T : Type 0} → ℕ → ℕ → Result T DriveError → Type 0
AskCause before now (Ok x) = now ≡ before
AskCause before now (Err (Fault Report)) = (before ≤ now) × Rose before now
AskCause before now (Err Memory) = now ≡ before
AskCause before now (Err (Fault NoThread)) = ⊥
AskCause before now (Err (Fault Net)) = ⊥

-- A thread that could not be made raised the spawner's count, which never falls. Else it is out of memory.
abbrev pub StartsAs : {T : Type 0} → ℕ → ℕ → Result T DriveError → Type 0
StartsAs before now (Ok x) = before ≤ now
StartsAs before now (Err (Fault NoThread)) = (before ≤ now) × Rose before now
StartsAs before now (Err Memory) = before ≤ now
StartsAs before now (Err (Fault Report)) = ⊥
StartsAs before now (Err (Fault Net)) = ⊥

-- Threads and reports: each fault raised the count of its object, and none falls.
pub record RunCause {T : Type 0} (starts starts_now reports reports_now : ℕ) (result : Result T DriveError) : Type 0
  where
    pub threads : starts ≤ starts_now
    pub reporter : reports ≤ reports_now
    pub no_thread : result ≡ Err (Fault NoThread) → Rose starts starts_now
    pub report : result ≡ Err (Fault Report) → Rose reports reports_now
    pub net : ¬ (result ≡ Err (Fault Net))

-- The same, and a port that could not be opened raised the net's count.
pub record DriveCause {T : Type 0} (nets nets_now starts starts_now reports reports_now : ℕ)
    (result : Result T DriveError) : Type 0 where
  pub net : result ≡ Err (Fault Net) → Rose nets nets_now
  pub no_thread : result ≡ Err (Fault NoThread) → Rose starts starts_now
  pub report : result ≡ Err (Fault Report) → Rose reports reports_now
