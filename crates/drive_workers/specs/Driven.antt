-- What comes of a drive.
use Rattle.std.specs.Prelude.{◌≡◌, ℕ, List, map}
use Rattle.nk_values.specs.Members.{IsIn}
use Rattle.outside_io.specs.Causes.{Rose}
use Rattle.update_coordinator.specs.Controls.{Control}
use Rattle.drive_journal.specs.declared.steering.Steering.{Steering}
use Rattle.drive_journal.specs.declared.steering.Steering.TheVariants.{Lost}
use Rattle.drive_journal.specs.Drives.{IsOver}
use Rattle.drive_journal.specs.Journals.{AreWritable, stamps_of}
use Rattle.drive_journal.specs.Steering.{Drives}

-- The journal leads from the start to this coordinator, which has halted or has the last policy handle all packets.
-- Each drain was reported, each message of the journal can be written, and a session is lost only if the net's count of
-- broken ends rose.
pub record IsDriven {Q : Type 0} (stamped : Q → ℕ) (before now : ℕ) (start control : Control) (journal : List Steering)
    : Type 0 where
  pub runs : Drives start journal control
  pub over : IsOver control
  pub reports : List Q
  pub drains : map stamped reports ≡ stamps_of journal
  pub writable : AreWritable journal
  pub lost : (s : ℕ) → IsIn journal (Lost s) → Rose before now
