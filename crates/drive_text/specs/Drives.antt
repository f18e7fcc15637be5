-- The texts of drives.
use Rattle.std.specs.Prelude.{ℕ, List, [], ◌++◌, Option, codes}
use Rattle.std.specs.Fmt.{decimal}
use Rattle.std.specs.List.{flat_map}
use Rattle.event_words.specs.declared.word.EventWord.TheVariants as word
use Rattle.event_words.specs.Words.{text_of}
use Rattle.openflow_wire.specs.declared.message.Message.{Message}
use Rattle.openflow_wire.specs.Writing.{written}
use Rattle.topology_model.specs.declared.line.DeclaredSwitch.{DeclaredSwitch}
use Rattle.update_coordinator.specs.declared.cause.Cause.{Cause}
use Rattle.update_coordinator.specs.declared.phase.Phase.{Phase}
use Rattle.drive_journal.specs.declared.steering.Steering.{Steering}
use Rattle.drive_journal.specs.declared.steering.Steering.TheVariants.{Begin, Send, Heard, Drained, Lost, Garbled}
use Rattle.report_text.specs.Causes.{bytes_text, fault_number, state_text}
use Rattle.report_text.specs.Events.{number_at, worded}
use Rattle.value_text.specs.Values.{line}

-- ` HEX`, the bytes of a message
abbrev pub message_text : Message → List ℕ
message_text m = codes " " ++ bytes_text (written m)

-- an event, with its switch by number
abbrev pub steering_text : List DeclaredSwitch → Steering → List ℕ
steering_text switches Begin = text_of word.Begin
steering_text switches (Send s m) = worded word.Send (number_at switches s ++ message_text m)
steering_text switches (Heard s m) = worded word.Heard (number_at switches s ++ message_text m)
steering_text switches (Drained v) = worded word.Drained (decimal v)
steering_text switches (Lost s) = worded word.Lost (number_at switches s)
steering_text switches (Garbled s f) =
    worded word.Garbled (number_at switches s ++ (codes " " ++ decimal (fault_number f)))

-- the line of an event
abbrev pub steering_line : List DeclaredSwitch → Steering → List ℕ
steering_line switches e = line (codes "e " ++ steering_text switches e)

-- events, a line each
abbrev pub steerings_text : List DeclaredSwitch → List Steering → List ℕ
steerings_text switches journal = flat_map (steering_line switches) journal

-- The text of a drive, in which no drains overlap: its events, the phase, and why the updates are halted.
abbrev pub drive_text : List DeclaredSwitch → List Steering → Phase → Option Cause → List ℕ
drive_text switches journal ph halt = steerings_text switches journal ++ state_text [] [] ph halt
