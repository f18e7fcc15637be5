-- The lines of a schedule.
use Rattle.std.specs.Prelude.{ℕ, Bool, not, ◌&&◌, nat_le, List, [], ◌∷◌, length, Option, None, Some, if◌then◌else◌}
use Rattle.std.specs.Prelude.{Result, Ok, Err}
use Rattle.event_words.specs.declared.word.EventWord.{EventWord}
use Rattle.event_words.specs.declared.word.EventWord.TheVariants as word
use Rattle.event_words.specs.Words.{word_of}
use Rattle.nk_values.specs.declared.text_fault.TextFault.{TextFault}
use Rattle.nk_values.specs.declared.text_fault.TextFault.TheVariants.{BadLine, UnknownSwitch, ValueRange}
use Rattle.nk_values.specs.declared.field.Field.TheVariants.{Sw}
use Rattle.topology_model.specs.Layouts.{has_switch}
use Rattle.document_text.specs.declared.document.ScheduleStep.{ScheduleStep}
use Rattle.document_text.specs.declared.document.ScheduleStep.TheVariants.{Begin, Send, Take, Apply, Reply, Heard}
use Rattle.document_text.specs.declared.document.ScheduleStep.TheVariants.{Arrive, Hop, Drained, Lost, Rejoin, Stuck}
use Rattle.document_text.specs.declared.document.ScheduleStep.TheVariants.{Settle, Flow}
use Rattle.document_text.specs.States.{State}
use Rattle.document_text.specs.Packets.{is_value, is_vlan_id}
use Rattle.document_text.specs.Texts.{numeral}

-- the fault where the test holds, and else what follows
abbrev pub refused_if : {A : Type 0} → Bool → TextFault → Result A TextFault → Result A TextFault
refused_if b f r = if b then Err f else r

-- what follows a form, which has to be there
abbrev pub formed : {A B : Type 0} → Option A → (A → Result B TextFault) → Result B TextFault
formed None go = Err BadLine
formed (Some a) go = go a

-- an event of a switch, which has to be declared
abbrev pub at_switch : State → ℕ → ScheduleStep → Result ScheduleStep TextFault
at_switch s sw e =
    refused_if (not (is_value Sw sw)) ValueRange
    (refused_if (not (has_switch s.layout.switches sw)) UnknownSwitch (Ok e))

-- the place of a flow mod or a flight, from 0
abbrev pub is_index : ℕ → Bool
is_index k = nat_le k 4294967295

-- the arrival of a packet line, counted from 1
abbrev pub arrival : State → ℕ → Result ScheduleStep TextFault
arrival s n = refused_if (not (nat_le 1 n && nat_le n (length s.packets))) BadLine (Ok (Arrive n))

-- a command alone
abbrev pub event_alone : EventWord → Result ScheduleStep TextFault
event_alone word.Begin = Ok Begin
event_alone word.Settle = Ok Settle
event_alone word.Flow = Ok Flow
event_alone _ = Err BadLine

-- a command with one number
abbrev pub event_of_one : State → EventWord → ℕ → Result ScheduleStep TextFault
event_of_one s word.Send n = at_switch s n (Send n)
event_of_one s word.Take n = at_switch s n (Take n)
event_of_one s word.Reply n = at_switch s n (Reply n)
event_of_one s word.Heard n = at_switch s n (Heard n)
event_of_one s word.Lost n = at_switch s n (Lost n)
event_of_one s word.Rejoin n = at_switch s n (Rejoin n)
event_of_one s word.Arrive n = arrival s n
event_of_one s word.Hop n = refused_if (not (is_index n)) ValueRange (Ok (Hop n))
event_of_one s word.Stuck n = refused_if (not (is_index n)) ValueRange (Ok (Stuck n))
event_of_one s word.Drained n = refused_if (not (is_vlan_id n)) ValueRange (Ok (Drained n))
event_of_one s _ n = Err BadLine

-- `apply` with a switch and a place
abbrev pub event_of_two : State → EventWord → ℕ → ℕ → Result ScheduleStep TextFault
event_of_two s word.Apply sw k = refused_if (not (is_index k)) ValueRange (at_switch s sw (Apply sw k))
event_of_two s _ sw k = Err BadLine

-- the event of a line
abbrev pub event_of : State → List (List ℕ) → Result ScheduleStep TextFault
event_of s (w ∷ []) = formed (word_of w) event_alone
event_of s (w ∷ a ∷ []) = formed (word_of w) (λ x. formed (numeral a) (event_of_one s x))
event_of s (w ∷ a ∷ b ∷ []) =
    formed (word_of w) (λ x. formed (numeral a) (λ m. formed (numeral b) (event_of_two s x m)))
event_of s _ = Err BadLine
