-- What the answers of the reader stand for.
use Rattle.std.specs.Prelude.{◌≡◌, ⊤, ℕ, Bool, true, false, nat_lt, if◌then◌else◌, List, map, Option, Some, None}
use Rattle.std.specs.Prelude.{Result, Ok, Err}
use Rattle.std.specs.Borrow.{Bor}
use Rattle.nk_values.specs.declared.text_fault.TextFault.{TextFault}
use Rattle.nk_values.specs.declared.text_fault.TextFault.TheVariants.{BadLine, Limit, NoEdge, ValueRange}
use Rattle.nk_values.specs.Packets.{IsWellShaped}
use Rattle.nk_syntax.specs.Views.{term_of}
use Rattle.topology_model.specs.Layouts.{Layout}
use Rattle.document_text.specs.declared.document.Document.{Document}
use Rattle.document_text.specs.Schedules.{at_switch}
use Rattle.document_text.specs.declared.document.ScheduleStep.{ScheduleStep}
use Rattle.document_text.specs.declared.packet.GivenFields.{GivenFields}
use Rattle.document_text.specs.Packets as packets
use Rattle.document_text.specs.declared.fault.DocFault.{DocFault}
use Rattle.document_text.specs.declared.fault.DocumentError.{DocumentError}
use Rattle.document_text.specs.declared.fault.DocumentError.TheVariants as document
use Rattle.document_text.specs.declared.fault.Stop.{Stop}
use Rattle.document_text.specs.declared.fault.Stop.TheVariants as stop
use Rattle.document_text.specs.declared.declaration.Declarations.{Declarations}
use Rattle.document_text.specs.declared.reader.Reader.{Reader}
use Rattle.document_text.specs.declared.reader.Continuation.{Continuation}
use Rattle.document_text.specs.declared.reader.Continuation.TheVariants.{Line, Opening}
use Rattle.document_text.specs.Documents.{Doc, Outcome, Accepted, Refused}
use Rattle.document_text.specs.States.{State}
use Rattle.document_text.specs.Steps.{Step, Next, Enters, Opens, Stops}
use Rattle.document_text.specs.Grammar.{LacksEnd}

-- the words that references point to
abbrev pub texts : List (Bor (List ℕ)) → List (List ℕ)
texts ws = map (λ w. w.now) ws

-- a topology and what lines have declared beside it
abbrev pub state : Layout → Declarations → State
state t declared = record {
  reached = declared.reached;
  layout = t;
  hops = declared.hops;
  capacity = declared.capacity;
  stamps = declared.stamps;
  rejoins = declared.rejoins;
  overlap = declared.overlap;
  policies = map term_of declared.policies.items;
  packets = declared.packets.items;
  inside = declared.inside;
  events = declared.events.items;
}

abbrev pub state_of : Reader → State
state_of r = state r.draft r.declared

-- the answer is this value or fault, unless memory ran out
abbrev pub Matches : {A B : Type 0} → (A → B) → Result B TextFault → Result A Stop → Type 0
Matches view r (Ok a) = r ≡ Ok (view a)
Matches view r (Err (stop.Fault f)) = r ≡ Err f
Matches view r (Err stop.Memory) = ⊤

-- the reader came to this state, or stops at this fault; where memory ran out, the state is as it was
abbrev pub Becomes : {U : Type 0} → Result State TextFault → State → State → Result U Stop → Type 0
Becomes r old new (Ok u) = r ≡ Ok new
Becomes r old new (Err (stop.Fault f)) = r ≡ Err f
Becomes r old new (Err stop.Memory) = new ≡ old

-- the value of a form, or none, unless memory ran out
abbrev pub Forms : {A B : Type 0} → (A → B) → Option B → Result A Stop → Type 0
Forms view o (Ok a) = o ≡ Some (view a)
Forms view o (Err (stop.Fault f)) = (o ≡ None) × (f ≡ BadLine)
Forms view o (Err stop.Memory) = ⊤

-- the tests let pass what follows, or stop at a fault, unless memory ran out
abbrev pub Lets : {A U : Type 0} → (Result A TextFault → Result A TextFault) → Result U Stop → Type 0
Lets {A} tests (Ok u) = (r : Result A TextFault) → tests r ≡ r
Lets {A} tests (Err (stop.Fault f)) = (r : Result A TextFault) → tests r ≡ Err f
Lets tests (Err stop.Memory) = ⊤

-- the tests give a number to what follows, or stop at a fault, unless memory ran out
abbrev pub Leads : {A : Type 0} → ((ℕ → Result A TextFault) → Result A TextFault) → Result ℕ Stop → Type 0
Leads {A} tests (Ok n) = (next : ℕ → Result A TextFault) → tests next ≡ next n
Leads {A} tests (Err (stop.Fault f)) = (next : ℕ → Result A TextFault) → tests next ≡ Err f
Leads tests (Err stop.Memory) = ⊤

-- some port has no link, unless memory ran out; or none has
abbrev pub FindsEdge : {U : Type 0} → Bool → Result U Stop → Type 0
FindsEdge b (Ok u) = b ≡ true
FindsEdge b (Err (stop.Fault f)) = (b ≡ false) × (f ≡ NoEdge)
FindsEdge b (Err stop.Memory) = ⊤

-- a value of which P holds where the test does, and else out of range, unless memory ran out
abbrev pub Ranges : {A : Type 0} → Bool → (A → Type 0) → Result A Stop → Type 0
Ranges b P (Ok a) = (b ≡ true) × P a
Ranges b P (Err (stop.Fault f)) = (b ≡ false) × (f ≡ ValueRange)
Ranges b P (Err stop.Memory) = ⊤

-- the number is that of a declared switch, for any event
abbrev pub NamesSwitch : State → ℕ → Result ℕ Stop → Type 0
NamesSwitch s n (Ok sw) = (sw ≡ n) × ((e : ScheduleStep) → at_switch s n e ≡ Ok e)
NamesSwitch s n (Err (stop.Fault f)) = (e : ScheduleStep) → at_switch s n e ≡ Err f
NamesSwitch s n (Err stop.Memory) = ⊤

-- the step leads to this state, opens a policy's text there, or stops
abbrev pub IsNextState : Step → State → Type 0
IsNextState (Next s) t = t ≡ s
IsNextState (Enters p s) t = IsWellShaped p.packet × (t ≡ s)
IsNextState _ t = ⊥

abbrev pub IsOpening : Step → State → Type 0
IsOpening (Opens s) t = t ≡ s
IsOpening _ t = ⊥

abbrev pub IsStop : Step → TextFault → Type 0
IsStop (Stops g) f = f ≡ g
IsStop (Enters p s) f = (IsWellShaped p.packet → ⊥) × (f ≡ BadLine)
IsStop _ f = ⊥

-- the reader came from this state to that one by the step, or stops; where memory ran out, the state is as it was
abbrev pub TakesLine : Step → State → State → Result Continuation Stop → Type 0
TakesLine x old new (Ok Line) = IsNextState x new
TakesLine x old new (Ok Opening) = IsOpening x new
TakesLine x old new (Err (stop.Fault f)) = IsStop x f
TakesLine x old new (Err stop.Memory) = new ≡ old

-- the same of a line after which another one stands
abbrev pub Passes : {U : Type 0} → Step → State → State → Result U Stop → Type 0
Passes x old new (Ok u) = IsNextState x new
Passes x old new (Err (stop.Fault f)) = IsStop x f
Passes x old new (Err stop.Memory) = new ≡ old

-- what the words of a packet line have given
abbrev pub given_of : GivenFields → packets.GivenFields
given_of g = record {
  names = texts g.names.keys;
  packet = g.packet;
  tag = g.tag;
  unknown = g.unknown;
  outside =
      g.outside;
}

-- what was given is this, or the word is at fault, unless memory ran out
abbrev pub GivesValues : {U : Type 0} → Option packets.GivenFields → packets.GivenFields → Result U Stop → Type 0
GivesValues o g (Ok u) = o ≡ Some g
GivesValues o g (Err (stop.Fault f)) = (o ≡ None) × (f ≡ BadLine)
GivesValues o g (Err stop.Memory) = ⊤

abbrev pub doc_of : Document → Doc
doc_of d = record {
  layout = d.topology;
  policies = map term_of d.policies.items;
  packets = d.packets.items;
  settings = d.settings;
  schedule = d.schedule.items;
}

-- the outcome is this answer's, unless memory ran out
abbrev pub AnswersDocument : (Outcome → Type 0) → Result Document DocumentError → Type 0
AnswersDocument Is (Ok d) = Is (Accepted (doc_of d))
AnswersDocument Is (Err (document.Fault f)) = Is (Refused f)
AnswersDocument Is (Err document.Memory) = ⊤

-- the answer is this outcome, unless memory ran out
abbrev pub IsAnswer : Outcome → Result Document DocumentError → Type 0
IsAnswer o (Ok d) = o ≡ Accepted (doc_of d)
IsAnswer o (Err (document.Fault f)) = o ≡ Refused f
IsAnswer o (Err document.Memory) = ⊤

-- the text lacks its end, or has this fault before, unless memory ran out
abbrev pub LacksAnswer : ℕ → ℕ → List ℕ → DocumentError → Type 0
LacksAnswer n begin text (document.Fault f) = LacksEnd n begin text (Refused f)
LacksAnswer n begin text document.Memory = ⊤

-- the fault of a text that has too many bytes, at the line of the first of these
abbrev pub limit_at : ℕ → DocFault
limit_at n = record { fault = Limit; line = n; column = 1 }

-- a fault before this line stands, and else the text has too many bytes
abbrev pub CutsText : ℕ → Result Document DocumentError → DocumentError → Type 0
CutsText n (Ok d) e = e ≡ document.Fault (limit_at n)
CutsText n (Err (document.Fault f)) e = e ≡ document.Fault (if nat_lt f.line n then f else limit_at n)
CutsText n (Err document.Memory) e = e ≡ document.Memory
