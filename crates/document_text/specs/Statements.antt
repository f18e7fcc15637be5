-- The statements of a document, in the order in which they stand, and what a document of these statements says.
use Rattle.std.specs.Prelude.{◌≡◌, ℕ, ◌+◌, List, [], ◌∷◌, ◌++◌, map, Option, None, Some, option_map, if◌then◌else◌}
use Rattle.std.specs.List.{flat_map}
use Rattle.nk_syntax.specs.Terms.{Term}
use Rattle.netkat_parser.specs.Grammar.{IsText}
use Rattle.topology_model.specs.Lines.{layout_of}
use Rattle.topology_model.specs.declared.line.TopoLine.{TopoLine}
use Rattle.topology_model.specs.declared.line.TopoLine.TheVariants as topology
use Rattle.document_text.specs.declared.document.PacketLine.{PacketLine}
use Rattle.document_text.specs.declared.head.Head.{Head}
use Rattle.document_text.specs.declared.head.Head.TheVariants as head
use Rattle.document_text.specs.Documents.{Doc}
use Rattle.document_text.specs.Grammar.{IsDocument}
use Rattle.document_text.specs.Lines.{switch_form, link_form, packet_form}
use Rattle.document_text.specs.Steps.{head_of}
use Rattle.document_text.specs.Texts.{lines_of, words_of, is_end}

-- A switch line, a link line or a packet line with the words after its first one; the text of a policy, between its
-- first line and its `end` line; an event with the number and the words of its line.
pub data Statement : Type 0 where
  SwitchLine : List (List ℕ) → Statement
  LinkLine : List (List ℕ) → Statement
  PacketWords : List (List ℕ) → Statement
  PolicyText : List ℕ → Statement
  EventLine : ℕ → List (List ℕ) → Statement

-- where a line stands: among the lines of the document, in a policy's text after this much of it, or in the schedule
pub data Stand : Type 0 where
  TopLevel : Stand
  InPolicy : List ℕ → Stand
  InSchedule : Stand

-- the statement of a line that begins so, and where the next line stands
abbrev pub headed : Head → List (List ℕ) → List Statement × Stand
headed head.Switch ws = (SwitchLine ws ∷ [], TopLevel)
headed head.Link ws = (LinkLine ws ∷ [], TopLevel)
headed head.Packet ws = (PacketWords ws ∷ [], TopLevel)
headed head.Policy ws = ([], InPolicy [])
headed head.Schedule ws = ([], InSchedule)
headed _ ws = ([], TopLevel)

abbrev pub statement_of : Stand → ℕ → List ℕ → List (List ℕ) → List Statement × Stand
statement_of TopLevel n line [] = ([], TopLevel)
statement_of TopLevel n line (w ∷ ws) = headed (head_of w) ws
statement_of (InPolicy text) n line ws =
    if is_end ws then (PolicyText text ∷ [], TopLevel) else ([], InPolicy (text ++ line))
statement_of InSchedule n line [] = ([], InSchedule)
statement_of InSchedule n line (w ∷ ws) =
    if is_end (w ∷ ws) then ([], TopLevel) else (EventLine n (w ∷ ws) ∷ [], InSchedule)

-- the statements of the lines from the one with this number on
abbrev pub statements_from : Stand → ℕ → List (List ℕ) → List Statement
statements_from at n [] = []
statements_from at n (line ∷ lines) =
    (statement_of at n line (words_of line)).0 ++
    statements_from (statement_of at n line (words_of line)).1 (n + 1) lines

abbrev pub statements_of : List ℕ → List Statement
statements_of text = statements_from TopLevel 1 (lines_of text)

-- what a form gives, if it is there
abbrev pub given_by : {A : Type 0} → Option A → List A
given_by None = []
given_by (Some a) = a ∷ []

-- the lines of the topology, the packets, the texts of the policies, and the numbers of the lines of events
abbrev pub topology_in : Statement → List TopoLine
topology_in (SwitchLine ws) = given_by (option_map (λ x. topology.Switch x.0 x.1) (switch_form ws))
topology_in (LinkLine ws) = given_by (option_map (λ x. topology.Link x.0 x.1) (link_form ws))
topology_in _ = []

abbrev pub packets_in : Statement → List PacketLine
packets_in (PacketWords ws) =
    given_by (option_map (λ x. record { packet = x.1.packet; tag = x.1.tag }) (packet_form ws))
packets_in _ = []

abbrev pub texts_in : Statement → List (List ℕ)
texts_in (PolicyText text) = text ∷ []
texts_in _ = []

abbrev pub lines_in : Statement → List ℕ
lines_in (EventLine n ws) = n ∷ []
lines_in _ = []

-- each policy is read from the text at its place
abbrev pub AreRead : List (List ℕ) → List Term → Type 0
AreRead [] [] = Unit {0}
AreRead (text ∷ texts) (p ∷ ps) = IsText text p × AreRead texts ps
AreRead _ _ = ⊥

-- The topology of the switch lines and link lines, the policies of the texts, the packets of the packet lines and an
-- event a line of the schedule, all in order.
pub record Says (statements : List Statement) (d : Doc) : Type 0 where
  pub layout : d.layout ≡ layout_of (flat_map topology_in statements)
  pub policies : AreRead (flat_map texts_in statements) d.policies
  pub packets : d.packets ≡ flat_map packets_in statements
  pub events : map (λ e. e.line) d.schedule ≡ flat_map lines_in statements

-- a document says what its statements say
abbrev pub SaysItsStatements : Type 0
SaysItsStatements = (text : List ℕ) (d : Doc) → IsDocument text d → Says (statements_of text) d
