-- What `nkctl trace` answers: the walks of a document's packets under its policies.
use Rattle.std.specs.Prelude.{◌≡◌, ℕ, List, [], ◌∷◌}
use Rattle.document_text.specs.Terms.{Term}
use Rattle.topology_model.specs.Layouts.{wiring}
use Rattle.document_text.specs.declared.document.PacketLine.{PacketLine}
use Rattle.document_text.specs.Documents.{Doc}
use Rattle.packet_tracer.specs.declared.flight.Walk.{Walk}
use Rattle.packet_tracer.specs.Walks.{IsWalk}
use Rattle.policy_rows.specs.declared.version.Version.{Version}
use Rattle.report_text.specs.Traces.{IsPacketText, IsPolicyText, IsTraceText}
use Rattle.program_answer.specs.declared.status.Status.{Status}
use Rattle.program_answer.specs.declared.status.Status.TheVariants.{Done}
use Rattle.program_answer.specs.Answers.{Reads}
use Rattle.program_answer.specs.Called.{SourceSeen}
use Rattle.program_answer.specs.Input.{IsAcceptedAs}

-- what becomes of a packet under a policy: its complete histories within the hop limit, and its copies in flight there
abbrev pub IsWalkOf : Doc → Term → PacketLine → Walk → Type 0
IsWalkOf d p line walk =
    IsWalk (wiring d.layout) p line.packet line.tag d.settings.hops walk.finished.items walk.in_flight.items

-- of each packet
abbrev pub AreWalksOf : Doc → Term → List PacketLine → List Walk → Type 0
AreWalksOf d p [] [] = Unit {0}
AreWalksOf d p [] (w ∷ ws) = ⊥
AreWalksOf d p (l ∷ ls) [] = ⊥
AreWalksOf d p (l ∷ ls) (w ∷ ws) = IsWalkOf d p l w × AreWalksOf d p ls ws

-- under each policy
abbrev pub AreTraces : Doc → List Term → List (List Walk) → Type 0
AreTraces d [] [] = Unit {0}
AreTraces d [] (ws ∷ wss) = ⊥
AreTraces d (p ∷ ps) [] = ⊥
AreTraces d (p ∷ ps) (ws ∷ wss) = AreWalksOf d p d.packets ws × AreTraces d ps wss

-- the text of the n-th packet, by a walk of it
abbrev pub IsPacketLineText : Doc → Term → ℕ → PacketLine → List ℕ → Type 0
IsPacketLineText d p n l text = (walk : Walk) × IsWalkOf d p l walk × IsPacketText n walk text

-- the text of the n-th policy, by walks of all packets
abbrev pub IsTracedPolicyText : Doc → ℕ → Term → List ℕ → Type 0
IsTracedPolicyText d n p text = (walks : List Walk) × AreWalksOf d p d.packets walks × IsPolicyText n walks text

-- the walks of all packets under each policy
pub record IsTrace (xs text : List ℕ) : Type 0 where
  pub document : Doc
  pub versions : List Version
  pub accepted : IsAcceptedAs xs document versions
  pub walks : List (List Walk)
  pub are : AreTraces document document.policies walks
  pub text_is : IsTraceText walks text

-- The source was read to its end, and the text has the walks of its document.
pub record IsTraceAnswer (source : SourceSeen) (status : Status) (text : List ℕ) : Type 0 where
  pub status_is : status ≡ Done
  pub read : Reads (λ xs. IsTrace xs text) source
