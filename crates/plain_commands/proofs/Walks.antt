-- Texts of walks, packet by packet and policy by policy.
use Rattle.std.proofs.Common.{◌≡◌, ℕ, ◌+◌, List, [], ◌∷◌, ◌++◌, refl, sym, ◌∙◌, ap, subst, append_assoc, codes}
use Rattle.std.specs.Fmt.{decimal}
use Rattle.document_text.specs.Terms.{Term}
use Rattle.document_text.specs.declared.document.PacketLine.{PacketLine}
use Rattle.document_text.specs.Documents.{Doc}
use Rattle.packet_tracer.specs.declared.flight.Walk.{Walk}
use Rattle.report_text.specs.Traces.{AddsText, AreTexts, IsPacketText, IsPolicyText, IsTraceText}
use Rattle.value_text.specs.Values.{line}
use Rattle.policy_rows.specs.declared.version.Version.{Version}
use Rattle.program_answer.specs.declared.status.Status.TheVariants.{Done}
use Rattle.program_answer.specs.Answers.{Reads}
use Rattle.program_answer.specs.Called.{SourceSeen}
use Rattle.program_answer.specs.Input.{IsAcceptedAs}
use Rattle.program_answer.proofs.Stopping.{reads_more}
use Rattle.plain_commands.specs.Trace.{AreWalksOf, AreTraces, IsPacketLineText, IsTracedPolicyText, IsTraceAnswer}

-- the walks of which these are the texts
pub walks_of_texts : (d : Doc) (p : Term) (k : ℕ) (ls : List PacketLine) (text : List ℕ) → AreTexts (IsPacketLineText d p) k ls text → (ws : List Walk) × AreWalksOf d p ls ws × AreTexts IsPacketText k ws text
walks_of_texts d p k [] text e = ([], tt, e)
walks_of_texts d p k (l ∷ ls) text t =
    let r = walks_of_texts d p (k + 1) ls t.1 t.3 in
    (t.2.0 ∷ r.0, (t.2.1, r.1), (t.0, t.1, t.2.2, r.2, t.4))

-- and those of all policies
pub traces_of_texts : (d : Doc) (k : ℕ) (ps : List Term) (text : List ℕ) → AreTexts (IsTracedPolicyText d) k ps text → (wss : List (List Walk)) × AreTraces d ps wss × AreTexts IsPolicyText k wss text
traces_of_texts d k [] text e = ([], tt, e)
traces_of_texts d k (p ∷ ps) text t =
    let r = traces_of_texts d (k + 1) ps t.1 t.3 in
    (t.2.0 ∷ r.0, (t.2.1, r.1), (t.0, t.1, t.2.2, r.2, t.4))

-- a policy's line, and the texts of its packets
pub policy_text : (d : Doc) (n : ℕ) (p : Term) (old now new : List ℕ) → now ≡ old ++ line (codes "policy " ++ decimal n) → AddsText (AreTexts (IsPacketLineText d p) 0 d.packets) now new → AddsText (IsTracedPolicyText d n p) old new
policy_text d n p old now new e a =
    let r = walks_of_texts d p 0 d.packets a.text a.is in
    record {
      text = line (codes "policy " ++ decimal n) ++ a.text;
      is = (r.0, r.1, record { packets = a.text; each = r.2; whole = refl });
      all = a.all ∙ ap (λ t. t ++ a.text) e ∙ append_assoc old (line (codes "policy " ++ decimal n)) a.text;
    }

-- the answer to a document that was read
pub trace_answers : (s : SourceSeen) (d : Doc) (versions : List Version) (text out : List ℕ) → text ≡ out → Reads (λ xs. IsAcceptedAs xs d versions) s → AreTexts (IsTracedPolicyText d) 0 d.policies out → IsTraceAnswer s Done text
trace_answers s d versions text out e read t =
    let r = traces_of_texts d 0 d.policies out t in
    record {
      status_is = refl;
      read = reads_more _ _ s (λ xs accepted. record { document = d; versions = versions; accepted = accepted; walks = r.0; are = r.1; text_is = subst (IsTraceText r.0) (sym e) r.2 }) read;
    }
