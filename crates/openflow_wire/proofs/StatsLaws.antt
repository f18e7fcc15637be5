-- Requests for rows and replies with rows: what is read is spelled, what is spelled is read, and the fault of a body is told.
use Rattle.std.proofs.Common.{◌≡◌, ◌≢◌, ℕ, ◌<◌, ◌≤◌, Bool, false, leb, List, length, drop, Result, Ok, Err, refl, sym, ap, subst, ◌∙◌, inl, inr, arith}
use Rattle.std.proofs.lemmas.Bool.{le-ltb, lt-ltb, lt-leb, le-leb, cases_lt}
use Rattle.nk_values.specs.declared.pattern.Pattern.{Pattern}
use Rattle.openflow_wire.specs.declared.flow_stats.FlowStats.{FlowStats}
use Rattle.openflow_wire.specs.declared.message.Message.{Message}
use Rattle.openflow_wire.specs.declared.message.Message.TheVariants as to
use Rattle.openflow_wire.specs.declared.fault.WireFault.{WireFault}
use Rattle.openflow_wire.specs.declared.fault.WireFault.TheVariants.{BadVersion, BadLength, BadAction, BadCommand}
use Rattle.openflow_wire.specs.Places.{number_at, bit}
use Rattle.openflow_wire.specs.Matches.{match_at}
use Rattle.openflow_wire.specs.FlowStats.{IsOfFlows, IsFlowsRequest, IsFlowsReply}
use Rattle.openflow_wire.specs.Spelling.{IsHead, IsNoneOf, known, Spells}
use Rattle.openflow_wire.specs.Faults.{IsEntriesFault, IsReplyFault, IsBodyFault}
use Rattle.openflow_wire.specs.Reading.{◌>>=◌, entries_of, request_of, reply_of}
use Rattle.openflow_wire.proofs.TestLaws.{done, ok-is, err, err-is, test, bind-ok}
use Rattle.openflow_wire.proofs.EntryLaws.{entries-spelled, entries-again, entries-told, entries-fault, no-version, no-command}

-- ---- the tests in order, each with what it says

abbrev request_at : ℕ → List ℕ → Message
request_at xid body = to.FlowStatsRequest xid (match_at (drop 4 body)) (number_at 1 44 body) (number_at 2 46 body)

pub data RequestWay (xid : ℕ) (body : List ℕ) : Type 0 where
  few : length body < 4 → request_of xid body ≡ Err BadLength → RequestWay xid body
  others : 4 ≤ length body → ¬ IsOfFlows body → request_of xid body ≡ Ok (to.Other 16 xid body) → RequestWay xid body
  misled : 4 ≤ length body → IsOfFlows body → length body ≢ 48 → request_of xid body ≡ Err BadLength → RequestWay xid body
  right : IsOfFlows body → length body ≡ 48 → request_of xid body ≡ Ok (request_at xid body) → RequestWay xid body

pub request-way : (xid : ℕ) (body : List ℕ) → RequestWay xid body
unfolding request_of
request-way xid body =
    elim (cases_lt (length body) 4) [
      | inl lt ↦ few lt (let a = lt-ltb (length body) 4 lt in rw a refl)
      | inr long ↦ (let a = le-ltb (length body) 4 long in
          elim (test (number_at 2 0 body) 1) [
            | inr f ↦ (let b = f.0 in others long f.1 (rw (a, b) refl))
            | inl t ↦ (let b = t.0 in
                elim (test (length body) 48) [
                  | inl s ↦ (let d = s.0 in right t.1 s.1 (rw (a, b, d) refl))
                  | inr s ↦ (let d = s.0 in misled long t.1 s.1 (rw (a, b, d) refl))
                ])
          ])
    ]

abbrev reply_with : ℕ → List ℕ → List FlowStats → Message
reply_with xid body entries = to.FlowStatsReply xid (bit 0 (number_at 2 2 body)) entries

abbrev reply_at : ℕ → List ℕ → Result Message WireFault
reply_at xid body = entries_of (drop 4 body) >>= λ entries. done (reply_with xid body entries)

pub data ReplyWay (xid : ℕ) (body : List ℕ) : Type 0 where
  few : length body < 4 → reply_of xid body ≡ Err BadLength → ReplyWay xid body
  others : 4 ≤ length body → ¬ IsOfFlows body → reply_of xid body ≡ Ok (to.Other 17 xid body) → ReplyWay xid body
  flows : 4 ≤ length body → IsOfFlows body → reply_of xid body ≡ reply_at xid body → ReplyWay xid body

pub reply-way : (xid : ℕ) (body : List ℕ) → ReplyWay xid body
unfolding reply_of
reply-way xid body =
    elim (cases_lt (length body) 4) [
      | inl lt ↦ few lt (let a = lt-ltb (length body) 4 lt in rw a refl)
      | inr long ↦ (let a = le-ltb (length body) 4 long in
          elim (test (number_at 2 0 body) 1) [
            | inr f ↦ (let b = f.0 in others long f.1 (rw (a, b) refl))
            | inl t ↦ (let b = t.0 in flows long t.1 (rw (a, b) refl))
          ])
    ]

-- ---- spelled

sixteen : IsNoneOf known 16
sixteen = (λ z. omega arith, (λ z. omega arith, (λ z. omega arith, (λ z. omega arith, (λ z. omega arith, (λ z. omega arith, (λ z. omega arith, (λ z. omega arith, (λ z. omega arith, tt)))))))))

seventeen : IsNoneOf known 17
seventeen = (λ z. omega arith, (λ z. omega arith, (λ z. omega arith, (λ z. omega arith, (λ z. omega arith, (λ z. omega arith, (λ z. omega arith, (λ z. omega arith, (λ z. omega arith, tt)))))))))

to-m : (bytes : List ℕ) (x m : Message) → Spells bytes x → done x ≡ done m → Spells bytes m
to-m bytes x m s e = subst (λ (y : Message). Spells bytes y) (ok-is x m e) s

pub request-spelled : (bytes : List ℕ) (xid : ℕ) (m : Message) → IsHead bytes 1 16 xid → request_of xid (drop 8 bytes) ≡ Ok m → Spells bytes m
request-spelled bytes xid m head e =
    let body = drop 8 bytes in
    elim (request-way xid body) [
      | few lt r ↦ absurd (let h = sym r ∙ e in cc)
      | others long lacks r ↦ to-m bytes (to.Other 16 xid body) m (head, (sixteen, λ s. (long, lacks)), refl) (sym r ∙ e)
      | misled long is ne r ↦ absurd (let h = sym r ∙ e in cc)
      | right is size r ↦ to-m bytes (request_at xid body) m (head, record { size = size; form_is = is; pattern_is = refl; table_is = refl; out_port_is = refl }) (sym r ∙ e)
    ]

pub reply-spelled : (bytes : List ℕ) (xid : ℕ) (m : Message) → IsHead bytes 1 17 xid → reply_of xid (drop 8 bytes) ≡ Ok m → Spells bytes m
reply-spelled bytes xid m head e =
    let body = drop 8 bytes in
    elim (reply-way xid body) [
      | few lt r ↦ absurd (let h = sym r ∙ e in cc)
      | others long lacks r ↦ to-m bytes (to.Other 17 xid body) m (head, (seventeen, λ s. (long, lacks)), refl) (sym r ∙ e)
      | flows long is r ↦ (let p = bind-ok (entries_of (drop 4 body)) (λ entries. done (reply_with xid body entries)) m (sym r ∙ e) in
          to-m bytes (reply_with xid body p.0) m (head, record { long = long; form_is = is; more_is = refl; entries_are = entries-spelled (drop 4 body) p.0 p.1 }) p.2)
    ]

-- ---- read

pub request-again : (xid : ℕ) (body : List ℕ) (pattern : Pattern) (table out_port : ℕ) → IsFlowsRequest body pattern table out_port
    → request_of xid body ≡ Ok (to.FlowStatsRequest xid pattern table out_port)
request-again xid body pattern table out_port h =
    elim (request-way xid body) [
      | few lt r ↦ absurd (let s = h.size in omega arith)
      | others long lacks r ↦ absurd (lacks h.form_is)
      | misled long is ne r ↦ absurd (ne h.size)
      | right is size r ↦ r ∙ rw (h.pattern_is, h.table_is, h.out_port_is) refl
    ]

pub reply-again : (xid : ℕ) (body : List ℕ) (more : Bool) (entries : List FlowStats) → IsFlowsReply body more entries → reply_of xid body ≡ Ok (to.FlowStatsReply xid more entries)
reply-again xid body more entries h =
    elim (reply-way xid body) [
      | few lt r ↦ absurd (let s = h.long in omega arith)
      | others long lacks r ↦ absurd (lacks h.form_is)
      | flows long is r ↦ r ∙ rw (entries-again (drop 4 body) entries h.entries_are, h.more_is) refl
    ]

pub other-request : (xid : ℕ) (body : List ℕ) → 4 ≤ length body → ¬ IsOfFlows body → request_of xid body ≡ Ok (to.Other 16 xid body)
other-request xid body ge lacks =
    elim (request-way xid body) [
      | few lt r ↦ absurd (omega arith)
      | others long also r ↦ r
      | misled long is ne r ↦ absurd (lacks is)
      | right is size r ↦ absurd (lacks is)
    ]

pub other-reply : (xid : ℕ) (body : List ℕ) → 4 ≤ length body → ¬ IsOfFlows body → reply_of xid body ≡ Ok (to.Other 17 xid body)
other-reply xid body ge lacks =
    elim (reply-way xid body) [
      | few lt r ↦ absurd (omega arith)
      | others long also r ↦ r
      | flows long is r ↦ absurd (lacks is)
    ]

-- ---- faults

pub request-told : (kind xid : ℕ) (body : List ℕ) (f : WireFault) → kind ≡ 16 → request_of xid body ≡ Err f → IsBodyFault kind body f
request-told kind xid body f is e =
    elim (request-way xid body) [
      | few lt r ↦ subst (λ (g : WireFault). IsBodyFault kind body g) (err-is {A = Message} BadLength f (sym r ∙ e)) (inl (rw is (lt-leb 4 (length body) lt)))
      | others long lacks r ↦ absurd (let h = sym r ∙ e in cc)
      | misled long of_flows ne r ↦ subst (λ (g : WireFault). IsBodyFault kind body g) (err-is {A = Message} BadLength f (sym r ∙ e)) (inr (inl (record { kind_is = is; long = long; form_is = of_flows; size = ne })))
      | right of_flows size r ↦ absurd (let h = sym r ∙ e in cc)
    ]

bind-err : (r : Result (List FlowStats) WireFault) (k : List FlowStats → Message) (f : WireFault) → (r >>= λ x. done (k x)) ≡ Err f → r ≡ Err f
bind-err (Ok x) k f e = absurd cc
bind-err (Err g) k f e = ap (λ (h : WireFault). err h) (err-is {A = Message} g f e)

-- a fault of entries is one of lengths or of actions
of-body : (kind : ℕ) (body : List ℕ) (f : WireFault) → IsReplyFault kind body f → IsBodyFault kind body f
of-body kind body BadVersion h = absurd (no-version h.entries.0 (drop 4 body) h.entries.1)
of-body kind body BadLength h = inr (inr h)
of-body kind body BadCommand h = absurd (no-command h.entries.0 (drop 4 body) h.entries.1)
of-body kind body BadAction h = inr h

pub reply-told : (kind xid : ℕ) (body : List ℕ) (f : WireFault) → kind ≡ 17 → reply_of xid body ≡ Err f → IsBodyFault kind body f
reply-told kind xid body f is e =
    elim (reply-way xid body) [
      | few lt r ↦ subst (λ (g : WireFault). IsBodyFault kind body g) (err-is {A = Message} BadLength f (sym r ∙ e)) (inl (rw is (lt-leb 4 (length body) lt)))
      | others long lacks r ↦ absurd (let h = sym r ∙ e in cc)
      | flows long of_flows r ↦ of-body kind body f (record { kind_is = is; long = long; form_is = of_flows; entries = entries-told (drop 4 body) f (bind-err (entries_of (drop 4 body)) (reply_with xid body) f (sym r ∙ e)) })
    ]

pub request-short : (xid : ℕ) (body : List ℕ) → leb 4 (length body) ≡ false → request_of xid body ≡ Err BadLength
request-short xid body h =
    elim (request-way xid body) [
      | few lt r ↦ r
      | others long lacks r ↦ absurd (let k = le-leb 4 (length body) long in cc)
      | misled long is ne r ↦ r
      | right is size r ↦ absurd (let k = le-leb 4 (length body) (omega arith) in cc)
    ]

pub reply-short : (xid : ℕ) (body : List ℕ) → leb 4 (length body) ≡ false → reply_of xid body ≡ Err BadLength
reply-short xid body h =
    elim (reply-way xid body) [
      | few lt r ↦ r
      | others long lacks r ↦ absurd (let k = le-leb 4 (length body) long in cc)
      | flows long is r ↦ absurd (let k = le-leb 4 (length body) long in cc)
    ]

pub request-misled : (xid : ℕ) (body : List ℕ) → 4 ≤ length body → IsOfFlows body → length body ≢ 48 → request_of xid body ≡ Err BadLength
request-misled xid body ge is ne =
    elim (request-way xid body) [
      | few lt r ↦ r
      | others long lacks r ↦ absurd (lacks is)
      | misled long of_flows n r ↦ r
      | right of_flows size r ↦ absurd (ne size)
    ]

pub reply-fault : (xid : ℕ) (body : List ℕ) (f : WireFault) → 4 ≤ length body → IsOfFlows body → IsEntriesFault (drop 4 body) f → reply_of xid body ≡ Err f
reply-fault xid body f ge is h =
    elim (reply-way xid body) [
      | few lt r ↦ absurd (omega arith)
      | others long lacks r ↦ absurd (lacks is)
      | flows long of_flows r ↦ r ∙ rw (entries-fault (drop 4 body) f h) refl
    ]
