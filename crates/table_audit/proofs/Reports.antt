-- What is told of all rows is a report of them.
use Rattle.std.proofs.Common.{◌≡◌, inl, inr, ℕ, List, [], ◌∷◌, ◌++◌, map, refl, sym, ◌∙◌, ap, subst, Result, Ok, Err, IfOk, arith}
use Rattle.std.specs.declared.alloc.Global.{Global}
use Rattle.std.specs.declared.vec.Vec.{Vec}
use Rattle.nk_values.specs.declared.row.Row.{Row}
use Rattle.nk_values.specs.Members.{IsIn, SameMembers}
use Rattle.nk_values.specs.Patterns.{any}
use Rattle.nk_values.specs.Tables.{Distinct}
use Rattle.openflow_wire.specs.declared.message.Message.{Message}
use Rattle.openflow_wire.specs.Writing.{Fits}
use Rattle.openflow_wire.proofs.RankLaws.{distinct-few, rising-distinct}
use Rattle.flow_audit.specs.declared.verdict.AuditFault.{AuditFault}
use Rattle.flow_audit.specs.declared.verdict.AuditFault.TheVariants.{NotFlows, Unfinished, Twice}
use Rattle.flow_audit.specs.Reports.{AreReports, IsWhole, all_rows, row_of}
use Rattle.flow_audit.specs.Verdicts.{IsAuditFault, IsReported}
use Rattle.switch_model.specs.Stats.{AreReplies, IsTold, AnswersStats, deletion, entry_of}
use Rattle.table_audit.specs.Reports.{AreReportOf, request}

-- the rows of entries
entry-rows : (rows : List Row) → map row_of (map entry_of rows) ≡ rows
entry-rows [] = refl
entry-rows (r ∷ rows) = ap (λ (rs : List Row). r ∷ rs) (entry-rows rows)

-- replies tell their rows
told-rows : (xid : ℕ) (rows : List Row) (ms : List Message) → AreReplies xid rows ms → all_rows ms ≡ rows
told-rows xid rows [] a = absurd a
told-rows xid rows (m ∷ []) a =
    subst (λ (x : Message). all_rows (x ∷ []) ≡ rows) (sym a.0) (append-none (map row_of (map entry_of rows)) ∙ entry-rows rows)
  where
    append-none : (rs : List Row) → rs ++ [] ≡ rs
    append-none [] = refl
    append-none (r ∷ rs) = ap (λ (xs : List Row). r ∷ xs) (append-none rs)
told-rows xid rows (m ∷ n ∷ ms) a =
    subst (λ (x : Message). all_rows (x ∷ n ∷ ms) ≡ rows) (sym a.3)
    (ap (λ (rs : List Row). rs ++ all_rows (n ∷ ms)) (entry-rows a.0) ∙ ap (λ (rs : List Row). a.0 ++ rs) (told-rows xid a.1 (n ∷ ms) a.6) ∙ sym a.2)

are-reports : (xid : ℕ) (rows : List Row) (ms : List Message) → AreReplies xid rows ms → AreReports ms
are-reports xid rows [] a = absurd a
are-reports xid rows (m ∷ []) a = subst (λ (x : Message). AreReports (x ∷ [])) (sym a.0) (tt, tt)
are-reports xid rows (m ∷ n ∷ ms) a = subst (λ (x : Message). AreReports (x ∷ n ∷ ms)) (sym a.3) (tt, are-reports xid a.1 (n ∷ ms) a.6)

is-whole : (xid : ℕ) (rows : List Row) (ms : List Message) → AreReplies xid rows ms → IsWhole ms
is-whole xid rows [] a = absurd a
is-whole xid rows (m ∷ []) a = subst (λ (x : Message). IsWhole (x ∷ [])) (sym a.0) refl
is-whole xid rows (m ∷ n ∷ ms) a = subst (λ (x : Message). IsWhole (x ∷ n ∷ ms)) (sym a.3) (is-whole xid a.1 (n ∷ ms) a.6)

-- all rows are asked for
every-row : (rows : List Row) (r : Row) → IsIn rows r → IsTold rows 255 (deletion any 65535) r
every-row rows r m = record { of_table = inr refl; among = m; meant = (refl, inl refl) }

pub report-of : (rows : List Row) (ms : List Message) → AnswersStats rows request ms → AreReportOf rows ms
report-of rows ms t =
    let is = told-rows 1 t.told ms t.replies in
    record {
      reported = record {
        reports = are-reports 1 t.told ms t.replies;
        whole = is-whole 1 t.told ms t.replies;
        distinct = subst (λ (rs : List Row). Distinct rs) (sym is) (rising-distinct t.told t.rising);
      };
      same = subst (λ (rs : List Row). SameMembers rows rs) (sym is) (record { front = λ r m. t.back r (every-row rows r m); back = λ r m. (t.front r m).among });
    }

-- what is answered to the request, as it comes over
pub answered : {E : Type 0} (rows : List Row) (asked : Message) (sent told : List Message) (r : Result (Vec Message Global) E) → asked ≡ request → AnswersStats rows asked told → sent ≡ told → IfOk r (λ v. v.items ≡ sent) → IfOk r (λ v. AreReportOf rows v.items)
answered rows asked sent told (Ok v) same t is h = subst (λ (ms : List Message). AreReportOf rows ms) (sym (h ∙ is)) (report-of rows told (subst (λ (m : Message). AnswersStats rows m told) same t))
answered rows asked sent told (Err e) same t is h = tt

-- a report has no fault
pub no-fault : (ms : List Message) → IsReported ms → (f : AuditFault) → IsAuditFault ms f → ⊥
no-fault ms r NotFlows h = h r.reports
no-fault ms r Unfinished h = h.1 r.whole
no-fault ms r (Twice d) h =
    let few = distinct-few (all_rows ms) r.distinct d in
    let again = h.2.again in
    omega (arith, few, again)

-- the request can be written
pub request-fits : Fits request
request-fits = record {
  version = omega arith;
  kind = omega arith;
  xid = omega arith;
  len = omega arith;
  body = (
    record {
      in_port = tt;
      dl_src = tt;
      dl_dst = tt;
      dl_vlan = tt;
      dl_vlan_pcp = tt;
      dl_type = tt;
      nw_tos = tt;
      nw_proto = tt;
      nw_src = tt;
      nw_dst = tt;
      tp_src = tt;
      tp_dst = tt;
    },
    omega arith,
    omega arith,
  );
}
