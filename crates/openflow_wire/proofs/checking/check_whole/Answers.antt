use Rattle.std.proofs.Common.{ℕ, List, drop, inl, inr, arith, subst}
use Rattle.openflow_wire.specs.Faults.{IsSpoken}
use Rattle.openflow_wire.specs.Places.{number_at}
use Rattle.openflow_wire.specs.Reading.{ChecksAs, body_of}
use Rattle.openflow_wire.proofs.CheckLaws.{whole-checked}
use Rattle.openflow_wire.proofs.checking.check_whole.Goals.{After-check_body, else-byte_at-ne1-via-then-byte_at-ne1+else-kind-ne0, else-byte_at-ne1-via-else-byte_at-ne1}
use Rattle.openflow_wire.proofs.checking.check_whole.Goals as goal

-- the version is 1, or the message is a greeting
spoken : (c : After-check_body) → IsSpoken c.args.bytes.now
spoken c =
    elim c.else-byte_at-ne1.branch [
      | else-byte_at-ne1-via-then-byte_at-ne1+else-kind-ne0 w ↦ inr (omega (arith, w.if-kind-ne0.false, c.byte_at-kind.ensures))
      | else-byte_at-ne1-via-else-byte_at-ne1 w ↦ inl (omega (arith, w.if-byte_at-ne1.false, c.byte_at.ensures))
    ]

pub returns : goal.returns
returns c =
    let version = number_at 1 0 c.args.bytes.now in
    let xid = number_at 4 4 c.args.bytes.now in
    let body = subst (λ (b : List ℕ). ChecksAs c.check_body.result (body_of version c.byte_at-kind.result xid b)) c.split_at.ensures.back (c.check_body.ensures version xid) in
    whole-checked c.args.bytes.now c.check_body.result (omega arith) (spoken c) (omega (arith, c.half_at.ensures))
    (subst (λ (k : ℕ). ChecksAs c.check_body.result (body_of version k xid (drop 8 c.args.bytes.now))) c.byte_at-kind.ensures body)
