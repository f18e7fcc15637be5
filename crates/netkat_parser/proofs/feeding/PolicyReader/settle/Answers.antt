use Rattle.std.proofs.Common.{◌^◌, refl}
use Rattle.netkat_parser.proofs.Standing.{position-bound, settles-by}
use Rattle.netkat_parser.proofs.feeding.PolicyReader.settle.Goals as goal

pub invariant_of-self : goal.invariant_of-self
invariant_of-self c =
    let old = c.args.self.now in
    let h = position-bound old.position c.position_after-self.result c.advance.new.self.items old.pending.items old.pending.items c.advance-len.result.0 old.room (2 ^ 64)
    (rw c.as_slice-2.ensures at c.position_after-self.ensures) c.advance.ensures.items refl old.lines old.columns in
    record { lines = h.0; columns = h.1 }

pub returns-clause-settles : goal.returns-clause-settles
returns-clause-settles c = λ begin text h.
    let old = c.args.self.now in
    settles-by c.args.end begin text old _ c.advance-len.result.0 c.advance.ensures.items (rw c.as_slice-2.ensures at c.position_after-self.ensures) h c.advance-len.result.2
    (rw c.as_slice.ensures at c.advance-len.ensures.goes)
