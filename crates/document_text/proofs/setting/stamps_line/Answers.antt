use Rattle.std.proofs.Common.{arith}
use Rattle.document_text.specs.Answers.{state_of}
use Rattle.document_text.proofs.Settled.{stamps-in-range, two-stamps, set_once-ok-twice}
use Rattle.document_text.proofs.setting.stamps_line.Goals as goal

pub returns : goal.returns
returns c =
    rw c.in_ok-low.ensures
    (set_once-ok-twice (state_of c.args.reader.now) _ _ _ _ _ _ _ c.is_some.ensures c.in_ok-set_once.ensures.tests
    (stamps-in-range c.in_ok-low.low c.in_ok-low.high (omega arith) (omega arith) (omega arith)) (two-stamps c.in_ok-low.low c.in_ok-low.high c.if-low-high-2.false))
