use Rattle.of_framing.proofs.FrontLaws.{front-none, front-err, whole-fault}
use Rattle.of_framing.proofs.framer.span_of.Goals as goal

pub returns-in-None : goal.returns-in-None
returns-in-None c = front-none c.args.held.now c.in-None.ensures.none

pub returns-in-Some-Err : goal.returns-in-Some-Err
returns-in-Some-Err c = front-err c.args.held.now c.in-Some-Err.fault (rw c.in-Some-Err.field-0-is at c.in-Some-Err.ensures.fault)

pub returns-in-Err : goal.returns-in-Err
returns-in-Err c = whole-fault c.args.held.now c.in-Some-Ok.message.now c.in-Err.fault (rw c.in-Some-Ok.field-0-is at c.in-Some-Ok.ensures.whole) c.in-Err.ensures.fault
