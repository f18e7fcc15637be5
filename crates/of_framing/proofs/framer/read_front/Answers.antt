use Rattle.std.proofs.Common.{ap, Some}
use Rattle.of_framing.proofs.FrontLaws.{whole-answer, whole-message}
use Rattle.of_framing.proofs.framer.read_front.Goals as goal

pub returns-in-Some-Ok-clause-answer : goal.returns-in-Some-Ok-clause-answer
returns-in-Some-Ok-clause-answer c =
    whole-answer c.args.held.now c.in-Some-Ok.message.now c.decode.result (rw c.in-Some-Ok.field-0-is at c.in-Some-Ok.ensures.whole) c.decode.ensures.found c.decode.ensures.told

pub returns-in-Some-Ok-clause-light : goal.returns-in-Some-Ok-clause-light
returns-in-Some-Ok-clause-light c = λ m e l.
    ap (λ x. Some x) (c.decode.ensures.light m (whole-message c.args.held.now c.in-Some-Ok.message.now m (rw c.in-Some-Ok.field-0-is at c.in-Some-Ok.ensures.whole) e) l)
