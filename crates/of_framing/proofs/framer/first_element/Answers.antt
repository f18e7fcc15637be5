use Rattle.of_framing.proofs.FrontLaws.{is-seen, is-front, is-fault}
use Rattle.of_framing.proofs.framer.first_element.Goals as goal

pub returns-clause-seen : goal.returns-clause-seen
returns-clause-seen c = is-seen c.args.bytes.now c.read_front.result c.read_front.ensures.answer

pub returns-clause-message : goal.returns-clause-message
returns-clause-message c = λ n m f. is-front c.args.bytes.now n m c.read_front.result c.read_front.ensures.answer f

pub returns-clause-fault : goal.returns-clause-fault
returns-clause-fault c = λ fault f. is-fault c.args.bytes.now fault c.read_front.result c.read_front.ensures.answer f
