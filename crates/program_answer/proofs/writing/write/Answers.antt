use Rattle.std.proofs.Common.{refl}
use Rattle.program_answer.specs.Writing.{whole, cut}
use Rattle.program_answer.proofs.writing.write.Goals as goal

pub returns-in-Ok-clause-said : goal.returns-in-Ok-clause-said
returns-in-Ok-clause-said g c = whole refl c.in-Ok.ensures.ok c.in-Ok.ensures.cause.same

pub returns-in-Err-clause-said : goal.returns-in-Err-clause-said
returns-in-Err-clause-said g c = cut refl c.in-Err.ensures.err c.in-Err.ensures.cause.failed
