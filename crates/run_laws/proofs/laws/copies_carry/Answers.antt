use Rattle.run_laws.proofs.Copies.{copies-carry}
use Rattle.run_laws.proofs.laws.copies_carry.Goals as goal

pub returns : goal.returns
returns c = copies-carry
