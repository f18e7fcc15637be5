use Rattle.equal_laws.proofs.EqualLaws.{complete-alike}
use Rattle.equal_laws.proofs.laws.alike_complete_alike.Goals as goal

pub returns : goal.returns
returns c = complete-alike
