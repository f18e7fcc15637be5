use Rattle.equal_laws.proofs.EqualLaws.{open-alike}
use Rattle.equal_laws.proofs.laws.alike_open_alike.Goals as goal

pub returns : goal.returns
returns c = open-alike
