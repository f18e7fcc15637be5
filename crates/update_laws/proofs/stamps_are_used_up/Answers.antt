use Rattle.update_laws.proofs.Stamps.{refuses-used}
use Rattle.update_laws.proofs.stamps_are_used_up.Goals as goal

pub returns : goal.returns
returns x t vs limit capacity low high f l r i = refuses-used t vs limit capacity low high l r f i
