use Rattle.netkat_parser.proofs.SameLits.{pairs-insert}
use Rattle.netkat_parser.proofs.named.NamedPairs.add.Goals as goal

pub returns-clause-added : goal.returns-clause-added
returns-clause-added c = pairs-insert c.args.lit c.args.self.now.lits.keys _ c.in_ok-insert.ensures.keys c.requires
