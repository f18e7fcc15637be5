use Rattle.std.proofs.Common.{◌∙◌}
use Rattle.netkat_parser.proofs.SameLits.{has-named}
use Rattle.netkat_parser.proofs.named.NamedPairs.has.Goals as goal

pub returns : goal.returns
returns c = c.contains.ensures ∙ has-named c.args.lit c.args.self.now.lits.keys
