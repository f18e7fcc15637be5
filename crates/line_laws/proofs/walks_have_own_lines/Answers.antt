use Rattle.line_laws.proofs.Dropping.{own-lines}
use Rattle.line_laws.proofs.walks_have_own_lines.Goals as goal

pub returns : goal.returns
returns c = own-lines
