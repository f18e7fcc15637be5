use Rattle.table_audit.proofs.Following.{tables-follow}
use Rattle.table_audit.proofs.laws.tables_follow.Goals as goal

pub returns : goal.returns
returns c = tables-follow
