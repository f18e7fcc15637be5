use Rattle.document_text.proofs.Saying.{reading-says}
use Rattle.document_text.proofs.laws.says_its_statements.Goals as goal

pub returns : goal.returns
returns c = reading-says
