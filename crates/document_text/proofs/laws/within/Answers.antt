use Rattle.document_text.proofs.Limits.{reading-within}
use Rattle.document_text.proofs.laws.within.Goals as goal

pub returns : goal.returns
returns c = reading-within
