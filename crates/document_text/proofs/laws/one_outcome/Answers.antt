use Rattle.document_text.proofs.Total.{reading-some}
use Rattle.document_text.proofs.Unique.{reading-one}
use Rattle.document_text.proofs.laws.one_outcome.Goals as goal

pub returns-clause-one : goal.returns-clause-one
returns-clause-one c = reading-one

pub returns-clause-some : goal.returns-clause-some
returns-clause-some c = reading-some
