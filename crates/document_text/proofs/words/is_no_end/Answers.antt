use Rattle.document_text.proofs.Openings.{other-on}
use Rattle.document_text.proofs.words.is_no_end.Goals as goal

pub returns : goal.returns
returns c = other-on c.is_other.result c.args.text.now c.blank_len.result c.blank_len.ensures.len c.is_other.ensures
