use Rattle.document_text.proofs.doc_reader.DocReader.step.Goals as goal

pub returns-in_err-close-in-Closing-clause-reaches : goal.returns-in_err-close-in-Closing-clause-reaches
returns-in_err-close-in-Closing-clause-reaches c = c.in_err-close-in-Closing.ensures.reaches c.args.end

pub returns-in_ok-close-in-Closing-clause-reaches : goal.returns-in_ok-close-in-Closing-clause-reaches
returns-in_ok-close-in-Closing-clause-reaches c = c.in_ok-close-in-Closing.ensures.reaches c.args.end
