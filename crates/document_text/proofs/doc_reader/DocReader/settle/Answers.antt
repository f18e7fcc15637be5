use Rattle.document_text.proofs.Feeding.{reaches-trans}
use Rattle.document_text.proofs.doc_reader.DocReader.settle.Goals as goal

pub returns-in_err-step-clause-reaches : goal.returns-in_err-step-clause-reaches
returns-in_err-step-clause-reaches c = reaches-trans c.args.end c.args.self.now c.loop.self c.step.new.self c.loop.invariant c.in_err-step.ensures.reaches

pub returns-then-not-branch-clause-reaches : goal.returns-then-not-branch-clause-reaches
returns-then-not-branch-clause-reaches c = reaches-trans c.args.end c.args.self.now c.loop.self c.step.new.self c.loop.invariant c.in_ok-step.ensures.reaches

pub loop-preserved : goal.loop-preserved
loop-preserved c = reaches-trans c.args.end c.args.self.now c.loop.self c.step.new.self c.loop.invariant c.in_ok-step.ensures.reaches
