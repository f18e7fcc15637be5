use Rattle.report_text.proofs.events.put_boxed.Goals as goal

pub returns : goal.returns
returns c = rw c.packet.ensures at c.put_incoming.ensures
