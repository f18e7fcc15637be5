use Rattle.document_text.proofs.Ranged.{end-at}
use Rattle.document_text.proofs.topology.link_line.Goals as goal

pub placed-requires-clause-in_range : goal.placed-requires-clause-in_range
placed-requires-clause-in_range c = (end-at _ _ c.in_ok-a.ensures.0 c.in_ok-a.ensures.1, end-at _ _ c.in_ok-b.ensures.0 c.in_ok-b.ensures.1)
