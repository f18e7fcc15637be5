use Rattle.std.proofs.Common.{◌∙◌}
use Rattle.document_text.proofs.Ranged.{switch-at, ports-at}
use Rattle.document_text.proofs.topology.switch_line.Goals as goal

pub placed-requires-clause-in_range : goal.placed-requires-clause-in_range
placed-requires-clause-in_range c =
    (switch-at _ _ c.in_ok-sw.ensures.0 c.in_ok-sw.ensures.1, ports-at _ _ c.in_ok-in_range.ensures.0 (c.of-ports.ensures ∙ c.in_ok-in_range.ensures.1))
