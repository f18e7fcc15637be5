use Rattle.std.proofs.Common.{rules}
use Rattle.fdd_star.proofs.MarkLaws.{put_alone}
use Rattle.fdd_star.proofs.NumberLaws.{start_numbered}
use Rattle.fdd_star.proofs.reach.Reach.start.Goals as goal

pub returns-clause-visits : goal.returns-clause-visits
returns-clause-visits c = λ k h. c.in_ok-number.ensures.visits k h

pub returns-clause-numbered : goal.returns-clause-numbered
returns-clause-numbered c = start_numbered _ _ c.in_ok-number.number _ _ _ _ c.requires c.in_ok-number.ensures.number (put_alone _ _ _ _ c.new.ensures c.in_ok-insert.ensures) (search rules)
