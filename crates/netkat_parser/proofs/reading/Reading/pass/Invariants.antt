use Rattle.std.proofs.Common.{length}
use Rattle.netkat_parser.specs.Views.{view_of, FollowsNots}
use Rattle.netkat_parser.proofs.reading.Reading.pass.Given as goal

abbrev pub decreases-loop-halt : goal.decreases-loop-halt
decreases-loop-halt l = length (view_of l.self).levels

abbrev pub invariant-loop-halt : goal.invariant-loop-halt
invariant-loop-halt l = FollowsNots (view_of l.fn.self) l.sign (view_of l.self)
