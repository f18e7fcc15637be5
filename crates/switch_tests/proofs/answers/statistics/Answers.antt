use Rattle.std.proofs.Common.{rules}
use Rattle.switch_tests.proofs.Statistics.{of-tables}
use Rattle.switch_tests.proofs.answers.statistics.Goals as goal

pub returns : goal.returns
returns c = rw c.in_ok-from_slice.ensures (of-tables 9 (search rules))
