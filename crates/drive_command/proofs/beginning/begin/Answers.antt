use Rattle.std.proofs.Common.{List, sym, subst}
use Rattle.std.specs.List.{AllByRecursion}
use Rattle.nk_values.specs.declared.rows.Rows.{Rows}
use Rattle.policy_rows.specs.Limits.{AreWithinLimits, AreWritable}
use Rattle.world_core.proofs.Beginning.{all-rows}
use Rattle.drive_command.proofs.beginning.begin.Goals as goal

pub new-requires-clause-limits : goal.new-requires-clause-limits
new-requires-clause-limits c = subst (λ (rs : List Rows). AllByRecursion AreWithinLimits rs) (sym c.in_ok-rows.ensures) (all-rows AreWithinLimits _ c.requires.limits)

pub new-requires-clause-writable : goal.new-requires-clause-writable
new-requires-clause-writable c = subst (λ (rs : List Rows). AllByRecursion AreWritable rs) (sym c.in_ok-rows.ensures) (all-rows AreWritable _ c.requires.writable)
