use Rattle.std.proofs.Common.{◌≤◌, drop}
use Rattle.std.specs.List.{AllByRecursion}
use Rattle.nk_values.specs.declared.row.Row.{Row}
use Rattle.nk_values.specs.Fitting.{actions_len}
use Rattle.audit_cases.proofs.tables.are_short.Given as goal

abbrev pub invariant-loop-row : goal.invariant-loop-row
invariant-loop-row l = AllByRecursion (λ (r : Row). actions_len r.actions ≤ 60000) (drop l.row-index l.rows) → AllByRecursion (λ (r : Row). actions_len r.actions ≤ 60000) l.rows
