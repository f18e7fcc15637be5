-- The lines of audits.
use Rattle.std.specs.Prelude.{ℕ, List, ◌++◌, codes}
use Rattle.std.specs.Fmt.{decimal}
use Rattle.flow_audit.specs.declared.verdict.Verdict.{Verdict}
use Rattle.flow_audit.specs.declared.verdict.Verdict.TheVariants.{Same, Missing, Surplus, Actions}
use Rattle.value_text.specs.Rules.{row_text}
use Rattle.value_text.specs.Values.{line}

-- `same`, or the row at which they differ: of two rows with other actions the reported one
abbrev pub verdict_text : Verdict → List ℕ
verdict_text Same = line (codes "same")
verdict_text (Missing row) = codes "missing " ++ line (row_text row)
verdict_text (Surplus row) = codes "surplus " ++ line (row_text row)
verdict_text (Actions planned reported) = codes "actions " ++ line (row_text reported)

abbrev pub switch_text : ℕ → List ℕ
switch_text sw = codes "audit switch " ++ (decimal sw ++ codes " ")

-- the line of a switch
abbrev pub audit_line : ℕ → Verdict → List ℕ
audit_line sw v = switch_text sw ++ verdict_text v
