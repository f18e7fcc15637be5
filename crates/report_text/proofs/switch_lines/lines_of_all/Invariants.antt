use Rattle.std.proofs.Common.{◌≡◌, map, take}
use Rattle.report_text.specs.SwitchLines.{number_of}
use Rattle.report_text.proofs.switch_lines.lines_of_all.Given as goal

abbrev pub invariant-loop-switch : goal.invariant-loop-switch
invariant-loop-switch l = l.lines.items ≡ map number_of (take l.switch-index l.switches)
