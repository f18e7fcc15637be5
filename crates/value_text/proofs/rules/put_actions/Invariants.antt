use Rattle.std.proofs.Common.{◌≡◌, ◌++◌, drop, string_bytes}
use Rattle.value_text.specs.Rules.{more_actions}
use Rattle.value_text.proofs.rules.put_actions.Given as goal

abbrev pub invariant-loop-action : goal.invariant-loop-action
invariant-loop-action l = string_bytes l.out ++ more_actions (drop l.action-index l.more) ≡ string_bytes l.initial.out ++ more_actions l.more
