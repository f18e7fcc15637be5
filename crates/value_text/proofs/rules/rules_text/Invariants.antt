use Rattle.std.proofs.Common.{◌≡◌, ◌++◌, drop, string_bytes}
use Rattle.value_text.specs.Rules.{versions_text, rules_text}
use Rattle.value_text.proofs.rules.rules_text.Given as goal

abbrev pub invariant-loop-before : goal.invariant-loop-before
invariant-loop-before l = string_bytes l.out ++ versions_text l.before (drop l.before l.versions) l.topology ≡ rules_text l.versions l.topology
