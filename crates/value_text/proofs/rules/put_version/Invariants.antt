use Rattle.std.proofs.Common.{◌≡◌, ◌++◌, take, string_bytes}
use Rattle.std.specs.List.{flat_map}
use Rattle.value_text.specs.Rules.{switch_text}
use Rattle.value_text.proofs.rules.put_version.Given as goal

abbrev pub invariant-loop-site : goal.invariant-loop-site
invariant-loop-site l = string_bytes l.out ≡ string_bytes l.initial.out ++ flat_map (switch_text l.rows.ports) (take l.site-index l.sites)
