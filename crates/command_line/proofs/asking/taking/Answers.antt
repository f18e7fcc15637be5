use Rattle.std.proofs.Common.{◌≡◌, ◌∙◌, rules, ap₂}
use Rattle.std.proofs.lemmas.Result.{IfOk-weaker}
use Rattle.clap.specs.Walk.{rule_of}
use Rattle.clap.specs.Simple.{with_rule}
use Rattle.command_line.specs.Form.{one}
use Rattle.command_line.proofs.asking.taking.Goals as goal

pub returns-clause-app : goal.returns-clause-app
returns-clause-app c =
    let rule_is : rule_of c.required-arg.result ≡ one c.args.word.now = search rules in
    IfOk-weaker c.arg.result _ _ (λ r h. h.shape (search rules) ∙ ap₂ with_rule c.new-2.ensures.app rule_is) c.arg.ensures
