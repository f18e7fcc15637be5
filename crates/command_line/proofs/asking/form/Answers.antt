use Rattle.std.proofs.Common.{◌≡◌, ◌∙◌, true, ap, ap₂, codes}
use Rattle.std.proofs.lemmas.Result.{IfOk-weaker}
use Rattle.clap.specs.Simple.{App, Shape, app_of, app_of_fields, new_app, on_top, with_subcommand}
use Rattle.command_line.specs.Form.{bare}
use Rattle.command_line.proofs.asking.form.Goals as goal

pub returns : goal.returns
returns c =
    let flagless : app_of c.disable_help_flag.result ≡ on_top (λ (s : Shape). record s { disable_help_flag = true }) (new_app (codes "nkctl")) =
    ap app_of_fields c.disable_help_flag.ensures ∙ ap (on_top (λ (s : Shape). record s { disable_help_flag = true })) c.new.ensures.app in
    let bare_is : app_of c.disable_help_subcommand.result ≡ bare =
    ap app_of_fields c.disable_help_subcommand.ensures ∙ ap (on_top (λ (s : Shape). record s { disable_help_subcommand = true })) flagless in
    let top : App → Shape = λ (a : App). a.top in
    let rules_is = c.in_ok-subcommand.ensures.shape c.new-2.ensures.local ∙ ap₂ with_subcommand bare_is (ap top c.new-2.ensures.app) in
    let trace_is = c.in_ok-subcommand-2.ensures.shape c.new-3.ensures.local ∙ ap₂ with_subcommand rules_is (ap top c.new-3.ensures.app) in
    let simulate_is = c.in_ok-subcommand-3.ensures.shape c.new-4.ensures.local ∙ ap₂ with_subcommand trace_is (ap top c.new-4.ensures.app) in
    let equiv_is = c.in_ok-subcommand-4.ensures.shape c.new-5.ensures.local ∙ ap₂ with_subcommand simulate_is (ap top c.new-5.ensures.app) in
    let audit_is = c.in_ok-subcommand-5.ensures.shape c.new-6.ensures.local ∙ ap₂ with_subcommand equiv_is (ap top c.new-6.ensures.app) in
    let run_is = c.in_ok-subcommand-6.ensures.shape c.new-7.ensures.local ∙ ap₂ with_subcommand audit_is (ap top c.new-7.ensures.app) in
    let watch_is = c.in_ok-subcommand-7.ensures.shape c.new-8.ensures.local ∙ ap₂ with_subcommand run_is (ap top c.new-8.ensures.app) in
    let generate_is = c.in_ok-subcommand-8.ensures.shape c.in_ok-generate.ensures.local ∙ ap₂ with_subcommand watch_is (ap top c.in_ok-generate.ensures.app) in
    IfOk-weaker c.subcommand-9.result _ _ (λ r h. h.shape c.in_ok-drive.ensures.local ∙ ap₂ with_subcommand generate_is (ap top c.in_ok-drive.ensures.app)) c.subcommand-9.ensures
