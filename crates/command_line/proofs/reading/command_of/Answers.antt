use Rattle.std.proofs.Common.{◌≡◌, ◌∙◌, rules, Some, None, option_and_then, option_map, sym, ap, codes}
use Rattle.clap.specs.Walk.{rows_of, first_of}
use Rattle.clap.specs.Matches.{found_of}
use Rattle.clap.specs.Words.{subcommand_rows_of}
use Rattle.clap.specs.declared.parser.matches.ArgMatches.TheViews.{out-ArgMatches}
use Rattle.clap.proofs.WalkLemmas.{first_value-rows}
use Rattle.command_line.specs.Form.{asked_by}
use Rattle.command_line.proofs.Inner.{met}
use Rattle.command_line.proofs.reading.command_of.Goals as goal

pub returns-in_err-get_str-in-generate : goal.returns-in_err-get_str-in-generate
returns-in_err-get_str-in-generate c =
    let rows = rows_of (found_of c.in_ok-name.inner.now) in
    let is : subcommand_rows_of c.args.matches.now ≡ Some (codes "generate", rows) = met (out-ArgMatches c.args.matches.now).subcommand (codes "generate") rows (search rules) (search rules) in
    let none : first_of (codes "number") rows ≡ None = sym (first_value-rows (found_of c.in_ok-name.inner.now) (codes "number")) ∙ search rules in
    search rules ∙ sym (ap (option_and_then asked_by) is ∙ ap (option_and_then (λ t. option_map _ _)) none)

pub returns-in_ok-get_str-in-generate : goal.returns-in_ok-get_str-in-generate
returns-in_ok-get_str-in-generate c =
    let rows = rows_of (found_of c.in_ok-name.inner.now) in
    let is : subcommand_rows_of c.args.matches.now ≡ Some (codes "generate", rows) = met (out-ArgMatches c.args.matches.now).subcommand (codes "generate") rows (search rules) (search rules) in
    let some : first_of (codes "number") rows ≡ Some c.in_ok-get_str-in-generate.field-0.now = sym (first_value-rows (found_of c.in_ok-name.inner.now) (codes "number")) ∙ search rules in
    search rules ∙ sym (ap (option_and_then asked_by) is)

pub returns-in_err-get_str-in-drive : goal.returns-in_err-get_str-in-drive
returns-in_err-get_str-in-drive c =
    let rows = rows_of (found_of c.in_ok-name.inner.now) in
    let is : subcommand_rows_of c.args.matches.now ≡ Some (codes "drive", rows) = met (out-ArgMatches c.args.matches.now).subcommand (codes "drive") rows (search rules) (search rules) in
    let none : first_of (codes "base") rows ≡ None = sym (first_value-rows (found_of c.in_ok-name.inner.now) (codes "base")) ∙ search rules in
    search rules ∙ sym (ap (option_and_then asked_by) is ∙ ap (option_and_then (λ t. option_map _ _)) none)

pub returns-in_ok-get_str-in-drive : goal.returns-in_ok-get_str-in-drive
returns-in_ok-get_str-in-drive c =
    let rows = rows_of (found_of c.in_ok-name.inner.now) in
    let is : subcommand_rows_of c.args.matches.now ≡ Some (codes "drive", rows) = met (out-ArgMatches c.args.matches.now).subcommand (codes "drive") rows (search rules) (search rules) in
    let some : first_of (codes "base") rows ≡ Some c.in_ok-get_str-in-drive.field-0.now = sym (first_value-rows (found_of c.in_ok-name.inner.now) (codes "base")) ∙ search rules in
    search rules ∙ sym (ap (option_and_then asked_by) is)
