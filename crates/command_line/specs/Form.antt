-- The command line as `clap` reads it.
use Rattle.std.specs.Prelude.{◌≡◌, true, false, List, [], Option, Some, None, option_and_then, option_map}
use Rattle.std.specs.Prelude.{if◌then◌else◌, codes}
use Rattle.std.specs.Str.{bytes_eq}
use Rattle.clap.specs.Walk.{Row, Rule, Text, first_of}
use Rattle.clap.specs.declared.builder.command.Command.{Command as ClapCommand}
use Rattle.clap.specs.declared.builder.command.Command.TheViews.{out-Command}
use Rattle.clap.specs.Simple.{App, new_app, new_rule, new_shape, with_rule, with_subcommand}
use Rattle.command_line.specs.declared.command.Command.{Command}
use Rattle.command_line.specs.declared.command.Command.TheVariants.{Rules, Trace, Simulate, Equiv, Audit, Run, Watch}
use Rattle.command_line.specs.declared.command.Command.TheVariants.{Drive, Generate}
use Rattle.command_line.specs.Commands.{base_port, workload_number}

-- the one positional of a subcommand that has one
abbrev pub one : Text → Rule
one name = record (new_rule name) { required = true }

abbrev pub number : Rule
number = one (codes "number")

abbrev pub base : Rule
base = one (codes "base")

-- no argument of it goes to the commands below it
abbrev pub IsLocal : ClapCommand → Type 0
IsLocal c = (out-Command c).has_globals ≡ false

-- the program, which has no help
abbrev pub bare : App
bare = record {
  top = record (new_shape (codes "nkctl")) { disable_help_flag = true; disable_help_subcommand = true };
  subs = [];
}

-- the program with its subcommands
abbrev pub form : App
form = with_subcommand (with_subcommand
    (with_subcommand (with_subcommand
    (with_subcommand (with_subcommand (with_subcommand (with_subcommand (with_subcommand bare
    (new_shape (codes "rules"))) (new_shape (codes "trace"))) (new_shape (codes "simulate")))
    (new_shape (codes "equiv"))) (new_shape (codes "audit"))) (new_shape (codes "run")))
    (new_shape (codes "watch")))
    ((with_rule (new_app (codes "generate")) number).top))
    ((with_rule (new_app (codes "drive")) base).top)

-- what was asked for, by the subcommand that was met and what was found there
abbrev pub asked_by : Text × List Row → Option Command
asked_by p = if bytes_eq p.0 (codes "rules") then Some Rules
    else (if bytes_eq p.0 (codes "trace") then Some Trace
    else (if bytes_eq p.0 (codes "simulate") then Some Simulate
    else (if bytes_eq p.0 (codes "equiv") then Some Equiv
    else (if bytes_eq p.0 (codes "audit") then Some Audit
    else (if bytes_eq p.0 (codes "run") then Some Run
    else (if bytes_eq p.0 (codes "watch") then Some Watch
    else (if bytes_eq p.0 (codes "generate") then option_and_then (λ t. option_map Generate (workload_number t))
    (first_of (codes "number") p.1)
    else (if bytes_eq p.0 (codes "drive") then option_and_then (λ t. option_map Drive (base_port t))
    (first_of (codes "base") p.1)
    else None))))))))
