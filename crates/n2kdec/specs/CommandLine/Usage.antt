-- The command line of the program, as `clap`'s contracts see a command:
--     n2kdec plain [LOG]
--     n2kdec decode --table F [--resume F] [--save F] [--window W] [--in-order] [--empty] [--whole] [LOG]
--     n2kdec frames --table F [--candump IFACE] [LOG]
--     n2kdec encode --table F [--nearest] [JSON]
--     n2kdec --version
use Rattle.std.specs.Prelude.{◌∷◌, [], List, ℕ, true, Some, codes}
use Rattle.clap.specs.Words.{App, Rule, new_app, new_rule, with_rule, with_subcommand}
use Rattle.clap.specs.declared.builder.action.ArgAction.TheVariants.{SetTrue}
use Rattle.n2kdec.specs.declared.command_line.usage.Argument.{Argument}
use Rattle.n2kdec.specs.declared.command_line.usage.Argument.TheVariants.{Input, Table, Value, Flag}

-- a positional that may be missing
abbrev pub log_rule : Rule
log_rule = record (new_rule (codes "log")) { value_names = 1 }

-- an option without a value
abbrev pub flag_rule : List ℕ → Rule
flag_rule name = record (new_rule name) { long = Some name; action = Some SetTrue }

-- an option with a value, which may be missing
abbrev pub option_rule : List ℕ → Rule
option_rule name = record (new_rule name) { long = Some name; value_names = 1 }

abbrev pub table_rule : Rule
table_rule = record (option_rule (codes "table")) { required = true }

-- the rule of an argument of the program
abbrev pub argument_rule : Argument → Rule
argument_rule (Input value help) = log_rule
argument_rule Table = table_rule
argument_rule (Value name value help) = option_rule name.now
argument_rule (Flag name help) = flag_rule name.now

abbrev pub with_rules : App → List Rule → App
with_rules app [] = app
with_rules app (rule ∷ rules) = with_rules (with_rule app rule) rules

abbrev pub plain_app : App
plain_app = with_rule (new_app (codes "plain")) log_rule

abbrev pub decode_app : App
decode_app = with_rules (new_app (codes "decode"))
    (table_rule ∷ option_rule (codes "resume") ∷ option_rule (codes "save") ∷ option_rule (codes "window")
    ∷ flag_rule (codes "in-order") ∷ flag_rule (codes "empty") ∷ flag_rule (codes "whole") ∷ log_rule ∷ [])

abbrev pub frames_app : App
frames_app = with_rules (new_app (codes "frames")) (table_rule ∷ option_rule (codes "candump") ∷ log_rule ∷ [])

abbrev pub encode_app : App
encode_app = with_rules (new_app (codes "encode")) (table_rule ∷ flag_rule (codes "nearest") ∷ log_rule ∷ [])

-- a command without its subcommands: one of them is required, and `help` is none; it has a version, and without any
-- word it shows its help
abbrev pub program_top : App
program_top = let app = new_app (codes "n2kdec") in record app {
  top = record app.top {
    has_version = true;
    subcommand_required = true;
    arg_required_else_help = true;
    disable_help_subcommand = true;
  };
}

unfoldable pub program_app : App
program_app =
    let reading = with_subcommand (with_subcommand program_top plain_app.top) decode_app.top in
    with_subcommand (with_subcommand reading frames_app.top) encode_app.top
