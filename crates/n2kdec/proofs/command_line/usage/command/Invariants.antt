-- The command has the arguments so far, and those that are left are to come.
use Rattle.std.proofs.Common.{◌≡◌, false, map, drop}
use Rattle.clap.specs.Words.{app_of, new_app}
use Rattle.clap.specs.declared.builder.command.Command.TheViews.{out-Command as fields_of}
use Rattle.n2kdec.specs.CommandLine.Usage.{argument_rule, with_rules}
use Rattle.n2kdec.proofs.command_line.usage.command.Given as goal

abbrev pub invariant-loop-argument : goal.invariant-loop-argument
invariant-loop-argument l =
    (with_rules (app_of l.command) (map argument_rule (drop l.argument-index l.arguments)) ≡ with_rules (new_app l.fn.name) (map argument_rule l.arguments))
    × ((fields_of l.command).has_globals ≡ false)
