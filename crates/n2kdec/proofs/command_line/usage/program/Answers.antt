use Rattle.std.proofs.Common.{arith, ap}
use Rattle.clap.specs.Words.{App}
use Rattle.n2kdec.specs.CommandLine.Usage.{program_app}
use Rattle.n2kdec.proofs.command_line.usage.program.Goals as goal

pub returns : goal.returns
unfolding program_app
returns c = grind (
  arith,
  c.top.ensures.app,
  c.in_ok-subcommand.ensures.shape c.in_ok-plain_command.ensures.own,
  c.in_ok-subcommand-2.ensures.shape c.in_ok-decode_command.ensures.own,
  c.in_ok-subcommand-3.ensures.shape c.in_ok-frames_command.ensures.own,
  ap (λ (a : App). a.top) c.in_ok-plain_command.ensures.app,
  ap (λ (a : App). a.top) c.in_ok-decode_command.ensures.app,
  ap (λ (a : App). a.top) c.in_ok-frames_command.ensures.app,
  ap (λ (a : App). a.top) c.in_ok-encode_command.ensures.app,
)
