use Rattle.std.proofs.Common.{◌≡◌, ℕ, List, drop}
use Rattle.std.specs.Process.{SameProgramAndArgs, clears_env, command_var}
use Rattle.tt_real.specs.Command.{said_by}
use Rattle.tt_real.proofs.command.add_pairs.Given as goal

abbrev pub invariant-loop-pair : goal.invariant-loop-pair
invariant-loop-pair l = record {
  vars : (name : List ℕ) → said_by (drop l.pair-index l.env) name (command_var l.command name)
      ≡ said_by l.env name (command_var l.fn.command name);
  call : SameProgramAndArgs l.fn.command l.command;
  clears : clears_env l.command ≡ clears_env l.fn.command;
}
