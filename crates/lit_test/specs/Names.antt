-- How a transcript names why a test is unresolved. Own rule.
use Rattle.std.specs.Prelude.{codes, ℕ, List}
use Rattle.lit_directives.specs.declared.fault.ScriptFault.{ScriptFault}
use Rattle.lit_directives.specs.declared.fault.ScriptFault.TheVariants as script
use Rattle.mini_shell.specs.declared.fault.ShellKind.{ShellKind}
use Rattle.mini_shell.specs.declared.fault.ShellKind.TheVariants as shell
use Rattle.test_plan.specs.declared.cause.Cause.{Cause}
use Rattle.test_plan.specs.declared.cause.Cause.TheVariants as cause

abbrev pub script_name : ScriptFault → List ℕ
script_name (script.BadExpr line) = codes "BadExpr"
script_name (script.TooMany line) = codes "TooMany"
script_name (script.NotText line) = codes "NotText"
script_name (script.BadRetries line) = codes "BadRetries"
script_name (script.TwiceRetries line) = codes "TwiceRetries"
script_name (script.Unfinished line) = codes "Unfinished"
script_name script.NoRun = codes "NoRun"

abbrev pub shell_name : ShellKind → List ℕ
shell_name shell.NoQuoteEnd = codes "NoQuoteEnd"
shell_name shell.BadOperator = codes "BadOperator"
shell_name shell.Glob = codes "Glob"
shell_name shell.NoCommand = codes "NoCommand"
shell_name shell.NoTarget = codes "NoTarget"
shell_name shell.TwiceRedirected = codes "TwiceRedirected"
shell_name shell.BadCd = codes "BadCd"
shell_name shell.LeftOut = codes "LeftOut"

abbrev pub cause_name : Cause → List ℕ
cause_name (cause.Script fault) = script_name fault
cause_name (cause.Shell kind) = shell_name kind
cause_name cause.TooLong = codes "TooLong"
cause_name cause.MissingTest = codes "MissingTest"
cause_name cause.Broken = codes "Broken"
cause_name cause.TooLarge = codes "TooLarge"
cause_name cause.TooMuch = codes "TooMuch"
