-- A check file that is made from an input.
-- Own rule: an input is read as it is to be checked, and an empty one is refused without --allow-empty.
use Rattle.std.specs.Prelude.{◌≤◌, ◌^◌, ℕ, List, length, Result, Ok, Err}
use Rattle.filecheck_messages.specs.Refusal.{◌>>=◌, accepted}
use Rattle.filecheck_messages.specs.declared.refusal.Refusal.{Refusal}
use Rattle.filecheck_messages.specs.declared.refusal.Refusal.TheVariants.{BadMake}
use Rattle.filecheck_messages.specs.declared.refusal.Stop.{Stop}
use Rattle.filecheck_messages.specs.declared.report.Report.{Report}
use Rattle.filecheck_messages.specs.declared.report.Report.TheVariants.{Checks}
use Rattle.filecheck_words.specs.declared.making.Making.{Making}
use Rattle.filecheck_tool.specs.CheckFile.{whole}
use Rattle.filecheck_tool.specs.Verdict.{filled, input_name}
use Rattle.make_checks.specs.Made.{refreshed}
use Rattle.make_checks.specs.declared.fault.MakeFault.{MakeFault}
use Rattle.tt_run.specs.declared.reading.Reading.{Reading}

-- what is told of a check file that is made, or isn't
abbrev pub checks_made : Result (List ℕ) MakeFault → Result Report Refusal
checks_made (Ok text) = Ok (Checks text)
checks_made (Err fault) = Err (BadMake fault)

-- the check file that an input makes, behind what is kept of an old one
abbrev pub made_behind : Making → List ℕ → List ℕ → Result Report Stop
made_behind making old output = accepted (checks_made (refreshed old output making.lead))

-- the same of what reading the input gave
abbrev pub made_read : Making → List ℕ → Reading → Result Report Stop
made_read making old read = do
  bytes ← whole (input_name making.input) read
  output ← accepted (filled making.allow_empty (input_name making.input) bytes)
  made_behind making old output
