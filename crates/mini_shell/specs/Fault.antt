-- Refusals of a line.
-- Own rule: the first refusal from the left counts.
use Rattle.std.specs.Prelude.{◌≡◌, ℕ, Result, Ok, Err}
use Rattle.mini_shell.specs.declared.fault.ShellFail.{ShellFail}
use Rattle.mini_shell.specs.declared.fault.ShellFail.TheVariants.{Bad, NoMemory}
use Rattle.mini_shell.specs.declared.fault.ShellFault.{ShellFault}
use Rattle.mini_shell.specs.declared.fault.ShellKind.{ShellKind}

abbrev pub fault_at : ShellKind → ℕ → ShellFault
fault_at kind at = record { at = at; kind = kind }

abbrev pub refused : {T : Type 0} → ShellKind → ℕ → Result T ShellFault
refused kind at = Err (fault_at kind at)

-- what was answered is what is due, or memory ran out
abbrev pub Says : {T : Type 0} → Result T ShellFail → Result T ShellFault → Type 0
Says (Ok value) due = due ≡ Ok value
Says (Err (Bad fault)) due = due ≡ Err fault
Says (Err NoMemory) due = Unit {0}
