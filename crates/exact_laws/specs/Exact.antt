-- When a check file stands for an output.
-- Own rule: by default options it is read, none of its directives is refused, and whatever program they come to finds no fault exactly in the
-- texts whose canonical lines are those of the output. What is read, compiled and found is said by the public definitions of each.
use Rattle.std.specs.Prelude.{◌≡◌, ◌↔◌, ℕ, false, List, [], length, None, Ok}
use Rattle.std.specs.FinMap.{empty}
use Rattle.check_group.specs.Changes.{Variables}
use Rattle.check_lines.specs.Canonical.{canon}
use Rattle.check_lines.specs.Checks.{read_checks}
use Rattle.check_lines.specs.declared.directive.Directive.{Directive}
use Rattle.check_program.specs.Compiled.{Body, Formats, IsProgram, IsRefused, bodies_of}
use Rattle.check_program.specs.declared.program.CompileOpts.{CompileOpts}
use Rattle.check_program.specs.declared.program.Program.{Program}
use Rattle.check_scan.specs.Verdict.{scan}
use Rattle.file_laws.specs.Lead.{is_bad}
use Rattle.file_laws.specs.Made.{canonical_lines, long_line, made_file}
use Rattle.lead_laws.specs.Marks.{checks, comments}
use Rattle.line_laws.specs.Left.{AreBytes}
use Rattle.pattern_parse.specs.declared.fault.PatFault.{PatFault}
use Rattle.pattern_parse.specs.declared.pattern.Frame.TheVariants.{Open}

-- default options
abbrev pub default_opts : CompileOpts
default_opts = record { fold = false; frame = Open }

-- the bodies of a check file
abbrev pub bodies_in : List ℕ → List Directive → List Body
bodies_in file directives = bodies_of (canon false file) directives []

-- a program has no fault exactly in the texts whose canonical lines are those of an output, whatever its variables hold
abbrev pub TellsLines : List ℕ → Program → Type 0
TellsLines output program =
    (other : List ℕ) (vars : Variables) → AreBytes other
    → ((scan program.checks program.always false (canon false other) vars).faults ≡ []) ↔ (canonical_lines other ≡ canonical_lines output)

-- a check file stands for an output
pub record IsExactFor (output file : List ℕ) : Type 0 where
  pub directives : List Directive
  pub read : read_checks checks comments false false false (canon false file) ≡ Ok directives
  pub accepted : (number : ℕ) (fault : PatFault) (later : Formats)
      → ¬ IsRefused default_opts 0 empty (bodies_in file directives) number fault later
  pub exact : (program : Program) (later : Formats)
      → IsProgram default_opts (length directives) empty (bodies_in file directives) program later → TellsLines output program

-- Law: the check file that an output makes stands for it, whatever is kept of an old one.
abbrev pub MadeFilesAreExact : Type 0
MadeFilesAreExact =
    (old output lead : List ℕ) → is_bad lead ≡ false → long_line (canonical_lines output) ≡ None
    → IsExactFor output (made_file old output lead)
