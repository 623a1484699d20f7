-- What patterns and definitions come to.
-- Shown: what compiling came to is what the definition says of the check file, and each end of the steps behind it is one
-- of the chain's. By equations for what the steps were given, and by cases on the ends.
use Rattle.std.proofs.Common.{◌≡◌, ℕ, List, length, Result, Ok, Err, refl, sym}
use Rattle.check_lines.specs.declared.directive.Directive.{Directive}
use Rattle.check_program.specs.Compiled.{Compiles, Formats, bodies_of}
use Rattle.check_program.specs.declared.program.CompileFail.TheVariants.{Bad}
use Rattle.check_program.specs.declared.program.Program.{Program as Patterns}
use Rattle.define_words.specs.declared.defined.Defined.{Defined}
use Rattle.pattern_parse.specs.declared.fault.PatFault.{PatFault}
use Rattle.pattern_parse.specs.declared.pattern.Frame.{Frame}
use Rattle.filecheck_tool.specs.Program.{ArePatterns, IsCompiledWith, IsDefinedWith, bad_body, frame_by, fresh_of}
use Rattle.filecheck_messages.specs.Refusal.{Ends}
use Rattle.filecheck_tool.specs.declared.check_file.CheckFile.{CheckFile}
use Rattle.filecheck_tool.specs.declared.program.AcceptedFile.{AcceptedFile}
use Rattle.filecheck_messages.specs.declared.refusal.Refusal.{Refusal}
use Rattle.filecheck_messages.specs.declared.refusal.StepFail.{StepFail}
use Rattle.filecheck_messages.specs.declared.refusal.StepFail.TheVariants.{Stopped, NoMemory}
use Rattle.filecheck_messages.specs.declared.refusal.Stop.TheVariants.{Refused}

module _ (file : CheckFile) (known new : Formats) (frame : Frame) (text : List ℕ) (directives : List Directive)
    (implicit : List (List ℕ)) (frames : frame ≡ frame_by file.asked.full_lines file.asked.strict)
    (texts : text ≡ file.text)
    (lines : directives ≡ file.directives) (others : implicit ≡ file.asked.implicit) where
  -- what compiling came to, of the check file
  pub patterns_are : (patterns : Patterns)
      → Compiles (record { fold = file.asked.fold; frame = frame }) (length directives) known
      (bodies_of text directives implicit) (Ok patterns) new
      → ArePatterns file known (Ok patterns)
  patterns_are patterns is =
      (new, rw (sym frames) rw (sym texts) rw (sym lines) rw (sym others) is)

  pub patterns_refused : (number : ℕ) (fault : PatFault) (refusal : Refusal)
      → Compiles (record { fold = file.asked.fold; frame = frame }) (length directives) known
      (bodies_of text directives implicit) (Err (Bad number fault)) new
      → refusal ≡ bad_body file number fault
      → ArePatterns file known (Err (Refused refusal))
  patterns_refused number fault refusal is same =
      (number, fault, new, rw (sym frames) rw (sym texts) rw (sym lines) rw (sym others) is, same)

module _ (file : CheckFile) (values : Defined) where
  pub patterns_stop : (fail : StepFail) → Ends {X = Patterns} (Err fail) (ArePatterns file values.known)
      → Ends {X = AcceptedFile} (Err fail) (IsCompiledWith file values)
  patterns_stop (Stopped stop) are = (Err stop, are, refl)
  patterns_stop NoMemory are = tt

  pub patterns_lead : (patterns : Patterns) (step : Result AcceptedFile StepFail) → ArePatterns file values.known (Ok patterns)
      → Ends step (IsDefinedWith file patterns (fresh_of values.fresh)) → Ends step (IsCompiledWith file values)
  patterns_lead patterns (Ok program) are leads = (Ok patterns, are, leads)
  patterns_lead patterns (Err (Stopped stop)) are leads = (Ok patterns, are, leads)
  patterns_lead patterns (Err NoMemory) are leads = tt
