-- The steps from what reading gave to the verdict.
use Rattle.std.proofs.Common.{◌≡◌, ◌∙◌, ℕ, List, length, Result, Ok, ap, sym, subst}
use Rattle.check_lines.specs.Canonical.{canon}
use Rattle.filecheck_tool.specs.CheckFile.{whole}
use Rattle.filecheck_messages.specs.Refusal.{◌>>=◌, Gives, accepted}
use Rattle.filecheck_messages.specs.declared.refusal.StepFail.{StepFail}
use Rattle.filecheck_words.specs.declared.making.Making.{Making}
use Rattle.filecheck_tool.specs.Making.{made_behind, made_read}
use Rattle.filecheck_tool.specs.Verdict.{filled, input_name, verdict, verdict_read}
use Rattle.filecheck_tool.specs.declared.program.AcceptedFile.{AcceptedFile}
use Rattle.filecheck_messages.specs.declared.refusal.Stop.{Stop}
use Rattle.filecheck_messages.specs.declared.report.Report.{Report}
use Rattle.tt_run.specs.declared.reading.Reading.{Reading}

abbrev then_verdict : AcceptedFile → List ℕ → Result Report Stop
then_verdict program input = Ok (verdict program (length input) (canon program.file.asked.strict input))

abbrev then_filled : AcceptedFile → List ℕ → List ℕ → Result Report Stop
then_filled program name bytes = accepted (filled program.file.asked.allow_empty name bytes) >>= then_verdict program

pub read_is : (program : AcceptedFile) (read : Reading) (name bytes input text : List ℕ) (count : ℕ) (report : Report)
    → name ≡ input_name program.file.asked.input → whole name read ≡ Ok bytes
    → accepted (filled program.file.asked.allow_empty name bytes) ≡ Ok input
    → count ≡ length input → text ≡ canon program.file.asked.strict input → report ≡ verdict program count text
    → verdict_read program read ≡ Ok report
read_is program read name bytes input text count report names wholes fills counts texts is =
    ap (λ n. whole n read >>= then_filled program n) (sym names) ∙ ap (λ step. step >>= then_filled program name) wholes
    ∙ ap (λ step. step >>= then_verdict program) fills
    ∙ ap Ok (sym (is ∙ ap (λ n. verdict program n text) counts ∙ ap (verdict program (length input)) texts))

-- ---- the same of a check file that is made

abbrev then_made : Making → List ℕ → List ℕ → List ℕ → Result Report Stop
then_made making old name bytes = accepted (filled making.allow_empty name bytes) >>= made_behind making old

pub made_is : (making : Making) (old : List ℕ) (read : Reading) (name bytes output : List ℕ) (step : Result Report StepFail)
    → name ≡ input_name making.input → whole name read ≡ Ok bytes
    → accepted (filled making.allow_empty name bytes) ≡ Ok output
    → Gives (λ report. report) step (made_behind making old output) → Gives (λ report. report) step (made_read making old read)
made_is making old read name bytes output step names wholes fills gives =
    let is : made_read making old read ≡ made_behind making old output =
    ap (λ n. whole n read >>= then_made making old n) (sym names) ∙ ap (λ step. step >>= then_made making old name) wholes
    ∙ ap (λ step. step >>= made_behind making old) fills in
    subst (Gives (λ report. report) step) (sym is) gives
