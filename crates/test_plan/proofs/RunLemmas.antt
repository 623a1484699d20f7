-- RUN lines, one after the other: what is read so far and what the definition says of the rest is the whole.
-- One line is expanded and read, or refused; then lists of lines are taken from the front.
-- `more_read` is the step of the loop, and `refused_here` its early end.
use Rattle.std.proofs.Common.{◌≡◌, ◌∙◌, ◌+◌, ◌<◌, ◌≤◌, ℕ, zero, suc, List, [], ◌∷◌, ◌++◌, append_assoc, append-nil, add-one, drop, drop-cons, get_or, length, Option, Some, Ok, Err, refl, sym, ap, subst, arith}
use Rattle.tt_outside.specs.declared.request.Pair.{Pair}
use Rattle.tt_outside.specs.declared.test_data.Test.{Test}
use Rattle.lit_directives.specs.declared.script.RunLine.{RunLine}
use Rattle.mini_shell.specs.Value.{line_in}
use Rattle.mini_shell.specs.declared.fault.ShellFault.{ShellFault}
use Rattle.mini_shell.specs.declared.line.Line.{Line}
use Rattle.substs.specs.Expansion.{expansion}
use Rattle.test_plan.specs.RunLines.{expanded, onto, pairs_of, read_run, read_runs}
use Rattle.test_plan.specs.declared.cause.Cause.{Cause}
use Rattle.test_plan.specs.declared.cause.Cause.TheVariants.{Shell}
use Rattle.test_plan.specs.declared.runs.ReadRun.TheVariants as one
use Rattle.test_plan.specs.declared.runs.ReadRuns.{ReadRuns}
use Rattle.test_plan.specs.declared.runs.ReadRuns.TheVariants.{Lines, Refused}

-- ---- one line

-- what a line becomes by a test's replacements
pub expanded_as : (test : Test) (run : RunLine) (pairs : List Pair) (suite : ℕ) (text : List ℕ) (made : Option (List ℕ))
    → expansion pairs suite run.line text ≡ made → pairs ≡ pairs_of test → suite ≡ length test.substitutions
    → text ≡ run.text → expanded test run ≡ made
unfolding expanded
expanded_as test run pairs suite text made is p s t =
    subst (λ (ps : List Pair). expansion ps (length test.substitutions) run.line run.text ≡ made) p
    (subst (λ (n : ℕ). expansion pairs n run.line run.text ≡ made) s
    (subst (λ (bytes : List ℕ). expansion pairs suite run.line bytes ≡ made) t is))

pub line_read : (test : Test) (run : RunLine) (text : List ℕ) (line : Line) → expanded test run ≡ Some text
    → line_in text ≡ Ok line → one.Line (record { line = run.line; text = text }) line ≡ read_run test run
line_read test run text line is reads = rw is (rw reads refl)

pub line_refused : (test : Test) (run : RunLine) (text : List ℕ) (fault : ShellFault) → expanded test run ≡ Some text
    → line_in text ≡ Err fault → one.Refused (Shell fault.kind) ≡ read_run test run
line_refused test run text fault is reads = rw is (rw reads refl)

-- ---- all lines

-- lines behind lines that stand behind others
onto-append : (runs : List RunLine) (lines : List Line) (run : RunLine) (line : Line) (rest : ReadRuns)
    → onto (runs ++ run ∷ []) (lines ++ line ∷ []) rest ≡ onto runs lines (onto (run ∷ []) (line ∷ []) rest)
onto-append runs lines run line (Refused cause) = refl
onto-append runs lines run line (Lines more others) =
    rw (append_assoc runs (run ∷ []) more) (rw (append_assoc lines (line ∷ []) others) refl)

from_here : (runs : List RunLine) (i : ℕ) (run : RunLine) → i < length runs → run ≡ get_or runs i run
    → drop i runs ≡ run ∷ drop (i + 1) runs
from_here runs i run inside is =
    drop-cons runs i run inside ∙ ap (λ (one : RunLine). one ∷ drop (suc i) runs) (sym is)
    ∙ ap (λ (n : ℕ). run ∷ drop n runs) (sym (add-one i))

pub more_read : (test : Test) (runs : List RunLine) (i : ℕ) (run : RunLine) (heads : List RunLine) (lines : List Line)
    (head : RunLine) (line : Line) → i < length runs → run ≡ get_or runs i run → one.Line head line ≡ read_run test run
    → onto heads lines (read_runs test (drop i runs)) ≡ read_runs test runs
    → onto (heads ++ head ∷ []) (lines ++ line ∷ []) (read_runs test (drop (i + 1) runs)) ≡ read_runs test runs
unfolding read_runs
more_read test runs i run heads lines head line inside is reads whole =
    let here : onto heads lines (read_runs test (drop i runs))
    ≡ onto heads lines (onto (head ∷ []) (line ∷ []) (read_runs test (drop (i + 1) runs))) =
    rw (from_here runs i run inside is) (rw (sym reads) refl) in
    onto-append heads lines head line (read_runs test (drop (i + 1) runs)) ∙ sym here ∙ whole

pub refused_here : (test : Test) (runs : List RunLine) (i : ℕ) (run : RunLine) (heads : List RunLine)
    (lines : List Line) (cause : Cause) → i < length runs → run ≡ get_or runs i run
    → one.Refused cause ≡ read_run test run → onto heads lines (read_runs test (drop i runs)) ≡ read_runs test runs
    → Refused cause ≡ read_runs test runs
unfolding read_runs
refused_here test runs i run heads lines cause inside is reads whole =
    let here : onto heads lines (read_runs test (drop i runs)) ≡ Refused cause =
    rw (from_here runs i run inside is) (rw (sym reads) refl) in
    sym here ∙ whole

none_behind : (i : ℕ) (runs : List RunLine) → length runs ≤ i → drop i runs ≡ []
none_behind zero [] over = refl
none_behind zero (run ∷ runs) over = absurd (omega arith)
none_behind (suc i) [] over = refl
none_behind (suc i) (run ∷ runs) over = none_behind i runs (omega arith)

pub all_read : (test : Test) (runs : List RunLine) (i : ℕ) (heads : List RunLine) (lines : List Line)
    → length runs ≤ i → onto heads lines (read_runs test (drop i runs)) ≡ read_runs test runs
    → Lines heads lines ≡ read_runs test runs
unfolding read_runs
all_read test runs i heads lines over whole =
    let here : onto heads lines (read_runs test (drop i runs)) ≡ Lines heads lines =
    rw (none_behind i runs over) (rw (append-nil heads) (rw (append-nil lines) refl)) in
    sym here ∙ whole
