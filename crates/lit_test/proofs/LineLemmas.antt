-- Lines of a transcript: a line that began, its commands, and the lines behind it.
use Rattle.std.proofs.Common.{◌≡◌, ◌≢◌, ◌==◌, ◌<◌, ◌≤◌, ◌+◌, ℕ, true, false, List, [], ◌∷◌, ◌++◌, length, append_assoc, append-nil, refl, sym, arith}
use Rattle.std.specs.Prelude.{nat_lt}
use Rattle.std.proofs.lemmas.Bool.Decides.{nat_tests}
use Rattle.lit_directives.specs.declared.script.RunLine.{RunLine}
use Rattle.shell_play.specs.declared.told.Told.{Told}
use Rattle.lit_test.specs.Transcript.{lines_text, run_text, texts_on, told_text}

-- ---- commands

same_line : (one other : ℕ) → one ≡ other → (one == other) ≡ true
same_line one other is = grind (arith, nat_tests)

another_line : (one other : ℕ) → one ≢ other → (one == other) ≡ false
another_line one other is = grind (arith, nat_tests)

-- behind a command of the line
pub told_here : (text : List ℕ) (line : ℕ) (rest behind : List Told) (first : Told) → rest ≡ first ∷ behind
    → first.line ≡ line → (text ++ told_text first) ++ texts_on line behind ≡ text ++ texts_on line rest
told_here text line rest behind first is here =
    rw is (rw (same_line first.line line here) (append_assoc text (told_text first) (texts_on line behind)))

-- behind a command of another one
pub told_elsewhere : (text : List ℕ) (line : ℕ) (rest behind : List Told) (first : Told) → rest ≡ first ∷ behind
    → first.line ≢ line → text ++ texts_on line behind ≡ text ++ texts_on line rest
told_elsewhere text line rest behind first is there = rw is (rw (another_line first.line line there) refl)

-- ---- lines

began_here : (line began : ℕ) → line < began → nat_lt line began ≡ true
began_here line began is = grind (arith, nat_tests)

not_begun : (line began : ℕ) → began ≤ line → nat_lt line began ≡ false
not_begun line began is = grind (arith, nat_tests)

-- behind a line that began
pub line_on : (text : List ℕ) (line : ℕ) (left behind : List RunLine) (run : RunLine) (began : ℕ) (told : List Told)
    → left ≡ run ∷ behind → line < began
    → ((text ++ run_text run) ++ texts_on line told) ++ lines_text (line + 1) behind began told
    ≡ text ++ lines_text line left began told
line_on text line left behind run began told is here =
    rw is (rw (began_here line began here) (simp append_assoc))

-- where no more lines began
pub lines_over : (text : List ℕ) (line : ℕ) (left : List RunLine) (began : ℕ) (told : List Told) → began ≤ line
    → text ≡ text ++ lines_text line left began told
lines_over text line [] began told over = sym (append-nil text)
lines_over text line (run ∷ left) began told over = rw (not_begun line began over) (sym (append-nil text))

-- where no lines are left
pub lines_ended : (text : List ℕ) (line : ℕ) (left : List RunLine) (began : ℕ) (told : List Told) → length left ≡ 0
    → text ≡ text ++ lines_text line left began told
lines_ended text line [] began told none = sym (append-nil text)
lines_ended text line (run ∷ left) began told none = absurd (omega arith)
