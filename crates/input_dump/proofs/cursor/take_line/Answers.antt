-- A line that is gone over: its own row, the row of a gap that begins there, or none in a gap that goes on.
-- What was left is the row of the line and what is left behind it (`shown_left`, `hidden_left`), so it is told once and in order.
-- The hard one is `returns-then-cursor-clause-silent`: no row, the same left, and no mark that comes up.
use Rattle.std.proofs.Common.{◌≡◌, ◌+◌, ◌-◌, ◌<◌, ℕ, Bool, not, List, ◌++◌, length, take, drop, ap, sym, ◌∙◌, arith, length-append}
use Rattle.input_dump.proofs.FollowLemmas.{hidden_left, line_follows, none_behind, shown_left}
use Rattle.input_dump.specs.Dump.{gap_before}
use Rattle.input_dump.specs.Follow.{left}
use Rattle.input_dump.specs.Rows.{gap_row, line_row}
use Rattle.input_dump.specs.declared.subject.Cursor.{Cursor}
use Rattle.input_dump.proofs.cursor.take_line.Goals as goal

some_bytes : (width number : ℕ) (line : List ℕ) → 0 < length (line_row width number line)
some_bytes width number line = omega (arith, length-append {A = ℕ})

some_gap : (width : ℕ) → 0 < length (gap_row width)
some_gap width = omega (arith, length-append {A = ℕ})

pub returns-then-shown-clause-moved : goal.returns-then-shown-clause-moved
returns-then-shown-clause-moved c =
    let s = c.args.subject.now in
    let k = c.args.cursor.now in
    let end = c.line_end-end.result in
    let passed = c.passed_on-passed in
    let hidden : Bool = not c.is_shown-shown.result in
    let behind : Cursor =
    record { start = end + 1; last = k.start; number = k.number + 1; passed = passed.result; told = k.told; hidden = hidden } in
    let rest : List ℕ = left s behind in
    let line : List ℕ = take (end - k.start) (drop k.start s.text.now) in
    let row : List ℕ = line_row s.width k.number line in
    let off : left s k ≡ row ++ rest =
    shown_left s k c.requires.subject c.requires.follows c.requires.no_mark c.requires.line end passed.result c.line_end-end.ensures hidden
    passed.ensures.within passed.ensures.same (ap not c.if-shown.true) (sym c.is_shown-shown.ensures ∙ c.if-shown.true) in
    sym off

pub returns-then-shown-clause-less : goal.returns-then-shown-clause-less
returns-then-shown-clause-less c =
    let s = c.args.subject.now in
    let k = c.args.cursor.now in
    let end = c.line_end-end.result in
    let passed = c.passed_on-passed in
    let hidden : Bool = not c.is_shown-shown.result in
    let behind : Cursor =
    record { start = end + 1; last = k.start; number = k.number + 1; passed = passed.result; told = k.told; hidden = hidden } in
    let rest : List ℕ = left s behind in
    let line : List ℕ = take (end - k.start) (drop k.start s.text.now) in
    let row : List ℕ = line_row s.width k.number line in
    let off : left s k ≡ row ++ rest =
    shown_left s k c.requires.subject c.requires.follows c.requires.no_mark c.requires.line end passed.result c.line_end-end.ensures hidden
    passed.ensures.within passed.ensures.same (ap not c.if-shown.true) (sym c.is_shown-shown.ensures ∙ c.if-shown.true) in
    omega (arith, ap length off, length-append row rest, some_bytes s.width k.number line)

pub returns-then-shown-clause-follows : goal.returns-then-shown-clause-follows
returns-then-shown-clause-follows c =
    let s = c.args.subject.now in
    let k = c.args.cursor.now in
    let end = c.line_end-end.result in
    let passed = c.passed_on-passed in
    let hidden : Bool = not c.is_shown-shown.result in
    line_follows s k c.requires.subject c.requires.follows c.requires.no_mark c.requires.line end passed.result c.line_end-end.ensures hidden
    passed.ensures.within passed.ensures.same

pub returns-then-was_hidden-clause-silent : goal.returns-then-was_hidden-clause-silent
returns-then-was_hidden-clause-silent c =
    let s = c.args.subject.now in
    let k = c.args.cursor.now in
    let end = c.line_end-end.result in
    let passed = c.passed_on-passed in
    let hidden : Bool = not c.is_shown-shown.result in
    let behind : Cursor =
    record { start = end + 1; last = k.start; number = k.number + 1; passed = passed.result; told = k.told; hidden = hidden } in
    let rest : List ℕ = left s behind in
    let off : left s k ≡ gap_before s.width k.hidden rest =
    hidden_left s k c.requires.subject c.requires.follows c.requires.no_mark c.requires.line end passed.result c.line_end-end.ensures hidden
    passed.ensures.within passed.ensures.same (ap not c.if-shown.false) (sym c.is_shown-shown.ensures ∙ c.if-shown.false) in
    let same : left s k ≡ rest = off ∙ ap (λ h. gap_before s.width h rest) c.if-was_hidden.true in
    λ is. (
      sym same,
      none_behind s k c.requires.subject c.requires.follows c.requires.no_mark c.requires.line end passed.result c.line_end-end.ensures hidden
          passed.ensures.within passed.ensures.same (sym c.is_shown-shown.ensures ∙ c.if-shown.false),
      ap not c.if-shown.false,
    )

pub returns-then-was_hidden-clause-follows : goal.returns-then-was_hidden-clause-follows
returns-then-was_hidden-clause-follows c =
    let s = c.args.subject.now in
    let k = c.args.cursor.now in
    let end = c.line_end-end.result in
    let passed = c.passed_on-passed in
    let hidden : Bool = not c.is_shown-shown.result in
    line_follows s k c.requires.subject c.requires.follows c.requires.no_mark c.requires.line end passed.result c.line_end-end.ensures hidden
    passed.ensures.within passed.ensures.same

pub returns-else-was_hidden-clause-moved : goal.returns-else-was_hidden-clause-moved
returns-else-was_hidden-clause-moved c =
    let s = c.args.subject.now in
    let k = c.args.cursor.now in
    let end = c.line_end-end.result in
    let passed = c.passed_on-passed in
    let hidden : Bool = not c.is_shown-shown.result in
    let behind : Cursor =
    record { start = end + 1; last = k.start; number = k.number + 1; passed = passed.result; told = k.told; hidden = hidden } in
    let rest : List ℕ = left s behind in
    let off : left s k ≡ gap_before s.width k.hidden rest =
    hidden_left s k c.requires.subject c.requires.follows c.requires.no_mark c.requires.line end passed.result c.line_end-end.ensures hidden
    passed.ensures.within passed.ensures.same (ap not c.if-shown.false) (sym c.is_shown-shown.ensures ∙ c.if-shown.false) in
    let row : List ℕ = gap_row s.width in
    let opens : left s k ≡ row ++ rest = off ∙ ap (λ h. gap_before s.width h rest) c.if-was_hidden.false in
    sym opens

pub returns-else-was_hidden-clause-less : goal.returns-else-was_hidden-clause-less
returns-else-was_hidden-clause-less c =
    let s = c.args.subject.now in
    let k = c.args.cursor.now in
    let end = c.line_end-end.result in
    let passed = c.passed_on-passed in
    let hidden : Bool = not c.is_shown-shown.result in
    let behind : Cursor =
    record { start = end + 1; last = k.start; number = k.number + 1; passed = passed.result; told = k.told; hidden = hidden } in
    let rest : List ℕ = left s behind in
    let off : left s k ≡ gap_before s.width k.hidden rest =
    hidden_left s k c.requires.subject c.requires.follows c.requires.no_mark c.requires.line end passed.result c.line_end-end.ensures hidden
    passed.ensures.within passed.ensures.same (ap not c.if-shown.false) (sym c.is_shown-shown.ensures ∙ c.if-shown.false) in
    let row : List ℕ = gap_row s.width in
    let opens : left s k ≡ row ++ rest = off ∙ ap (λ h. gap_before s.width h rest) c.if-was_hidden.false in
    omega (arith, ap length opens, length-append row rest, some_gap s.width)

pub returns-else-was_hidden-clause-follows : goal.returns-else-was_hidden-clause-follows
returns-else-was_hidden-clause-follows c =
    let s = c.args.subject.now in
    let k = c.args.cursor.now in
    let end = c.line_end-end.result in
    let passed = c.passed_on-passed in
    let hidden : Bool = not c.is_shown-shown.result in
    line_follows s k c.requires.subject c.requires.follows c.requires.no_mark c.requires.line end passed.result c.line_end-end.ensures hidden
    passed.ensures.within passed.ensures.same
