-- The annotated input of a verdict.
-- After LLVM Command Guide, FileCheck, --dump-input: with `fail` it is told where a directive isn't met, with `always` behind each
-- verdict. The labels are own: the directive, and the line that it stands on; an implicit one counts among its like.
use Rattle.std.specs.Prelude.{◌≡◌, ℕ, ◌+◌, Bool, true, false, if◌then◌else◌, List, [], ◌∷◌, ◌++◌, codes, length, map, Option, Some, None}
use Rattle.std.specs.Fmt.{decimal}
use Rattle.check_group.specs.declared.fault.Fault.{Fault}
use Rattle.check_lines.specs.declared.directive.Directive.{Directive}
use Rattle.filecheck_words.specs.declared.dumping.Dump.{Dump}
use Rattle.filecheck_words.specs.declared.dumping.When.{When}
use Rattle.filecheck_words.specs.declared.dumping.When.TheVariants.{Never, Fail, Always}
use Rattle.filecheck_tool.specs.CheckFile.{name_by}
use Rattle.filecheck_tool.specs.declared.check_file.CheckFile.{CheckFile}
use Rattle.input_dump.specs.Dump.{dump}
use Rattle.input_dump.specs.Marks.{marks}
use Rattle.input_dump.specs.declared.marking.Mark.{Mark}
use Rattle.input_dump.specs.declared.shown.Shown.{Shown}

-- whether there is one behind a verdict with these faults
abbrev pub is_due : When → List Fault → Bool
is_due Never faults = false
is_due Fail [] = false
is_due Fail (fault ∷ faults) = true
is_due Always faults = true

-- the label of a directive with a name, by its line
abbrev pub labelled : List ℕ → ℕ → List ℕ
labelled name line = name ++ codes ":" ++ decimal line

-- those of the directives of lines, and of implicit ones from a number on
abbrev pub line_label : CheckFile → Directive → List ℕ
line_label file directive = labelled (name_by file (Some directive)) directive.line

abbrev pub implicit_labels : ℕ → List (List ℕ) → List (List ℕ)
implicit_labels number [] = []
implicit_labels number (body ∷ bodies) = labelled (codes "IMPLICIT-CHECK-NOT") number ∷ implicit_labels (number + 1) bodies

-- the labels of all directives, by their numbers
abbrev pub labels_of : CheckFile → List (List ℕ)
labels_of file = map (line_label file) file.directives ++ implicit_labels 1 file.asked.implicit

-- the marks of faults, where there is an annotated input
abbrev pub marks_due : CheckFile → List Fault → Option (List Mark)
marks_due file faults = if is_due file.asked.dump.when faults then Some (marks faults (labels_of file)) else None

abbrev pub shown_by : Dump → Shown
shown_by asked = record { all = asked.all; context = asked.context }

-- the annotated input with these marks
abbrev pub dump_with : Dump → List ℕ → Option (List Mark) → Option (List ℕ)
dump_with asked input None = None
dump_with asked input (Some marks) = Some (dump input marks (shown_by asked))

-- the annotated input of a verdict, if there is one
abbrev pub dump_due : CheckFile → List ℕ → List Fault → Option (List ℕ)
dump_due file input faults = dump_with file.asked.dump input (marks_due file faults)
