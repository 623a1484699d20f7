-- What is told of two reports. Own texts.
use Rattle.std.specs.Prelude.{ℕ, List, [], ◌∷◌, ◌++◌, codes, decimal, length, Option, Some, None, Result, Ok, Err}
use Rattle.std.specs.List.{flat_map}
use Rattle.json_report.specs.declared.changed.Change.{Change}
use Rattle.test_outcome.specs.Outcome.{name_of}
use Rattle.test_outcome.specs.declared.outcome.Outcome.{Outcome}
use Rattle.tt_run.specs.Frame.{newline}
use Rattle.tt_run.specs.declared.answer.Answer.{Answer}
use Rattle.report_changes.specs.Stop.{status_of, text_of}
use Rattle.report_changes.specs.declared.stop.ChangesStop.{ChangesStop}

-- the name of a result, if there is one
abbrev pub result_text : Option Outcome → List ℕ
result_text (Some outcome) = name_of outcome
result_text None = codes "absent"

abbrev pub change_line : Change → List ℕ
change_line change = change.path ++ codes ": " ++ result_text change.old ++ codes " -> " ++ result_text change.new ++ newline

-- each change on a line, and how many there are
abbrev pub changes_text : List Change → List ℕ
changes_text changes = flat_map change_line changes ++ codes "changed: " ++ decimal (length changes) ++ newline

-- 0 where nothing changed
abbrev pub changed_status : List Change → ℕ
changed_status [] = 0
changed_status (change ∷ more) = 1

abbrev pub answer_to : List (List ℕ) → Result (List Change) ChangesStop → Answer
answer_to words (Ok changes) = record { out = changes_text changes; err = []; status = changed_status changes }
answer_to words (Err stop) = record { out = []; err = text_of words stop; status = status_of stop }
