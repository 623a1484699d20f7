-- Why two reports aren't compared, in words. Own texts: of the first refusal alone. The test of a report's fault counts from 0.
use Rattle.std.specs.Prelude.{⊤, ℕ, ◌<◌, List, [], ◌++◌, codes, decimal, slice_index_or}
use Rattle.json_report.specs.declared.line.ReportFault.{ReportFault}
use Rattle.json_report.specs.declared.line.ReportFault.TheVariants.{NotJson, BadShape, BadVersion, BadTest, TwicePath, BadCounts}
use Rattle.opt_words.specs.Fault.{text_before, text_behind, word_of}
use Rattle.tt_run.specs.Frame.{error_text}
use Rattle.report_changes.specs.Asked.{IsTold}
use Rattle.report_changes.specs.declared.asked.ChangesRefusal.{ChangesRefusal}
use Rattle.report_changes.specs.declared.asked.ChangesRefusal.TheVariants.{FaultyWord, NotTwoReports}
use Rattle.report_changes.specs.declared.stop.ChangesStop.{ChangesStop}
use Rattle.report_changes.specs.declared.stop.ChangesStop.TheVariants.{Words, Report}
use Rattle.report_changes.specs.declared.stop.Unread.{Unread}
use Rattle.report_changes.specs.declared.stop.Unread.TheVariants.{Missing, TooLarge, Failed, Bad}

-- the word of an index
abbrev pub word_at : List (List ℕ) → ℕ → List ℕ
word_at words index = slice_index_or words index []

abbrev pub refusal_text : List (List ℕ) → ChangesRefusal → List ℕ
refusal_text words (FaultyWord fault) = text_before fault ++ word_at words (word_of fault) ++ text_behind fault
refusal_text words NotTwoReports = codes "two reports are needed"

-- the name of a report's fault, with the place of its test
abbrev pub kind_of : ReportFault → List ℕ
kind_of NotJson = codes "NotJson"
kind_of BadShape = codes "BadShape"
kind_of BadVersion = codes "BadVersion"
kind_of (BadTest place) = codes "BadTest " ++ decimal place
kind_of (TwicePath place) = codes "TwicePath " ++ decimal place
kind_of BadCounts = codes "BadCounts"

-- what is amiss with the report of a name
abbrev pub unread_text : List ℕ → Unread → List ℕ
unread_text name Missing = codes "'" ++ name ++ codes "' not found"
unread_text name TooLarge = codes "'" ++ name ++ codes "' is too large"
unread_text name Failed = codes "cannot read '" ++ name ++ codes "'"
unread_text name (Bad fault) = (codes "bad report '" ++ name ++ codes "': ") ++ kind_of fault

abbrev pub reason_of : List (List ℕ) → ChangesStop → List ℕ
reason_of words (Words refusal) = refusal_text words refusal
reason_of words (Report word unread) = unread_text (word_at words word) unread

abbrev pub text_of : List (List ℕ) → ChangesStop → List ℕ
text_of words stop = error_text (codes "lit_changes") (reason_of words stop)

abbrev pub unread_status : Unread → ℕ
unread_status Failed = 3
unread_status Missing = 2
unread_status TooLarge = 2
unread_status (Bad fault) = 2

abbrev pub status_of : ChangesStop → ℕ
status_of (Words refusal) = 2
status_of (Report word unread) = unread_status unread

-- what is told of is among so many words
abbrev pub IsToldOf : ℕ → ChangesStop → Type 0
IsToldOf count (Words refusal) = IsTold count refusal
IsToldOf count (Report word unread) = word < count
