-- A JSON report that is read: its tests, or why it is refused. Own rules: what isn't as a report is written is refused, and
-- the first fault counts; one newline at the end belongs to the report.
use Rattle.std.specs.Prelude.{ℕ, suc, ◌≡◌, ◌==◌, ◌+◌, ◌-◌, ◌&&◌, Bool, true, false, is_some, if◌then◌else◌, List, [], ◌∷◌, codes, length, take, Option, None, Some, Result, Ok, Err, ⊤}
use Rattle.std.specs.List.{list_any, ends_with}
use Rattle.std.specs.Option.{option_and_then, option_map}
use Rattle.std.specs.Str.{bytes_eq, is_utf8}
use Rattle.serde_json.specs.Data.{Data, object, Items, no_items, item, Members, no_members, member}
use Rattle.serde_json.specs.Find.{get, as_array, as_number, as_object, as_str, as_u64}
use Rattle.serde_json.specs.Read.{read}
use Rattle.serde_json.specs.Written.{compact_text}
use Rattle.test_outcome.specs.Outcome.{name_of}
use Rattle.test_outcome.specs.declared.outcome.Outcome.{Outcome}
use Rattle.json_report.specs.declared.line.Line.{Line}
use Rattle.json_report.specs.declared.line.ReportFault.{ReportFault}
use Rattle.json_report.specs.declared.line.ReportFault.TheVariants.{NotJson, BadShape, BadVersion, BadTest, TwicePath, BadCounts}
use Rattle.json_report.specs.declared.line.ReportFail.{ReportFail}
use Rattle.json_report.specs.declared.line.ReportFail.TheVariants.{Bad, NoMemory}
use Rattle.json_report.specs.Report.{counts_of, outcomes, results_of}

-- what is read behind what could be read
abbrev pub and_read : {A B : Type 0} → Result A ReportFault → (A → Result B ReportFault) → Result B ReportFault
and_read (Ok x) next = next x
and_read (Err fault) next = Err fault

abbrev pub or_fault : {T : Type 0} → ReportFault → Option T → Result T ReportFault
or_fault fault (Some x) = Ok x
or_fault fault None = Err fault

abbrev pub unless : Bool → ReportFault → Result (Unit {0}) ReportFault
unless good fault = if good then Ok tt else Err fault

-- ---- a test

abbrev pub count_members : Members → ℕ
count_members no_members = 0
count_members (member key value more) = suc (count_members more)

abbrev pub has_count : ℕ → Option Members → Bool
has_count count None = false
has_count count (Some members) = count_members members == count

-- an object with so many keys
abbrev pub has_keys : ℕ → Data → Bool
has_keys count value = has_count count (as_object value)

-- the first of these with a name
abbrev pub named_in : List Outcome → List ℕ → Option Outcome
named_in [] name = None
named_in (outcome ∷ more) name = if bytes_eq (name_of outcome) name then Some outcome else named_in more name

abbrev pub text_at : List ℕ → Data → Option (List ℕ)
text_at key value = option_and_then as_str (get key value)

-- an object of just the texts name, path and result
abbrev pub line_in : Data → Option Line
line_in value =
    if has_keys 3 value then
    option_and_then (λ name. option_and_then (λ path. option_map (λ result.
    record { name = name; path = path; result = result })
    (option_and_then (named_in outcomes) (text_at (codes "result") value)))
    (text_at (codes "path") value)) (text_at (codes "name") value)
    else None

-- ---- the tests

abbrev pub before : Line → Result (List Line) ReportFault → Result (List Line) ReportFault
before line (Ok lines) = Ok (line ∷ lines)
before line (Err fault) = Err fault

-- the tests of entries, of which the first has this place
abbrev pub lines_from : ℕ → Items → Result (List Line) ReportFault
lines_from place no_items = Ok []
lines_from place (item value more) =
    and_read (or_fault (BadTest place) (line_in value)) (λ line. before line (lines_from (place + 1) more))

-- the place of the first test whose path is that of an earlier one; these are the paths before
abbrev pub twice_from : ℕ → List (List ℕ) → List Line → Option ℕ
twice_from place paths [] = None
twice_from place paths (line ∷ more) =
    if list_any (bytes_eq line.path) paths then Some place
    else twice_from (place + 1) (line.path ∷ paths) more

abbrev pub none_twice : Option ℕ → Result (Unit {0}) ReportFault
none_twice None = Ok tt
none_twice (Some place) = Err (TwicePath place)

-- ---- the report

-- all of them are whole numbers
abbrev pub are_whole : Members → Bool
are_whole no_members = true
are_whole (member key value more) = is_some (option_and_then as_u64 (as_number value)) && are_whole more

abbrev pub has_whole : Option Members → Bool
has_whole None = false
has_whole (Some members) = are_whole members

-- whether counts are those of the tests: whole numbers that are written as these are
abbrev pub counted : Data → List Line → Bool
counted counts lines =
    has_whole (as_object counts) && bytes_eq (compact_text counts) (compact_text (object (counts_of (results_of lines))))

-- the value of a key, if it is an object, a list, or a whole number
abbrev pub object_at : List ℕ → Data → Option Data
object_at key value = option_and_then (λ found. option_map object (as_object found)) (get key value)

abbrev pub items_at : List ℕ → Data → Option Items
items_at key value = option_and_then as_array (get key value)

abbrev pub whole_at : List ℕ → Data → Option ℕ
whole_at key value = option_and_then as_u64 (option_and_then as_number (get key value))

abbrev pub report_of : Data → Result (List Line) ReportFault
report_of report =
    and_read (unless (has_keys 3 report) BadShape) (λ _.
    and_read (or_fault BadShape (object_at (codes "counts") report)) (λ counts.
    and_read (or_fault BadShape (items_at (codes "tests") report)) (λ tests.
    and_read (or_fault BadShape (whole_at (codes "version") report)) (λ version.
    and_read (unless (version == 1) BadVersion) (λ _.
    and_read (lines_from 0 tests) (λ lines.
    and_read (none_twice (twice_from 0 [] lines)) (λ _.
    and_read (unless (counted counts lines) BadCounts) (λ _. Ok lines))))))))

abbrev pub data_report : Option Data → Result (List Line) ReportFault
data_report None = Err NotJson
data_report (Some report) = report_of report

-- without one newline at the end
abbrev pub unended : List ℕ → List ℕ
unended bytes = if ends_with ◌==◌ bytes (10 ∷ []) then take (length bytes - 1) bytes else bytes

-- what a report reads as: bytes that are text, a value, and its keys
abbrev pub report_in : List ℕ → Result (List Line) ReportFault
report_in bytes = data_report (if is_utf8 (unended bytes) then read (unended bytes) else None)

-- ---- answers

-- the answer is what is due, but for want of memory
abbrev pub Reads : {T : Type 0} → Result T ReportFail → Result T ReportFault → Type 0
Reads (Ok x) due = due ≡ Ok x
Reads (Err (Bad fault)) due = due ≡ Err fault
Reads (Err NoMemory) due = ⊤
