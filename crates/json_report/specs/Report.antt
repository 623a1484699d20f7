-- The JSON report of tests: an object with their counts, the tests in order, and a version. Own rules; JSON is RFC 8259's, and
-- an object has its keys in byte order.
use Rattle.std.specs.Prelude.{ℕ, ◌==◌, if◌then◌else◌, List, [], ◌∷◌, ◌++◌, codes, filter, length, map}
use Rattle.serde_json.specs.Data.{Data, number, string, array, object, unsigned, Items, Members, no_members, member, put}
use Rattle.serde_json.specs.View.{items_of}
use Rattle.serde_json.specs.Written.{compact_text}
use Rattle.test_outcome.specs.Outcome.{is_same, name_of}
use Rattle.test_outcome.specs.declared.outcome.Outcome.{Outcome}
use Rattle.test_outcome.specs.declared.outcome.Outcome.TheVariants.{Pass, Flakypass, Fail, Xfail, Xpass, Unsupported, Unresolved}
use Rattle.json_report.specs.declared.line.Line.{Line}

-- ---- an entry for each test

abbrev pub entry_of : Line → Data
entry_of line =
    object (member (codes "name") (string line.name) (member (codes "path") (string line.path)
    (member (codes "result") (string (name_of line.result)) no_members)))

abbrev pub entries_of : List Line → Items
entries_of lines = items_of (map entry_of lines)

-- ---- the counts of the results that occur

abbrev pub outcomes : List Outcome
outcomes = Pass ∷ Flakypass ∷ Fail ∷ Xfail ∷ Xpass ∷ Unsupported ∷ Unresolved ∷ []

abbrev pub count_of : List Outcome → Outcome → ℕ
count_of results outcome = length (filter (λ result. is_same result outcome) results)

-- with the count of one result, if it occurs
abbrev pub with_count : List Outcome → Outcome → Members → Members
with_count results outcome counts =
    if count_of results outcome == 0 then counts
    else put (name_of outcome) (number (unsigned (count_of results outcome))) counts

abbrev pub with_counts : List Outcome → List Outcome → Members → Members
with_counts results [] counts = counts
with_counts results (outcome ∷ more) counts = with_counts results more (with_count results outcome counts)

abbrev pub counts_of : List Outcome → Members
counts_of results = with_counts results outcomes no_members

-- ---- the report

abbrev pub results_of : List Line → List Outcome
results_of lines = map (λ line. line.result) lines

abbrev pub report_data : List Line → Data
report_data lines =
    object (member (codes "counts") (object (counts_of (results_of lines)))
    (member (codes "tests") (array (entries_of lines))
    (member (codes "version") (number (unsigned 1)) no_members)))

abbrev pub report_text : List Line → List ℕ
report_text lines = compact_text (report_data lines) ++ 10 ∷ []
