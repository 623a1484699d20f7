-- A report nests no deeper than a reader follows: its counts are numbers, and its entries have texts alone.
use Rattle.std.proofs.Common.{◌≡◌, ◌≤◌, ℕ, suc, true, true≢false, max, is_some, List, [], ◌∷◌, refl, sym, arith}
use Rattle.std.proofs.Math.Nat.{max-le}
use Rattle.std.specs.Option.{option_and_then}
use Rattle.serde_json.specs.Data.{Data, null, boolean, number, string, array, object, Members, no_members, member, depth, items_depth, members_depth}
use Rattle.serde_json.specs.Find.{as_number, as_u64}
use Rattle.serde_json.specs.Read.{max_depth}
use Rattle.json_report.specs.Reading.{are_whole}
use Rattle.json_report.specs.Report.{counts_of, entries_of, entry_of, report_data, results_of}
use Rattle.json_report.specs.declared.line.Line.{Line}
use Rattle.json_report.proofs.FloatLemmas.{both, counts_are_whole}

value_flat : (value : Data) → is_some (option_and_then as_u64 (as_number value)) ≡ true → depth value ≤ 0
value_flat null e = absurd (true≢false (sym e))
value_flat (boolean b) e = absurd (true≢false (sym e))
value_flat (number n) e = omega arith
value_flat (string s) e = absurd (true≢false (sym e))
value_flat (array items) e = absurd (true≢false (sym e))
value_flat (object ms) e = absurd (true≢false (sym e))

members_flat : (ms : Members) → are_whole ms ≡ true → members_depth ms ≤ 0
members_flat no_members e = omega arith
members_flat (member key value more) e =
    let (first, rest) = both (is_some (option_and_then as_u64 (as_number value))) (are_whole more) e in
    max-le (value_flat value first) (members_flat more rest)

entries_flat : (lines : List Line) → items_depth (entries_of lines) ≤ 1
entries_flat [] = omega arith
entries_flat (line ∷ more) =
    let one : depth (entry_of line) ≡ 1 = refl in
    max-le (omega (arith, one)) (entries_flat more)

-- how deep the parts of a report nest
abbrev inside : List Line → ℕ
inside lines = max (suc (members_depth (counts_of (results_of lines)))) (max (suc (items_depth (entries_of lines))) (max 0 0))

inside_flat : (lines : List Line) → inside lines ≤ 2
inside_flat lines =
    let counts = members_flat (counts_of (results_of lines)) (counts_are_whole (results_of lines)) in
    let entries = entries_flat lines in
    max-le (omega (arith, counts)) (max-le (omega (arith, entries)) (omega arith))

pub report_is_flat : (lines : List Line) → depth (report_data lines) ≤ max_depth
report_is_flat lines =
    let whole : depth (report_data lines) ≡ suc (inside lines) = refl in
    omega (arith, whole, inside_flat lines)
