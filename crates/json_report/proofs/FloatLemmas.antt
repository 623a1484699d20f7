-- Counts are whole numbers, and whole numbers are no floats: so the text of counts is the one that definitions give.
-- By induction over the results that are counted and over the members of an object, which hold whole numbers before and after one is put.
-- `put_whole` is the hard one: a member is put in order, so it stands before, in place of, or behind the first one.
use Rattle.std.proofs.Common.{◌≡◌, ℕ, ◌==◌, Bool, true, false, true≢false, ◌&&◌, ◌||◌, if◌then◌else◌, is_some, List, [], ◌∷◌, refl, sym}
use Rattle.std.specs.Option.{option_and_then}
use Rattle.std.specs.Cmp.Lexicographic.{slice_cmp}
use Rattle.std.specs.Ordering.{nat_cmp, match_ordering}
use Rattle.std.specs.declared.cmp.Ordering.TheVariants.{Less, Equal, Greater}
use Rattle.serde_json.specs.Data.{Data, null, boolean, number, string, array, object, unsigned, negative, float, Members, no_members, member, put}
use Rattle.serde_json.specs.Find.{as_number, as_object, as_u64}
use Rattle.serde_json.specs.Written.{has_float, items_have_float, members_have_float}
use Rattle.test_outcome.specs.Outcome.{name_of}
use Rattle.test_outcome.specs.declared.outcome.Outcome.{Outcome}
use Rattle.json_report.specs.Reading.{are_whole, has_whole}
use Rattle.json_report.specs.Report.{count_of, counts_of, entries_of, outcomes, report_data, results_of, with_count, with_counts}
use Rattle.json_report.specs.declared.line.Line.{Line}

join : (a b : Bool) → a ≡ false → b ≡ false → (a || b) ≡ false
join true b e f = absurd (true≢false e)
join false b e f = f

pub both : (a b : Bool) → (a && b) ≡ true → (a ≡ true) × (b ≡ true)
both true b e = (refl, e)
both false b e = absurd (true≢false (sym e))

and_so : (a b c : Bool) → (a && b) ≡ true → c ≡ true → (a && c) ≡ true
and_so true b c e f = f
and_so false b c e f = absurd (true≢false (sym e))

-- ---- the counts of tests

put_whole : (key : List ℕ) (n : ℕ) (ms : Members) → are_whole ms ≡ true
    → are_whole (put key (number (unsigned n)) ms) ≡ true
put_whole key n no_members whole = refl
put_whole key n (member other value more) whole =
    let first = is_some (option_and_then as_u64 (as_number value)) in
    elim (slice_cmp nat_cmp key other) as (λ r. are_whole
    (match_ordering r (member key (number (unsigned n)) (member other value more)) (member other (number (unsigned n)) more)
    (member other value (put key (number (unsigned n)) more))) ≡ true) [
      | Less ↦ whole
      | Equal ↦ (both first (are_whole more) whole).1
      | Greater ↦ and_so first (are_whole more) (are_whole (put key (number (unsigned n)) more)) whole
          (put_whole key n more (both first (are_whole more) whole).1)
    ]

one_whole : (results : List Outcome) (outcome : Outcome) (ms : Members) → are_whole ms ≡ true
    → are_whole (with_count results outcome ms) ≡ true
one_whole results outcome ms whole =
    elim (count_of results outcome == 0) as (λ zero. are_whole
    (if zero then ms else put (name_of outcome) (number (unsigned (count_of results outcome))) ms) ≡ true) [
      | true ↦ whole
      | false ↦ put_whole (name_of outcome) (count_of results outcome) ms whole
    ]

all_whole : (results wanted : List Outcome) (ms : Members) → are_whole ms ≡ true
    → are_whole (with_counts results wanted ms) ≡ true
all_whole results [] ms whole = whole
all_whole results (outcome ∷ more) ms whole =
    all_whole results more (with_count results outcome ms) (one_whole results outcome ms whole)

pub counts_are_whole : (results : List Outcome) → are_whole (counts_of results) ≡ true
counts_are_whole results = all_whole results outcomes no_members refl

-- ---- whole numbers

value_has_none : (value : Data) → is_some (option_and_then as_u64 (as_number value)) ≡ true → has_float value ≡ false
value_has_none null e = absurd (true≢false (sym e))
value_has_none (boolean b) e = absurd (true≢false (sym e))
value_has_none (number (unsigned n)) e = refl
value_has_none (number (negative z)) e = absurd (true≢false (sym e))
value_has_none (number (float x)) e = absurd (true≢false (sym e))
value_has_none (string s) e = absurd (true≢false (sym e))
value_has_none (array items) e = absurd (true≢false (sym e))
value_has_none (object ms) e = absurd (true≢false (sym e))

members_have_none : (ms : Members) → are_whole ms ≡ true → members_have_float ms ≡ false
members_have_none no_members e = refl
members_have_none (member key value more) e =
    let (first, rest) = both (is_some (option_and_then as_u64 (as_number value))) (are_whole more) e in
    join (has_float value) (members_have_float more) (value_has_none value first) (members_have_none more rest)

pub whole_has_none : (value : Data) → has_whole (as_object value) ≡ true → has_float value ≡ false
whole_has_none null e = absurd (true≢false (sym e))
whole_has_none (boolean b) e = absurd (true≢false (sym e))
whole_has_none (number n) e = absurd (true≢false (sym e))
whole_has_none (string s) e = absurd (true≢false (sym e))
whole_has_none (array items) e = absurd (true≢false (sym e))
whole_has_none (object ms) e = members_have_none ms e

pub counts_have_none : (results : List Outcome) → has_float (object (counts_of results)) ≡ false
counts_have_none results = members_have_none (counts_of results) (counts_are_whole results)

-- ---- a report

entries_have_none : (lines : List Line) → items_have_float (entries_of lines) ≡ false
entries_have_none [] = refl
entries_have_none (line ∷ more) = entries_have_none more

pub report_has_none : (lines : List Line) → has_float (report_data lines) ≡ false
report_has_none lines =
    let counts = object (counts_of (results_of lines)) in
    join (has_float counts) (items_have_float (entries_of lines) || false) (counts_have_none (results_of lines))
    (join (items_have_float (entries_of lines)) false (entries_have_none lines) refl)
