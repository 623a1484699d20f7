-- A list of both results of each path agrees with the results of two reports, and still does with one test more in both.
-- What is known at a path behind a new entry is the new one at that path, and else what was known (`at_more`).
-- The hard one is `agrees_new`: the old result that is put again is the one that stood there.
use Rattle.std.proofs.Common.{◌≡◌, ℕ, ◌+◌, ◌<◌, Bool, true, false, cond, drop, get_or, length, Option, Some, None, List, [], ◌∷◌, filter, map, refl, ap, sym, ◌∙◌}
use Rattle.std.proofs.lemmas.Map.Lookups.{exact_bytes}
use Rattle.std.specs.Prelude.{Vec}
use Rattle.std.specs.BTreeMap.{is_at}
use Rattle.std.specs.BTreeSet.{insert_key}
use Rattle.std.specs.Cmp.Lexicographic.{slice_cmp}
use Rattle.std.specs.Map.{lookup}
use Rattle.std.specs.List.{AllByRecursion}
use Rattle.std.specs.Option.{option_and_then}
use Rattle.std.specs.Ordering.{is_eq, nat_cmp}
use Rattle.std.specs.declared.alloc.Global.{Global}
use Rattle.std.specs.declared.cmp.Ordering.{Ordering}
use Rattle.std.specs.declared.cmp.Ordering.TheVariants.{Less, Equal, Greater}
use Rattle.num_base.specs.Names.{name_cmp}
use Rattle.test_outcome.specs.declared.outcome.Outcome.{Outcome}
use Rattle.json_report.specs.Changes.{Agrees, Known, Results, both_at, by_paths, change_at, changes_at, differs, new_at, old_at, paths_of, result_at, with_both, with_lines, with_new, with_old, with_result}
use Rattle.json_report.specs.declared.changed.Change.{Change}
use Rattle.json_report.specs.declared.line.Line.{Line}
use Rattle.json_report.specs.declared.results.Both.{Both}
use Rattle.json_report.proofs.PathLemmas.{found_under, lookup_more, paths_more}
use Rattle.json_report.proofs.ReportLemmas.{at_place}

pushed : (f : Both → Option Outcome) (b : Bool) (both : Both) (rest : Option Both)
    → option_and_then f (cond b (Some both) rest) ≡ cond b (f both) (option_and_then f rest)
pushed f true both rest = refl
pushed f false both rest = refl

at_more : (f : Both → Option Outcome) (known : Known) (path : List ℕ) (both : Both) (one : List ℕ)
    → option_and_then f (both_at (with_both known path both) one)
    ≡ cond (is_at (name_cmp one) path) (f both) (option_and_then f (both_at known one))
at_more f known path both one =
    ap (option_and_then f) (lookup_more known path one both) ∙ pushed f (is_at (name_cmp one) path) both (both_at known one)

-- a result that is put in both
put_in_both : (f : Both → Option Outcome) (known : Known) (results : Results) (path : List ℕ) (both : Both) (result : Outcome)
    → f both ≡ Some result → ((one : List ℕ) → option_and_then f (both_at known one) ≡ result_at results one) → (one : List ℕ)
    → option_and_then f (both_at (with_both known path both) one) ≡ result_at (with_result results path result) one
put_in_both f known results path both result is same one =
    at_more f known path both one ∙ ap (λ x. cond (is_at (name_cmp one) path) x (option_and_then f (both_at known one))) is
    ∙ ap (cond (is_at (name_cmp one) path) (Some result)) (same one) ∙ sym (lookup_more results path one result)

-- what is put again is what stood there
kept : (f : Both → Option Outcome) (known : Known) (path : List ℕ) (both : Both)
    → f both ≡ option_and_then f (both_at known path) → (one : List ℕ)
    → option_and_then f (both_at (with_both known path both) one) ≡ option_and_then f (both_at known one)
kept f known path both is one = at_more f known path both one ∙ by (name_cmp one path) refl
  where
    by : (r : Ordering) → name_cmp one path ≡ r
        → cond (is_eq r) (f both) (option_and_then f (both_at known one)) ≡ option_and_then f (both_at known one)
    by Less q = refl
    by Greater q = refl
    by Equal q = is ∙ ap (λ x. option_and_then f (both_at known x)) (sym (exact_bytes one path q))

paths_in_both : (known : Known) (both : Results) (path : List ℕ) (put : Both) (result : Outcome)
    → paths_of known ≡ paths_of both → paths_of (with_both known path put) ≡ paths_of (with_result both path result)
paths_in_both known both path put result same =
    paths_more known path put ∙ ap (λ paths. insert_key name_cmp paths path) same ∙ sym (paths_more both path result)

none_at : (b : Bool) (rest : Option Outcome) → rest ≡ None → cond b None rest ≡ None
none_at true rest none = refl
none_at false rest none = none

pub agrees_old : (known : Known) (old : Results) (line : Line) → Agrees known old [] old
    → Agrees (with_old known line) (with_result old line.path line.result) [] (with_result old line.path line.result)
agrees_old known old line (paths, olds, news) =
    let put : Both = record { old = Some line.result; new = None } in (
      paths_in_both known old line.path put line.result paths,
      put_in_both (λ both. both.old) known old line.path put line.result refl olds,
      λ one. at_more (λ both. both.new) known line.path put one ∙ none_at (is_at (name_cmp one) line.path) (new_at known one) (news one),
    )

pub agrees_new : (known : Known) (old new both : Results) (line : Line) → Agrees known old new both
    → Agrees (with_new known line) old (with_result new line.path line.result) (with_result both line.path line.result)
agrees_new known old new both line (paths, olds, news) =
    let put : Both = record { old = old_at known line.path; new = Some line.result } in (
      paths_in_both known both line.path put line.result paths,
      λ one. kept (λ both. both.old) known line.path put refl one ∙ olds one,
      put_in_both (λ both. both.new) known new line.path put line.result refl news,
    )

-- ---- one test after the other

pub one_line_more : (results : Results) (lines : List Line) (k : ℕ) (line : Line) → k < length lines → line ≡ get_or lines k line
    → with_lines (with_result results line.path line.result) (drop (k + 1) lines) ≡ with_lines results (drop k lines)
one_line_more results lines k line inside is = ap (with_lines results) (sym (at_place lines k line inside is))

-- ---- what differs

abbrev pub change_of : List ℕ × Both → Change
change_of (path, both) = record { path = path; old = both.old; new = both.new }

each_change : (known : Known) (old new : Results) (entries : Known)
    → ((path : List ℕ) → old_at known path ≡ result_at old path) → ((path : List ℕ) → new_at known path ≡ result_at new path)
    → AllByRecursion (λ e. both_at known e.0 ≡ Some e.1) entries
    → map change_of entries ≡ map (change_at old new) (paths_of entries)
each_change known old new [] olds news here = refl
each_change known old new ((path, both) ∷ more) olds news here =
    ap (λ x. record { path = path; old = x; new = both.new } ∷ map change_of more)
    (ap (option_and_then (λ b. b.old)) (sym here.0) ∙ olds path)
    ∙ ap (λ x. record { path = path; old = result_at old path; new = x } ∷ map change_of more)
    (ap (option_and_then (λ b. b.new)) (sym here.0) ∙ news path)
    ∙ ap (λ rest. change_at old new path ∷ rest) (each_change known old new more olds news here.1)

pub each_under : (all entries : List (Vec ℕ Global × Both))
    → AllByRecursion (λ e. lookup (is_at (λ k. slice_cmp nat_cmp e.0.items k.items)) all ≡ Some e.1) entries
    → AllByRecursion (λ e. both_at (by_paths all) e.0 ≡ Some e.1) (by_paths entries)
each_under all [] here = tt
each_under all (e ∷ more) here = (found_under all e.0.items ∙ here.0, each_under all more here.1)

pub changes_agree : (known : Known) (old new both : Results) → Agrees known old new both
    → AllByRecursion (λ e. both_at known e.0 ≡ Some e.1) known
    → filter (λ change. differs change.old change.new) (map change_of known) ≡ changes_at old new (paths_of both)
changes_agree known old new both (paths, olds, news) here =
    ap (filter (λ change. differs change.old change.new))
    (each_change known old new known olds news here ∙ ap (map (change_at old new)) paths)
