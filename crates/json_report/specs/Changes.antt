-- What changed between two reports: the paths of either, in byte order, whose results differ or that one of them lacks. Own.
use Rattle.std.specs.Prelude.{◌≡◌, ℕ, Bool, true, false, not, List, [], ◌∷◌, filter, map, Option, None, Some, Vec}
use Rattle.std.specs.BTreeMap.{is_at, insert_entry}
use Rattle.std.specs.Map.{lookup}
use Rattle.std.specs.Option.{option_and_then}
use Rattle.std.specs.declared.alloc.Global.{Global}
use Rattle.num_base.specs.Names.{name_cmp, as_pair}
use Rattle.test_outcome.specs.Outcome.{is_same}
use Rattle.test_outcome.specs.declared.outcome.Outcome.{Outcome}
use Rattle.json_report.specs.declared.changed.Change.{Change}
use Rattle.json_report.specs.declared.line.Line.{Line}
use Rattle.json_report.specs.declared.results.Both.{Both}

-- the result of each path, in byte order of the paths
abbrev pub Results : Type 0
Results = List (List ℕ × Outcome)

-- what stands under each path, as std's map holds it
abbrev pub by_paths : {V : Type 0} → List (Vec ℕ Global × V) → List (List ℕ × V)
by_paths entries = map as_pair entries

abbrev pub with_result : Results → List ℕ → Outcome → Results
with_result known path result = insert_entry name_cmp known path result

abbrev pub with_lines : Results → List Line → Results
with_lines known [] = known
with_lines known (line ∷ more) = with_lines (with_result known line.path line.result) more

abbrev pub result_at : Results → List ℕ → Option Outcome
result_at known path = lookup (is_at (name_cmp path)) known

abbrev pub paths_of : {V : Type 0} → List (List ℕ × V) → List (List ℕ)
paths_of known = map (λ entry. entry.0) known

-- ---- what differs

abbrev pub differs : Option Outcome → Option Outcome → Bool
differs (Some old) (Some new) = not (is_same old new)
differs None None = false
differs (Some old) None = true
differs None (Some new) = true

abbrev pub change_at : Results → Results → List ℕ → Change
change_at old new path = record { path = path; old = result_at old path; new = result_at new path }

abbrev pub changes_at : Results → Results → List (List ℕ) → List Change
changes_at old new paths = filter (λ change. differs change.old change.new) (map (change_at old new) paths)

abbrev pub changes : List Line → List Line → List Change
changes old new =
    changes_at (with_lines [] old) (with_lines [] new) (paths_of (with_lines (with_lines [] old) new))

-- ---- both results of each path in one list, as far as they are known

abbrev pub Known : Type 0
Known = List (List ℕ × Both)

abbrev pub both_at : Known → List ℕ → Option Both
both_at known path = lookup (is_at (name_cmp path)) known

abbrev pub with_both : Known → List ℕ → Both → Known
with_both known path both = insert_entry name_cmp known path both

abbrev pub old_at : Known → List ℕ → Option Outcome
old_at known path = option_and_then (λ both. both.old) (both_at known path)

abbrev pub new_at : Known → List ℕ → Option Outcome
new_at known path = option_and_then (λ both. both.new) (both_at known path)

-- a test of the old report, and of the new one behind it
abbrev pub with_old : Known → Line → Known
with_old known line = with_both known line.path (record { old = Some line.result; new = None })

abbrev pub with_new : Known → Line → Known
with_new known line = with_both known line.path (record { old = old_at known line.path; new = Some line.result })

-- the list knows the results of an old report, of a new one, and the paths of both
abbrev pub Agrees : Known → Results → Results → Results → Type 0
Agrees known old new both = (paths_of known ≡ paths_of both)
    × ((path : List ℕ) → old_at known path ≡ result_at old path)
    × ((path : List ℕ) → new_at known path ≡ result_at new path)
