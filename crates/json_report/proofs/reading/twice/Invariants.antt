use Rattle.std.proofs.Common.{◌≡◌, ℕ, List, [], drop, is_some}
use Rattle.std.specs.List.{list_any}
use Rattle.std.specs.Str.{bytes_eq}
use Rattle.json_report.specs.Changes.{both_at}
use Rattle.json_report.specs.Reading.{twice_from}
use Rattle.json_report.proofs.reading.twice.Given as goal

abbrev pub invariant-loop-place : goal.invariant-loop-place
invariant-loop-place l =
    (paths : List (List ℕ)) × ((path : List ℕ) → is_some (both_at l.paths path) ≡ list_any (bytes_eq path) paths)
    × (twice_from l.place paths (drop l.place l.lines) ≡ twice_from 0 [] l.lines)
