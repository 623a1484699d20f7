use Rattle.std.proofs.Common.{◌≡◌, ◌++◌, filter, map}
use Rattle.json_report.specs.Changes.{by_paths, differs}
use Rattle.json_report.proofs.BothLemmas.{change_of}
use Rattle.json_report.proofs.results.ByPath.changes.Given as goal

abbrev pub invariant-loop-path : goal.invariant-loop-path
invariant-loop-path l =
    l.found ++ filter (λ change. differs change.old change.new) (map change_of (by_paths l.path-iterator))
    ≡ filter (λ change. differs change.old change.new) (map change_of l.self)
