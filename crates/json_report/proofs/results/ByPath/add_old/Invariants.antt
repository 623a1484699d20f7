use Rattle.std.proofs.Common.{◌≡◌, [], drop}
use Rattle.json_report.specs.Changes.{Agrees, Results, with_lines}
use Rattle.json_report.proofs.results.ByPath.add_old.Given as goal

abbrev pub invariant-loop-line : goal.invariant-loop-line
invariant-loop-line l = (known : Results) → Agrees l.fn.self known [] known
    → (now : Results) × Agrees l.self now [] now × (with_lines now (drop l.line-index l.lines) ≡ with_lines known l.lines)
