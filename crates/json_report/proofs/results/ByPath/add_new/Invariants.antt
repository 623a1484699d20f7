use Rattle.std.proofs.Common.{◌≡◌, drop}
use Rattle.json_report.specs.Changes.{Agrees, Results, with_lines}
use Rattle.json_report.proofs.results.ByPath.add_new.Given as goal

abbrev pub invariant-loop-line : goal.invariant-loop-line
invariant-loop-line l = (old new both : Results) → Agrees l.fn.self old new both
    → (now : Results) × (all : Results) × Agrees l.self old now all
    × (with_lines now (drop l.line-index l.lines) ≡ with_lines new l.lines)
    × (with_lines all (drop l.line-index l.lines) ≡ with_lines both l.lines)
