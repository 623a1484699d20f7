use Rattle.std.proofs.Common.{◌≡◌, ◌≤◌, ◌^◌, ◌++◌, length}
use Rattle.make_checks.specs.Keeping.{text_by}
use Rattle.make_checks.proofs.kept.free_lines.Given as goal

-- what was kept, and what is kept of the rest, is what is kept of all
abbrev pub invariant-loop-rest : goal.invariant-loop-rest
invariant-loop-rest l = record {
  so_far : l.text ++ text_by l.prefixes l.rest ≡ text_by l.prefixes l.old;
  small : length l.text ≤ 16777216;
  short : length l.rest ≤ 2 ^ 30;
}

abbrev pub decreases-loop-rest : goal.decreases-loop-rest
decreases-loop-rest l = length l.rest
