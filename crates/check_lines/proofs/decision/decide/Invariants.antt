use Rattle.std.proofs.Common.{◌≡◌, drop}
use Rattle.check_lines.specs.Decision.{NoneDecidesBefore, decide, decide_from, is_behind_word}
use Rattle.check_lines.proofs.decision.decide.Given as goal

abbrev pub invariant-loop-at : goal.invariant-loop-at
invariant-loop-at l = record {
  behind : l.behind_word ≡ is_behind_word l.line l.at;
  none : NoneDecidesBefore l.prefixes.checks.prefixes.now l.prefixes.comments.prefixes.now l.line l.at;
  same : decide_from l.prefixes.checks.prefixes.now l.prefixes.comments.prefixes.now l.behind_word l.at (drop l.at l.line)
      ≡ decide l.prefixes.checks.prefixes.now l.prefixes.comments.prefixes.now l.line;
}
