use Rattle.std.proofs.Common.{◌≡◌, drop}
use Rattle.lit_directives.specs.Keyword.{NoneStandsBefore, is_behind_word, mark_from, mark_of}
use Rattle.lit_directives.proofs.keyword.mark_of.Given as goal

abbrev pub invariant-loop-at : goal.invariant-loop-at
invariant-loop-at l = record {
  behind : l.behind_word ≡ is_behind_word l.line l.at;
  none : NoneStandsBefore l.line l.at;
  same : mark_from l.behind_word l.at (drop l.at l.line) ≡ mark_of l.line;
}
