use Rattle.std.proofs.Common.{sym, ◌∙◌}
use Rattle.ere_dive.proofs.search.is_between.Goals.{then-branch, else-branch+in_ok-is_found-2}
use Rattle.ere_dive.proofs.search.is_between.Goals as goal

pub returns-clause-found : goal.returns-clause-found
returns-clause-found c = λ yes. elim c.if-branch.branch [
  | then-branch w ↦ c.in_ok-is_found.ensures.found w.if-branch.true
  | else-branch+in_ok-is_found-2 w ↦ w.in_ok-is_found-2.ensures.found (sym w.result-is ∙ yes)
]
