use Rattle.std.proofs.Common.{◌≡◌, ◌++◌, take, drop}
use Rattle.filecheck_words.specs.Prefixes.{first_fault}
use Rattle.filecheck_words.proofs.prefixes.first_fault.Given as goal

abbrev pub invariant-loop-at : goal.invariant-loop-at
invariant-loop-at l = first_fault (l.names ++ take l.at l.order) (drop l.at l.order) ≡ first_fault l.names l.order
