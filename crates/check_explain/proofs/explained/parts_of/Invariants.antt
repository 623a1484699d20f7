use Rattle.std.proofs.Common.{◌≡◌, ◌++◌}
use Rattle.std.specs.List.{flat_map}
use Rattle.check_explain.specs.Explained.{told_in}
use Rattle.check_explain.proofs.explained.parts_of.Given as goal

abbrev pub invariant-loop-noted : goal.invariant-loop-noted
invariant-loop-noted l = flat_map told_in l.parts ++ l.rest ≡ l.text
