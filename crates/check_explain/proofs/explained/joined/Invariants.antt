use Rattle.std.proofs.Common.{◌≡◌, ◌++◌, drop}
use Rattle.std.specs.List.{flat_map}
use Rattle.check_explain.specs.Explained.{all_in}
use Rattle.check_explain.proofs.explained.joined.Given as goal

abbrev pub invariant-loop-part : goal.invariant-loop-part
invariant-loop-part l = l.text ++ flat_map all_in (drop l.part-index l.parts) ≡ flat_map all_in l.parts
