use Rattle.std.proofs.Common.{◌≡◌, ◌-◌, ◌++◌}
use Rattle.std.specs.Prelude.{replicate}
use Rattle.num_spell.proofs.printing.add_zeros.Given as goal

abbrev pub invariant-loop-added : goal.invariant-loop-added
invariant-loop-added l = l.out.items ++ replicate (l.count - l.added) 48 ≡ l.fn.out.items ++ replicate l.count 48
