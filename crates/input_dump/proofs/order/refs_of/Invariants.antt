use Rattle.std.proofs.Common.{◌≡◌, map, take}
use Rattle.input_dump.proofs.order.refs_of.Given as goal

abbrev pub invariant-loop-mark : goal.invariant-loop-mark
invariant-loop-mark l = map (λ mark. mark.now) l.refs.items ≡ take l.mark-index l.marks
