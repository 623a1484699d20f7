use Rattle.std.proofs.Common.{arith, sym}
use Rattle.make_checks.proofs.lines.long_line.Goals as goal

pub returns-then-are_short : goal.returns-then-are_short
returns-then-are_short c = sym (c.are_short.ensures c.if-are_short.true 1)

pub is_too_long-requires : goal.is_too_long-requires
is_too_long-requires c = omega (arith, c.first_line.ensures.within, c.loop-behind.invariant.within)
