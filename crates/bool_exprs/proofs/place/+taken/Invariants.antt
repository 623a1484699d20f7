use Rattle.std.proofs.Common.{length}
use Rattle.bool_exprs.proofs.place.+taken.Given as goal

abbrev pub decreases-taken : goal.decreases-taken
decreases-taken l = length l.frames.items
