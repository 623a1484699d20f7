use Rattle.std.proofs.Common.{◌+◌, ◌*◌, length}
use Rattle.lit_round.proofs.team.+all_work+fn-all_work-join+arg3.Given as goal

abbrev pub decreases-all_work : goal.decreases-all_work
decreases-all_work g l = 2 * length l.hands.items

abbrev pub decreases-join+arg3 : goal.decreases-join+arg3
decreases-join+arg3 g l = 2 * length l.hands.items + 1
