use Rattle.std.proofs.Common.{length}
use Rattle.tt_tests.proofs.plain.+plain_first.Given as goal

abbrev pub decreases-plain_first : goal.decreases-plain_first
decreases-plain_first l = length l.text.now
