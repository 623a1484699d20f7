use Rattle.std.proofs.Common.{length}
use Rattle.tt_tests.proofs.plain.+plain_begins.Given as goal

abbrev pub decreases-plain_begins : goal.decreases-plain_begins
decreases-plain_begins l = length l.text.now
