use Rattle.std.proofs.Common.{◌≡◌, length}
use Rattle.ere_reach.specs.Live.{AreLast}
use Rattle.ere_reach.proofs.live.lives_from.Given as goal

abbrev pub invariant-loop-count : goal.invariant-loop-count
invariant-loop-count l = record {
  count : length l.lives.items ≡ l.count;
  read : AreLast l.all l.behind l.lives.items l.count;
}
