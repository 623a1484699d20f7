use Rattle.std.proofs.Common.{◌≡◌}
use Rattle.ere_match.specs.Line.{AreStarts}
use Rattle.ere_match.proofs.line.Line.starts.Given as goal

abbrev pub invariant-loop-before : goal.invariant-loop-before
invariant-loop-before l = record {
  starts : AreStarts l.self l.fn.place l.starts;
  last : l.starts.last ≡ l.before;
  high : l.starts.high ≡ l.self.high;
}
