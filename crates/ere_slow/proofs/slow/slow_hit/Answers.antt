use Rattle.std.proofs.Common.{sym}
use Rattle.ere_slow.proofs.slow.slow_hit.Goals as goal

pub returns-in_ok-raised-in-Some : goal.returns-in_ok-raised-in-Some
returns-in_ok-raised-in-Some c = record {
  hit = c.in_ok-raised-in-Some.ensures c.args.text.now (sym c.behind-slice.ensures.value);
}
