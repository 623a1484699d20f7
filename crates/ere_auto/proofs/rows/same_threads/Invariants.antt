use Rattle.std.proofs.Common.{◌≡◌, ℕ, ◌<◌, length}
use Rattle.ere_auto.specs.Closure.{node_in, origin_in}
use Rattle.ere_auto.proofs.rows.same_threads.Given as goal

abbrev pub invariant-loop-index : goal.invariant-loop-index
invariant-loop-index l = record {
  long : length l.one ≡ length l.other;
  nodes : (k : ℕ) → k < l.index → node_in l.one k ≡ node_in l.other k;
  origins : (k : ℕ) → k < l.index → origin_in l.one k ≡ origin_in l.other k;
}
