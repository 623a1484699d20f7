use Rattle.std.proofs.Common.{◌≡◌}
use Rattle.ere_tree.specs.Derivation.{Spans}
use Rattle.ere_tree.specs.View.{view}
use Rattle.ere_whole.specs.Places.{AreReached}
use Rattle.ere_whole.proofs.ReachLemmas.{Before}
use Rattle.ere_whole.proofs.leaf.past_leaf.Given as goal

abbrev pub invariant-loop-place : goal.invariant-loop-place
invariant-loop-place l = record {
  block : l.found.block ≡ l.block;
  reached : AreReached (Before (Spans l.text (view l.ere)) l.place) l.from l.found;
}
