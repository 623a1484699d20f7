use Rattle.std.proofs.Common.{◌≡◌, true, map}
use Rattle.ere_tree.specs.Tree.{cat, trees_of}
use Rattle.ere_tree.specs.View.{view}
use Rattle.ere_match.specs.Begins.{NoneBefore}
use Rattle.ere_match.proofs.BeginsLemmas.{InLine}
use Rattle.ere_match.proofs.literal.+earliest.Given as goal

abbrev pub invariant-earliest_of_all-loop-index : goal.invariant-earliest_of_all-loop-index
invariant-earliest_of_all-loop-index l = record {
  none : NoneBefore l.slice (cat (trees_of (map view l.parts))) l.begin;
  line : l.in_line ≡ true → InLine l.parts l.index;
}
