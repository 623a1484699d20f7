use Rattle.std.proofs.Common.{◌≡◌, length, take}
use Rattle.prefix_tree.specs.Heads.{AreHeads}
use Rattle.prefix_tree.proofs.heads.heads_of.Given as goal

abbrev pub invariant-loop-prefix : goal.invariant-loop-prefix
invariant-loop-prefix l = record {
  long : length l.heads ≡ 256;
  are : AreHeads l.heads (take l.prefix-index l.prefixes);
}
