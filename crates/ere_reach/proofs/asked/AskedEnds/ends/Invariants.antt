use Rattle.std.proofs.Common.{◌≡◌, length}
use Rattle.ere_reach.specs.Asked.{AreBuilt}
use Rattle.ere_reach.proofs.asked.AskedEnds.ends.Given as goal

abbrev pub invariant-loop-index : goal.invariant-loop-index
invariant-loop-index l = record {
  built : AreBuilt l.self;
  end : l.index-end ≡ length l.self.all.items;
}
