use Rattle.std.proofs.Common.{◌≡◌, ◌++◌, ◌+◌, length}
use Rattle.std.specs.Vec.Iter.{into_iter_items}
use Rattle.lit_tool.specs.Kept.{shard_from}
use Rattle.lit_tool.proofs.kept.in_shard.Given as goal

abbrev pub invariant-loop-item : goal.invariant-loop-item
invariant-loop-item g l = record {
  done : l.kept ++ shard_from l.part l.place (into_iter_items l.item-iterator) ≡ shard_from l.part 0 l.fn.items;
  counted : l.place + length (into_iter_items l.item-iterator) ≡ length l.fn.items;
}
