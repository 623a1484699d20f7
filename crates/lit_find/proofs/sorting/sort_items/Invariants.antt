use Rattle.lit_find.proofs.Names.{◌≡◌, take, with_items}
use Rattle.lit_find.proofs.sorting.sort_items.Given as goal

abbrev pub invariant-loop-item : goal.invariant-loop-item
invariant-loop-item l = record {
  sorted : l.walk ≡ with_items l.root l.dir l.fn.walk (take l.item-index l.items);
  walked : l.walk.walked ≡ l.fn.walk.walked;
  taken : l.walk.taken ≡ l.fn.walk.taken;
}
