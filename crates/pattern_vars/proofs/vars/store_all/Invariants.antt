use Rattle.std.proofs.Common.{◌≡◌, true}
use Rattle.std.specs.Vec.Iter.{into_iter_items}
use Rattle.num_base.specs.Names.{by_names}
use Rattle.pattern_vars.specs.Vars.{bound_all, have_places}
use Rattle.pattern_vars.proofs.vars.store_all.Given as goal

abbrev pub invariant-loop-binding : goal.invariant-loop-binding
invariant-loop-binding l = record {
  places : have_places (by_names l.held.entries) (into_iter_items l.binding-iterator) ≡ true;
  stored : bound_all (by_names l.held.entries) (into_iter_items l.binding-iterator)
      ≡ bound_all (by_names l.fn.held.entries) l.fn.fresh.items;
}
