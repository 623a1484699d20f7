use Rattle.std.proofs.Common.{◌≡◌, drop}
use Rattle.num_base.specs.Names.{by_names}
use Rattle.pattern_vars.specs.Vars.{with_places}
use Rattle.pattern_vars.proofs.vars.make_places.Given as goal

abbrev pub invariant-loop-name : goal.invariant-loop-name
invariant-loop-name l =
    with_places (by_names l.held.entries) (drop l.name-index l.names) ≡ with_places (by_names l.fn.held.entries) l.names
