use Rattle.std.proofs.Common.{◌≡◌, ◌++◌, map, drop}
use Rattle.pattern_vars.specs.Vars.{name_of}
use Rattle.define_words.proofs.start.add_names.Given as goal

abbrev pub invariant-loop-binding : goal.invariant-loop-binding
invariant-loop-binding l =
    l.names ++ map name_of (drop l.binding-index l.fresh) ≡ l.fn.names ++ map name_of l.fresh
