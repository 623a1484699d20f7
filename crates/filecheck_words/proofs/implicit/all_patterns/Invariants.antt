use Rattle.std.proofs.Common.{◌≡◌, ◌++◌, drop, map}
use Rattle.filecheck_words.specs.Implicit.{pattern_of}
use Rattle.filecheck_words.proofs.implicit.all_patterns.Given as goal

abbrev pub invariant-loop-value : goal.invariant-loop-value
invariant-loop-value l =
    l.patterns ++ map (pattern_of l.strict) (drop l.value-index l.values) ≡ map (pattern_of l.strict) l.values
