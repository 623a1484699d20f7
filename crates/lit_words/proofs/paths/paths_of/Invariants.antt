use Rattle.std.proofs.Common.{◌≡◌, ◌++◌, drop}
use Rattle.opt_words.specs.Step.{texts}
use Rattle.lit_words.specs.Paths.{paths_of}
use Rattle.lit_words.proofs.paths.paths_of.Given as goal

abbrev pub invariant-loop-given : goal.invariant-loop-given
invariant-loop-given l =
    l.paths ++ paths_of (texts l.words) (drop l.given-index l.all) ≡ paths_of (texts l.words) l.all
