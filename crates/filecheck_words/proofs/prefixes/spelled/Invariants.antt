use Rattle.std.proofs.Common.{◌≡◌, ◌++◌, drop}
use Rattle.opt_words.specs.Step.{texts}
use Rattle.filecheck_words.specs.Prefixes.{spelled}
use Rattle.filecheck_words.proofs.prefixes.spelled.Given as goal

abbrev pub invariant-loop-given : goal.invariant-loop-given
invariant-loop-given l =
    l.prefixes ++ spelled l.from l.to (texts l.words) (drop l.given-index l.all) ≡ spelled l.from l.to (texts l.words) l.all
