use Rattle.std.proofs.Common.{◌≡◌, ◌++◌, drop}
use Rattle.opt_words.specs.Step.{texts}
use Rattle.filecheck_words.specs.Values.{values}
use Rattle.filecheck_words.proofs.values.values.Given as goal

abbrev pub invariant-loop-given : goal.invariant-loop-given
invariant-loop-given l =
    l.found ++ values l.row (texts l.words) (drop l.given-index l.all) ≡ values l.row (texts l.words) l.all
