use Rattle.std.proofs.Common.{◌≡◌, ◌++◌, drop}
use Rattle.lit_test.specs.Transcript.{texts_on}
use Rattle.lit_test.proofs.transcript.add_texts_on.Given as goal

abbrev pub invariant-loop-one : goal.invariant-loop-one
invariant-loop-one l = l.text ++ texts_on l.line (drop l.one-index l.told) ≡ l.fn.text ++ texts_on l.line l.told
