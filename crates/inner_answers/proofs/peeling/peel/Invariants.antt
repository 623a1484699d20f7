use Rattle.std.proofs.Common.{◌-◌, length}
use Rattle.opt_words.specs.Step.{texts}
use Rattle.inner_answers.proofs.PeelLemmas.{Front}
use Rattle.inner_answers.proofs.peeling.peel.Given as goal

abbrev pub invariant-loop-command : goal.invariant-loop-command
invariant-loop-command l = Front l.short (texts l.words) l.levels l.core

abbrev pub decreases-loop-command : goal.decreases-loop-command
decreases-loop-command l = length l.words - l.core
