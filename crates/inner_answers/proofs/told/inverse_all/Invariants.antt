use Rattle.std.proofs.Common.{◌≡◌, ◌≤◌, drop, length, map}
use Rattle.opt_words.specs.Step.{texts}
use Rattle.inner_answers.specs.Peeled.{level_in}
use Rattle.inner_answers.specs.Told.{inverse_all}
use Rattle.inner_answers.proofs.told.inverse_all.Given as goal

-- the levels from an index on are done
abbrev pub invariant-loop-at : goal.invariant-loop-at
invariant-loop-at l = record {
  within : l.at ≤ length l.levels;
  done : l.reply ≡ inverse_all l.limit (map (level_in (texts l.words)) (drop l.at l.levels)) l.fn.core;
}

abbrev pub decreases-loop-at : goal.decreases-loop-at
decreases-loop-at l = l.at
