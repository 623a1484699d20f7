use Rattle.std.proofs.Common.{◌≡◌, ◌≤◌, ◌-◌, List, length, drop, false}
use Rattle.opt_words.specs.Reading.{AllStand, IsTally, givens, givens_from}
use Rattle.opt_words.specs.Step.{texts}
use Rattle.opt_words.specs.declared.step.Given.{Given}
use Rattle.opt_words.proofs.table.Table.read.Given as goal

-- what was given up to a word, and what the words from there on give, is what all give
abbrev pub invariant-loop-fault : goal.invariant-loop-fault
invariant-loop-fault g l = (before : List Given) × IsTally g.row.N before l.settings × (length before ≤ l.at)
    × (l.at ≤ length l.words)
    × (givens_from l.self.rows l.self.stop_at_plain l.at l.only_plain false before (drop l.at (texts l.words))
    ≡ givens l.self.rows l.self.stop_at_plain (texts l.words))
    × AllStand g.row.N (texts l.words) l.settings

abbrev pub decreases-loop-fault : goal.decreases-loop-fault
decreases-loop-fault g l = length l.words - l.at
