use Rattle.std.proofs.Common.{◌≡◌, ◌≤◌, ◌-◌, All, List, length, drop, false}
use Rattle.std.specs.Prelude.{Ok}
use Rattle.opt_words.specs.Reading.{givens, givens_from}
use Rattle.opt_words.specs.Step.{Stands, texts}
use Rattle.opt_words.specs.declared.step.Given.{Given}
use Rattle.opt_words.proofs.table.Table.givens.Given as goal

-- where the words have no fault, what was given up to a word, and what the words from there on give, is what all give
abbrev pub invariant-loop-all : goal.invariant-loop-all
invariant-loop-all g l = (l.at ≤ length l.words)
    × ((due : List Given) → givens l.self.rows l.self.stop_at_plain (texts l.words) ≡ Ok due
    → givens_from l.self.rows l.self.stop_at_plain l.at l.only_plain false l.all (drop l.at (texts l.words)) ≡ Ok due)
    × All (Stands (texts l.words)) l.all

abbrev pub decreases-loop-all : goal.decreases-loop-all
decreases-loop-all g l = length l.words - l.at
