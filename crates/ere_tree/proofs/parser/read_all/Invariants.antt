use Rattle.std.proofs.Common.{◌≡◌, ◌-◌, ◌≤◌, drop, length}
use Rattle.ere_tree.specs.Grammar.{tree_read}
use Rattle.ere_tree.specs.Levels.{state}
use Rattle.ere_tree.proofs.ReadingLemmas.{said}
use Rattle.ere_tree.proofs.parser.read_all.Given as goal

abbrev pub invariant-loop-at : goal.invariant-loop-at
invariant-loop-at l = record {
  within : l.at ≤ length l.bytes;
  rest : said l.fold (state l.reader) l.at (drop l.at l.bytes) ≡ tree_read l.fold l.bytes;
}

abbrev pub decreases-loop-at : goal.decreases-loop-at
decreases-loop-at l = length l.bytes - l.at
