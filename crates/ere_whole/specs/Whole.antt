-- Matches of a whole text. After POSIX.1 XBD 9.4, by way of the spans of derivations.
use Rattle.std.specs.Prelude.{List, ℕ, length}
use Rattle.ere_tree.specs.Tree.{Tree}
use Rattle.ere_tree.specs.Derivation.{Spans}

-- the tree spans the whole text
abbrev pub MatchesWhole : Tree → List ℕ → Type 0
MatchesWhole tree text = Spans text tree 0 (length text)
