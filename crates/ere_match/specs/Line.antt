-- What is told at once of the rest of a line, and of many places in it at which hits may begin.
-- Own rule: what an expression with references derives, one without them spans. Where that one spans nothing that begins at a
-- place, no hit begins there; and none of what begins in the line goes on beyond it.
use Rattle.std.specs.Prelude.{ℕ, ◌≤◌, Option, IfSome, IsTrue, List, length}
use Rattle.std.specs.FinMap.{empty}
use Rattle.std.specs.List.{All, Contains}
use Rattle.ere_match.specs.declared.line.Line.{Line}
use Rattle.ere_match.specs.declared.starts.Starts.{Starts}
use Rattle.ere_places.specs.Seen.{is_held}
use Rattle.ere_reach.specs.Rows.{IsIn}
use Rattle.ere_relaxed.specs.Relaxed.{SpansAll}
use Rattle.ere_tree.specs.Captures.{Captures}
use Rattle.ere_tree.specs.Derivation.{Derives, Spans, Way}
use Rattle.ere_tree.specs.Tree.{Tree}

-- nothing that the tree spans begins between the places and ends behind them
pub record StaysUpTo (s : List ℕ) (t : Tree) (low high : ℕ) : Type 0 where
  pub order : low ≤ high
  pub inside : high ≤ length s
  pub ends : (h k : ℕ) → low ≤ h → h ≤ high → Spans s t h k → k ≤ high

-- of what the tree spans from the first place on up to the second one, nothing ends behind the third
pub record EndsBy (s : List ℕ) (t : Tree) (low high last : ℕ) : Type 0 where
  pub order : low ≤ last
  pub inside : last ≤ high
  pub ends : (k : ℕ) → k ≤ high → Spans s t low k → k ≤ last

-- whatever the tree derives that begins in the line from a place on begins at a place of the set, and ends in the line
pub record HasLine (s : List ℕ) (t : Tree) (low : ℕ) (line : Line) : Type 0 where
  pub order : low ≤ line.high
  pub inside : line.high ≤ length s
  pub each : (h k : ℕ) (v : Way) (d : Captures) → low ≤ h → h ≤ line.high → Derives s t v h k empty d
      → IsTrue (is_held line.begins h) × (k ≤ line.high)

-- that of each tree of which the second spans all
abbrev pub TellsLine : List ℕ → Tree → ℕ → Option Line → Type 0
TellsLine s free low found = IfSome found (λ line. (t : Tree) → SpansAll t free → HasLine s t low line)

-- the places lie from one on, and whatever begins between it and the last of them begins at one of them and ends as far on as
-- they may reach
pub record HasStarts (s : List ℕ) (t : Tree) (place : ℕ) (starts : Starts) : Type 0 where
  pub from : place ≤ starts.last
  pub within : starts.high ≤ length s
  pub inside : All (IsIn place starts.high) starts.places.items
  pub each : (h k : ℕ) (v : Way) (d : Captures) → place ≤ h → h ≤ starts.last → Derives s t v h k empty d
      → Contains starts.places.items h × (k ≤ starts.high)

-- those of each tree of which this is the line
abbrev pub AreStarts : Line → ℕ → Starts → Type 0
AreStarts line place starts = (s : List ℕ) (t : Tree) → HasLine s t place line → HasStarts s t place starts
