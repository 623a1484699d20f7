-- What putting an expression into a table does to its nodes.
use Rattle.std.specs.Prelude.{◌≡◌, ℕ, List, ◌<◌, ◌≤◌, length}
use Rattle.ere_table.specs.Node.{node_at}
use Rattle.ere_table.specs.declared.node.EreNode as code

-- what was in the first list is in the second, at its place
pub record Grows (old new : List code.EreNode) : Type 0 where
  pub longer : length old ≤ length new
  pub same : (q : ℕ) → q < length old → node_at new q ≡ node_at old q
