-- The nodes of a table.
-- Own rule: a table is a list of nodes that name each other by their places in it.
use Rattle.std.specs.Prelude.{ℕ, List, [], ◌∷◌, max, slice_index_or}
use Rattle.ere_tree.specs.View.{members_of}
use Rattle.ere_table.specs.declared.node.EreNode as code
use Rattle.ere_table.specs.declared.node.EreNode.TheVariants as kind

pub data Node : Type 0 where
  stop : Node  -- the expression has matched
  byte : List ℕ → ℕ → Node  -- one byte of these, and on
  fork : ℕ → ℕ → Node  -- on at either
  at_start : ℕ → Node  -- on, where a line starts
  at_end : ℕ → Node  -- on, where a line ends
  fail : Node  -- nowhere

-- the node that a value of the type `Node` stands for
abbrev pub node_of : code.EreNode → Node
node_of kind.Stop = stop
node_of (kind.Byte b next) = byte (b ∷ []) next
node_of (kind.Set one next) = byte (members_of one.bits) next
node_of (kind.Fork one other) = fork one other
node_of (kind.AtStart next) = at_start next
node_of (kind.AtEnd next) = at_end next
node_of kind.Fail = fail

-- the node at a place of a list, and a stop behind its end
abbrev pub node_at : List code.EreNode → ℕ → Node
node_at nodes q = node_of (slice_index_or nodes q kind.Stop)

-- the greatest place that a node names
abbrev pub furthest : code.EreNode → ℕ
furthest kind.Stop = 0
furthest (kind.Byte b next) = next
furthest (kind.Set one next) = next
furthest (kind.Fork one other) = max one other
furthest (kind.AtStart next) = next
furthest (kind.AtEnd next) = next
furthest kind.Fail = 0

-- the greatest place that is named by the node at a place
abbrev pub furthest_at : List code.EreNode → ℕ → ℕ
furthest_at nodes q = furthest (slice_index_or nodes q kind.Stop)
