-- The paths through a table.
-- Own rule: what a table matches is where its paths lead.
use Rattle.std.specs.Prelude.{◌≡◌, ℕ, List, ◌+◌, ◌<◌, ◌≤◌, zero, suc, length, slice_index, IsTrue, ◌⊎◌}
use Rattle.std.specs.List.{Contains}
use Rattle.ere_table.specs.Node.{Node, stop, byte, fork, at_start, at_end, fail, node_at}
use Rattle.ere_tree.specs.Tree.{Tree}
use Rattle.ere_tree.specs.Derivation.{Spans, is_line_start, is_line_end}
use Rattle.ere_table.specs.declared.node.EreNode as code

-- one edge: from a node at a place to a node at a place
abbrev pub Edge : List ℕ → Node → ℕ → ℕ → ℕ → Type 0
Edge s stop i p j = ⊥
Edge s (byte bytes n) i p j = (p ≡ n) × (j ≡ i + 1) × (i < length s) × Contains bytes (slice_index s i)
Edge s (fork a b) i p j = ((p ≡ a) ⊎ (p ≡ b)) × (j ≡ i)
Edge s (at_start n) i p j = (p ≡ n) × (j ≡ i) × IsTrue (is_line_start s i)
Edge s (at_end n) i p j = (p ≡ n) × (j ≡ i) × IsTrue (is_line_end s i)
Edge s fail i p j = ⊥

-- so many edges one behind the other
abbrev pub Path : List ℕ → (ℕ → Node) → ℕ → ℕ → ℕ → ℕ → ℕ → Type 0
Path s T zero q i p j = (p ≡ q) × (j ≡ i)
Path s T (suc l) q i p j = (r : ℕ) × (m : ℕ) × Edge s (T q) i r m × Path s T l r m p j

-- a path of some length
abbrev pub Leads : List ℕ → (ℕ → Node) → ℕ → ℕ → ℕ → ℕ → Type 0
Leads s T q i p j = (l : ℕ) × Path s T l q i p j

-- The law of a table: it leads from its entry at i to node 0 at j exactly where the tree derives [i, j).
pub record LeadsAs (nodes : List code.EreNode) (entry : ℕ) (t : Tree) : Type 0 where
  pub sound : (s : List ℕ) (i j : ℕ) → i ≤ length s → Leads s (node_at nodes) entry i 0 j → Spans s t i j
  pub complete : (s : List ℕ) (i j : ℕ) → Spans s t i j → Leads s (node_at nodes) entry i 0 j
