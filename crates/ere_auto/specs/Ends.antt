-- Threads that are followed from some places at once, whichever of them they come from.
-- Own rule: where only the ends are asked for, it doesn't matter at which of the places a path begins.
use Rattle.std.specs.Prelude.{◌≡◌, ◌↔◌, ℕ, ◌+◌, ◌<◌, Bool, true, IsTrue, List, length, ◌⊎◌}
use Rattle.std.specs.List.{Contains}
use Rattle.ere_table.specs.Node.{Node, node_at}
use Rattle.ere_table.specs.Path.{Leads}
use Rattle.ere_table.specs.declared.table.NodeTable.{NodeTable}
use Rattle.ere_places.specs.Places.{IsReached}
use Rattle.ere_places.specs.Seen.{is_held}
use Rattle.ere_places.specs.declared.seen.Seen.{Seen}
use Rattle.ere_auto.specs.Closure.{HasNode, Opened, node_in, origin_in}
use Rattle.ere_auto.specs.declared.thread.Thread.{Thread}

-- a path from the entry at one of these places comes to the node by the byte before the place n
abbrev pub Comes : List ℕ → (ℕ → Node) → ℕ → List ℕ → ℕ → ℕ → Type 0
Comes s T e from n q = IsReached (Opened s T e n) from q

-- or it begins at the place n, which is one of them, and the node is the entry
abbrev pub Stands : List ℕ → (ℕ → Node) → ℕ → List ℕ → ℕ → ℕ → Type 0
Stands s T e from n q = Comes s T e from n q ⊎ ((q ≡ e) × Contains from n)

-- a path from the entry at one of them leads to the node at the place n
abbrev pub Arrives : List ℕ → (ℕ → Node) → ℕ → List ℕ → ℕ → ℕ → Type 0
Arrives s T e from n q = IsReached (λ h p. Leads s T e h p n) from q

-- there are threads on exactly these nodes
pub record AreOn (A : ℕ → Type 0) (K : List Thread) : Type 0 where
  pub sound : (x : ℕ) → x < length K → A (node_in K x)
  pub complete : (q : ℕ) → A q → HasNode K q

-- all threads have one origin
abbrev pub AreOne : List Thread → Type 0
AreOne K = (x : ℕ) → x < length K → origin_in K x ≡ 0

-- From threads on the nodes where paths from some places stand at n, it is told whether one arrives at the stop there, and the
-- new threads are on the nodes to which they come by the byte behind n.
pub record Passes (s : List ℕ) (table : NodeTable) (from : List ℕ) (n : ℕ) (new : List Thread) (stops : Bool) : Type 0 where
  pub stop : (stops ≡ true) ↔ Arrives s (node_at table.nodes.items) table.entry from n 0
  pub next : n < length s → AreOn (Comes s (node_at table.nodes.items) table.entry from (n + 1)) new

-- that, from whichever places they stand there
abbrev pub PassesAll : List ℕ → NodeTable → ℕ → List Thread → List Thread → Bool → Type 0
PassesAll s table n old new stops =
    (from : List ℕ) → AreOn (Stands s (node_at table.nodes.items) table.entry from n) old → Passes s table from n new stops

-- threads on the nodes to which paths come from places of which the set tells become threads on those where they stand
abbrev pub StandsAll : NodeTable → Seen → ℕ → List Thread → List Thread → Type 0
StandsAll table begins n old new =
    (s from : List ℕ) → ((q : ℕ) → IsTrue (is_held begins q) ↔ Contains from q)
    → AreOn (Comes s (node_at table.nodes.items) table.entry from n) old
    → AreOn (Stands s (node_at table.nodes.items) table.entry from n) new
