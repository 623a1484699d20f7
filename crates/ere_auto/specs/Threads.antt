-- Adding to a list of threads.
use Rattle.std.specs.Prelude.{◌≡◌, ℕ, ◌<◌, ◌≤◌, List, [], ◌∷◌, ◌++◌, ◌⊎◌, Option, Some, length}
use Rattle.ere_table.specs.Node.{Node}
use Rattle.ere_auto.specs.Closure.{HasNode, Takes, node_in, origin_in}
use Rattle.ere_auto.specs.declared.thread.Thread.{Thread}

-- the thread stands at the end of the new list, unless its node was in the old one
abbrev pub Adds : List Thread → List Thread → ℕ → ℕ → Type 0
Adds old new node origin =
    ((new ≡ old) × HasNode old node) ⊎ (new ≡ old ++ record { node = node; origin = origin } ∷ [])

-- the new list has the old one at its front, and behind it only threads of this origin on such nodes
pub record Grown (old new : List Thread) (origin : ℕ) (P : ℕ → Type 0) : Type 0 where
  pub longer : length old ≤ length new
  pub nodes : (x : ℕ) → x < length old → node_in new x ≡ node_in old x
  pub origins : (x : ℕ) → x < length old → origin_in new x ≡ origin_in old x
  pub from : (x : ℕ) → length old ≤ x → x < length new → origin_in new x ≡ origin
  pub such : (x : ℕ) → length old ≤ x → x < length new → P (node_in new x)

-- the node takes the next byte to another, and that one is added; or it takes none
abbrev pub Took : Node → Option ℕ → List Thread → List Thread → ℕ → Type 0
Took node next old new origin =
    ((new ≡ old) × ((b q : ℕ) → next ≡ Some b → Takes node b q → ⊥))
    ⊎ ((b : ℕ) × (q : ℕ) × (next ≡ Some b) × Takes node b q × ((r : ℕ) → Takes node b r → r ≡ q)
    × Adds old new q origin)
