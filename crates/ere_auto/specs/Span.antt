-- The span that a search finds.
-- After POSIX.1 XBD 9.1: of all matches the one that begins first, and of those that begin there the longest.
use Rattle.std.specs.Prelude.{ℕ, ◌<◌, ◌≤◌, Option, List, length, MatchOption}
use Rattle.ere_tree.specs.Tree.{Tree}
use Rattle.ere_tree.specs.declared.hit.Cap.{Cap}
use Rattle.ere_tree.specs.Derivation.{Spans}

-- of all [h, k) of a relation with h at `begin` or behind it, [i, j) begins first, and is the longest from there
pub record IsFirstLongest (R : ℕ → ℕ → Type 0) (begin i j : ℕ) : Type 0 where
  pub begins : begin ≤ i
  pub matches : R i j
  pub leftmost : (h k : ℕ) → begin ≤ h → h < i → R h k → ⊥
  pub longest : (k : ℕ) → R i k → k ≤ j

-- there is none with h at `begin` or behind it
abbrev pub IsNowhere : (ℕ → ℕ → Type 0) → ℕ → Type 0
IsNowhere R begin = (h k : ℕ) → begin ≤ h → R h k → ⊥

-- The span that the tree has in the slice, of those that begin at `begin` or behind it: the leftmost, and from there
-- the longest. None where there is no span.
abbrev pub IsSpan : List ℕ → Tree → ℕ → Option Cap → Type 0
IsSpan s t begin found = MatchOption found (IsNowhere (Spans s t) begin)
    (λ cap. IsFirstLongest (Spans s t) begin cap.from cap.to × (cap.to ≤ length s))
