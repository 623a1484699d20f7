-- The hit of an expression in a slice.
-- Leftmost, and longest from there, after POSIX.1 XBD 9.4. Own rule: which derivation tells the captures.
use Rattle.std.specs.Prelude.{◌≡◌, ℕ, Option, Some, None, List, ◌-◌, ◌<◌, ◌≤◌, drop}
use Rattle.std.specs.FinMap.{empty}
use Rattle.ere_tree.specs.Tree.{Tree}
use Rattle.ere_tree.specs.Shape.{greatest_group}
use Rattle.ere_tree.specs.Captures.{Captures, caps_of}
use Rattle.ere_tree.specs.Derivation.{Way, Derives}
use Rattle.ere_tree.specs.Preference.{IsPreferred}
use Rattle.ere_tree.specs.declared.hit.Hit.{Hit}

-- The tree t is found first in the slice s at [i, j), with the captures c.
pub record IsHit (s : List ℕ) (t : Tree) (i j : ℕ) (c : Captures) : Type 0 where
  pub way : Way
  pub shows : Derives s t way i j empty c
  pub leftmost : (h k : ℕ) (v : Way) (d : Captures) → h < i → Derives s t v h k empty d → ⊥
  pub preferred : (k : ℕ) (v : Way) (d : Captures) → Derives s t v i k empty d → IsPreferred v k way j → ⊥

-- The tree t is found nowhere in the slice s.
abbrev pub HasNoHit : List ℕ → Tree → Type 0
HasNoHit s t = (h k : ℕ) (v : Way) (d : Captures) → Derives s t v h k empty d → ⊥

-- The law of the hit: there is at most one. Of two hits of one tree in one slice the spans and the captures
-- are the same.
abbrev pub HitIsOne : Type 0
HitIsOne =
    (s : List ℕ) (t : Tree) (i j h k : ℕ) (c d : Captures) → IsHit s t i j c → IsHit s t h k d
    → (i ≡ h) × (j ≡ k) × (c ≡ d)

-- A hit in the slice that begins at an offset of a text, told with offsets of the text.
pub record TellsHit (text : List ℕ) (t : Tree) (from : ℕ) (hit : Hit) : Type 0 where
  pub captures : Captures
  pub behind : from ≤ hit.from
  pub ordered : hit.from ≤ hit.to
  pub is_hit : IsHit (drop from text) t (hit.from - from) (hit.to - from) captures
  pub groups : hit.groups ≡ caps_of from captures (greatest_group t)

-- what a search of the tree from an offset of a text on answers: its hit in the slice that begins there, if
-- there is one
abbrev pub FindsHit : List ℕ → Tree → ℕ → Option Hit → Type 0
FindsHit text t from (Some hit) = TellsHit text t from hit
FindsHit text t from None = HasNoHit (drop from text) t
