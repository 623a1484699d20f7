-- How far an automaton is shown a slice.
use Rattle.std.specs.Prelude.{◌≡◌, ℕ, ◌+◌, ◌-◌, ◌≤◌, Option, Some, None, List, [], length}
use Rattle.ere_tree.specs.Tree.{Tree}
use Rattle.ere_tree.specs.declared.hit.Cap.{Cap}
use Rattle.ere_tree.specs.declared.hit.Hit.{Hit}
use Rattle.ere_auto.specs.Seen.{HasSeen, State}
use Rattle.ere_auto.specs.Span.{IsSpan}

-- Of a slice of so many bytes, so many bytes and ends were shown: all where nothing was found, and else as far as the
-- end of what was found.
abbrev pub ShownFor : ℕ → Option Cap → ℕ → Type 0
ShownFor count None shown = shown ≡ count + 1
ShownFor count (Some cap) shown = (cap.to ≤ shown) × (shown ≤ count + 1)

-- The same of the hit in the slice that begins at an offset of a text: all where there is none, and else at least as far
-- as its end.
abbrev pub ShownForHit : ℕ → ℕ → Option Hit → ℕ → Type 0
ShownForHit count from None shown = shown ≡ count + 1
ShownForHit count from (Some hit) shown = hit.to ≤ from + shown

-- the same of the hit in the text from an offset on
abbrev pub ShownToFind : List ℕ → ℕ → ℕ → Option Hit → Type 0
ShownToFind text from shown found = ShownForHit (length text - from) from found shown

-- The span of the tree in the slice, of those that begin at `begin` or behind it, was found while so many bytes and
-- ends were shown.
pub record Finds (s : List ℕ) (t : Tree) (begin : ℕ) (found : Option Cap) (shown : ℕ) : Type 0 where
  pub span : IsSpan s t begin found
  pub shown_for : ShownFor (length s) found shown

-- of whatever tree the first was shown nothing, the second was shown these bytes
abbrev pub IsShown : State → State → List ℕ → Type 0
IsShown a b front = (t : Tree) → HasSeen a t [] → HasSeen b t front

-- of whatever tree it was shown nothing, its span was found
abbrev pub SpanIsFound : State → List ℕ → Option Cap → ℕ → Type 0
SpanIsFound a s found shown = (t : Tree) → HasSeen a t [] → Finds s t a.begin found shown
