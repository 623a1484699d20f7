-- What a walk along a slice tells of a tree.
-- Own rule: where a tree leaves nothing to choose, its longest span from a place is found byte by byte.
use Rattle.std.specs.Prelude.{◌≡◌, ℕ, ◌+◌, ◌<◌, ◌≤◌, Option, Some, None, List, length, min, slice_index}
use Rattle.std.specs.List.{Contains}
use Rattle.ere_tree.specs.Captures.{Captures}
use Rattle.ere_tree.specs.Derivation.{Way, Derives, Spans, part}
use Rattle.ere_tree.specs.Tree.{Tree, Trees, cat, none, then}
use Rattle.ere_one.specs.declared.follow.Follow.{Follow}
use Rattle.ere_one.specs.declared.follow.Follow.TheVariants.{End, Byte, Any}
use Rattle.ere_one.specs.declared.walking.Walked.{Walked}
use Rattle.ere_one.specs.declared.walking.Walked.TheVariants.{Ends, Nowhere, Unknown}

-- what a walk tells of the tree: where its longest span from a place ends, or that it has none from there
abbrev pub TellsLongest : List ℕ → Tree → ℕ → Walked → Type 0
TellsLongest s t at (Ends end) = Spans s t at end × ((k : ℕ) → Spans s t at k → k ≤ end)
TellsLongest s t at Nowhere = (k : ℕ) → Spans s t at k → ⊥
TellsLongest s t at Unknown = Unit {0}

-- of the tree's ends from a place, the others, one behind the other, go on from none but this
abbrev pub IsOnlyEnd : List ℕ → Tree → Trees → ℕ → ℕ → Type 0
IsOnlyEnd s t others at end = (k to : ℕ) → Spans s t at k → Spans s (cat others) k to → k ≡ end

-- the tree spans [i, j), whatever its groups hold before
abbrev pub AlwaysSpans : List ℕ → Tree → ℕ → ℕ → Type 0
AlwaysSpans s t i j = (c : Captures) → (w : Way) × (d : Captures) × Derives s t w i j c d

-- the end that was told, if one was, is such
abbrev pub IfEnds : Walked → (ℕ → Type 0) → Type 0
IfEnds (Ends end) P = P end
IfEnds Nowhere P = Unit {0}
IfEnds Unknown P = Unit {0}

-- A span may end at k. Where an end was told, no other has what stands behind the tree begin at it; with nothing behind
-- the tree no other is greater.
abbrev pub Admits : List ℕ → Follow → Walked → ℕ → Type 0
Admits s End (Ends end) k = k ≤ end
Admits s (Byte b) (Ends end) k = (k < length s → slice_index s k ≡ b) → k ≡ end
Admits s Any (Ends end) k = k ≡ end
Admits s follow Nowhere k = ⊥
Admits s follow Unknown k = Unit {0}

-- what a walk from a place tells of the tree with this behind it
pub record Tells (s : List ℕ) (t : Tree) (follow : Follow) (at : ℕ) (walked : Walked) : Type 0 where
  pub spans : IfEnds walked (AlwaysSpans s t at)
  pub only : (k : ℕ) → Spans s t at k → Admits s follow walked k

-- whatever the tree spans begins so
abbrev pub BeginsAs : Follow → Tree → Type 0
BeginsAs End t = ⊥
BeginsAs (Byte b) t = (s : List ℕ) (i j : ℕ) → Spans s t i j → i < length s → slice_index s i ≡ b
BeginsAs Any t = Unit {0}

-- with `follow` behind all these trees, this stands before them
abbrev pub Precedes : Follow → Follow → Trees → Type 0
Precedes follow this none = this ≡ follow
Precedes follow this (then t ts) = BeginsAs this t

-- these bytes stand in the slice at a place
abbrev pub Stand : List ℕ → List ℕ → ℕ → Type 0
Stand s bytes at = (at + length bytes ≤ length s) × (part s at (at + length bytes) ≡ bytes)

-- the bytes from `at` on that are among these end here, at the limit at the latest
pub record IsRun (s bytes : List ℕ) (at limit end : ℕ) : Type 0 where
  pub from : at ≤ end
  pub to : end ≤ limit
  pub inside : (n : ℕ) → at ≤ n → n < end → Contains bytes (slice_index s n)
  pub stops : end < limit → Contains bytes (slice_index s end) → ⊥

-- so many bytes at most end here, where they begin at `at`
abbrev pub limit_of : List ℕ → ℕ → Option ℕ → ℕ
limit_of s at None = length s
limit_of s at (Some most) = min (length s) (at + most)

-- what stands behind begins with none of these bytes
abbrev pub IsApart : List ℕ → Follow → Type 0
IsApart bytes End = Unit {0}
IsApart bytes (Byte b) = Contains bytes b → ⊥
IsApart bytes Any = ⊥
