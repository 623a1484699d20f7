-- What a recall matches: the same text as the nearest definition of its name to its left. Own rule: the groups of all pieces
-- are numbered in one row, so that no other piece sets the group of that definition.
use Rattle.std.specs.Prelude.{◌≡◌, ℕ, ◌+◌, zero, suc, Option, Some, None, List, ◌∷◌, ◌++◌, All, length}
use Rattle.ere_tree.specs.Captures.{Captures}
use Rattle.ere_tree.specs.Derivation.{Ways, done, next, DerivesAll, IsSameText, part}
use Rattle.ere_tree.specs.Tree.{Tree, trees_of}
use Rattle.pattern_instance.specs.Known.{Known}
use Rattle.pattern_instance.specs.Parts.{Parts}
use Rattle.pattern_parse.specs.Item.{Item, define, recall}
use Rattle.pattern_parse.specs.Search.{HasNumbers}
use Rattle.pattern_laws.specs.Recalls.{AreParts, NoneDefines}

-- where the part behind so many others stands, of parts that match one behind the other from a place on
abbrev pub span_at : Ways → ℕ → ℕ → Option (ℕ × ℕ)
span_at done from n = None
span_at (next to way ways) from zero = Some (from, to)
span_at (next to way ways) from (suc n) = span_at ways to n

-- Law: however the parts match one behind the other, where no piece between them defines the name, the recall behind a
-- definition matches what the definition does.
abbrev pub RecallIsSameText : Type 0
RecallIsSameText =
    (known : Known) (front : List Item) (name : List ℕ) (t : Tree) (between rest : List Item) (all : Parts)
    → AreParts known (front ++ define name t ∷ (between ++ recall name ∷ rest)) all → NoneDefines name between
    → All HasNumbers between
    → (s : List ℕ) (ways : Ways) (from to : ℕ) (old new : Captures)
    → DerivesAll s (trees_of all.trees) ways from to old new
    → (one other : ℕ × ℕ) → span_at ways from (length front) ≡ Some one
    → span_at ways from (length front + (1 + length between)) ≡ Some other
    → IsSameText known.fold (part s other.0 other.1) (part s one.0 one.1)
