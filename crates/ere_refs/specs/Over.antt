-- What groups hold behind a part, and what an expression matches from one place.
-- Own rule: POSIX.1 XBD 9.4 fixes the span, and preference among the derivations of that span, from what groups hold
-- before, tells what they hold behind it.
use Rattle.std.specs.Prelude.{◌≡◌, ◌↔◌, ℕ, ◌≤◌, ◌==◌, Bool, true, false, length, IsTrue, Option, Some, None, List}
use Rattle.std.specs.FinMap.{empty, get}
use Rattle.std.specs.declared.cmp.Ordering.TheVariants.{Less}
use Rattle.ere_captures.specs.Walk.{SetsBest}
use Rattle.ere_places.specs.Seen.{is_held}
use Rattle.ere_tree.specs.Captures.{Captures, caps_of}
use Rattle.ere_tree.specs.Derivation.{Way, Derives, IsSameText, Spans, part}
use Rattle.ere_tree.specs.Preference.{IsPreferred, within}
use Rattle.ere_tree.specs.Shape.{greatest_group, has_refs}
use Rattle.ere_tree.specs.Tree.{Tree}
use Rattle.ere_tree.specs.declared.hit.Cap.{Cap}
use Rattle.ere_places.specs.declared.seen.Seen.{Seen}
use Rattle.ere_refs.specs.declared.ends.Ends.{Ends}
use Rattle.ere_refs.specs.declared.ends.Ends.TheVariants.{Any, Held, Only}
use Rattle.ere_refs.specs.declared.held.Part.{Part}
use Rattle.ere_refs.specs.declared.trying.Found.{Found}

-- from these captures no way over [i, j) is preferred to this one
abbrev pub IsBestFrom : List ℕ → Tree → Way → ℕ → ℕ → Captures → Type 0
IsBestFrom s t w i j c = (v : Way) (d : Captures) → Derives s t v i j c d → within v w ≡ Less → ⊥

-- from these captures the tree derives nothing over [i, j)
abbrev pub DerivesNone : List ℕ → Tree → ℕ → ℕ → Captures → Type 0
DerivesNone s t i j c = (v : Way) (d : Captures) → Derives s t v i j c d → ⊥

-- the group of this number holds these bytes
abbrev pub IsText : List ℕ → Captures → ℕ → List ℕ → Type 0
IsText s c number held = (p : ℕ × ℕ) × (get c number ≡ Some p) × (held ≡ part s p.0 p.1)

-- whether [i, j) is what the group of this number holds, by a list of what groups hold
abbrev pub RefersTo : List ℕ → ℕ → ℕ → ℕ → ℕ → Bool → List (Option Cap) → Bool → Type 0
RefersTo s start i j number fold caps answer =
    (c : Captures) → caps ≡ caps_of start c (length caps)
    → IsTrue answer ↔ ((p : ℕ × ℕ) × (get c number ≡ Some p) × IsSameText fold (part s i j) (part s p.0 p.1))

-- whether a part can end at a place
abbrev pub may_be : Ends → ℕ → Bool
may_be (Held seen last) end = is_held seen end
may_be (Only only) end = only == end
may_be Any end = true

-- whether these are all the ends, and ends alone
abbrev pub is_known : Ends → Bool
is_known (Held seen last) = true
is_known (Only only) = false
is_known Any = false

-- these are the tree's ends from i, up to j
abbrev pub AreSpanned : List ℕ → Tree → ℕ → ℕ → Seen → Type 0
AreSpanned s t i j seen = (q : ℕ) → IsTrue (is_held seen q) ↔ (Spans s t i q × (q ≤ j))

-- the tree's ends from i, up to j, are among these
abbrev pub AreEnds : List ℕ → Tree → ℕ → ℕ → ℕ → ℕ → List (Option Cap) → Ends → Type 0
AreEnds s t start i j count old (Held seen last) =
    (has_refs t ≡ false) × AreSpanned s t i j seen
AreEnds s t start i j count old (Only end) =
    (c : Captures) → old ≡ caps_of start c count → (w : Way) (k : ℕ) (d : Captures) → Derives s t w i k c d → k ≡ end
AreEnds s t start i j count old Any = Unit {0}

-- the same from where a part begins up to where it ends
abbrev pub AreEndsOf : List ℕ → Tree → Part → List (Option Cap) → Ends → Type 0
AreEndsOf s t part old ends = AreEnds s t part.start part.from part.to (length old) old ends

-- what groups hold behind the tree's best derivation over a part, from what they held before
abbrev pub SetsBestOver : List ℕ → Tree → Part → List (Option Cap) → List (Option Cap) → Type 0
SetsBestOver s t part old new = SetsBest s t part.start part.from part.to (length old) old new

-- none of them lies beyond the last one, where it is told
abbrev pub IsLast : Ends → Type 0
IsLast (Held seen last) = (q : ℕ) → IsTrue (is_held seen q) → q ≤ last
IsLast (Only only) = Unit {0}
IsLast Any = Unit {0}

-- the same where the ends are known up to a place from j on
abbrev pub HasEnds : List ℕ → Tree → ℕ → ℕ → ℕ → ℕ → List (Option Cap) → Ends → Type 0
HasEnds s t start i j count old ends = (k : ℕ) × (j ≤ k) × AreEnds s t start i k count old ends

-- This end and these captures are those of a derivation from i with no group set before, and of those up to m none is
-- preferred.
pub record IsBestTo (s : List ℕ) (t : Tree) (start i m : ℕ) (found : Found) : Type 0 where
  pub way : Way
  pub captures : Captures
  pub shows : Derives s t way i found.to empty captures
  pub preferred : (k : ℕ) (v : Way) (d : Captures) → k ≤ m → Derives s t v i k empty d
      → IsPreferred v k way found.to → ⊥
  pub are : found.groups ≡ caps_of start captures (greatest_group t)

-- From i the tree derives nothing up to m, or this.
abbrev pub TellsBest : List ℕ → Tree → ℕ → ℕ → ℕ → Option Found → Type 0
TellsBest s t start i m None = (k : ℕ) (v : Way) (d : Captures) → k ≤ m → Derives s t v i k empty d → ⊥
TellsBest s t start i m (Some found) = IsBestTo s t start i m found
