-- The preferred way down an expression, part by part.
-- Own rule: what the code's steps set; what its answer means is said by `AreBestCaps`.
use Rattle.std.specs.Prelude.{◌≡◌, ◌↔◌, ℕ, ◌-◌, ◌<◌, ◌≤◌, Bool, IsTrue, max, Option, Some, None, List, length, map, drop, slice_index_or, Vec, vec_len}
use Rattle.std.specs.FinMap.{insert}
use Rattle.std.specs.declared.alloc.Global.{Global}
use Rattle.std.specs.List.{Contains}
use Rattle.ere_places.specs.Places.{SpanAll}
use Rattle.ere_places.specs.Seen.{is_held}
use Rattle.ere_places.specs.declared.seen.Seen.{Seen}
use Rattle.ere_tree.specs.Captures.{Captures, caps_of}
use Rattle.ere_tree.specs.Derivation.{Way, Derives, Spans}
use Rattle.ere_tree.specs.Tree.{Tree, Trees, repeat, trees_of}
use Rattle.ere_tree.specs.View.{view}
use Rattle.ere_tree.specs.declared.ere.Ere.{Ere}
use Rattle.ere_tree.specs.declared.hit.Cap.{Cap}
use Rattle.ere_captures.specs.Best.{IsBest}
use Rattle.ere_captures.specs.declared.input.Input.{Input}
use Rattle.ere_captures.specs.declared.walk.Part.{Part}

-- from captures that a list holds, the list gets those behind a best way over [i, j)
abbrev pub SetsBest : List ℕ → Tree → ℕ → ℕ → ℕ → ℕ → List (Option Cap) → List (Option Cap) → Type 0
SetsBest s t start i j count old new =
    (c : Captures) → old ≡ caps_of start c count
    → (w : Way) × (d : Captures) × Derives s t w i j c d × IsBest s t w i j × (new ≡ caps_of start d count)

-- the same over a part of a slice, and over a span of a slice that begins in a text at `start`
abbrev pub SetsPart : List ℕ → Tree → Part → List (Option Cap) → List (Option Cap) → Type 0
SetsPart s t part old new = SetsBest s t part.start part.from part.to (length old) old new

abbrev pub SetsSpan : List ℕ → Tree → ℕ → Cap → List (Option Cap) → List (Option Cap) → Type 0
SetsSpan s t start span old new = SetsBest s t start span.from span.to (length old) old new

-- from captures that a list holds, the list gets those in which the group holds the part
abbrev pub SetsGroup : Part → ℕ → List (Option Cap) → List (Option Cap) → Type 0
SetsGroup part number old new =
    (d : Captures) → old ≡ caps_of part.start d (length old)
    → new ≡ caps_of part.start (insert d number (part.from, part.to)) (length old)

-- the trees of a list of expressions
abbrev pub views : List Ere → Trees
views all = trees_of (map view all)

-- the greatest number of members behind one
abbrev pub less_one : Option ℕ → Option ℕ
less_one None = None
less_one (Some most) = Some (most - 1)

-- the set has the places of [i, j] from which the trees, one behind the other, lead to j
abbrev pub LeadOn : List ℕ → List Tree → ℕ → ℕ → Seen → Type 0
LeadOn s ts i j seen = (q : ℕ) → IsTrue (is_held seen q) ↔ (SpanAll s ts q j × (i ≤ q))

-- as many of these sets as there are tell, for none of the last parts first, from which places they lead to j
abbrev pub AreRests : List ℕ → List Ere → ℕ → ℕ → Vec Seen Global → Type 0
AreRests s parts i j all =
    (m : ℕ) (one : Seen) → m ≤ length parts → m < vec_len all → one ≡ slice_index_or all.items m one
    → LeadOn s (drop (length parts - m) (map view parts)) i j one

-- they tell it of the places of the input, and of its end
abbrev pub AreRestsIn : Input → List Ere → Vec Seen Global → Type 0
AreRestsIn input parts all = AreRests input.text.now parts input.from input.to all

-- of the tree's ends from i, the greatest from which the others lead to j
abbrev pub IsPartEnd : List ℕ → Tree → List Tree → ℕ → ℕ → ℕ → Type 0
IsPartEnd s t others i j m =
    Spans s t i m × SpanAll s others m j × ((k : ℕ) → Spans s t i k → SpanAll s others k j → k ≤ m)

-- of the first part's ends in the input, the greatest from which the others lead to its end
abbrev pub IsPartEndIn : Input → Ere → List Ere → ℕ → ℕ → Type 0
IsPartEndIn input first others i m = IsPartEnd input.text.now (view first) (map view others) i input.to m

-- of some places, the greatest that passes the test, where one does
abbrev pub IsGreatest : (ℕ → Bool) → List ℕ → Option ℕ → Type 0
IsGreatest test places None = (q : ℕ) → Contains places q → IsTrue (test q) → ⊥
IsGreatest test places (Some m) =
    Contains places m × IsTrue (test m) × ((q : ℕ) → Contains places q → IsTrue (test q) → q ≤ m)

-- one of the tree's ends from i up to j is in the set
abbrev pub HasEnd : List ℕ → Tree → Seen → ℕ → ℕ → Type 0
HasEnd s t seen i j = (k : ℕ) × Spans s t i k × (k ≤ j) × IsTrue (is_held seen k)

-- of the tree's ends from i up to j, the greatest that is in the set
abbrev pub IsGreatestEnd : List ℕ → Tree → Seen → ℕ → ℕ → ℕ → Type 0
IsGreatestEnd s t seen i j m =
    Spans s t i m × (m ≤ j) × IsTrue (is_held seen m)
    × ((k : ℕ) → Spans s t i k → k ≤ j → IsTrue (is_held seen k) → k ≤ m)

-- the greater of two places, of which the first may be missing
abbrev pub greater : Option ℕ → ℕ → ℕ
greater None place = place
greater (Some other) place = max other place

-- the set has the places of [i, j] from which so many members lead to j
abbrev pub RestOf : List ℕ → Tree → ℕ → Option ℕ → ℕ → ℕ → Seen → Type 0
RestOf s t least most i j seen = (q : ℕ) → IsTrue (is_held seen q) ↔ (Spans s (repeat t least most) q j × (i ≤ q))

-- the set has the places of the input from which so many members lead to its end
abbrev pub RestIn : Input → Tree → ℕ → Option ℕ → Seen → Type 0
RestIn input t least most seen = RestOf input.text.now t least most input.from input.to seen

-- the same of what is left behind one member
abbrev pub RestBehind : Input → Tree → ℕ → Option ℕ → Seen → Type 0
RestBehind input t least most seen = RestIn input t (least - 1) (less_one most) seen
