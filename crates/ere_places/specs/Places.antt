-- Places that an expression leads to.
-- Own rule: what an expression spans is told place by place, in either direction, so that its spans need not be
-- listed.
use Rattle.std.specs.Prelude.{◌≡◌, ◌↔◌, ℕ, ◌+◌, ◌≤◌, Bool, true, false, List, [], ◌∷◌, length, ◌⊎◌, Vec}
use Rattle.std.specs.declared.alloc.Global.{Global}
use Rattle.std.specs.List.{Contains}
use Rattle.ere_tree.specs.Tree.{Tree, empty, plain, set, line_start, line_end}
use Rattle.ere_tree.specs.Derivation.{Spans}
use Rattle.ere_places.specs.declared.window.Direction.{Direction}
use Rattle.ere_places.specs.declared.window.Direction.TheVariants.{Ahead, Back}
use Rattle.ere_places.specs.declared.window.Window.{Window}

-- the place lies in the window
abbrev pub IsInside : Window → ℕ → Type 0
IsInside window place = (window.low ≤ place) × (place ≤ window.high)

-- the tree leads from p to q: ahead to the end of a span that begins at p, back to the start of one that ends there
abbrev pub Leads : List ℕ → Tree → Direction → ℕ → ℕ → Type 0
Leads s t Ahead p q = Spans s t p q
Leads s t Back p q = Spans s t q p

-- and q lies in the window
abbrev pub LeadsInside : List ℕ → Tree → Window → ℕ → ℕ → Type 0
LeadsInside s t window p q = Leads s t window.direction p q × IsInside window q

-- the relation leads to q from one of these places
abbrev pub IsReached : (ℕ → ℕ → Type 0) → List ℕ → ℕ → Type 0
IsReached R from q = (p : ℕ) × Contains from p × R p q

-- these are exactly the places to which the relation leads from some of those
abbrev pub AreReached : (ℕ → ℕ → Type 0) → List ℕ → List ℕ → Type 0
AreReached R from found = (q : ℕ) → Contains found q ↔ IsReached R from q

-- the list has exactly those places; and exactly those of a window to which the tree leads
abbrev pub Reaches : (ℕ → ℕ → Type 0) → List ℕ → Vec ℕ Global → Type 0
Reaches R from found = AreReached R from found.items

abbrev pub Finds : List ℕ → Tree → Window → List ℕ → Vec ℕ Global → Type 0
Finds s t window from found = Reaches (LeadsInside s t window) from found

-- the list has these places and those
abbrev pub AreBoth : List ℕ → List ℕ → List ℕ → Type 0
AreBoth old found list = (q : ℕ) → Contains list q ↔ (Contains old q ⊎ Contains found q)

-- whether a tree has no trees inside
abbrev pub is_leaf : Tree → Bool
is_leaf empty = true
is_leaf (plain bytes) = true
is_leaf (set bytes) = true
is_leaf line_start = true
is_leaf line_end = true
is_leaf t = false

-- so many bytes have one end at p, begin at the start, and have their other end at q in the window
abbrev pub OtherEnd : Direction → Window → ℕ → ℕ → ℕ → ℕ → Type 0
OtherEnd Ahead window p count start q = (start ≡ p) × (q ≡ p + count) × (q ≤ window.high)
OtherEnd Back window p count start q = (start ≡ q) × (q + count ≡ p) × (window.low ≤ q)

-- the trees one behind the other span [i, j)
abbrev pub SpanAll : List ℕ → List Tree → ℕ → ℕ → Type 0
SpanAll s [] i j = (j ≡ i) × (i ≤ length s)
SpanAll s (t ∷ ts) i j = (k : ℕ) × Spans s t i k × SpanAll s ts k j

-- one of the trees does
abbrev pub SpanOne : List ℕ → List Tree → ℕ → ℕ → Type 0
SpanOne s [] i j = ⊥
SpanOne s (t ∷ ts) i j = Spans s t i j ⊎ SpanOne s ts i j
