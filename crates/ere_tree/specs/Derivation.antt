-- Derivations: how an expression matches a part of a slice.
-- Spans after POSIX.1 XBD 9.4. Own rule: what groups hold, references to them, and that a repeat's members
-- behind its minimum aren't empty.
-- The slice is a list of bytes, and offsets count in it from 0. A line ends in a newline, byte 10.
use Rattle.std.specs.Prelude.{◌≡◌, ℕ, Bool, true, false, Option, Some, None, List, ◌+◌, ◌-◌, ◌<◌, ◌≤◌, ◌==◌, ◌||◌, zero, suc, length, map, take, drop, slice_index, IsTrue, IfSome}
use Rattle.std.specs.List.{Contains}
use Rattle.std.specs.Char.{to_ascii_lowercase}
use Rattle.std.specs.FinMap.{get, insert}
use Rattle.ere_tree.specs.Tree.{Tree, Trees, empty, plain, set, line_start, line_end, cat, alt, repeat, group, back, none, then}
use Rattle.ere_tree.specs.Captures.{Captures}

-- One way in which an expression matches: what was chosen at each of its places.
mutual
  pub data Way : Type 0 where
    leaf : Way  -- there was nothing to choose
    parts : Ways → Way  -- of a concatenation: each part's way
    members : Ways → Way  -- of a repeat: each member's way
    chosen : ℕ → Way → Way  -- of an alternation: which alternative, from 0, and its way
    inside : Way → Way  -- of a group: the way of what it holds

  pub data Ways : Type 0 where
    done : Ways
    next : ℕ → Way → Ways → Ways  -- where the first ends, its way, and the others behind it

-- how many ways stand in a row
abbrev pub count_of : Ways → ℕ
count_of done = 0
count_of (next k w ws) = count_of ws + 1

-- the tree at an index, from 0
abbrev pub tree_at : Trees → ℕ → Option Tree
tree_at none n = None
tree_at (then t ts) zero = Some t
tree_at (then t ts) (suc n) = tree_at ts n

-- the bytes of [i, j)
abbrev pub part : List ℕ → ℕ → ℕ → List ℕ
part s i j = take (j - i) (drop i s)

-- [i, j) lies in the slice
abbrev pub IsPart : List ℕ → ℕ → ℕ → Type 0
IsPart s i j = (i ≤ j) × (j ≤ length s)

-- the place i is the slice's start, or lies behind a newline
abbrev pub is_line_start : List ℕ → ℕ → Bool
is_line_start s i = i == 0 || slice_index s (i - 1) == 10

-- the place i is the slice's end, or lies before a newline
abbrev pub is_line_end : List ℕ → ℕ → Bool
is_line_end s i = i == length s || slice_index s i == 10

-- these two texts are one: byte by byte, or with `fold` once the ASCII letters of both are lowered
abbrev pub IsSameText : Bool → List ℕ → List ℕ → Type 0
IsSameText false xs ys = xs ≡ ys
IsSameText true xs ys = map to_ascii_lowercase xs ≡ map to_ascii_lowercase ys

-- so many members are at least `least`, and at most `most` where there is a most
abbrev pub CanRepeat : ℕ → Option ℕ → ℕ → Type 0
CanRepeat least most count = (least ≤ count) × IfSome most (λ n. count ≤ n)

-- In the slice s the way shows that the tree spans [i, j), and takes the captures c to d. What is spanned lies in
-- the slice, also where it is empty.
abbrev mutual
  pub Derives : List ℕ → Tree → Way → ℕ → ℕ → Captures → Captures → Type 0
  Derives s empty leaf i j c d = (j ≡ i) × (i ≤ length s) × (d ≡ c)
  Derives s (plain bytes) leaf i j c d = IsPart s i j × (part s i j ≡ bytes) × (d ≡ c)
  Derives s (set bytes) leaf i j c d =
      (j ≡ i + 1) × (i < length s) × Contains bytes (slice_index s i) × (d ≡ c)
  Derives s line_start leaf i j c d = (j ≡ i) × IsTrue (is_line_start s i) × (d ≡ c)
  Derives s line_end leaf i j c d = (j ≡ i) × IsTrue (is_line_end s i) × (d ≡ c)
  Derives s (cat all) (parts ws) i j c d = DerivesAll s all ws i j c d
  Derives s (alt all) (chosen n w) i j c d =
      (one : Tree) × (tree_at all n ≡ Some one) × Derives s one w i j c d
  Derives s (repeat inner least most) (members ws) i j c d =
      CanRepeat least most (count_of ws) × DerivesEach s inner least ws i j c d
  Derives s (group number inner) (inside w) i j c d =
      (e : Captures) × Derives s inner w i j c e × (d ≡ insert e number (i, j))
  Derives s (back number fold) leaf i j c d =
      (p : ℕ × ℕ) × (get c number ≡ Some p) × IsPart s i j
      × IsSameText fold (part s i j) (part s p.0 p.1) × (d ≡ c)
  Derives s t w i j c d = ⊥

  -- the trees one behind the other, each in its own way, captures handed on
  pub DerivesAll : List ℕ → Trees → Ways → ℕ → ℕ → Captures → Captures → Type 0
  DerivesAll s none done i j c d = (j ≡ i) × (i ≤ length s) × (d ≡ c)
  DerivesAll s (then t ts) (next k w ws) i j c d =
      (e : Captures) × Derives s t w i k c e × DerivesAll s ts ws k j e d
  DerivesAll s ts ws i j c d = ⊥

  -- one tree again and again, captures handed on; each member behind the first `least` isn't empty
  pub DerivesEach : List ℕ → Tree → ℕ → Ways → ℕ → ℕ → Captures → Captures → Type 0
  DerivesEach s t least done i j c d = (j ≡ i) × (i ≤ length s) × (d ≡ c)
  DerivesEach s t zero (next k w ws) i j c d =
      (e : Captures) × Derives s t w i k c e × (i < k) × DerivesEach s t zero ws k j e d
  DerivesEach s t (suc least) (next k w ws) i j c d =
      (e : Captures) × Derives s t w i k c e × DerivesEach s t least ws k j e d

-- the tree spans [i, j) of the slice, whatever its groups hold before and behind
abbrev pub Spans : List ℕ → Tree → ℕ → ℕ → Type 0
Spans s t i j = (w : Way) × (c : Captures) × (d : Captures) × Derives s t w i j c d
