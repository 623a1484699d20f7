-- What the slow program lists: all derivations of a tree from one place and with the same captures.
-- Its own functions alone cite this. What its answers mean is said by `Derives` and `IsHit`.
use Rattle.std.specs.Prelude.{◌≡◌, Vec, ℕ, Bool, true, false, Option, Some, None, List, [], ◌∷◌, ◌++◌, ◌+◌, ◌-◌, ◌||◌, ◌&&◌, nat_lt, nat_le, cond, min, zero, suc, length, map, filter, slice_index}
use Rattle.std.specs.declared.alloc.Global.{Global}
use Rattle.std.specs.List.{flat_map}
use Rattle.std.specs.Str.{bytes_eq}
use Rattle.std.specs.Char.{to_ascii_lowercase}
use Rattle.std.specs.FinMap.{get, insert}
use Rattle.ere_tree.specs.Tree.{Tree, Trees, empty, plain, set, line_start, line_end, cat, alt, repeat, group, back, none, then}
use Rattle.ere_tree.specs.Captures.{Captures}
use Rattle.ere_tree.specs.Case.{is_among}
use Rattle.ere_tree.specs.Derivation.{Way, Ways, leaf, parts, members, chosen, inside, part, is_line_start, is_line_end}
use Rattle.ere_slow.specs.declared.slow.Derivation.{Derivation}
use Rattle.ere_slow.specs.declared.slow.Origin.{Origin}
use Rattle.ere_slow.specs.declared.slow.Row.{Row}
use Rattle.ere_slow.specs.WayView.{ways_of, way_of, row_of, captures_of}

-- one derivation: its way, where it ends, and the captures behind it
pub record Found : Type 0 where
  pub way : Way
  pub to : ℕ
  pub captures : Captures

-- derivations one behind the other: their ends and ways, where the last ends, and the captures behind it
pub record Begun : Type 0 where
  pub row : List (ℕ × Way)
  pub to : ℕ
  pub captures : Captures

-- what a value of the program stands for
abbrev pub found_of : Derivation → Found
found_of d = record { way = way_of d.way; to = d.to; captures = captures_of d.captures }

abbrev pub begun_of : Row → Begun
begun_of r = record { row = row_of r.ways; to = r.to; captures = captures_of r.captures }

-- the derivation with nothing to choose, if the test holds
abbrev pub one_if : Bool → ℕ → Captures → List Found
one_if test j c = cond test (record { way = leaf; to = j; captures = c } ∷ []) []

abbrev pub same_text : Bool → List ℕ → List ℕ → Bool
same_text fold xs ys =
    cond fold (bytes_eq (map to_ascii_lowercase xs) (map to_ascii_lowercase ys)) (bytes_eq xs ys)

-- whether the text stands in the slice at i
abbrev pub stands : Bool → List ℕ → ℕ → List ℕ → Bool
stands fold s i text = nat_le (i + length text) (length s) && same_text fold (part s i (i + length text)) text

-- whether a byte of the list stands in the slice at i
abbrev pub is_one_of : List ℕ → List ℕ → ℕ → Bool
is_one_of bytes s i = nat_lt i (length s) && is_among bytes (slice_index s i)

-- a text, wherever it stands
abbrev pub text_ways : Bool → List ℕ → ℕ → List ℕ → Captures → List Found
text_ways fold s i text c = one_if (stands fold s i text) (i + length text) c

-- how many further members of a repeat are tried: each takes a byte at least
abbrev pub further : ℕ → Option ℕ → ℕ → Option ℕ
further least None left = Some left
further least (Some most) left = cond (nat_lt most least) None (Some (min left (most - least)))

-- a row with a derivation behind it
abbrev pub behind : Begun → Found → Begun
behind b f = record { row = b.row ++ (f.to, f.way) ∷ []; to = f.to; captures = f.captures }

-- a row with each of these derivations behind it; one that is empty only if it may be
abbrev pub each_behind : Bool → Begun → List Found → List Begun
each_behind may_be_empty b fs = map (behind b) (filter (λ f. may_be_empty || nat_lt b.to f.to) fs)

-- each row with each derivation behind it
abbrev pub go_on : Bool → (ℕ → Captures → List Found) → List Begun → List Begun
go_on may_be_empty more = flat_map (λ b. each_behind may_be_empty b (more b.to b.captures))

-- the row of no derivation, at a place of the slice
abbrev pub begin : List ℕ → ℕ → Captures → List Begun
begin s i c = cond (nat_le i (length s)) (record { row = []; to = i; captures = c } ∷ []) []

-- rows with so many derivations behind them
abbrev pub required : (ℕ → Captures → List Found) → ℕ → List Begun → List Begun
required more zero bs = bs
required more (suc n) bs = required more n (go_on true more bs)

-- rows with up to so many derivations behind them that aren't empty
abbrev pub at_most : (ℕ → Captures → List Found) → ℕ → List Begun → List Begun
at_most more zero bs = bs
at_most more (suc n) bs = bs ++ at_most more n (go_on false more bs)

abbrev pub found_of_row : (Ways → Way) → Begun → Found
found_of_row f b = record { way = f (ways_of b.row); to = b.to; captures = b.captures }

abbrev pub found_chosen : ℕ → Found → Found
found_chosen n f = record { way = chosen n f.way; to = f.to; captures = f.captures }

abbrev pub found_inside : ℕ → ℕ → Found → Found
found_inside number i f =
    record { way = inside f.way; to = f.to; captures = insert f.captures number (i, f.to) }

abbrev pub repeat_ways : List ℕ → (ℕ → Captures → List Found) → ℕ → Option ℕ → ℕ → Captures → List Found
repeat_ways s more least None i c = []
repeat_ways s more least (Some n) i c =
    map (found_of_row members) (at_most more n (required more least (begin s i c)))

abbrev pub back_ways : Bool → List ℕ → Option (ℕ × ℕ) → ℕ → Captures → List Found
back_ways fold s None i c = []
back_ways fold s (Some p) i c = text_ways fold s i (part s p.0 p.1) c

abbrev mutual
  pub all_ways : List ℕ → Tree → ℕ → Captures → List Found
  all_ways s empty i c = one_if (nat_le i (length s)) i c
  all_ways s (plain bytes) i c = text_ways false s i bytes c
  all_ways s (set bytes) i c = one_if (is_one_of bytes s i) (i + 1) c
  all_ways s line_start i c = one_if (is_line_start s i) i c
  all_ways s line_end i c = one_if (is_line_end s i) i c
  all_ways s (cat all) i c = map (found_of_row parts) (all_rows s all (begin s i c))
  all_ways s (alt all) i c = alternatives s all 0 i c
  all_ways s (repeat inner least most) i c =
      repeat_ways s (all_ways s inner) least (further least most (length s - i)) i c
  all_ways s (group number inner) i c = map (found_inside number i) (all_ways s inner i c)
  all_ways s (back number fold) i c = back_ways fold s (get c number) i c

  -- rows with the trees' derivations behind them
  pub all_rows : List ℕ → Trees → List Begun → List Begun
  all_rows s none bs = bs
  all_rows s (then t ts) bs = all_rows s ts (go_on true (all_ways s t) bs)

  -- the derivations of the alternatives from the n-th on
  pub alternatives : List ℕ → Trees → ℕ → ℕ → Captures → List Found
  alternatives s none n i c = []
  alternatives s (then t ts) n i c = map (found_chosen n) (all_ways s t i c) ++ alternatives s ts (n + 1) i c

-- FROM AN ORIGIN OF THE PROGRAM

-- the derivations of a tree
abbrev pub all_at : Origin → Tree → List Found
all_at o t = all_ways o.text.now t o.from (captures_of o.captures.now)

-- that with nothing to choose, if the test holds
abbrev pub leaf_at : Origin → Bool → ℕ → List Found
leaf_at o test to = one_if test to (captures_of o.captures.now)

-- that of a text
abbrev pub text_at : Origin → Bool → List ℕ → List Found
text_at o fold text = text_ways fold o.text.now o.from text (captures_of o.captures.now)

-- the row of no derivation
abbrev pub begin_at : Origin → List Begun
begin_at o = begin o.text.now o.from (captures_of o.captures.now)

-- the rows of trees one behind the other
abbrev pub parts_at : Origin → Trees → List Begun
parts_at o all = all_rows o.text.now all (begin_at o)

-- the rows of at least so many members of a tree, and up to so many more that aren't empty
abbrev pub members_at : Origin → Tree → ℕ → ℕ → List Begun
members_at o t least more =
    at_most (all_ways o.text.now t) more (required (all_ways o.text.now t) least (begin_at o))

-- THE PROGRAM'S LISTS

-- the values are these derivations, or these rows
abbrev pub Lists : List Found → Vec Derivation Global → Type 0
Lists fs found = map found_of found.items ≡ fs

abbrev pub ListsRows : List Begun → Vec Row Global → Type 0
ListsRows bs rows = map begun_of rows.items ≡ bs

-- each row with each derivation of a tree behind it
abbrev pub each_longer : Bool → List ℕ → Tree → List Row → List Begun
each_longer may_be_empty s t rows = go_on may_be_empty (all_ways s t) (map begun_of rows)

-- behind what was there stands the row with each of these derivations behind it
abbrev pub AddsBehind : Bool → Row → Vec Derivation Global → Vec Row Global → Vec Row Global → Type 0
AddsBehind may_be_empty row found old new =
    map begun_of new.items ≡ map begun_of old.items ++ each_behind may_be_empty (begun_of row) (map found_of found.items)

-- behind what was there stand these derivations, of the alternative with this index
abbrev pub AddsChosen : ℕ → Vec Derivation Global → Vec Derivation Global → Vec Derivation Global → Type 0
AddsChosen index held old new =
    map found_of new.items ≡ map found_of old.items ++ map (found_chosen index) (map found_of held.items)
