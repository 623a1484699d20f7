-- The hit as a value: of all derivations from the first place that has one, the preferred one.
-- Leftmost, and longest from there, after POSIX.1 XBD 9.4; the laws below tie it to the relation that says so.
use Rattle.std.specs.Prelude.{◌≡◌, ℕ, zero, suc, ◌+◌, ◌-◌, ◌≤◌, Bool, if◌then◌else◌, Option, Some, None, IfSome, List, [], ◌∷◌, length, drop}
use Rattle.std.specs.FinMap.{empty}
use Rattle.std.specs.Option.{option_map}
use Rattle.std.specs.Ordering.{is_lt}
use Rattle.ere_slow.specs.Listing.{Found, all_ways}
use Rattle.ere_tree.specs.Captures.{caps_of}
use Rattle.ere_tree.specs.Hit.{FindsHit}
use Rattle.ere_tree.specs.Preference.{preference}
use Rattle.ere_tree.specs.Shape.{greatest_group}
use Rattle.ere_tree.specs.Tree.{Tree}
use Rattle.ere_tree.specs.declared.hit.Hit.{Hit}

-- whether the first derivation is preferred to the second
abbrev pub is_preferred : Found → Found → Bool
is_preferred f g = is_lt (preference f.way f.to g.way g.to)

-- the preferred one of derivations
abbrev pub best : Found → List Found → Found
best f [] = f
best f (g ∷ found) = best (if is_preferred g f then g else f) found

abbrev pub best_of : List Found → Option Found
best_of [] = None
best_of (f ∷ found) = Some (best f found)

-- the preferred derivation from a place, else what is found elsewhere
abbrev pub found_at : ℕ → Option Found → Option (ℕ × Found) → Option (ℕ × Found)
found_at i (Some f) elsewhere = Some (i, f)
found_at i None elsewhere = elsewhere

-- the first of a place and so many behind it from which the tree derives, with the preferred derivation
abbrev pub first_found : List ℕ → Tree → ℕ → ℕ → Option (ℕ × Found)
first_found s t zero i = found_at i (best_of (all_ways s t i empty)) None
first_found s t (suc left) i = found_at i (best_of (all_ways s t i empty)) (first_found s t left (i + 1))

-- a derivation from a place, told with offsets of a text in which the slice begins at `from`
abbrev pub told : Tree → ℕ → ℕ × Found → Hit
told t from p =
    record { from = from + p.0; to = from + p.1.to; groups = caps_of from p.1.captures (greatest_group t) }

-- the hit in the slice that begins at an offset of a text
abbrev pub hit_in : List ℕ → Tree → ℕ → Option Hit
hit_in text t from = option_map (told t from) (first_found (drop from text) t (length (drop from text)) 0)

-- The law of the value: it is a hit.
abbrev pub ValueIsHit : Type 0
ValueIsHit = (text : List ℕ) (t : Tree) (from : ℕ) → FindsHit text t from (hit_in text t from)

-- Start, length and groups of two hits are the same, and the second ends where the first does or before. No hit ends before it
-- starts, so the two are one, which `HitIsValue` says; this is what is carried on where nothing is known of their ends.
pub record IsSame (from : ℕ) (a b : Hit) : Type 0 where
  pub start : a.from ≡ b.from
  pub count : a.to - a.from ≡ b.to - b.from
  pub reach : (n : ℕ) → a.to ≤ from + n → b.to ≤ from + n
  pub groups : a.groups ≡ b.groups

abbrev pub Alike : ℕ → Option Hit → Option Hit → Type 0
Alike from None None = Unit {0}
Alike from (Some a) (Some b) = IsSame from a b
Alike from None (Some b) = ⊥
Alike from (Some a) None = ⊥

-- and each hit is that one.
abbrev pub ValueIsOne : Type 0
ValueIsOne =
    (text : List ℕ) (t : Tree) (from : ℕ) (hit : Option Hit) → FindsHit text t from hit
    → Alike from hit (hit_in text t from)

-- Law: each hit is the value itself.
abbrev pub HitIsValue : Type 0
HitIsValue = (text : List ℕ) (t : Tree) (from : ℕ) (hit : Option Hit) → FindsHit text t from hit → hit ≡ hit_in text t from

-- A hit lies in its slice.
pub record LiesIn (from to : ℕ) (hit : Hit) : Type 0 where
  pub behind : from ≤ hit.from
  pub ordered : hit.from ≤ hit.to
  pub within : hit.to ≤ to

abbrev pub ValueLies : Type 0
ValueLies =
    (text : List ℕ) (t : Tree) (from : ℕ) → from ≤ length text → IfSome (hit_in text t from) (LiesIn from (length text))
