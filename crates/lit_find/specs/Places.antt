-- Directories that are to be walked through, in order.
-- Own rule: they stand in the order of their lists of parts, so one stands before those below it and siblings stand in
-- byte order.
use Rattle.std.specs.Prelude.{◌≡◌, ℕ, List, [], ◌∷◌, All, map, Vec}
use Rattle.std.specs.declared.alloc.Global.{Global}
use Rattle.std.specs.Cmp.Lexicographic.{slice_cmp}
use Rattle.std.specs.Ordering.{match_ordering, nat_cmp}
use Rattle.std.specs.declared.cmp.Ordering.{Ordering}
use Rattle.std.specs.declared.cmp.Ordering.TheVariants.{Less}
use Rattle.lit_look.specs.Suites.{LiesIn}
use Rattle.lit_look.specs.declared.root.SuiteRoot.{SuiteRoot}
use Rattle.lit_paths.specs.Paths.{Parts}
use Rattle.lit_find.specs.declared.place.Place.{Place}

abbrev pub parts_cmp : Parts → Parts → Ordering
parts_cmp = slice_cmp (slice_cmp nat_cmp)

-- a directory comes before another
abbrev pub IsBefore : Parts → Parts → Type 0
IsBefore one other = parts_cmp one other ≡ Less

abbrev pub path_order : Place → Place → Ordering
path_order one other = parts_cmp one.path other.path

-- a place put among others in their order; it takes the stead of one that is equal in it
abbrev pub put : (Place → Place → Ordering) → Place → List Place → List Place
put order place [] = place ∷ []
put order place (one ∷ places) =
    match_ordering (order place one) (place ∷ one ∷ places) (place ∷ places) (one ∷ put order place places)

-- the directory is that of its suite, or lies below it
abbrev pub IsInside : Place → Type 0
IsInside place = LiesIn place.suite.dir place.path

-- the first of some places, the others after it
pub record IsFirst (old new : List Place) (place : Place) : Type 0 where
  pub first : old ≡ place ∷ new
  pub least : All (λ other. IsBefore place.path other.path) new
  pub inside : IsInside place

-- ---- keys

-- the path of a key
abbrev pub parts_of : Vec (Vec ℕ Global) Global → Parts
parts_of key = map (λ part. part.items) key.items

-- the place of a key and a suite
abbrev pub place_of_entry : Vec (Vec ℕ Global) Global × SuiteRoot → Place
place_of_entry entry = record { path = parts_of entry.0; suite = entry.1 }
