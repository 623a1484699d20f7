-- How rows are tried with a stack: where each one stands, and what is left of it.
-- Own rule: rows are gone through from the preferred one on; each place is left once all that goes on from it is found.
use Rattle.std.specs.Prelude.{◌≡◌, ◌⊎◌, ◌<◌, ◌-◌, ℕ, Option, Some, None, List, [], ◌∷◌, drop}
use Rattle.std.specs.Option.{option_map}
use Rattle.std.specs.declared.cmp.Ordering.TheVariants.{Less, Greater}
use Rattle.ere_tree.specs.Captures.{Captures}
use Rattle.ere_tree.specs.Derivation.{Way, Ways, done, next, count_of, CanRepeat, DerivesAll, DerivesEach}
use Rattle.ere_tree.specs.Preference.{in_order}
use Rattle.ere_tree.specs.Tree.{Tree, trees_of}
use Rattle.ere_refs.specs.Lists.{AllBefore, HasLike, Listed, StandsIn}
use Rattle.ere_refs.specs.Refers.{Agree}

-- a row of ways, and others behind it
abbrev pub followed : Ways → Ways → Ways
followed done vs = vs
followed (next k w us) vs = next k w (followed us vs)

-- what derives a row from a stage and a place on, to the end of the part: its ways, the captures before and behind
abbrev pub Rows : Type 1
Rows = ℕ → Ways → ℕ → Captures → Captures → Type 0

-- A row has come so far: by these ways to this stage and place, with these captures. What goes on from there is still to be
-- tried: all of it, or what begins with an end below a place.
pub record Spot : Type 0 where
  pub ways : Ways
  pub stage : ℕ
  pub place : ℕ
  pub caps : Captures
  pub below : Option ℕ

-- what goes on by these ways is still to be tried
abbrev pub Fits : Option ℕ → Ways → Type 0
Fits None rs = Unit {0}
Fits (Some high) done = ⊥
Fits (Some high) (next k w rs) = k < high

-- from a spot, what is still to be tried leads to captures that agree with these on what is read
abbrev pub LeadsTo : Rows → (ℕ → Type 0) → Captures → Spot → Type 0
LeadsTo Rest P d spot =
    (rs : Ways) × (e : Captures) × Rest spot.stage rs spot.place spot.caps e × Fits spot.below rs × Agree P d e

-- from one of these spots
abbrev pub OneLeadsTo : Rows → (ℕ → Type 0) → Captures → List Spot → Type 0
OneLeadsTo Rest P d [] = ⊥
OneLeadsTo Rest P d (spot ∷ spots) = LeadsTo Rest P d spot ⊎ OneLeadsTo Rest P d spots

-- A row goes on from a spot as it does from its own beginning of the same length, to which the spot's isn't worse.
abbrev pub GoesOn : Rows → (ℕ → Type 0) → Ways → Captures → Spot → Type 0
GoesOn Rest P vs d spot =
    (us : Ways) × (rs : Ways) × (e : Captures) × (vs ≡ followed us rs) × (count_of spot.ways ≡ count_of us)
    × (in_order spot.ways us ≡ Greater → ⊥) × Rest spot.stage rs spot.place spot.caps e × Fits spot.below rs × Agree P d e

-- it does so from one of these spots, and those in front of that one are preferred to it
abbrev pub OneGoesOn : Rows → (ℕ → Type 0) → Ways → Captures → List Spot → Type 0
OneGoesOn Rest P vs d [] = ⊥
OneGoesOn Rest P vs d (spot ∷ spots) =
    GoesOn Rest P vs d spot ⊎ ((in_order spot.ways vs ≡ Less) × OneGoesOn Rest P vs d spots)

-- the spot behind one member, by a way to a place
abbrev pub spot_of : Ways → ℕ → ℕ → Way × Captures → Spot
spot_of us stage high y =
    record { ways = followed us (next high y.0 done); stage = stage; place = high; caps = y.1; below = None }

-- the spots by each of its ways there
abbrev pub spots_at : Ways → ℕ → ℕ → Listed → List Spot
spots_at us stage high [] = []
spots_at us stage high (y ∷ ys) = spot_of us stage high y ∷ spots_at us stage high ys

-- the parts behind the first so many, up to a place
abbrev pub parts_behind : List ℕ → List Tree → ℕ → Rows
parts_behind s ts j n rs p c d = DerivesAll s (trees_of (drop n ts)) rs p j c d

-- the members behind the first so many, up to a place
abbrev pub members_behind : List ℕ → Tree → ℕ → Option ℕ → ℕ → Rows
members_behind s t least most j n rs p c d =
    CanRepeat (least - n) (option_map (λ m. m - n) most) (count_of rs) × DerivesEach s t (least - n) rs p j c d

-- WHAT IS KNOWN OF A STACK

-- a row is found, or goes on from a spot
abbrev pub Reached : Rows → (ℕ → Type 0) → (Ways → Way) → Ways → Captures → Listed → List Spot → Type 0
Reached Rest P wrap vs d found spots =
    StandsIn P (wrap vs) d found ⊎ (AllBefore (wrap vs) found × OneGoesOn Rest P vs d spots)

-- something that is found agrees, or one of the spots leads to it
abbrev pub Covered : Rows → (ℕ → Type 0) → Captures → Listed → List Spot → Type 0
Covered Rest P d found spots = HasLike P d found ⊎ OneLeadsTo Rest P d spots

-- what was tried from each spot is covered by the spots above it; those above the first of them are given
abbrev pub Told : Rows → (ℕ → Type 0) → Listed → List Spot → List Spot → Type 0
Told Rest P found above [] = Unit {0}
Told Rest P found above (spot ∷ spots) =
    ((rs : Ways) (e : Captures) → Rest spot.stage rs spot.place spot.caps e → (Fits spot.below rs → ⊥)
    → Covered Rest P e found above) × Told Rest P found (spot ∷ above) spots

-- what goes on from a spot is a row from the start, with the spot's ways in front
abbrev pub Grows : Rows → (Ways → Captures → Type 0) → Spot → Type 0
Grows Rest Start spot =
    (rs : Ways) (e : Captures) → Rest spot.stage rs spot.place spot.caps e → Start (followed spot.ways rs) e

abbrev pub AllGrow : Rows → (Ways → Captures → Type 0) → List Spot → Type 0
AllGrow Rest Start [] = Unit {0}
AllGrow Rest Start (spot ∷ spots) = Grows Rest Start spot × AllGrow Rest Start spots
