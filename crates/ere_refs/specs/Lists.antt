-- Lists of what groups hold behind a part.
-- Own rule: of derivations that agree on what is read behind, the preferred one stands for all; POSIX.1 XBD 9.4 leaves open
-- what groups hold.
use Rattle.std.specs.Prelude.{◌≡◌, ◌⊎◌, ℕ, Option, Some, None, List, [], ◌∷◌, ◌++◌, map, Vec}
use Rattle.std.specs.List.{Contains}
use Rattle.std.specs.declared.alloc.Global.{Global}
use Rattle.std.specs.declared.cmp.Ordering.TheVariants.{Less, Greater}
use Rattle.ere_tree.specs.Captures.{Captures, caps_of}
use Rattle.ere_tree.specs.Derivation.{Way, Derives}
use Rattle.ere_tree.specs.Preference.{within}
use Rattle.ere_tree.specs.Tree.{Tree}
use Rattle.ere_tree.specs.declared.hit.Cap.{Cap}
use Rattle.ere_refs.specs.Over.{IsBestFrom}
use Rattle.ere_refs.specs.Refers.{Agree}

-- ways over one part, each with the captures behind it
abbrev pub Listed : Type 0
Listed = List (Way × Captures)

-- a derivation by this way, which leaves these captures, has one in the list that agrees with it on what is read, and to
-- which it isn't preferred; those in front of that one are preferred to it
abbrev pub StandsIn : (ℕ → Type 0) → Way → Captures → Listed → Type 0
StandsIn P v d [] = ⊥
StandsIn P v d (x ∷ xs) =
    (Agree P d x.1 × (within x.0 v ≡ Greater → ⊥)) ⊎ ((within x.0 v ≡ Less) × StandsIn P v d xs)

-- each way of the list is preferred to this one
abbrev pub AllBefore : Way → Listed → Type 0
AllBefore v [] = Unit {0}
AllBefore v (x ∷ xs) = (within x.0 v ≡ Less) × AllBefore v xs

-- one of the list agrees with these captures on what is read
abbrev pub HasLike : (ℕ → Type 0) → Captures → Listed → Type 0
HasLike P d [] = ⊥
HasLike P d (x ∷ xs) = Agree P d x.1 ⊎ HasLike P d xs

-- the item is put behind the list, or dropped where one before agrees with it
abbrev pub IsPut : (ℕ → Type 0) → Listed → Way × Captures → Listed → Type 0
IsPut P xs y zs = (zs ≡ xs ++ y ∷ []) ⊎ ((zs ≡ xs) × HasLike P y.1 xs)

-- each of the list is a derivation over [i, j)
abbrev pub AllDerive : List ℕ → Tree → ℕ → ℕ → Captures → Listed → Type 0
AllDerive s t i j c [] = Unit {0}
AllDerive s t i j c (x ∷ xs) = Derives s t x.0 i j c x.1 × AllDerive s t i j c xs

-- The derivations over [i, j) from these captures, of those that agree on what is read one alone, the preferred first.
pub record AreOver (s : List ℕ) (t : Tree) (i j : ℕ) (c : Captures) (P : ℕ → Type 0) (all : Listed) : Type 0 where
  pub each : AllDerive s t i j c all
  pub first : (v : Way) (d : Captures) → Derives s t v i j c d → StandsIn P v d all

-- what some lists hold
abbrev pub items_in : Vec (Vec (Option Cap) Global) Global → List (List (Option Cap))
items_in lists = map (λ held. held.items) lists.items

-- lists of what so many groups hold, behind each of some derivations
abbrev pub lists_of : ℕ → ℕ → Listed → List (List (Option Cap))
lists_of start count all = map (λ x. caps_of start x.1 count) all

-- from captures that a list holds, these are the lists behind the derivations over [i, j)
abbrev pub ListsOver : List ℕ → Tree → ℕ → ℕ → ℕ → ℕ → (ℕ → Type 0) → List (Option Cap)
    → List (Vec (Option Cap) Global) → Type 0
ListsOver s t start i j count P old found =
    (c : Captures) → old ≡ caps_of start c count
    → (all : Listed) × AreOver s t i j c P all × (map (λ held. held.items) found ≡ lists_of start count all)

-- The law of the first: where nothing is read behind, the first of the derivations over a part is one to which none is
-- preferred.
abbrev pub FirstIsBest : Type 0
FirstIsBest =
    (s : List ℕ) (t : Tree) (i j : ℕ) (c : Captures) (behind : List ℕ) (one : Way × Captures) (others : Listed)
    → AreOver s t i j c (Contains behind) (one ∷ others) → IsBestFrom s t one.0 i j c

-- what these groups hold behind the tree doesn't depend on the way, where the span and what is held before are the same
abbrev pub TellsAll : Tree → List ℕ → Type 0
TellsAll t live =
    (s : List ℕ) (w v : Way) (i j : ℕ) (c d e : Captures) → Derives s t w i j c d → Derives s t v i j c e
    → Agree (Contains live) d e

-- the first of some lists, or None where there are none
abbrev pub IsFirst : List (Vec (Option Cap) Global) → Option (Vec (Option Cap) Global) → Type 0
IsFirst lists None = lists ≡ []
IsFirst lists (Some held) = (others : List (Vec (Option Cap) Global)) × (lists ≡ held ∷ others)
