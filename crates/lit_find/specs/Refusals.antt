-- The first refusal of a discovery.
-- Own rule: words in their order; of a word that nothing stands there, then its directory and those above up to a suite,
-- then the walk, a directory before those below it and siblings in byte order of names. In each directory come the items
-- that were listed in all, the Python configuration and the suite file. Each directory counts once.
use Rattle.std.specs.Prelude.{◌≡◌, ◌≢◌, List, [], ◌∷◌, ◌++◌, All, None, Some, ◌⊎◌}
use Rattle.std.specs.List.{Contains}
use Rattle.tt_outside.specs.declared.tree.Node.{Node}
use Rattle.tt_outside.specs.declared.tree.ItemKind.TheVariants.{File, Dir}
use Rattle.lit_paths.specs.Paths.{Parts, text_of}
use Rattle.lit_dirs.specs.Looks.{kind_of}
use Rattle.lit_dirs.specs.declared.fault.DiscoverFault.{DiscoverFault}
use Rattle.lit_dirs.specs.declared.fault.DiscoverFault.TheVariants.{Missing}
use Rattle.lit_look.specs.declared.seen.Looked.{Looked}
use Rattle.lit_look.specs.Seen.{AreSeen, Refuses}
use Rattle.lit_look.specs.Looks.{RefusesUp}
use Rattle.lit_look.specs.Suites.{looked_up, nearest}
use Rattle.lit_find.specs.Discovery.{IsLookedAt, IsWalked, start_of}
use Rattle.lit_find.specs.Places.{IsBefore}

-- ---- no refusal

-- a word is a directory, or a file in one
abbrev pub Stands : List Node → Parts → Type 0
Stands nodes word = (kind_of nodes word ≡ Some Dir) ⊎ ((kind_of nodes word ≡ Some File) × (word ≢ []))

-- a word is there, and has a suite
pub record HasPlace (nodes : List Node) (word : Parts) : Type 0 where
  pub stands : Stands nodes word
  pub suite : nearest nodes (start_of nodes word) ≢ None

-- no word is refused
pub record IsClear (nodes : List Node) (words : List Parts) : Type 0 where
  pub places : All (HasPlace nodes) words
  pub seen : List Looked
  pub all : AreSeen nodes (IsLookedAt nodes words) seen

-- ---- the refusals of a word, behind others

-- neither a file nor a directory is there; `/` is no file
abbrev pub IsMissing : List Node → Parts → DiscoverFault → Type 0
IsMissing nodes word fault =
    (kind_of nodes word ≢ Some Dir) × ((kind_of nodes word ≢ Some File) ⊎ (word ≡ []))
    × (fault ≡ Missing (text_of word))

-- the directories of earlier words, and those up to the suite of a further one
abbrev pub IsDue : List Node → List Parts → Parts → Parts → Type 0
IsDue nodes earlier start one = IsLookedAt nodes earlier one ⊎ Contains (looked_up nodes start) one

-- a directory of the walk is refused, behind those before it
abbrev pub IsRefusedDown : List Node → (Parts → Type 0) → Parts → DiscoverFault → Type 0
IsRefusedDown nodes Before word fault =
    (dir : Parts) × IsWalked nodes word dir
    × Refuses nodes (λ one. Before one ⊎ (IsWalked nodes word one × IsBefore one dir)) dir fault

-- Nothing stands there; or there is no suite, or a directory is refused: first one that is looked at for its suite.
abbrev pub RefusesWord : List Node → List Parts → Parts → DiscoverFault → Type 0
RefusesWord nodes earlier word fault =
    IsMissing nodes word fault
    ⊎ (Stands nodes word
    × (RefusesUp nodes (IsLookedAt nodes earlier) (start_of nodes word) word fault
    ⊎ ((nearest nodes word ≢ None) × IsRefusedDown nodes (IsDue nodes earlier word) word fault)))

-- the first of the words that is refused, and its refusal
pub record IsRefused (nodes : List Node) (words : List Parts) (fault : DiscoverFault) : Type 0 where
  pub earlier : List Parts
  pub word : Parts
  pub later : List Parts
  pub all : words ≡ earlier ++ word ∷ later
  pub clear : IsClear nodes earlier
  pub refused : RefusesWord nodes earlier word fault
