-- What a walk through directories keeps: those that were walked through, those before it, and the tests found.
-- Own rule: a directory is walked through once in a discovery, whatever words name it.
use Rattle.std.specs.Prelude.{◌≡◌, ℕ, ◌+◌, ◌-◌, ◌≤◌, Bool, true, ◌||◌, if◌then◌else◌, List, [], ◌∷◌, ◌++◌, length, map, All, Vec, Option, None, Some, Result, Ok, Err, ◌⊎◌, ⊤}
use Rattle.std.specs.List.{Contains, list_all, list_any, sum_by}
use Rattle.std.specs.BTreeSet.{BTreeSet}
use Rattle.std.specs.declared.alloc.Global.{Global}
use Rattle.std.specs.Cmp.Lexicographic.{slice_cmp}
use Rattle.std.specs.Option.{unwrap_or}
use Rattle.std.specs.Ordering.{is_eq, nat_cmp}
use Rattle.tt_outside.specs.declared.test_data.Test.{Test}
use Rattle.tt_outside.specs.declared.tree.Item.{Item}
use Rattle.tt_outside.specs.declared.tree.Node.{Node}
use Rattle.tt_outside.specs.declared.tree.ItemKind.{ItemKind}
use Rattle.tt_outside.specs.declared.tree.ItemKind.TheVariants.{File, Dir, Other}
use Rattle.tt_outside.specs.TreeMap.{are_nested, is_part}
use Rattle.lit_paths.specs.Paths.{Parts, joined, parts_of, text_of}
use Rattle.lit_dirs.specs.Looks.{kind_of}
use Rattle.lit_dirs.specs.Suites.{suite_at}
use Rattle.lit_dirs.specs.declared.fault.DiscoverFault.{DiscoverFault}
use Rattle.lit_look.specs.Seen.{AreLooks, AreSeen, Has}
use Rattle.lit_look.specs.Suites.{LiesIn, nearest, or_else, rooted, rooted_at}
use Rattle.lit_look.specs.Trees.{Gives, Told}
use Rattle.lit_look.specs.declared.root.SuiteRoot.{SuiteRoot}
use Rattle.lit_look.specs.declared.seen.Looked.{Looked}
use Rattle.lit_find.specs.Discovery.{IsIn, IsLookedAt, IsWalked}
use Rattle.lit_find.specs.Found.{IsRight}
use Rattle.lit_find.specs.Places.{IsBefore}
use Rattle.lit_find.specs.Refusals.{HasPlace, IsRefused, IsRefusedDown, RefusesWord}
use Rattle.lit_find.specs.Sorting.{with_items}
use Rattle.lit_find.specs.declared.place.Place.{Place}
use Rattle.lit_find.specs.declared.walk.Walk.{Walk}

-- ---- what stands in the lists

abbrev pub HasPath : List Place → Parts → Type 0
HasPath places path = Contains (map (λ place. place.path) places) path

abbrev pub HasTest : List Test → Parts → Type 0
HasTest tests path = Contains (map (λ test. test.path) tests) (text_of path)

-- a text is this one, and a set of texts has it
abbrev pub same_text : List ℕ → List ℕ → Bool
same_text one other = is_eq (slice_cmp nat_cmp one other)

abbrev pub has_text : BTreeSet (Vec ℕ Global) → List ℕ → Bool
has_text texts text = list_any (λ key. same_text text key.items) texts.keys

-- the directory of this text was walked through
abbrev pub was_walked : Walk → List ℕ → Bool
was_walked walk text = has_text walk.walked text

-- a directory was walked through
abbrev pub Walked : Walk → Parts → Type 0
Walked walk dir = (list_all is_part dir ≡ true) × (was_walked walk (text_of dir) ≡ true)

-- that of a directory was done, or is to be; a file's test is found
abbrev pub IsDone : Walk → ItemKind → Parts → Type 0
IsDone walk Dir path = Walked walk path ⊎ HasPath walk.pending path
IsDone walk File path = HasTest walk.found path
IsDone walk Other path = ⊤

-- ---- one directory

-- a directory is walked through: the items that it lists are sorted by its suite
pub record IsThrough (looked : Looked) (items : List Item) (known : SuiteRoot) (old new : Walk) : Type 0 where
  pub marked : (text : List ℕ) → was_walked new text ≡ (same_text text (text_of looked.dir) || was_walked old text)
  pub taken : new.taken ≡ old.taken + length items
  pub sorted : new ≡ with_items (unwrap_or looked.suite known) looked.dir
      (record { found = old.found; walked = new.walked; taken = new.taken; pending = old.pending }) items

-- ---- how long a walk may take

-- how many items were counted in the directories that were walked through
abbrev pub spent : List Looked → Walk → ℕ
spent seen walk = sum_by (λ looked. if was_walked walk (text_of looked.dir) then looked.count else 0) seen

-- how many further directories are walked through at most
abbrev pub room : Walk → ℕ
room walk = length walk.pending + (1000000 - walk.taken)

-- ---- what holds between two directories

-- a directory that is to be walked through from a word, with the suite of the one that it stands in
pub record IsAhead (nodes : List Node) (word : Parts) (place : Place) : Type 0 where
  pub inside : LiesIn place.suite.dir place.path
  pub walked : IsWalked nodes word place.path
  pub is_dir : kind_of nodes place.path ≡ Some Dir
  pub suite : nearest nodes place.path
      ≡ or_else (rooted place.path (suite_at nodes place.path)) (Some (rooted_at place.suite))

-- Some words are walked: of each directory that was walked through, those in it were too, or are to be, and its tests
-- are found.
pub record IsState (nodes : List Node) (words : List Parts) (walk : Walk) : Type 0 where
  pub tests : All (IsRight nodes words) walk.found
  pub closed : (kind : ItemKind) (dir : Parts) (part : List ℕ) → Walked walk dir → IsIn nodes kind dir part
      → IsDone walk kind (dir ++ part ∷ [])
  pub asked : (kind : ItemKind) (word : Parts) → Contains words word → kind_of nodes word ≡ Some kind
      → IsDone walk kind word

-- The walk of a word, one of some: what it looked at behind the first looks stands before all that is to be walked
-- through. The other words are done.
pub record IsWalk (nodes : List Node) (words : List Parts) (word : Parts) (first seen : List Looked) (walk : Walk)
    : Type 0 where
  pub state : IsState nodes words walk
  pub ahead : All (IsAhead nodes word) walk.pending
  pub looks : AreLooks nodes seen
  pub looked : (dir : Parts) → Walked walk dir → Has seen dir
  pub from : (dir : Parts) → Has first dir → Has seen dir
  pub new : (dir : Parts) → Has seen dir
      → Has first dir ⊎ (IsWalked nodes word dir × All (λ place. IsBefore dir place.path) walk.pending)
  pub one : Contains words word
  pub within : walk.taken ≤ spent seen walk

-- the walk with a directory before it
abbrev pub with_first : Place → Walk → Walk
with_first place walk = record {
  found = walk.found;
  walked = walk.walked;
  taken = walk.taken;
  pending = place ∷ walk.pending;
}

-- what a walk gives, behind one directory or all: that; or one is refused
abbrev pub GivesWalk : {A : Type 0} → List Node → List Parts → Parts → List Looked → List Looked → Walk
    → Result A DiscoverFault → Type 0
GivesWalk nodes words word first new walk =
    Gives (λ done. IsWalk nodes words word first new walk) (IsRefusedDown nodes (Has first) word)

-- a walk goes on from what some words and the walk so far give
abbrev pub GoesOn : {A : Type 0} → Option (List Node) → List Looked → List Looked → Walk → Walk → Result A DiscoverFault
    → Type 0
GoesOn told old new before after result =
    (nodes : List Node) (words : List Parts) (word : Parts) (first : List Looked) → told ≡ Some nodes
    → IsWalk nodes words word first old before → GivesWalk nodes words word first new after result

-- one directory of it is next
abbrev pub GoesThrough : {A : Type 0} → Option (List Node) → Place → List Looked → List Looked → Walk → Walk
    → Result A DiscoverFault → Type 0
GoesThrough told place old new before after result =
    All (λ other. IsBefore place.path other.path) before.pending
    → GoesOn told old new (with_first place before) after result

-- ---- what holds between two words

-- all that some words make was found, and no directory is before the walk
pub record IsCovered (nodes : List Node) (words : List Parts) (seen : List Looked) (walk : Walk) : Type 0 where
  pub state : IsState nodes words walk
  pub done : walk.pending ≡ []
  pub looked : (dir : Parts) → Walked walk dir → Has seen dir
  pub places : All (HasPlace nodes) words
  pub all : AreSeen nodes (IsLookedAt nodes words) seen
  pub within : walk.taken ≤ spent seen walk

-- what one more word gives: all that it makes is found; or it is refused
abbrev pub GivesWord : {A : Type 0} → List Node → List Parts → Parts → List Looked → Walk → Result A DiscoverFault
    → Type 0
GivesWord nodes words word seen walk =
    Gives (λ done. IsCovered nodes (words ++ word ∷ []) seen walk) (RefusesWord nodes words word)

-- what words give: all that they make is found; or one is refused
abbrev pub GivesWords : {A : Type 0} → List Node → List Parts → List Looked → Walk → Result A DiscoverFault → Type 0
GivesWords nodes words seen walk = Gives (λ done. IsCovered nodes words seen walk) (IsRefused nodes words)

-- words, a further one, and one that is a file, where the tree tells what stands in it
abbrev pub AddsWords : {A : Type 0} → Option (List Node) → List Parts → List Looked → List Looked → Walk → Walk
    → Result A DiscoverFault → Type 0
AddsWords told words old new before after result =
    (nodes : List Node) → told ≡ Some nodes → are_nested nodes ≡ true → IsCovered nodes [] old before
    → GivesWords nodes words new after result

abbrev pub AddsWord : {A : Type 0} → Option (List Node) → Parts → List Looked → List Looked → Walk → Walk
    → Result A DiscoverFault → Type 0
AddsWord told word old new before after result =
    (nodes : List Node) (words : List Parts) → told ≡ Some nodes → are_nested nodes ≡ true
    → IsCovered nodes words old before → GivesWord nodes words word new after result

abbrev pub AddsFile : {A : Type 0} → Option (List Node) → Parts → List Looked → List Looked → Walk → Walk
    → Result A DiscoverFault → Type 0
AddsFile told word old new before after result =
    (nodes : List Node) (words : List Parts) → told ≡ Some nodes → are_nested nodes ≡ true
    → IsCovered nodes words old before → kind_of nodes word ≡ Some File → GivesWord nodes words word new after result

-- what all words of a discovery give, where the tree tells what stands in it
abbrev pub Walks : Option (List Node) → List ℕ → List (List ℕ) → Result (List Test) DiscoverFault → Type 0
Walks None base texts result = ⊤
Walks (Some nodes) base texts (Ok found) =
    (seen : List Looked) × (walk : Walk) × IsCovered nodes (map (joined (parts_of base)) texts) seen walk
    × (walk.found ≡ found)
Walks (Some nodes) base texts (Err fault) = Told (IsRefused nodes (map (joined (parts_of base)) texts)) fault
