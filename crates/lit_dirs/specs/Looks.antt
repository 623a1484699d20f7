-- What refuses a directory that is looked at, and what looking at it gives.
-- Own rule: a Python configuration comes before the suite file; the least one in byte order is told.
use Rattle.std.specs.Prelude.{◌≡◌, ◌≢◌, ℕ, nat_lt, Bool, true, false, codes, if◌then◌else◌, List, [], ◌∷◌, ◌++◌, length, Option, None, Some, Result, Ok, Err, ◌⊎◌, ⊤}
use Rattle.std.specs.List.{All, find}
use Rattle.std.specs.Option.{option_map}
use Rattle.std.specs.Str.{bytes_eq}
use Rattle.lit_paths.specs.Paths.{Parts, text_of}
use Rattle.lit_suite.specs.declared.suite_file.Suite.{Suite}
use Rattle.lit_suite.specs.declared.suite_file.SuiteFault.{SuiteFault}
use Rattle.lit_suite.specs.Suites.{suite_file}
use Rattle.tt_outside.specs.declared.tree.Node.{Node}
use Rattle.tt_outside.specs.declared.tree.Counted.{Counted}
use Rattle.tt_outside.specs.declared.tree.Item.{Item}
use Rattle.tt_outside.specs.declared.tree.ItemKind.{ItemKind}
use Rattle.tt_outside.specs.declared.tree.ItemKind.TheVariants.{File, Dir, Other}
use Rattle.tt_outside.specs.TreeMap as map
use Rattle.tt_outside.specs.TreeMap.{Lists, file_at, kind_at}
use Rattle.lit_dirs.specs.Suites.{suite_at, suite_path}
use Rattle.lit_dirs.specs.declared.fault.DiscoverFault.{DiscoverFault}
use Rattle.lit_dirs.specs.declared.fault.DiscoverFault.TheVariants.{Missing, PythonConfig, BadSuite, SuiteTooLarge, TreeFault, NoMemory}

abbrev pub is_file : Option ItemKind → Bool
is_file (Some File) = true
is_file (Some Dir) = false
is_file (Some Other) = false
is_file None = false

-- what stands at a path
abbrev pub kind_of : List Node → Parts → Option ItemKind
kind_of nodes path = kind_at nodes (text_of path)

-- ---- refusals

-- the names of Python configurations, in byte order
abbrev pub python_names : List (List ℕ)
python_names =
    codes "lit.cfg" ∷ codes "lit.cfg.py" ∷ codes "lit.local.cfg" ∷ codes "lit.local.cfg.py" ∷ codes "lit.site.cfg"
    ∷ codes "lit.site.cfg.py" ∷ []

-- the names that a directory is looked at for: its suite file, and those
abbrev pub config_names : List (List ℕ)
config_names = codes "lit.suite.toml" ∷ python_names

-- the item of a name, and the first of some names under which a file is listed
abbrev pub item_named : List Item → List ℕ → Option Item
item_named items name = find (λ item. bytes_eq item.name name) items

abbrev pub first_file : List Item → List (List ℕ) → Option (List ℕ)
first_file items names = find (λ name. is_file (map.kind_of items name)) names

-- the least Python configuration among some items
abbrev pub python_of : List Item → Option (List ℕ)
python_of items = first_file items python_names

-- the least Python configuration in a directory
abbrev pub python_in : List Node → Parts → Option (List ℕ)
python_in nodes dir = find (λ name. is_file (kind_of nodes (dir ++ name ∷ []))) python_names

-- items tell what stands in a directory under these names
abbrev pub Shows : List Node → Parts → List Item → Type 0
Shows nodes dir items = All (λ name. map.kind_of items name ≡ kind_of nodes (dir ++ name ∷ [])) config_names

-- a directory lists so many items
pub record Counts (nodes : List Node) (dir : Parts) (count : ℕ) : Type 0 where
  pub items : List Item
  pub lists : Lists nodes (text_of dir) items
  pub all : count ≡ length items

abbrev pub reading_fault : List ℕ → Result Suite SuiteFault → Option DiscoverFault
reading_fault path (Ok suite) = None
reading_fault path (Err fault) = Some (BadSuite path fault)

-- the fault of a suite file: past 64 KiB, or one of its reading
abbrev pub suite_fault : List ℕ → Option (List ℕ) → Option DiscoverFault
suite_fault path None = None
suite_fault path (Some bytes) =
    if nat_lt 65536 (length bytes) then Some (SuiteTooLarge path) else reading_fault path (suite_file bytes)

-- the fault of the suite file in a directory
abbrev pub suite_fault_in : List Node → Parts → Option DiscoverFault
suite_fault_in nodes dir = suite_fault (suite_path dir) (file_at nodes (suite_path dir))

abbrev pub python_or : Parts → Option (List ℕ) → Option DiscoverFault → Option DiscoverFault
python_or dir (Some name) later = Some (PythonConfig (text_of (dir ++ name ∷ [])))
python_or dir None later = later

-- what refuses a directory that is looked at, behind the count of items
abbrev pub fault_in : List Node → Parts → Option DiscoverFault
fault_in nodes dir = python_or dir (python_in nodes dir) (suite_fault_in nodes dir)

-- ---- answers, whatever the tree tells

-- a fault of the tree is told
abbrev pub IsTreeFault : {A : Type 0} → Result A DiscoverFault → Type 0
IsTreeFault result = result ≡ Err TreeFault

-- a tree of which no call fails stays so, and no fault of it is told or counted
abbrev pub HoldsSteady : {T A : Type 0} → (T → Type 0) → (T → ℕ) → T → T → Result A DiscoverFault → Type 0
HoldsSteady is_steady count old new result =
    is_steady old → (result ≢ Err TreeFault) × is_steady new × (count new ≡ count old)

-- what is told as missing, for a look at a directory: the directory, or the suite file that it listed
abbrev pub IsGone : Parts → DiscoverFault → Type 0
IsGone dir (Missing path) = (path ≡ text_of dir) ⊎ (path ≡ suite_path dir)
IsGone dir fault = ⊤

-- ---- answers, where the tree tells

-- What is right of a directory is given, or none of a file. Missing is told of a path where neither stands.
abbrev pub GivesDir : {A : Type 0} → (List Node → A → Type 0) → Option (List Node) → Parts → Result (Option A) DiscoverFault
    → Type 0
GivesDir Right None dir result = ⊤
GivesDir Right (Some nodes) dir (Ok (Some given)) = Right nodes given
GivesDir Right (Some nodes) dir (Ok None) = kind_of nodes dir ≡ Some File
GivesDir Right (Some nodes) dir (Err (Missing path)) =
    (path ≡ text_of dir) × (kind_of nodes dir ≢ Some Dir) × (kind_of nodes dir ≢ Some File)
GivesDir Right (Some nodes) dir (Err TreeFault) = ⊤
GivesDir Right (Some nodes) dir (Err NoMemory) = ⊤
GivesDir Right (Some nodes) dir (Err fault) = ⊥

-- a directory's items are given
abbrev pub GivesListing : Option (List Node) → Parts → Result (Option (List Item)) DiscoverFault → Type 0
GivesListing told dir = GivesDir (λ nodes. Lists nodes (text_of dir)) told dir

-- how many items a directory has, and what stands under the names that it is looked at for
abbrev pub GivesCounting : Option (List Node) → Parts → Result (Option Counted) DiscoverFault → Type 0
GivesCounting told dir = GivesDir (λ nodes few. Counts nodes dir few.count × Shows nodes dir few.named) told dir

-- The suite file's fault is told, or what it reads as. Missing is told where there is none.
abbrev pub GivesReading : Option (List Node) → Parts → Result Suite DiscoverFault → Type 0
GivesReading None dir result = ⊤
GivesReading (Some nodes) dir (Ok suite) = (suite_fault_in nodes dir ≡ None) × (suite_at nodes dir ≡ Some (Ok suite))
GivesReading (Some nodes) dir (Err (Missing path)) = file_at nodes (suite_path dir) ≡ None
GivesReading (Some nodes) dir (Err TreeFault) = ⊤
GivesReading (Some nodes) dir (Err NoMemory) = ⊤
GivesReading (Some nodes) dir (Err fault) = suite_fault_in nodes dir ≡ Some fault

-- The directory's fault is told, or else its suite.
abbrev pub GivesSuite : Option (List Node) → Parts → Result (Option Suite) DiscoverFault → Type 0
GivesSuite None dir result = ⊤
GivesSuite (Some nodes) dir (Ok suite) = (fault_in nodes dir ≡ None) × (suite_at nodes dir ≡ option_map Ok suite)
GivesSuite (Some nodes) dir (Err TreeFault) = ⊤
GivesSuite (Some nodes) dir (Err NoMemory) = ⊤
GivesSuite (Some nodes) dir (Err fault) = fault_in nodes dir ≡ Some fault
