-- What a look at a directory gives, and a look for its suite, where the tree tells what stands in it.
-- Own rule: directories are looked at from the one whose suite is wanted upward, to the first with a suite file.
use Rattle.std.specs.Prelude.{◌≡◌, ◌≢◌, ℕ, true, List, ◌∷◌, ◌++◌, Option, None, Some, Result, ◌⊎◌, slice_get}
use Rattle.std.specs.List.{Contains}
use Rattle.tt_outside.specs.declared.tree.Item.{Item}
use Rattle.tt_outside.specs.declared.tree.Node.{Node}
use Rattle.tt_outside.specs.TreeMap.{Lists, are_nested}
use Rattle.tt_outside.specs.declared.tree.ItemKind.TheVariants.{Dir, File}
use Rattle.lit_paths.specs.Paths.{Parts, text_of}
use Rattle.lit_dirs.specs.Looks.{kind_of}
use Rattle.lit_dirs.specs.declared.fault.DiscoverFault.{DiscoverFault}
use Rattle.lit_dirs.specs.declared.fault.DiscoverFault.TheVariants.{Missing, NoSuite}
use Rattle.lit_look.specs.declared.root.SuiteRoot.{SuiteRoot}
use Rattle.lit_look.specs.declared.seen.Looked.{Looked}
use Rattle.lit_look.specs.Seen.{AreLooks, AreSeen, Has, Refuses, RefusesNext}
use Rattle.lit_look.specs.Suites.{looked_up, nearest, rooted_at}
use Rattle.lit_look.specs.Trees.{Gives}

-- this is the number of a directory
abbrev pub IsNumberOf : List Looked → Parts → ℕ → Type 0
IsNumberOf seen dir number = (looked : Looked) × (slice_get seen number ≡ Some looked) × (looked.dir ≡ dir)

-- the suite that a directory is the root of
abbrev pub suite_of : Option Looked → Option SuiteRoot
suite_of None = None
suite_of (Some looked) = looked.suite

-- these directories come behind others
abbrev pub Extends : List Looked → List Looked → Type 0
Extends old new = (more : List Looked) × (new ≡ old ++ more)

-- ---- one directory

-- neither a directory nor a file stands there, and that is told
abbrev pub IsAbsent : List Node → Parts → DiscoverFault → Type 0
IsAbsent nodes dir fault =
    (fault ≡ Missing (text_of dir)) × (kind_of nodes dir ≢ Some Dir) × (kind_of nodes dir ≢ Some File)

-- the directory was looked at, now or earlier; or a file has the path
abbrev pub WasLookedAt : List Node → Parts → List Looked → List Looked → Option ℕ → Type 0
WasLookedAt nodes dir old new (Some number) = AreSeen nodes (λ one. Has old one ⊎ (one ≡ dir)) new
WasLookedAt nodes dir old new None = (kind_of nodes dir ≡ Some File) × (new ≡ old)

abbrev pub GivesLook : List Node → Parts → List Looked → List Looked → Result (Option ℕ) DiscoverFault → Type 0
GivesLook nodes dir old new =
    Gives (WasLookedAt nodes dir old new) (λ fault. IsAbsent nodes dir fault ⊎ RefusesNext nodes old dir fault)

-- the directory was looked at, and it lists these
abbrev pub WasListed : List Node → Parts → List Looked → List Looked → Option (ℕ × List Item) → Type 0
WasListed nodes dir old new (Some (number, items)) =
    WasLookedAt nodes dir old new (Some number) × Lists nodes (text_of dir) items
WasListed nodes dir old new None = WasLookedAt nodes dir old new None

abbrev pub GivesListed : List Node → Parts → List Looked → List Looked → Result (Option (ℕ × List Item)) DiscoverFault
    → Type 0
GivesListed nodes dir old new =
    Gives (WasListed nodes dir old new) (λ fault. IsAbsent nodes dir fault ⊎ RefusesNext nodes old dir fault)

-- a directory was looked at; or it is refused
abbrev pub GivesDirLook : List Node → Parts → List Looked → List Looked → Result ℕ DiscoverFault → Type 0
GivesDirLook nodes dir old new =
    Gives (λ number. AreSeen nodes (λ one. Has old one ⊎ (one ≡ dir)) new) (RefusesNext nodes old dir)

-- ---- the directories up to a suite

-- those of which Before holds and all of these were looked at
abbrev pub AreSeenUp : List Node → (Parts → Type 0) → Parts → List Looked → Type 0
AreSeenUp nodes Before dir seen = AreSeen nodes (λ one. Before one ⊎ Contains (looked_up nodes dir) one) seen

-- one of them is refused, behind those before it
abbrev pub IsRefusedUp : List Node → (Parts → Type 0) → Parts → DiscoverFault → Type 0
IsRefusedUp nodes Before dir fault =
    (early : List Parts) × (one : Parts) × (later : List Parts) × (looked_up nodes dir ≡ early ++ one ∷ later)
    × Refuses nodes (λ other. Before other ⊎ Contains early other) one fault

-- nothing refuses one, and none has a suite, which is told of a word
abbrev pub HasNoSuite : List Node → (Parts → Type 0) → Parts → Parts → DiscoverFault → Type 0
HasNoSuite nodes Before dir word fault =
    ((seen : List Looked) × AreSeenUp nodes Before dir seen) × (nearest nodes dir ≡ None) × (fault ≡ NoSuite (text_of word))

-- none up to a suite has one, or one of them is refused
abbrev pub RefusesUp : List Node → (Parts → Type 0) → Parts → Parts → DiscoverFault → Type 0
RefusesUp nodes Before dir word fault = HasNoSuite nodes Before dir word fault ⊎ IsRefusedUp nodes Before dir fault

-- the directories up to the nearest suite were looked at; or a file has the path
abbrev pub IsNearest : List Node → Parts → List Looked → List Looked → Option SuiteRoot → Type 0
IsNearest nodes dir old new (Some root) =
    (kind_of nodes dir ≡ Some Dir) × AreSeenUp nodes (Has old) dir new × (nearest nodes dir ≡ Some (rooted_at root))
IsNearest nodes dir old new None = (kind_of nodes dir ≡ Some File) × (new ≡ old)

abbrev pub GivesNearest : List Node → Parts → Parts → List Looked → List Looked → Result (Option SuiteRoot) DiscoverFault
    → Type 0
GivesNearest nodes dir word old new =
    Gives (IsNearest nodes dir old new)
    (λ fault. IsAbsent nodes dir fault ⊎ ((kind_of nodes dir ≡ Some Dir) × RefusesUp nodes (Has old) dir word fault))

-- ---- answers, where the tree tells what stands in it

-- behind looks at what it tells
abbrev pub IfLooks : Option (List Node) → List Looked → (List Node → Type 0) → Type 0
IfLooks told old Then = (nodes : List Node) → told ≡ Some nodes → AreLooks nodes old → Then nodes

abbrev pub LooksInto : Option (List Node) → Parts → List Looked → List Looked → Result ℕ DiscoverFault → Type 0
LooksInto told dir old new result = IfLooks told old (λ nodes. GivesDirLook nodes dir old new result)

abbrev pub Looks : Option (List Node) → Parts → List Looked → List Looked → Result (Option ℕ) DiscoverFault → Type 0
Looks told dir old new result = IfLooks told old (λ nodes. GivesLook nodes dir old new result)

abbrev pub LooksThrough : Option (List Node) → Parts → List Looked → List Looked
    → Result (Option (ℕ × List Item)) DiscoverFault → Type 0
LooksThrough told dir old new result = IfLooks told old (λ nodes. GivesListed nodes dir old new result)

abbrev pub LooksUp : Option (List Node) → Parts → Parts → List Looked → List Looked
    → Result (Option SuiteRoot) DiscoverFault → Type 0
LooksUp told dir word old new result =
    IfLooks told old (λ nodes. are_nested nodes ≡ true → GivesNearest nodes dir word old new result)
