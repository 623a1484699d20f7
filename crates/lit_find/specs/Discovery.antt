-- Which files are tests: those that words name, and those in directories that are walked through from one.
-- After LLVM Command Guide, lit, 'TEST DISCOVERY'. Own rule: a part is passed over by the suite of the directory in which it
-- stands.
use Rattle.std.specs.Prelude.{◌≡◌, ℕ, Bool, true, false, not, ◌&&◌, List, [], ◌∷◌, ◌++◌, Option, None, Some, ◌⊎◌, ⊤}
use Rattle.std.specs.List.{Any, Contains}
use Rattle.tt_outside.specs.declared.tree.Node.{Node}
use Rattle.tt_outside.specs.declared.tree.ItemKind.{ItemKind}
use Rattle.tt_outside.specs.declared.tree.ItemKind.TheVariants.{File, Dir, Other}
use Rattle.tt_outside.specs.TreeMap.{is_part}
use Rattle.lit_paths.specs.Paths.{Parts, dir_of, text_of}
use Rattle.lit_dirs.specs.Looks.{kind_of}
use Rattle.lit_dirs.specs.Passing.{has_suffix, is_passed}
use Rattle.lit_look.specs.Suites.{Rooted, looked_up, nearest}
use Rattle.lit_suite.specs.declared.suite_file.Suite.{Suite}

-- ---- what stands in a directory

-- of what isn't passed over, a directory is walked through, and a file whose path ends in a suffix of the suite is a test
abbrev pub takes_kind : Suite → ItemKind → List ℕ → Bool
takes_kind suite Dir path = true
takes_kind suite File path = has_suffix suite path
takes_kind suite Other path = false

-- the suite of a directory takes what is of a kind there under a name
abbrev pub takes : Option Rooted → ItemKind → Parts → List ℕ → Bool
takes None kind dir part = false
takes (Some rooted) kind dir part =
    not (is_passed rooted.suite part) && takes_kind rooted.suite kind (text_of (dir ++ part ∷ []))

-- what is of a kind stands there under a name, and is taken
pub record IsIn (nodes : List Node) (kind : ItemKind) (dir : Parts) (part : List ℕ) : Type 0 where
  pub named : is_part part ≡ true
  pub stands : kind_of nodes (dir ++ part ∷ []) ≡ Some kind
  pub taken : takes (nearest nodes dir) kind dir part ≡ true

-- ---- directories

-- each part of the rest is a directory that is walked through, from the one before it
abbrev pub IsWay : List Node → Parts → Parts → Type 0
IsWay nodes dir [] = ⊤
IsWay nodes dir (part ∷ rest) = IsIn nodes Dir dir part × IsWay nodes (dir ++ part ∷ []) rest

-- a directory is walked through from another, or is the same
pub record IsWalked (nodes : List Node) (word dir : Parts) : Type 0 where
  pub rest : Parts
  pub behind : dir ≡ word ++ rest
  pub from_dir : kind_of nodes word ≡ Some Dir
  pub way : IsWay nodes word rest

-- the directory whose suite is that of a word: the word itself, or the directory in which it stands
abbrev pub start_at : Parts → Option ItemKind → Parts
start_at word (Some Dir) = word
start_at word (Some File) = dir_of word
start_at word (Some Other) = dir_of word
start_at word None = dir_of word

abbrev pub start_of : List Node → Parts → Parts
start_of nodes word = start_at word (kind_of nodes word)

-- a word looks at the directories up to its suite, and at those that are walked through from it
abbrev pub LooksAt : List Node → Parts → Parts → Type 0
LooksAt nodes dir word = Contains (looked_up nodes (start_of nodes word)) dir ⊎ IsWalked nodes word dir

-- one of these words looks at a directory
abbrev pub IsLookedAt : List Node → List Parts → Parts → Type 0
IsLookedAt nodes words dir = Any (LooksAt nodes dir) words

-- ---- tests

-- a path is that of a test in a directory that is walked through from a word
pub record IsBelow (nodes : List Node) (word path : Parts) : Type 0 where
  pub dir : Parts
  pub part : List ℕ
  pub is : path ≡ dir ++ part ∷ []
  pub walked : IsWalked nodes word dir
  pub test : IsIn nodes File dir part

-- the words make a path a test: it is that of a file, and one of them or below one
abbrev pub IsTest : List Node → List Parts → Parts → Type 0
IsTest nodes words path =
    (kind_of nodes path ≡ Some File) × Any (λ word. (path ≡ word) ⊎ IsBelow nodes word path) words
