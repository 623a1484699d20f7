-- The directories that were looked at.
-- Own rule: each directory is looked at once, and what all of them list has a limit.
use Rattle.std.specs.Prelude.{◌≡◌, ◌≢◌, ℕ, ◌+◌, ◌≤◌, nat_lt, true, if◌then◌else◌, List, map, All, Option, Some, None, IfSome, Ok}
use Rattle.std.specs.List.{AllPairs, Contains, list_all, sum_by}
use Rattle.std.specs.Option.{option_map}
use Rattle.tt_outside.specs.declared.tree.Node.{Node}
use Rattle.tt_outside.specs.TreeMap.{is_part}
use Rattle.lit_paths.specs.Paths.{Parts}
use Rattle.lit_suite.specs.declared.suite_file.Suite.{Suite}
use Rattle.lit_dirs.specs.Looks.{Counts, fault_in}
use Rattle.lit_dirs.specs.Suites.{suite_at}
use Rattle.lit_dirs.specs.declared.fault.DiscoverFault.{DiscoverFault}
use Rattle.lit_dirs.specs.declared.fault.DiscoverFault.TheVariants.{TooManyItems}
use Rattle.lit_look.specs.declared.root.SuiteRoot.{SuiteRoot}
use Rattle.lit_look.specs.declared.seen.Looked.{Looked}

-- a directory is among those that were looked at
abbrev pub Has : List Looked → Parts → Type 0
Has seen dir = Contains (map (λ looked. looked.dir) seen) dir

-- the directory is made of parts
abbrev pub HasParts : Looked → Type 0
HasParts looked = list_all is_part looked.dir ≡ true

-- it is the root of its suite, if it has one
abbrev pub HasRoot : Looked → Type 0
HasRoot looked = IfSome looked.suite (λ root. root.dir ≡ looked.dir)

-- a suite with its directory
abbrev pub Roots : Parts → Option Suite → Option SuiteRoot → Type 0
Roots dir suite root = (option_map (λ one. one.suite) root ≡ suite) × IfSome root (λ one. one.dir ≡ dir)

-- this is what a look at the directory gives, which nothing refuses
pub record IsLook (nodes : List Node) (looked : Looked) : Type 0 where
  pub counts : Counts nodes looked.dir looked.count
  pub clear : fault_in nodes looked.dir ≡ None
  pub suite : suite_at nodes looked.dir ≡ option_map Ok (option_map (λ root. root.suite) looked.suite)
  pub root : HasRoot looked

-- how many items were listed in all
abbrev pub count_items : List Looked → ℕ
count_items seen = sum_by (λ looked. looked.count) seen

-- each directory of which Before holds was looked at once, and no other; nothing refuses one
pub record AreSeen (nodes : List Node) (Before : Parts → Type 0) (seen : List Looked) : Type 0 where
  pub right : (dir : Parts) → Has seen dir → Before dir
  pub whole : (dir : Parts) → Before dir → Has seen dir
  pub looks : All (IsLook nodes) seen
  pub once : AllPairs (λ one other. one.dir ≢ other.dir) seen
  pub within : count_items seen ≤ 1000000

-- looks, each at another directory
abbrev pub AreLooks : List Node → List Looked → Type 0
AreLooks nodes seen = AreSeen nodes (Has seen) seen

-- Behind looks a further directory is refused: with its items there are too many, or else it has a fault.
pub record RefusesNext (nodes : List Node) (seen : List Looked) (dir : Parts) (fault : DiscoverFault) : Type 0 where
  pub new : ¬ (Has seen dir)
  pub count : ℕ
  pub counts : Counts nodes dir count
  pub told : (if nat_lt 1000000 (count_items seen + count) then Some TooManyItems else fault_in nodes dir)
      ≡ Some fault

-- behind looks at each directory of which Before holds, a further one is refused
abbrev pub Refuses : List Node → (Parts → Type 0) → Parts → DiscoverFault → Type 0
Refuses nodes Before dir fault = (seen : List Looked) × AreSeen nodes Before seen × RefusesNext nodes seen dir fault
