-- Which groups are read behind a part.
-- Own rule: what each derivation of a tree sets anew, it needn't have been told.
use Rattle.std.specs.Prelude.{◌≡◌, ◌↔◌, ℕ, ◌+◌, ◌-◌, ◌<◌, Bool, true, false, List, Vec, ◌==◌, ◌&&◌, ◌||◌, nat_lt, ◌⊎◌, length, get_or, map, drop}
use Rattle.std.specs.Global.{Global}
use Rattle.std.specs.List.{Contains}
use Rattle.ere_tree.specs.Tree.{Tree, Trees, empty, plain, set, line_start, line_end, cat, alt, repeat, group, back, none, then, trees_of}
use Rattle.ere_tree.specs.View.{view}
use Rattle.ere_tree.specs.declared.ere.Ere.{Ere}
use Rattle.ere_reach.specs.Refers.{Refers}

abbrev mutual
  -- whether each derivation of the tree sets the group of this number
  pub surely_sets : Tree → ℕ → Bool
  surely_sets empty n = false
  surely_sets (plain bytes) n = false
  surely_sets (set bytes) n = false
  surely_sets line_start n = false
  surely_sets line_end n = false
  surely_sets (cat ts) n = one_surely_sets ts n
  surely_sets (alt ts) n = all_surely_set ts n
  surely_sets (repeat t least most) n = nat_lt 0 least && surely_sets t n
  surely_sets (group number t) n = number == n || surely_sets t n
  surely_sets (back number fold) n = false

  -- one of them does
  pub one_surely_sets : Trees → ℕ → Bool
  one_surely_sets none n = false
  one_surely_sets (then t ts) n = surely_sets t n || one_surely_sets ts n

  -- each of them does
  pub all_surely_set : Trees → ℕ → Bool
  all_surely_set none n = true
  all_surely_set (then t ts) n = surely_sets t n && all_surely_set ts n

-- what is read from before a tree on, where these groups are read behind it
abbrev pub reads : Tree → (ℕ → Type 0) → ℕ → Type 0
reads t Q n = Refers t n ⊎ (Q n × (surely_sets t n ≡ false))

-- the same of trees one behind the other
abbrev pub reads_all : Trees → (ℕ → Type 0) → ℕ → Type 0
reads_all none Q n = Q n
reads_all (then t ts) Q n = reads t (reads_all ts Q) n

-- the second list has each group that is read from before on, where those of the first are read behind
abbrev pub HasRead : ((ℕ → Type 0) → ℕ → Type 0) → List ℕ → List ℕ → Type 0
HasRead read behind before = (n : ℕ) → read (Contains behind) n → Contains before n

-- the list has the groups that are read from before on, and no others
abbrev pub AreRead : ((ℕ → Type 0) → ℕ → Type 0) → List ℕ → List ℕ → Type 0
AreRead read behind found = (n : ℕ) → Contains found n ↔ read (Contains behind) n

-- the same of trees one behind the other
abbrev pub AreReadFrom : List Tree → List ℕ → List ℕ → Type 0
AreReadFrom all behind found = AreRead (reads_all (trees_of all)) behind found

-- each list has what is read from before so many of the last expressions on
abbrev pub AreLast : List Ere → List ℕ → List (Vec ℕ Global) → ℕ → Type 0
AreLast all behind lives count =
    (k : ℕ) (one : Vec ℕ Global) → k < count → one ≡ get_or lives k one
    → AreReadFrom (map view (drop (length all - (k + 1)) all)) behind one.items

-- a list is the one of so many of the last expressions
abbrev pub IsLast : List ℕ → List (Vec ℕ Global) → ℕ → List ℕ → Type 0
IsLast behind lives k found =
    (k ≡ 0 → found ≡ behind)
    × ((one : Vec ℕ Global) → 0 < k → one ≡ get_or lives (k - 1) one → found ≡ one.items)
