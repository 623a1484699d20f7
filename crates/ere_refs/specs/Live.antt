-- Which groups are read behind a part.
-- Own rule: what each derivation of a tree sets anew, it needn't have been told.
use Rattle.std.specs.Prelude.{◌≡◌, ℕ, Bool, true, false, List, ◌==◌, ◌&&◌, ◌||◌, nat_lt, ◌⊎◌}
use Rattle.std.specs.List.{Contains}
use Rattle.ere_tree.specs.Captures.{Captures}
use Rattle.ere_tree.specs.Derivation.{Way, Derives}
use Rattle.ere_tree.specs.Tree.{Tree, Trees, empty, plain, set, line_start, line_end, cat, alt, repeat, group, back, none, then}
use Rattle.ere_refs.specs.Refers.{Agree, Refers}

abbrev mutual
  -- whether each derivation of the tree sets the group of this number
  pub surely_sets : Tree → ℕ → Bool
  surely_sets empty n = false
  surely_sets (plain bytes) n = false
  surely_sets (set bytes) n = false
  surely_sets line_start n = false
  surely_sets line_end n = false
  surely_sets (cat ts) n = one_surely_sets ts n
  surely_sets (alt ts) n = all_surely_set ts n
  surely_sets (repeat t least most) n = nat_lt 0 least && surely_sets t n
  surely_sets (group number t) n = number == n || surely_sets t n
  surely_sets (back number fold) n = false

  -- one of them does
  pub one_surely_sets : Trees → ℕ → Bool
  one_surely_sets none n = false
  one_surely_sets (then t ts) n = surely_sets t n || one_surely_sets ts n

  -- each of them does
  pub all_surely_set : Trees → ℕ → Bool
  all_surely_set none n = true
  all_surely_set (then t ts) n = surely_sets t n && all_surely_set ts n

-- what is read from before a tree on, where these groups are read behind it
abbrev pub reads : Tree → (ℕ → Type 0) → ℕ → Type 0
reads t Q n = Refers t n ⊎ (Q n × (surely_sets t n ≡ false))

-- the same of trees one behind the other
abbrev pub reads_all : Trees → (ℕ → Type 0) → ℕ → Type 0
reads_all none Q n = Q n
reads_all (then t ts) Q n = reads t (reads_all ts Q) n

-- the second list has each group that is read from before on, where those of the first are read behind
abbrev pub HasRead : ((ℕ → Type 0) → ℕ → Type 0) → List ℕ → List ℕ → Type 0
HasRead read behind before = (n : ℕ) → read (Contains behind) n → Contains before n

-- The groups of the first kind are read from before the tree on, where those of the second are read behind it: what it
-- refers to, and what is read behind it and isn't surely set in it.
pub record ReadsBefore (t : Tree) (P Q : ℕ → Type 0) : Type 0 where
  pub refers : (n : ℕ) → Refers t n → P n
  pub stays : (n : ℕ) → Q n → P n ⊎ (surely_sets t n ≡ true)

-- The law of what is read: from captures that agree on what is read before a tree, the same way derives the same part, and
-- leaves captures that agree on what is read behind it.
abbrev pub LiveIsEnough : Type 0
LiveIsEnough =
    (s : List ℕ) (t : Tree) (before behind : List ℕ) → ReadsBefore t (Contains before) (Contains behind)
    → (w : Way) (i j : ℕ) (c d b : Captures) → Agree (Contains before) c b → Derives s t w i j c d
    → (e : Captures) × Derives s t w i j b e × Agree (Contains behind) d e
