-- The productions of the grammar: how an expression is built, apart from any way of reading it.
-- After POSIX.1 XBD 9.5.3, with `()`:
--   ere = nothing | alts          alts = branch { "|" branch }          branch = item { item }
--   item = "^" | "$" | atom [ bound ] | "(" ")" [ bound ] | "(" alts ")" [ bound ]
use Rattle.std.specs.Prelude.{◌≡◌, ℕ, ◌+◌, ◌<◌, ◌≤◌, Bool, true, false, IsTrue, Option, List, [], ◌∷◌, map, length, drop, Ok, ◌==◌, ◌&&◌, not, nat_le, ◌⊎◌}
use Rattle.std.specs.List.{list_any}
use Rattle.ere_tree.specs.Tree.{Tree, empty, line_start, line_end, group}
use Rattle.ere_tree.specs.Token.{Token, byte, one_of, same_as, item, bar, open_group, close_group, token}
use Rattle.ere_tree.specs.Token as tokens
use Rattle.ere_tree.specs.Grammar.{branch_of, either_of, repeated, with_item}
use Rattle.ere_tree.specs.declared.bound.Bound.{Bound}

mutual
  pub data Alts : Type 0 where
    alone : Branch → Alts
    or : Branch → Alts → Alts

  pub data Branch : Type 0 where
    only : Item → Branch
    also : Item → Branch → Branch

  -- an atom or an anchor; `()`; a group of alternatives
  pub data Item : Type 0 where
    simple : Token → Item
    empty_group : Option Bound → Item
    group_of : Alts → Option Bound → Item

-- the text is this token and then the rest
abbrev pub Takes : List ℕ → Token → List ℕ → Type 0
Takes text t rest = (count : ℕ) × (token text ≡ Ok (t, count)) × (0 < count) × (count ≤ length text)
    × (rest ≡ drop count text)

abbrev mutual
  -- the text is this item and then the rest
  pub SpellsItem : List ℕ → Item → List ℕ → Type 0
  SpellsItem text (simple t) rest = Takes text t rest
  SpellsItem text (empty_group bound) rest =
      (inside : List ℕ) × Takes text open_group inside × Takes inside (close_group bound) rest
  SpellsItem text (group_of alts bound) rest =
      (inside : List ℕ) × (end : List ℕ) × Takes text open_group inside × SpellsAlts inside alts end
      × Takes end (close_group bound) rest

  pub SpellsBranch : List ℕ → Branch → List ℕ → Type 0
  SpellsBranch text (only one) rest = SpellsItem text one rest
  SpellsBranch text (also one branch) rest =
      (behind : List ℕ) × SpellsItem text one behind × SpellsBranch behind branch rest

  pub SpellsAlts : List ℕ → Alts → List ℕ → Type 0
  SpellsAlts text (alone branch) rest = SpellsBranch text branch rest
  SpellsAlts text (or branch alts) rest =
      (end : List ℕ) × (behind : List ℕ) × SpellsBranch text branch end × Takes end bar behind
      × SpellsAlts behind alts rest

abbrev mutual
  -- how many groups began before what follows, where so many began before this
  pub groups_item : ℕ → Item → ℕ
  groups_item n (simple t) = n
  groups_item n (empty_group bound) = n + 1
  groups_item n (group_of alts bound) = groups_alts (n + 1) alts

  pub groups_branch : ℕ → Branch → ℕ
  groups_branch n (only one) = groups_item n one
  groups_branch n (also one branch) = groups_branch (groups_item n one) branch

  pub groups_alts : ℕ → Alts → ℕ
  groups_alts n (alone branch) = groups_branch n branch
  groups_alts n (or branch alts) = groups_alts (groups_branch n branch) alts

-- whether a token is an anchor or an atom, whose group is closed if it refers to one
abbrev pub may_stand : List ℕ → ℕ → Token → Bool
may_stand around n (item (byte b) bound) = true
may_stand around n (item (one_of negated bytes) bound) = true
may_stand around n (item (same_as number) bound) = nat_le number n && not (list_any (λ m. m == number) around)
may_stand around n tokens.line_start = true
may_stand around n tokens.line_end = true
may_stand around n bar = false
may_stand around n open_group = false
may_stand around n (close_group bound) = false

abbrev mutual
  -- References are to closed groups, and no group is too deep. The groups around are given by their numbers,
  -- the whole being number 0.
  pub SoundItem : List ℕ → ℕ → Item → Type 0
  SoundItem around n (simple t) = IsTrue (may_stand around n t)
  SoundItem around n (empty_group bound) = length around ≤ 250
  SoundItem around n (group_of alts bound) =
      (length around ≤ 250) × SoundAlts ((n + 1) ∷ around) (n + 1) alts

  pub SoundBranch : List ℕ → ℕ → Branch → Type 0
  SoundBranch around n (only one) = SoundItem around n one
  SoundBranch around n (also one branch) =
      SoundItem around n one × SoundBranch around (groups_item n one) branch

  pub SoundAlts : List ℕ → ℕ → Alts → Type 0
  SoundAlts around n (alone branch) = SoundBranch around n branch
  SoundAlts around n (or branch alts) =
      SoundBranch around n branch × SoundAlts around (groups_branch n branch) alts

-- the parts of a branch from an anchor, or an atom and its bound, on
abbrev pub with_token : Bool → Token → List Tree → List Tree
with_token fold (item atom bound) parts = with_item fold atom bound parts
with_token fold tokens.line_start parts = line_start ∷ parts
with_token fold tokens.line_end parts = line_end ∷ parts
with_token fold t parts = parts

abbrev mutual
  -- the parts of a branch from an item on, where so many groups began before it
  pub parts_item : Bool → ℕ → Item → List Tree → List Tree
  parts_item fold n (simple t) parts = with_token fold t parts
  parts_item fold n (empty_group bound) parts = repeated bound (group (n + 1) empty) ∷ parts
  parts_item fold n (group_of alts bound) parts =
      repeated bound (group (n + 1)
      (either_of (map branch_of (first_branch fold (n + 1) alts ∷ other_branches fold (n + 1) alts))))
      ∷ parts

  pub parts_branch : Bool → ℕ → Branch → List Tree → List Tree
  parts_branch fold n (only one) parts = parts_item fold n one parts
  parts_branch fold n (also one branch) parts =
      parts_item fold n one (parts_branch fold (groups_item n one) branch parts)

  pub first_branch : Bool → ℕ → Alts → List Tree
  first_branch fold n (alone branch) = parts_branch fold n branch []
  first_branch fold n (or branch alts) = parts_branch fold n branch []

  pub other_branches : Bool → ℕ → Alts → List (List Tree)
  other_branches fold n (alone branch) = []
  other_branches fold n (or branch alts) =
      first_branch fold (groups_branch n branch) alts ∷ other_branches fold (groups_branch n branch) alts

-- the tree of alternatives
abbrev pub alts_tree : Bool → ℕ → Alts → Tree
alts_tree fold n alts = either_of (map branch_of (first_branch fold n alts ∷ other_branches fold n alts))

-- the text is an expression of the grammar, and this is its tree
abbrev pub IsEre : Bool → List ℕ → Tree → Type 0
IsEre fold text tree = ((text ≡ []) × (tree ≡ empty)) ⊎ ((alts : Alts) × SpellsAlts text alts [] ×
    SoundAlts (0 ∷ []) 0 alts × (tree ≡ alts_tree fold 0 alts))
