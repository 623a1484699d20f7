-- The pieces of a body can be searched for: no group or reference of an expression has the number 0, and none has a number
-- past the expression's length, by its productions; and the pieces with what encloses them are no longer than the body.
-- The hard lemma is `item_within`: the numbers in what an item of the grammar gives.
use Rattle.std.proofs.Common.{◌≡◌, ℕ, zero, suc, ◌+◌, ◌≤◌, Bool, true, false, true≢false, IsTrue, ◌&&◌, ◌||◌, ◌==◌, not, nat_le, cond, List, [], ◌∷◌, Some, None, length, map, inl, inr, refl, sym, ap, ◌∙◌, arith}
use Rattle.std.specs.List.{list_any}
use Rattle.std.proofs.lemmas.Bool.Decides.{nat_tests}
use Rattle.std.proofs.lemmas.List.{length-drop}
use Rattle.ere_tree.specs.Tree.{Tree, Trees, empty, plain, set, line_start, line_end, cat, alt, repeat, group, back, none, then, trees_of}
use Rattle.ere_tree.specs.Shape.{greatest_number, greatest_number_of}
use Rattle.ere_tree.specs.Case.{both_cases, is_folded}
use Rattle.ere_tree.specs.Token.{Atom, Token, byte, one_of, same_as, item, bar, open_group, close_group}
use Rattle.ere_tree.specs.Token as tokens
use Rattle.ere_tree.specs.Grammar.{letter, branch_of, either_of}
use Rattle.ere_tree.specs.Productions.{Alts, Branch, Item, alone, or, only, also, simple, empty_group, group_of, Takes, SpellsItem, SpellsBranch, SpellsAlts, groups_item, groups_branch, groups_alts, may_stand, SoundItem, SoundBranch, SoundAlts, with_token, parts_item, parts_branch, first_branch, other_branches, alts_tree, IsEre}
use Rattle.pattern_parse.specs.Search.{IsNumbered, AreNumbered}
use Rattle.pattern_parse.proofs.CutLemmas.{two_out}

abbrev mutual
  -- each number of an expression is at least 1 and at most this
  pub IsWithin : ℕ → Tree → Type 0
  IsWithin n empty = Unit {0}
  IsWithin n (plain bytes) = Unit {0}
  IsWithin n (set bytes) = Unit {0}
  IsWithin n line_start = Unit {0}
  IsWithin n line_end = Unit {0}
  IsWithin n (cat ts) = AreWithin n ts
  IsWithin n (alt ts) = AreWithin n ts
  IsWithin n (repeat t least most) = IsWithin n t
  IsWithin n (group number t) = (1 ≤ number) × (number ≤ n) × IsWithin n t
  IsWithin n (back number fold) = (1 ≤ number) × (number ≤ n)

  AreWithin : ℕ → Trees → Type 0
  AreWithin n none = Unit {0}
  AreWithin n (then t ts) = IsWithin n t × AreWithin n ts

mutual
  pub within_numbered : (n : ℕ) (t : Tree) → IsWithin n t → IsNumbered t × (greatest_number t ≤ n)
  within_numbered n empty w = (tt, omega arith)
  within_numbered n (plain bytes) w = (tt, omega arith)
  within_numbered n (set bytes) w = (tt, omega arith)
  within_numbered n line_start w = (tt, omega arith)
  within_numbered n line_end w = (tt, omega arith)
  within_numbered n (cat ts) w = all_numbered n ts w
  within_numbered n (alt ts) w = all_numbered n ts w
  within_numbered n (repeat t least most) w = within_numbered n t w
  within_numbered n (group number t) w =
      let inner = within_numbered n t w.2 in ((w.0, inner.0), omega (arith, w.1, inner.1))
  within_numbered n (back number fold) w = w

  all_numbered : (n : ℕ) (ts : Trees) → AreWithin n ts → AreNumbered ts × (greatest_number_of ts ≤ n)
  all_numbered n none w = (tt, omega arith)
  all_numbered n (then t ts) w =
      let first = within_numbered n t w.0 in
      let others = all_numbered n ts w.1 in
      ((first.0, others.0), omega (arith, first.1, others.1))

-- TREES THAT THE GRAMMAR MAKES

abbrev EachWithin : ℕ → List (List Tree) → Type 0
EachWithin n [] = Unit {0}
EachWithin n (parts ∷ branches) = AreWithin n (trees_of parts) × EachWithin n branches

branch_within : (n : ℕ) (parts : List Tree) → AreWithin n (trees_of parts) → IsWithin n (branch_of parts)
branch_within n [] w = tt
branch_within n (part ∷ []) w = w.0
branch_within n (first ∷ second ∷ parts) w = w

each_branch : (n : ℕ) (branches : List (List Tree)) → EachWithin n branches
    → AreWithin n (trees_of (map branch_of branches))
each_branch n [] w = tt
each_branch n (parts ∷ branches) w = (branch_within n parts w.0, each_branch n branches w.1)

either_within : (n : ℕ) (branches : List Tree) → AreWithin n (trees_of branches) → IsWithin n (either_of branches)
either_within n [] w = tt
either_within n (branch ∷ []) w = w.0
either_within n (first ∷ second ∷ branches) w = w

letter_within : (n b : ℕ) (parts : List Tree) → AreWithin n (trees_of parts) → AreWithin n (trees_of (letter b parts))
letter_within n b [] w = (tt, w)
letter_within n b (plain bytes ∷ parts) w = w
letter_within n b (empty ∷ parts) w = (tt, w)
letter_within n b (set bytes ∷ parts) w = (tt, w)
letter_within n b (line_start ∷ parts) w = (tt, w)
letter_within n b (line_end ∷ parts) w = (tt, w)
letter_within n b (cat ts ∷ parts) w = (tt, w)
letter_within n b (alt ts ∷ parts) w = (tt, w)
letter_within n b (repeat t least most ∷ parts) w = (tt, w)
letter_within n b (group number t ∷ parts) w = (tt, w)
letter_within n b (back number fold ∷ parts) w = (tt, w)

byte_within : (n b : ℕ) (folded : Bool) (parts : List Tree) → AreWithin n (trees_of parts)
    → AreWithin n (trees_of (cond folded (set (both_cases (b ∷ [])) ∷ parts) (letter b parts)))
byte_within n b true parts w = (tt, w)
byte_within n b false parts w = letter_within n b parts w

byte_tree_within : (n b : ℕ) (folded : Bool)
    → IsWithin n (cond folded (set (both_cases (b ∷ []))) (plain (b ∷ [])))
byte_tree_within n b true = tt
byte_tree_within n b false = tt

branches_within : (fold : Bool) (m n : ℕ) (alts : Alts)
    → EachWithin m (first_branch fold n alts ∷ other_branches fold n alts) → IsWithin m (alts_tree fold n alts)
branches_within fold m n alts w =
    let branches : List (List Tree) = first_branch fold n alts ∷ other_branches fold n alts in
    either_within m (map branch_of branches) (each_branch m branches w)

-- a group of number 0 is around: the whole
abbrev HasWhole : List ℕ → Type 0
HasWhole around = list_any (λ m. m == 0) around ≡ true

-- a number that may be referred to is that of a group
reference_within : (n number : ℕ) (around : List ℕ) → HasWhole around
    → IsTrue (nat_le number n && not (list_any (λ m. m == number) around)) → (1 ≤ number) × (number ≤ n)
reference_within n number around whole sound =
    let both = two_out (nat_le number n) (not (list_any (λ m. m == number) around)) sound in
    let fits : nat_le number n ≡ true = both.0 in
    (positive number both.1, grind (arith, nat_tests))
  where
    positive : (k : ℕ) → not (list_any (λ m. m == k) around) ≡ true → 1 ≤ k
    positive zero free = absurd (true≢false (sym free ∙ ap not whole))
    positive (suc k) free = omega arith

token_within : (fold : Bool) (m n : ℕ) (around : List ℕ) (t : Token) (parts : List Tree) → HasWhole around
    → IsTrue (may_stand around n t) → n ≤ m → AreWithin m (trees_of parts)
    → AreWithin m (trees_of (with_token fold t parts))
token_within fold m n around (item (byte b) None) parts whole sound fits w = byte_within m b (is_folded fold b) parts w
token_within fold m n around (item (byte b) (Some bound)) parts whole sound fits w =
    (byte_tree_within m b (is_folded fold b), w)
token_within fold m n around (item (one_of negated bytes) None) parts whole sound fits w = (tt, w)
token_within fold m n around (item (one_of negated bytes) (Some bound)) parts whole sound fits w = (tt, w)
token_within fold m n around (item (same_as k) None) parts whole sound fits w =
    let found = reference_within n k around whole sound in ((found.0, omega (arith, found.1, fits)), w)
token_within fold m n around (item (same_as k) (Some bound)) parts whole sound fits w =
    let found = reference_within n k around whole sound in ((found.0, omega (arith, found.1, fits)), w)
token_within fold m n around tokens.line_start parts whole sound fits w = (tt, w)
token_within fold m n around tokens.line_end parts whole sound fits w = (tt, w)
token_within fold m n around bar parts whole sound fits w = w
token_within fold m n around open_group parts whole sound fits w = w
token_within fold m n around (close_group bound) parts whole sound fits w = w

mutual
  item_grows : (n : ℕ) (one : Item) → n ≤ groups_item n one
  item_grows n (simple t) = omega arith
  item_grows n (empty_group bound) = omega arith
  item_grows n (group_of alts bound) = omega (arith, alts_grow (n + 1) alts)

  branch_grows : (n : ℕ) (branch : Branch) → n ≤ groups_branch n branch
  branch_grows n (only one) = item_grows n one
  branch_grows n (also one branch) =
      omega (arith, item_grows n one, branch_grows (groups_item n one) branch)

  alts_grow : (n : ℕ) (alts : Alts) → n ≤ groups_alts n alts
  alts_grow n (alone branch) = branch_grows n branch
  alts_grow n (or branch alts) = omega (arith, branch_grows n branch, alts_grow (groups_branch n branch) alts)

or_whole : (v w : Bool) → w ≡ true → (v || w) ≡ true
or_whole true w is = refl
or_whole false w is = is

group_within : (fold : Bool) (m n : ℕ) (alts : Alts)
    → EachWithin m (first_branch fold (n + 1) alts ∷ other_branches fold (n + 1) alts) → groups_alts (n + 1) alts ≤ m
    → IsWithin m (group (n + 1) (alts_tree fold (n + 1) alts))
group_within fold m n alts inside fits =
    (omega arith, omega (arith, fits, alts_grow (n + 1) alts), branches_within fold m (n + 1) alts inside)

mutual
  item_within : (fold : Bool) (m n : ℕ) (around : List ℕ) (one : Item) (parts : List Tree) → HasWhole around
      → SoundItem around n one → groups_item n one ≤ m → AreWithin m (trees_of parts)
      → AreWithin m (trees_of (parts_item fold n one parts))
  item_within fold m n around (simple t) parts whole sound fits w =
      token_within fold m n around t parts whole sound fits w
  item_within fold m n around (empty_group None) parts whole sound fits w = ((omega arith, fits, tt), w)
  item_within fold m n around (empty_group (Some bound)) parts whole sound fits w = ((omega arith, fits, tt), w)
  item_within fold m n around (group_of alts None) parts whole sound fits w = (
    group_within fold m n alts (alts_within fold m (n + 1) ((n + 1) ∷ around) alts
        (or_whole ((n + 1) == 0) (list_any (λ k. k == 0) around) whole) sound.1 fits) fits,
    w,
  )
  item_within fold m n around (group_of alts (Some bound)) parts whole sound fits w = (
    group_within fold m n alts (alts_within fold m (n + 1) ((n + 1) ∷ around) alts
        (or_whole ((n + 1) == 0) (list_any (λ k. k == 0) around) whole) sound.1 fits) fits,
    w,
  )

  row_within : (fold : Bool) (m n : ℕ) (around : List ℕ) (branch : Branch) (parts : List Tree) → HasWhole around
      → SoundBranch around n branch → groups_branch n branch ≤ m → AreWithin m (trees_of parts)
      → AreWithin m (trees_of (parts_branch fold n branch parts))
  row_within fold m n around (only one) parts whole sound fits w =
      item_within fold m n around one parts whole sound fits w
  row_within fold m n around (also one branch) parts whole sound fits w =
      item_within fold m n around one (parts_branch fold (groups_item n one) branch parts) whole sound.0
      (omega (arith, fits, branch_grows (groups_item n one) branch))
      (row_within fold m (groups_item n one) around branch parts whole sound.1 fits w)

  alts_within : (fold : Bool) (m n : ℕ) (around : List ℕ) (alts : Alts) → HasWhole around → SoundAlts around n alts
      → groups_alts n alts ≤ m → EachWithin m (first_branch fold n alts ∷ other_branches fold n alts)
  alts_within fold m n around (alone branch) whole sound fits =
      (row_within fold m n around branch [] whole sound fits tt, tt)
  alts_within fold m n around (or branch alts) whole sound fits = (
    row_within fold m n around branch [] whole sound.0
        (omega (arith, fits, alts_grow (groups_branch n branch) alts)) tt,
    alts_within fold m (groups_branch n branch) around alts whole sound.1 fits,
  )

-- GROUPS AND THE LENGTH OF A TEXT

taken_length : (text : List ℕ) (t : Token) (rest : List ℕ) → Takes text t rest → length rest + 1 ≤ length text
taken_length text t rest (count, is, some, fits, same) =
    omega (arith, some, fits, ap length same ∙ length-drop count text)

mutual
  item_length : (n : ℕ) (text : List ℕ) (one : Item) (rest : List ℕ) → SpellsItem text one rest
      → groups_item n one + length rest ≤ n + length text
  item_length n text (simple t) rest takes = omega (arith, taken_length text t rest takes)
  item_length n text (empty_group bound) rest (inside, opens, closes) =
      omega (arith, taken_length text open_group inside opens, taken_length inside (close_group bound) rest closes)
  item_length n text (group_of alts bound) rest (inside, end, opens, spells, closes) =
      omega (
        arith,
        taken_length text open_group inside opens,
        alts_length (n + 1) inside alts end spells,
        taken_length end (close_group bound) rest closes,
      )

  branch_length : (n : ℕ) (text : List ℕ) (branch : Branch) (rest : List ℕ) → SpellsBranch text branch rest
      → groups_branch n branch + length rest ≤ n + length text
  branch_length n text (only one) rest spells = item_length n text one rest spells
  branch_length n text (also one branch) rest (behind, first, others) =
      omega (arith, item_length n text one behind first, branch_length (groups_item n one) behind branch rest others)

  alts_length : (n : ℕ) (text : List ℕ) (alts : Alts) (rest : List ℕ) → SpellsAlts text alts rest
      → groups_alts n alts + length rest ≤ n + length text
  alts_length n text (alone branch) rest spells = branch_length n text branch rest spells
  alts_length n text (or branch alts) rest (end, behind, first, takes, others) =
      omega (
        arith,
        branch_length n text branch end first,
        taken_length end bar behind takes,
        alts_length (groups_branch n branch) behind alts rest others,
      )

-- the numbers of an expression of the grammar
pub ere_within : (fold : Bool) (text : List ℕ) (tree : Tree) → IsEre fold text tree → IsWithin (length text) tree
ere_within fold text tree (inl (over, same)) = rw same tt
ere_within fold text tree (inr (alts, spells, sound, same)) =
    let fits = alts_length 0 text alts [] spells in
    rw same (branches_within fold (length text) 0 alts
    (alts_within fold (length text) 0 (0 ∷ []) alts refl sound (omega (arith, fits))))
