-- What a reader believes of the steps of a block: on which line a match stands, and what the region of a NOT is.
-- After LLVM Command Guide, FileCheck: CHECK-NEXT, CHECK-SAME, CHECK-EMPTY and CHECK-NOT. Own rule: an EMPTY's match has no bytes.
use Rattle.std.specs.Prelude.{◌≡◌, ℕ, ◌≤◌, List, [], ◌∷◌, ◌++◌, length, map, take, Ok, IfOk}
use Rattle.std.specs.List.{AllByRecursion}
use Rattle.pattern_scan.specs.Seek.{sought}
use Rattle.pattern_scan.specs.declared.sought.Sought.TheVariants.{Absent}
use Rattle.check_group.specs.Alone.{came}
use Rattle.check_group.specs.Changes.{Variables, changed}
use Rattle.check_group.specs.Lines.{newlines}
use Rattle.check_group.specs.Region.{region}
use Rattle.check_group.specs.declared.answer.Matched.{Matched}
use Rattle.check_group.specs.declared.directive.Check.{Check}
use Rattle.pattern_parse.specs.declared.demand.LineRule.{LineRule}
use Rattle.pattern_parse.specs.declared.demand.LineRule.TheVariants.{Next, Same, Empty}
use Rattle.check_scan.specs.Block.{End, block, unless}
use Rattle.check_scan.specs.Parts.{Part, Positive, came_of, finish, negative, positive}

-- ---- lines

-- a match begins at or behind a place, with so many newlines between
pub record LiesOnLine (text : List ℕ) (place count : ℕ) (m : Matched) : Type 0 where
  pub behind : place ≤ m.from
  pub lines : newlines text place m.from ≡ count

-- what a directive that asks for one match on a line comes to at a place where the match before ended has so many newlines
-- between
abbrev pub HasNewlines : LineRule → ℕ → Type 0
HasNewlines rule count =
    (text : List ℕ) (vars : Variables) (place : ℕ) (check : Check) → check.demand.rule ≡ rule → check.demand.times ≡ 1
    → place ≤ length text → IfOk (came text vars place check).outcome (LiesOnLine text place count)

-- Law: a match of NEXT and EMPTY lies on the next line, and one of SAME on the same one.
pub record MatchesLieOnLines : Type 0 where
  pub next : HasNewlines Next 1
  pub same : HasNewlines Same 0
  pub empty : HasNewlines Empty 1

-- ---- regions

-- a NOT isn't found in the slice that begins at an offset and ends where the text does
abbrev pub IsAbsent : List ℕ → ℕ → Variables → Check → Type 0
IsAbsent text from vars check = sought check.pattern vars text from check.line ≡ Absent

-- Law: a region has no fault exactly where none of its NOTs is found in it.
pub record RegionsAreClear : Type 0 where
  pub clear : (text : List ℕ) (from : ℕ) (vars : Variables) (nots : List Check) → region text from vars nots ≡ []
      → AllByRecursion (IsAbsent text from vars) nots
  pub back : (text : List ℕ) (from : ℕ) (vars : Variables) (nots : List Check)
      → AllByRecursion (IsAbsent text from vars) nots → region text from vars nots ≡ []

-- what is left of a block behind a part, from the part's end
abbrev pub rest_of : List ℕ → List Check → List Part → ℕ → Variables → End
rest_of text always parts place vars = block text always parts place [] vars

-- what a block comes to whose next part matched: the region of the NOTs before it, with the implicit ones, ends where the match
-- begins and has the variables behind it; without a fault there the block goes on at the match's end
abbrev pub behind_match : List ℕ → List Check → ℕ → List Check → Variables → Matched → List Part → End
behind_match text always place nots vars m parts =
    unless (region (take m.from text) place vars (always ++ nots)) (rest_of text always parts m.to vars)

-- Law: between two neighbours the region of NOTs is the text from the end of the first match to the start of the second; at the
-- end of the check file it is the rest of the text.
pub record RegionsLieBetween : Type 0 where
  pub matched : (text : List ℕ) (always nots : List Check) (part : Positive) (parts : List Part) (place : ℕ)
      (vars : Variables) (m : Matched) → (came_of text vars place part).outcome ≡ Ok m
      → (block text always (map negative nots ++ positive part ∷ parts) place [] vars).faults
      ≡ (behind_match text always place nots (changed vars (came_of text vars place part).changes) m parts).faults
  pub ended : (text : List ℕ) (always nots : List Check) (place : ℕ) (vars : Variables)
      → (block text always (map negative nots ++ finish ∷ []) place [] vars).faults
      ≡ region text place vars (always ++ nots)
