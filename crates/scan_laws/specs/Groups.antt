-- What a reader believes of a run of DAGs, of what searches find in a text.
-- After LLVM Command Guide, FileCheck, CHECK-DAG: no two of its matches overlap. Own rule: each try of a member begins behind the
-- one before.
use Rattle.std.specs.Prelude.{◌≡◌, ℕ, ◌<◌, ◌≤◌, List, [], ◌∷◌, length, map, Result, Ok, Err, IfOk}
use Rattle.std.specs.List.{AllByRecursion}
use Rattle.tt_base.specs.declared.place.Span.{Span}
use Rattle.pattern_vars.specs.Vars.{bound_all}
use Rattle.check_group.specs.Changes.{Variables, binds}
use Rattle.check_group.specs.Group.{IsChain, group_at, placed, placed_among}
use Rattle.check_group.specs.Matches.{looked}
use Rattle.check_group.specs.declared.answer.Matched.{Matched}
use Rattle.check_group.specs.declared.answer.Met.{Met}
use Rattle.check_group.specs.declared.directive.Check.{Check}
use Rattle.check_group.specs.declared.fault.FaultKind.{FaultKind}

-- what follows a member that was placed
abbrev pub and_members : Result Met FaultKind → (Met → List Met) → List Met
and_members (Err kind) later = []
and_members (Ok m) later = m ∷ later m

-- the matches of a group's members in order, up to the first that isn't placed: each against the ranges before it
abbrev pub members : List ℕ → ℕ → Variables → List Span → List Check → List Met
members text place vars ranges [] = []
members text place vars ranges (check ∷ checks) =
    and_members (placed text vars ranges check place) (λ m.
    members text place (bound_all vars m.fresh) (placed_among m.span ranges) checks)

abbrev pub members_at : List ℕ → ℕ → Variables → List Check → List Met
members_at text place vars checks = members text place vars [] checks

-- an offset is that of one of a part's bytes
abbrev pub IsByteOf : Span → ℕ → Type 0
IsByteOf span at = (span.from ≤ at) × (at < span.to)

-- two parts share no byte
abbrev pub ShareNone : Span → Span → Type 0
ShareNone a b = (at : ℕ) → IsByteOf a at → IsByteOf b at → ⊥

-- no two of some matches share a byte
abbrev pub AreApart : List Met → Type 0
AreApart [] = Unit {0}
AreApart (m ∷ later) = AllByRecursion (λ other. ShareNone m.span other.span) later × AreApart later

-- Law: no two matches of a group share a byte.
abbrev pub NoTwoShareBytes : Type 0
NoTwoShareBytes =
    (text : List ℕ) (place : ℕ) (vars : Variables) (checks : List Check) → place ≤ length text
    → AreApart (members_at text place vars checks)

-- each member's match is the last of a chain of tries, of which each begins behind the one before, and the first at the place
abbrev pub AreTried : List ℕ → ℕ → Variables → List Span → List Check → Type 0
AreTried text place vars ranges [] = Unit {0}
AreTried text place vars ranges (check ∷ checks) =
    ((starts : List ℕ) × IsChain (looked text vars check 0) ranges place starts (placed text vars ranges check place))
    × IfOk (placed text vars ranges check place) (λ m.
    AreTried text place (bound_all vars m.fresh) (placed_among m.span ranges) checks)

-- Law: each try of a member begins behind the one before.
abbrev pub EachTryBeginsBehind : Type 0
EachTryBeginsBehind =
    (text : List ℕ) (place : ℕ) (vars : Variables) (checks : List Check) → place ≤ length text
    → AreTried text place vars [] checks

-- a match lies in the part that a group spans
abbrev pub LiesWithin : Matched → Met → Type 0
LiesWithin reached m = (reached.from ≤ m.span.from) × (m.span.to ≤ reached.to)

-- Law: a group binds what its members' matches give, in order; one that is met has a match for each member, and spans them.
pub record GroupIsItsMembers (text : List ℕ) (place : ℕ) (vars : Variables) (checks : List Check) : Type 0 where
  pub changes : (group_at text place vars checks).changes
      ≡ map (λ (m : Met). binds m.fresh) (members_at text place vars checks)
  pub each : IfOk (group_at text place vars checks).outcome (λ m.
      length (members_at text place vars checks) ≡ length checks)
  pub spans : IfOk (group_at text place vars checks).outcome (λ m.
      AllByRecursion (LiesWithin m) (members_at text place vars checks))

abbrev pub GroupsAreMembers : Type 0
GroupsAreMembers =
    (text : List ℕ) (place : ℕ) (vars : Variables) (checks : List Check) → GroupIsItsMembers text place vars checks
