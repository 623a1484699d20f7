-- Groups of DAGs.
-- After LLVM Command Guide, FileCheck, CHECK-DAG: a run of DAGs matches in any order, and no two of its matches overlap. Own
-- rules: which try follows one that overlaps, and that each member binds as it matches.
use Rattle.std.specs.Prelude.{◌≡◌, ℕ, zero, suc, ◌+◌, ◌-◌, ◌<◌, ◌≤◌, nat_lt, min, max, Bool, ◌&&◌, ◌||◌, ◌==◌, if◌then◌else◌, List, [], ◌∷◌, get_or, length, Option, Some, None, Result, Ok, Err, IfOk}
use Rattle.std.specs.List.{AllByRecursion}
use Rattle.tt_base.specs.declared.place.Span.{Span}
use Rattle.pattern_scan.specs.Seek.{IsPlain}
use Rattle.pattern_scan.specs.declared.seeking.Context.{Context}
use Rattle.pattern_vars.specs.Vars.{bound_all}
use Rattle.check_group.specs.Changes.{Variables}
use Rattle.check_group.specs.Matches.{Came, behind, if_met, looked}
use Rattle.check_group.specs.declared.answer.Matched.{Matched}
use Rattle.check_group.specs.declared.answer.Met.{Met}
use Rattle.check_group.specs.declared.directive.Check.{Check}
use Rattle.check_group.specs.declared.fault.FaultKind.{FaultKind}

-- ---- ranges

-- whether two parts overlap
abbrev pub overlaps : Span → Span → Bool
overlaps a b = nat_lt a.from b.to && nat_lt b.from a.to

-- the lowest of some ranges, in order, that a match overlaps
unfoldable pub lowest : Span → List Span → Option Span
lowest m [] = None
lowest m (range ∷ ranges) = if overlaps m range then Some range else lowest m ranges

-- whether a part is lower than another: by least start, and then by least end
abbrev pub is_lower : Span → Span → Bool
is_lower a b = nat_lt a.from b.from || (a.from == b.from && nat_lt a.to b.to)

-- a range among ranges in order
unfoldable pub placed_among : Span → List Span → List Span
placed_among m [] = m ∷ []
placed_among m (range ∷ ranges) =
    if is_lower range m then range ∷ placed_among m ranges else m ∷ range ∷ ranges

-- ranges stand in order, and none begins before the end of another in front of it
abbrev pub AreInOrder : List Span → Type 0
AreInOrder [] = Unit {0}
AreInOrder (range ∷ ranges) = AllByRecursion (λ later. range.to ≤ later.from) ranges × AreInOrder ranges

-- a range ends at or before an offset
abbrev pub EndsBy : ℕ → Span → Type 0
EndsBy to range = range.to ≤ to

-- ---- one member

-- what a try comes to: its match where that overlaps no range, else a try from the end of the lowest that it overlaps
abbrev pub moved_on : Met → Option Span → (ℕ → Result Met FaultKind) → Result Met FaultKind
moved_on m None again = Ok m
moved_on m (Some range) again = again range.to

abbrev pub settled : List Span → Result Met FaultKind → (ℕ → Result Met FaultKind) → Result Met FaultKind
settled ranges (Err kind) again = Err kind
settled ranges (Ok m) again = moved_on m (lowest m.span ranges) again

-- the last of the chain of tries of which the first is from an offset. Each begins behind the one before, so it has no more
-- than the offset and the `left` places behind it
unfoldable pub tried : (ℕ → Result Met FaultKind) → List Span → ℕ → ℕ → Result Met FaultKind
tried try ranges zero from = try from
tried try ranges (suc left) from = settled ranges (try from) (tried try ranges left)

-- what a reader believes of tries: the starts of the chain from an offset, of which the last isn't followed by another
abbrev pub IsChain : (ℕ → Result Met FaultKind) → List Span → ℕ → List ℕ → Result Met FaultKind → Type 0
IsChain try ranges from [] last = (last ≡ try from) × IfOk last (λ m. lowest m.span ranges ≡ None)
IsChain try ranges from (next ∷ starts) last =
    (m : Met) × (range : Span) × (try from ≡ Ok m) × (lowest m.span ranges ≡ Some range) × (next ≡ range.to) × (from < next)
    × IsChain try ranges next starts last

-- a member of a group is placed against the ranges before it
abbrev pub placed : List ℕ → Variables → List Span → Check → ℕ → Result Met FaultKind
placed text vars ranges check from = tried (looked text vars check 0) ranges (length text - from) from

-- a member is placed, where a search sees the text and the variables
abbrev pub placed_in : Context → List Span → Check → ℕ → Result Met FaultKind
placed_in context ranges check from = placed context.text.now context.vars.now ranges check from

-- the last of a member's tries is that of the chain of which the first is from a later offset
abbrev pub IsTriedFrom : List ℕ → Variables → List Span → Check → ℕ → ℕ → Type 0
IsTriedFrom text vars ranges check place from =
    (left : ℕ) × (length text ≤ from + left)
    × (tried (looked text vars check 0) ranges left from ≡ placed text vars ranges check place)

abbrev pub IsTriedIn : Context → List Span → Check → ℕ → ℕ → Type 0
IsTriedIn context ranges check place from = IsTriedFrom context.text.now context.vars.now ranges check place from

-- two directives are sought as the same bytes
abbrev pub AreSameText : Check → Check → Type 0
AreSameText one other = (bytes : List ℕ) × IsPlain one.pattern bytes × IsPlain other.pattern bytes

-- tries begin behind the match of the member before, which is sought as the same bytes
abbrev pub BeginsBehind : List Check → ℕ → ℕ → ℕ → Type 0
BeginsBehind checks index behind from =
    (from ≡ behind) × (0 < index)
    × ((one : Check) → AreSameText (get_or checks (index - 1) one) (get_or checks index one))

-- ---- the group

-- the part from the least start of some ranges, at most `from`, to their greatest end, at least `to`
abbrev pub reach : Matched → Span → Matched
reach reached m = record { from = min reached.from m.from; to = max reached.to m.to }

-- the members that are left are placed from one offset, each against the ranges before it; `reached` is what these span
unfoldable pub group : List ℕ → ℕ → Variables → List Span → Matched → List Check → Came
group text place vars ranges reached [] = record { outcome = Ok reached; changes = [] }
group text place vars ranges reached (check ∷ checks) =
    if_met check (placed text vars ranges check place)
    (λ m. behind m.fresh
    (group text place (bound_all vars m.fresh) (placed_among m.span ranges) (reach reached m.span) checks))

-- a group of DAGs at a place
abbrev pub group_at : List ℕ → ℕ → Variables → List Check → Came
group_at text place vars checks = group text place vars [] (record { from = length text; to = place }) checks

-- the same, of the variables at its start
abbrev pub dags_at : List ℕ → ℕ → List Check → Variables → Came
dags_at text place checks vars = group_at text place vars checks
