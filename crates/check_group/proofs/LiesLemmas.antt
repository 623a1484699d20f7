-- Faults lie in the text, and are those of the directives at hand.
-- Shown for searches, for the lines of matches, for a directive, a group and a region. Idea: what a search finds lies in
-- its slice, and each search begins in the text. The hard one is `tried_lies`, in which tries begin behind ranges.
use Rattle.std.proofs.Common.{◌≡◌, ℕ, zero, suc, ◌+◌, ◌-◌, ◌<◌, ◌≤◌, ◌==◌, Bool, true, false, ◌&&◌, cond, List, [], ◌∷◌, Option, Some, None, IfSome, Result, Ok, Err, length, take, drop, refl, sym, subst, arith, true≢false}
use Rattle.std.specs.List.{AllByRecursion}
use Rattle.std.specs.Prelude.{nat_lt, slice_index}
use Rattle.std.proofs.lemmas.Bool.Decides.{nat_tests}
use Rattle.std.proofs.lemmas.List.{length-drop, length-take}
use Rattle.pattern_scan.proofs.SeekLemmas.{sought_within}
use Rattle.pattern_scan.specs.Seek.{IsWithin, sought}
use Rattle.pattern_scan.specs.declared.sought.Sought.{Sought}
use Rattle.pattern_scan.specs.declared.sought.Sought.TheVariants.{Found, Absent, UndefinedNames, Range, ZeroDivisor, Unreadable}
use Rattle.pattern_vars.specs.Vars.{bound_all}
use Rattle.tt_base.specs.Occurrence.{begins_with, first_from, first_in}
use Rattle.tt_base.specs.declared.place.Span.{Span}
use Rattle.check_group.specs.Alone.{began_at, came, counted, met}
use Rattle.check_group.specs.Changes.{Variables}
use Rattle.check_group.specs.Group.{EndsBy, group, group_at, lowest, moved_on, overlaps, placed, placed_among, reach, settled, tried}
use Rattle.check_group.specs.Lies.{FaultLies, OffsetsLie}
use Rattle.check_group.specs.Lines.{behind_newline, empty_line, newlines, on_next_line, on_same_line, or_last}
use Rattle.check_group.specs.Matches.{Came, answered, if_met, looked}
use Rattle.check_group.specs.Region.{excluded_by, fault_before, region}
use Rattle.check_group.specs.declared.answer.Matched.{Matched}
use Rattle.check_group.specs.declared.answer.Met.{Met}
use Rattle.check_group.specs.declared.directive.Check.{Check}
use Rattle.pattern_parse.specs.declared.demand.LineRule.{LineRule}
use Rattle.pattern_parse.specs.declared.demand.LineRule.TheVariants.{Any, Next, Same, Empty}
use Rattle.check_group.specs.declared.fault.Fault.{Fault}
use Rattle.check_group.specs.declared.fault.FaultKind.{FaultKind}
use Rattle.check_group.specs.declared.fault.FaultKind.TheVariants as fault
use Rattle.check_group.proofs.PlacedLemmas.{ends_each}

-- ---- searches

-- a match lies between two offsets, or a fault's offsets lie before the second
abbrev pub MetLies : ℕ → ℕ → Result Met FaultKind → Type 0
MetLies from to (Ok m) = (from ≤ m.span.from) × (m.span.to ≤ to)
MetLies from to (Err kind) = OffsetsLie to kind

met-earlier : (place from to : ℕ) (r : Result Met FaultKind) → place ≤ from → MetLies from to r → MetLies place to r
met-earlier place from to (Ok m) low lies = (omega (arith, low, lies.0), lies.1)
met-earlier place from to (Err kind) low lies = lies

answered-lies : (from to : ℕ) (answer : Sought) (absent : FaultKind) → IsWithin from to answer → OffsetsLie to absent
    → MetLies from to (answered answer absent)
answered-lies from to (Found span fresh) absent within lies = within
answered-lies from to Absent absent within lies = lies
answered-lies from to (UndefinedNames names) absent within lies = tt
answered-lies from to Range absent within lies = tt
answered-lies from to ZeroDivisor absent within lies = tt
answered-lies from to (Unreadable span) absent within lies = omega (arith, within, span.ordered)

pub looked_lies : (text : List ℕ) (vars : Variables) (check : Check) (done from : ℕ) → from ≤ length text
    → MetLies from (length text) (looked text vars check done from)
looked_lies text vars check done from inside =
    answered-lies from (length text) (sought check.pattern vars text from check.line) (fault.NotFound from done)
    (sought_within check.pattern.fold text from _ inside) inside

-- ---- lines

next-line-lies : (text : List ℕ) (place to : ℕ) (r : Result Met FaultKind) → place ≤ to → MetLies place to r
    → MetLies place to (on_next_line text place r)
next-line-lies text place to (Err kind) inside lies = lies
next-line-lies text place to (Ok m) inside lies = each (newlines text place m.span.from == 1)
  where
    each : (test : Bool)
        → MetLies place to (cond test (Ok m) (Err (fault.WrongLine m.span.from place (newlines text place m.span.from))))
    each true = lies
    each false = (omega (arith, lies.1, m.span.ordered), inside)

same-line-lies : (text : List ℕ) (place to : ℕ) (r : Result Met FaultKind) → place ≤ to → MetLies place to r
    → MetLies place to (on_same_line text place r)
same-line-lies text place to (Err kind) inside lies = lies
same-line-lies text place to (Ok m) inside lies = each (newlines text place m.span.from == 0)
  where
    each : (test : Bool) → MetLies place to (cond test (Ok m) (Err (fault.NotSameLine m.span.from place)))
    each true = lies
    each false = (omega (arith, lies.1, m.span.ordered), inside)

-- an offset of the text, at or behind a place
abbrev IsBehind : ℕ → ℕ → Option ℕ → Type 0
IsBehind place to found = IfSome found (λ at. (place ≤ at) × (at < to))

first-behind : (needle : List ℕ) (at : ℕ) (slice : List ℕ) → begins_with [] needle ≡ false
    → IsBehind at (at + length slice) (first_from needle at slice)
unfolding first_from
first-behind needle at [] none =
    subst (λ test. IsBehind at (at + 0) (cond test (Some at) None)) (sym none) tt
first-behind needle at (byte ∷ rest) none =
    each (begins_with (byte ∷ rest) needle) (first-behind needle (at + 1) rest none)
  where
    later : (found : Option ℕ) → IsBehind (at + 1) (at + 1 + length rest) found
        → IsBehind at (at + suc (length rest)) found
    later None lies = tt
    later (Some k) lies = (omega (arith, lies.0), omega (arith, lies.1))

    each : (test : Bool) → IsBehind (at + 1) (at + 1 + length rest) (first_from needle (at + 1) rest)
        → IsBehind at (at + suc (length rest)) (cond test (Some at) (first_from needle (at + 1) rest))
    each true lies = (omega arith, omega arith)
    each false lies = later (first_from needle (at + 1) rest) lies

last-behind : (text : List ℕ) (place : ℕ) (found : Option ℕ) → IsBehind place (length text) found
    → IsBehind place (length text) (or_last text place found)
last-behind text place (Some at) lies = lies
last-behind text place None lies = each (nat_lt place (length text)) refl
  where
    each : (some : Bool) → nat_lt place (length text) ≡ some → IsBehind place (length text)
        (cond (some && slice_index text (length text - 1) == 10) (Some (length text - 1)) None)
    each false is = tt
    each true is = ends (slice_index text (length text - 1) == 10)
      where
        ends : (test : Bool) → IsBehind place (length text) (cond test (Some (length text - 1)) None)
        ends false = tt
        ends true =
            let some : place < length text = grind (arith, nat_tests, is) in
            (omega (arith, some), omega (arith, some))

empty-lies : (text : List ℕ) (place : ℕ) → place ≤ length text
    → MetLies place (length text) (behind_newline place (empty_line text place))
empty-lies text place inside =
    newline (empty_line text place) (last-behind text place _
    (subst (λ to. IsBehind place to (first_in text (10 ∷ 10 ∷ []) place (length text))) ends
    (first-behind (10 ∷ 10 ∷ []) place (take (length text - place) (drop place text)) refl)))
  where
    ends : place + length (take (length text - place) (drop place text)) ≡ length text
    ends = omega (arith, inside, length-take (length text - place) (drop place text), length-drop place text)

    newline : (found : Option ℕ) → IsBehind place (length text) found
        → MetLies place (length text) (behind_newline place found)
    newline None lies = inside
    newline (Some at) lies = (omega (arith, lies.0), omega (arith, lies.1))

met-lies : (text : List ℕ) (vars : Variables) (check : Check) (done at : ℕ) (rule : LineRule) → at ≤ length text
    → MetLies at (length text) (met text vars check done at rule)
met-lies text vars check done at Any inside = looked_lies text vars check done at inside
met-lies text vars check done at Next inside =
    next-line-lies text at (length text) _ inside (looked_lies text vars check done at inside)
met-lies text vars check done at Same inside =
    same-line-lies text at (length text) _ inside (looked_lies text vars check done at inside)
met-lies text vars check done at Empty inside = next-line-lies text at (length text) _ inside (empty-lies text at inside)

-- ---- a directive

-- a part lies between two offsets, or a fault lies in the text
abbrev pub OutcomeLies : (ℕ → Type 0) → ℕ → ℕ → Result Matched Fault → Type 0
OutcomeLies IsNumber from to (Ok m) = (from ≤ m.from) × (m.to ≤ to)
OutcomeLies IsNumber from to (Err fault) = FaultLies IsNumber to fault

module _ (IsNumber : ℕ → Type 0) where
  if-met-lies : (check : Check) (place from to : ℕ) (r : Result Met FaultKind) (on : Met → Came) → IsNumber check.number
      → MetLies from to r
      → ((m : Met) → from ≤ m.span.from → m.span.to ≤ to → OutcomeLies IsNumber place to (on m).outcome)
      → OutcomeLies IsNumber place to (if_met check r on).outcome
  if-met-lies check place from to (Ok m) on is lies rest = rest m lies.0 lies.1
  if-met-lies check place from to (Err kind) on is lies rest = (is, lies)

  began-behind : (place done at first : ℕ) → place ≤ at → place ≤ first → place ≤ began_at done at first
  began-behind place done at first low before = each (done == 0)
    where
      each : (test : Bool) → place ≤ cond test at first
      each true = low
      each false = before

  counted-lies : (text : List ℕ) (check : Check) (place left done : ℕ) (vars : Variables) (first at : ℕ)
      → IsNumber check.number → place ≤ first → place ≤ at → at ≤ length text
      → OutcomeLies IsNumber place (length text) (counted text check left done vars first at).outcome
  unfolding counted
  counted-lies text check place zero done vars first at is begun low inside = (begun, inside)
  counted-lies text check place (suc left) done vars first at is begun low inside =
      if-met-lies check place at (length text) _ _ is (met-lies text vars check done at check.demand.rule inside)
      (λ m from to. counted-lies text check place left (done + 1) (bound_all vars m.fresh)
      (began_at done m.span.from first) m.span.to is
      (began-behind place done m.span.from first (omega (arith, low, from)) begun)
      (omega (arith, low, from, m.span.ordered)) to)

  -- a directive at a place
  pub came_lies : (text : List ℕ) (vars : Variables) (place : ℕ) (check : Check) → place ≤ length text
      → IsNumber check.number → OutcomeLies IsNumber place (length text) (came text vars place check).outcome
  came_lies text vars place check inside is =
      counted-lies text check place check.demand.times 0 vars place place is (omega arith) (omega arith) inside

-- ---- a group

overlap-lies : (to : ℕ) (m range : Span) → range.to ≤ to → overlaps m range ≡ true
    → (m.from < range.to) × (range.to ≤ to)
overlap-lies to m range low is = each (nat_lt m.from range.to) refl is
  where
    each : (test : Bool) → nat_lt m.from range.to ≡ test → (test && nat_lt range.from m.to) ≡ true
        → (m.from < range.to) × (range.to ≤ to)
    each true below both = (grind (arith, nat_tests, below), low)
    each false below both = absurd (true≢false (sym both))

lowest-lies : (to : ℕ) (m : Span) (ranges : List Span) → AllByRecursion (EndsBy to) ranges
    → IfSome (lowest m ranges) (λ range. (m.from < range.to) × (range.to ≤ to))
unfolding lowest
lowest-lies to m [] ends = tt
lowest-lies to m (range ∷ ranges) ends = each (overlaps m range) refl (lowest-lies to m ranges ends.1)
  where
    each : (test : Bool) → overlaps m range ≡ test
        → IfSome (lowest m ranges) (λ range. (m.from < range.to) × (range.to ≤ to))
        → IfSome (cond test (Some range) (lowest m ranges)) (λ range. (m.from < range.to) × (range.to ≤ to))
    each true is rest = overlap-lies to m range ends.0 is
    each false is rest = rest

module _ (try : ℕ → Result Met FaultKind) (ranges : List Span) (place to : ℕ) (ends : AllByRecursion (EndsBy to) ranges)
    (tries : (from : ℕ) → from ≤ to → MetLies from to (try from)) where
  settled-lies : (from : ℕ) (r : Result Met FaultKind) (again : ℕ → Result Met FaultKind) → place ≤ from
      → MetLies from to r → ((next : ℕ) → place ≤ next → next ≤ to → MetLies place to (again next))
      → MetLies place to (settled ranges r again)
  settled-lies from (Err kind) again low lies rest = lies
  settled-lies from (Ok m) again low lies rest = each (lowest m.span ranges) (lowest-lies to m.span ranges ends)
    where
      each : (found : Option Span) → IfSome found (λ range. (m.span.from < range.to) × (range.to ≤ to))
          → MetLies place to (moved_on m found again)
      each None is = (omega (arith, low, lies.0), lies.1)
      each (Some range) is = rest range.to (omega (arith, low, lies.0, is.0)) is.1

  tried_lies : (left from : ℕ) → place ≤ from → from ≤ to → MetLies place to (tried try ranges left from)
  unfolding tried
  tried_lies zero from low inside = met-earlier place from to (try from) low (tries from inside)
  tried_lies (suc left) from low inside =
      settled-lies from (try from) (tried try ranges left) low (tries from inside)
      (λ next low inside. tried_lies left next low inside)

module _ (IsNumber : ℕ → Type 0) where
  group-lies : (text : List ℕ) (place : ℕ) (vars : Variables) (ranges : List Span) (reached : Matched)
      (checks : List Check) → place ≤ length text → AllByRecursion (EndsBy (length text)) ranges → place ≤ reached.from
      → reached.to ≤ length text
      → AllByRecursion (λ check. IsNumber check.number) checks
      → OutcomeLies IsNumber place (length text) (group text place vars ranges reached checks).outcome
  unfolding group
  group-lies text place vars ranges reached [] inside ends low high are = (low, high)
  group-lies text place vars ranges reached (check ∷ checks) inside ends low high are =
      if-met-lies IsNumber check place place (length text) (placed text vars ranges check place) _ are.0
      (tried_lies (looked text vars check 0) ranges place (length text) ends (looked_lies text vars check 0)
      (length text - place) place (omega arith) inside)
      (λ m from to. group-lies text place (bound_all vars m.fresh) (placed_among m.span ranges) (reach reached m.span)
      checks inside (ends_each (length text) m.span ranges to ends) (omega (arith, low, from)) (omega (arith, high, to))
      are.1)

  -- a group at a place
  pub group_lies : (text : List ℕ) (place : ℕ) (vars : Variables) (checks : List Check) → place ≤ length text
      → AllByRecursion (λ check. IsNumber check.number) checks
      → OutcomeLies IsNumber place (length text) (group_at text place vars checks).outcome
  group_lies text place vars checks inside are =
      group-lies text place vars [] (record { from = length text; to = place }) checks inside tt inside inside are

  -- ---- a region

  excluded-lies : (from to : ℕ) (answer : Sought) → IsWithin from to answer → IfSome (excluded_by answer) (OffsetsLie to)
  excluded-lies from to (Found span fresh) within = omega (arith, within.1, span.ordered)
  excluded-lies from to Absent within = tt
  excluded-lies from to (UndefinedNames names) within = tt
  excluded-lies from to Range within = tt
  excluded-lies from to ZeroDivisor within = tt
  excluded-lies from to (Unreadable span) within = omega (arith, within, span.ordered)

  before-lies : (to : ℕ) (check : Check) (found : Option FaultKind) (faults : List Fault) → IsNumber check.number
      → IfSome found (OffsetsLie to) → AllByRecursion (FaultLies IsNumber to) faults
      → AllByRecursion (FaultLies IsNumber to) (fault_before check found faults)
  before-lies to check None faults is lies rest = rest
  before-lies to check (Some kind) faults is lies rest = ((is, lies), rest)

  pub region_lies : (text : List ℕ) (from : ℕ) (vars : Variables) (nots : List Check) → from ≤ length text
      → AllByRecursion (λ check. IsNumber check.number) nots
      → AllByRecursion (FaultLies IsNumber (length text)) (region text from vars nots)
  unfolding region
  region_lies text from vars [] inside are = tt
  region_lies text from vars (check ∷ nots) inside are =
      before-lies (length text) check (excluded_by (sought check.pattern vars text from check.line)) _ are.0
      (excluded-lies from (length text) _ (sought_within check.pattern.fold text from _ inside))
      (region_lies text from vars nots inside are.1)
