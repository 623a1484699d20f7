-- Shown: NEXT, SAME and EMPTY match on their lines, a region is clear where each NOT is absent, and NOTs are tested between their
-- neighbours. Idea: a match on another line is a fault; NOTs wait, in order, for what closes their region. The hard one is
-- `waiting`.
use Rattle.std.proofs.Common.{◌≡◌, ◌≤◌, ℕ, ◌==◌, Bool, true, false, cond, List, [], ◌∷◌, ◌++◌, append_assoc, append-nil, length, map, Result, Ok, Err, IfOk, refl, sym, ◌∙◌, ap, subst}
use Rattle.std.specs.List.{AllByRecursion}
use Rattle.std.proofs.lemmas.Bool.{eqb-true}
use Rattle.pattern_scan.specs.Seek.{sought}
use Rattle.pattern_scan.specs.declared.sought.Sought.{Sought}
use Rattle.pattern_scan.specs.declared.sought.Sought.TheVariants.{Found, Absent, UndefinedNames, Range, ZeroDivisor, Unreadable}
use Rattle.pattern_vars.specs.Vars.{bound_all}
use Rattle.check_group.proofs.LiesLemmas.{OutcomeLies, came_lies}
use Rattle.check_group.specs.Alone.{began_at, came, counted, met}
use Rattle.check_group.specs.Changes.{Variables, changed}
use Rattle.check_group.specs.Lines.{behind_newline, empty_line, newlines, on_next_line, on_same_line}
use Rattle.check_group.specs.Matches.{Came, behind, if_met, looked}
use Rattle.check_group.specs.Region.{excluded_by, fault_before, region}
use Rattle.check_group.specs.declared.answer.Matched.{Matched}
use Rattle.check_group.specs.declared.answer.Met.{Met}
use Rattle.check_group.specs.declared.directive.Check.{Check}
use Rattle.pattern_parse.specs.declared.demand.LineRule.{LineRule}
use Rattle.pattern_parse.specs.declared.demand.LineRule.TheVariants.{Next, Same, Empty}
use Rattle.check_group.specs.declared.fault.Fault.{Fault}
use Rattle.check_group.specs.declared.fault.FaultKind.{FaultKind}
use Rattle.check_group.specs.declared.fault.FaultKind.TheVariants.{NotSameLine, WrongLine}
use Rattle.check_scan.specs.Block.{End, block, closed, closed_by, unless}
use Rattle.check_scan.specs.Parts.{Part, Positive, came_of, finish, negative, positive}
use Rattle.scan_laws.specs.Steps.{IsAbsent, LiesOnLine, MatchesLieOnLines, RegionsAreClear, RegionsLieBetween, rest_of}

-- ---- lines

-- what one match of a directive comes to
once : List ℕ → Variables → ℕ → Check → Result Met FaultKind → Came
once text vars place check r =
    if_met check r (λ m. behind m.fresh
    (counted text check 0 1 (bound_all vars m.fresh) (began_at 0 m.span.from place) m.span.to))

came-once : (text : List ℕ) (vars : Variables) (place : ℕ) (check : Check) (rule : LineRule) → check.demand.rule ≡ rule
    → check.demand.times ≡ 1 → once text vars place check (met text vars check 0 place rule) ≡ came text vars place check
unfolding once counted
came-once text vars place check rule is one =
    ap (λ r. once text vars place check (met text vars check 0 place r)) (sym is)
    ∙ ap (λ n. counted text check n 0 vars place place) (sym one)

next_line : (text : List ℕ) (vars : Variables) (place : ℕ) (check : Check) (r : Result Met FaultKind)
    → IfOk (once text vars place check (on_next_line text place r)).outcome (λ m. newlines text place m.from ≡ 1)
unfolding once counted
next_line text vars place check (Err kind) = tt
next_line text vars place check (Ok m) =
    each (newlines text place m.span.from == 1) refl
  where
    each : (test : Bool) → (newlines text place m.span.from == 1) ≡ test
        → IfOk (once text vars place check (cond test (Ok m)
        (Err (WrongLine m.span.from place (newlines text place m.span.from))))).outcome
        (λ (one : Matched). newlines text place one.from ≡ 1)
    each true is = eqb-true (newlines text place m.span.from) 1 is
    each false is = tt

same_line : (text : List ℕ) (vars : Variables) (place : ℕ) (check : Check) (r : Result Met FaultKind)
    → IfOk (once text vars place check (on_same_line text place r)).outcome (λ m. newlines text place m.from ≡ 0)
unfolding once counted
same_line text vars place check (Err kind) = tt
same_line text vars place check (Ok m) =
    each (newlines text place m.span.from == 0) refl
  where
    each : (test : Bool) → (newlines text place m.span.from == 0) ≡ test
        → IfOk (once text vars place check (cond test (Ok m) (Err (NotSameLine m.span.from place)))).outcome
        (λ (one : Matched). newlines text place one.from ≡ 0)
    each true is = eqb-true (newlines text place m.span.from) 0 is
    each false is = tt

-- what lies behind the place and has its newlines
both : (text : List ℕ) (place count to : ℕ) (r : Result Matched Fault)
    → OutcomeLies (λ n. Unit {0}) place to r → IfOk r (λ m. newlines text place m.from ≡ count)
    → IfOk r (LiesOnLine text place count)
both text place count to (Ok m) lies lines = record { behind = lies.0; lines = lines }
both text place count to (Err fault) lies lines = tt

on-line : (text : List ℕ) (vars : Variables) (place count : ℕ) (check : Check) (rule : LineRule) → check.demand.rule ≡ rule
    → check.demand.times ≡ 1 → place ≤ length text
    → IfOk (once text vars place check (met text vars check 0 place rule)).outcome (λ m. newlines text place m.from ≡ count)
    → IfOk (came text vars place check).outcome (LiesOnLine text place count)
on-line text vars place count check rule is one inside lines =
    both text place count (length text) _ (came_lies (λ n. Unit {0}) text vars place check inside tt)
    (subst (λ c. IfOk c.outcome (λ m. newlines text place m.from ≡ count)) (came-once text vars place check rule is one) lines)

pub matches_lie_on_lines : MatchesLieOnLines
matches_lie_on_lines = record {
  next = λ text vars place check is one inside. on-line text vars place 1 check Next is one inside
      (next_line text vars place check (looked text vars check 0 place));
  same = λ text vars place check is one inside. on-line text vars place 0 check Same is one inside
      (same_line text vars place check (looked text vars check 0 place));
  empty = λ text vars place check is one inside. on-line text vars place 1 check Empty is one inside
      (next_line text vars place check (behind_newline place (empty_line text place)));
}

-- ---- regions

-- a fault in front of others is one
told : (check : Check) (answer : Sought) (faults : List Fault) → fault_before check (excluded_by answer) faults ≡ []
    → (answer ≡ Absent) × (faults ≡ [])
told check (Found span fresh) faults is = cc
told check Absent faults is = (refl, is)
told check (UndefinedNames names) faults is = cc
told check Range faults is = cc
told check ZeroDivisor faults is = cc
told check (Unreadable span) faults is = cc

clear : (text : List ℕ) (from : ℕ) (vars : Variables) (nots : List Check) → region text from vars nots ≡ []
    → AllByRecursion (IsAbsent text from vars) nots
unfolding region
clear text from vars [] is = tt
clear text from vars (check ∷ nots) is =
    let one = told check (sought check.pattern vars text from check.line) (region text from vars nots) is in
    (one.0, clear text from vars nots one.1)

clear_back : (text : List ℕ) (from : ℕ) (vars : Variables) (nots : List Check)
    → AllByRecursion (IsAbsent text from vars) nots → region text from vars nots ≡ []
unfolding region
clear_back text from vars [] all = refl
clear_back text from vars (check ∷ nots) all =
    ap (λ answer. fault_before check (excluded_by answer) (region text from vars nots)) all.0
    ∙ clear_back text from vars nots all.1

pub regions_are_clear : RegionsAreClear
regions_are_clear = record { clear = clear; back = clear_back }

-- NOTs wait, in order, behind those that do
waiting : (text : List ℕ) (always nots pending : List Check) (parts : List Part) (place : ℕ) (vars : Variables)
    → block text always (map negative nots ++ parts) place pending vars
    ≡ block text always parts place (pending ++ nots) vars
unfolding block
waiting text always [] pending parts place vars =
    ap (λ all. block text always parts place all vars) (sym (append-nil pending))
waiting text always (check ∷ nots) pending parts place vars =
    waiting text always nots (pending ++ check ∷ []) parts place vars
    ∙ ap (λ all. block text always parts place all vars) (append_assoc pending (check ∷ []) nots)

at_match : (text : List ℕ) (always nots : List Check) (part : Positive) (parts : List Part) (place : ℕ) (vars : Variables)
    → block text always (positive part ∷ parts) place nots vars
    ≡ closed text place vars (always ++ nots) (came_of text vars place part) (rest_of text always parts)
unfolding block
at_match text always nots part parts place vars = refl

at_finish : (text : List ℕ) (always nots : List Check) (place : ℕ) (vars : Variables)
    → (block text always (finish ∷ []) place nots vars).faults ≡ region text place vars (always ++ nots)
unfolding block
at_finish text always nots place vars = each (region text place vars (always ++ nots))
  where
    each : (faults : List Fault) → (unless faults (block text always [] place [] vars)).faults ≡ faults
    each [] = refl
    each (fault ∷ faults) = refl

pub regions_lie_between : RegionsLieBetween
regions_lie_between = record {
  matched = λ text always nots part parts place vars m is.
      ap (λ (end : End). end.faults) (waiting text always nots [] (positive part ∷ parts) place vars
      ∙ at_match text always nots part parts place vars)
      ∙ ap (λ r. (closed_by text place (changed vars (came_of text vars place part).changes) (always ++ nots) r
      (rest_of text always parts)).faults) is;
  ended = λ text always nots place vars.
      ap (λ (end : End). end.faults) (waiting text always nots [] (finish ∷ []) place vars)
      ∙ at_finish text always nots place vars;
}
