-- Shown: the matches of a group share no byte, each is the last of a chain of tries, and the group is what they are.
-- Idea: a match overlaps none of the ranges before it, among which those of the earlier members are; what a search finds lies
-- in its slice, so a range that it overlaps ends behind the search's start. The hard one is `apart_from`.
use Rattle.std.proofs.Common.{◌≡◌, ℕ, suc, ◌-◌, ◌<◌, ◌≤◌, Bool, true, false, ◌&&◌, cond, List, [], ◌∷◌, Some, Result, Ok, Err, IfOk, length, map, refl, sym, ap, subst, arith, true≢false}
use Rattle.std.specs.Prelude.{nat_lt, IfSome}
use Rattle.std.specs.List.{AllByRecursion}
use Rattle.std.proofs.lemmas.Bool.Decides.{nat_tests}
use Rattle.tt_base.specs.declared.place.Span.{Span}
use Rattle.pattern_vars.specs.Vars.{bound_all}
use Rattle.check_group.proofs.LawLemmas.{chain_apart, tries_chain}
use Rattle.check_group.proofs.LiesLemmas.{MetLies, looked_lies}
use Rattle.check_group.proofs.PlacedLemmas.{ends_each}
use Rattle.check_group.specs.Changes.{Variables, binds}
use Rattle.check_group.specs.Group.{EndsBy, IsChain, group, is_lower, lowest, overlaps, placed, placed_among, reach}
use Rattle.check_group.specs.Laws.{Advances}
use Rattle.check_group.specs.Matches.{Came, behind, if_met, looked}
use Rattle.check_group.specs.declared.answer.Matched.{Matched}
use Rattle.check_group.specs.declared.answer.Met.{Met}
use Rattle.check_group.specs.declared.directive.Check.{Check}
use Rattle.check_group.specs.declared.fault.FaultKind.{FaultKind}
use Rattle.scan_laws.specs.Groups.{AreApart, AreTried, EachTryBeginsBehind, GroupsAreMembers, LiesWithin, NoTwoShareBytes, ShareNone, and_members, members}

-- ---- answers

ok_more : {A E : Type 0} (P Q : A → Type 0) (r : Result A E) → ((x : A) → P x → Q x) → IfOk r P → IfOk r Q
ok_more P Q (Ok x) go is = go x is
ok_more P Q (Err e) go is = tt

ok_both : {A E : Type 0} (P Q : A → Type 0) (r : Result A E) → IfOk r P → IfOk r Q → IfOk r (λ x. P x × Q x)
ok_both P Q (Ok x) one other = (one, other)
ok_both P Q (Err e) one other = tt

-- ---- ranges that a match overlaps

begins_before : (m range : Span) → overlaps m range ≡ true → m.from < range.to
begins_before m range is = each (nat_lt m.from range.to) refl is
  where
    each : (test : Bool) → nat_lt m.from range.to ≡ test → (test && nat_lt range.from m.to) ≡ true → m.from < range.to
    each true below both = grind (arith, nat_tests, below)
    each false below both = absurd (true≢false (sym both))

low_range : (to : ℕ) (m : Span) (ranges : List Span) → AllByRecursion (EndsBy to) ranges
    → IfSome (lowest m ranges) (λ range. (m.from < range.to) × (range.to ≤ to))
unfolding lowest
low_range to m [] ends = tt
low_range to m (range ∷ ranges) ends = each (overlaps m range) refl (low_range to m ranges ends.1)
  where
    each : (test : Bool) → overlaps m range ≡ test
        → IfSome (lowest m ranges) (λ range. (m.from < range.to) × (range.to ≤ to))
        → IfSome (cond test (Some range) (lowest m ranges)) (λ range. (m.from < range.to) × (range.to ≤ to))
    each true is rest = (begins_before m range is, ends.0)
    each false is rest = rest

-- parts that don't overlap share no byte
share_none : (a b : Span) → overlaps a b ≡ false → ShareNone b a
share_none a b is at second first =
    each (nat_lt a.from b.to) (nat_lt b.from a.to) refl refl is
  where
    each : (one two : Bool) → nat_lt a.from b.to ≡ one → nat_lt b.from a.to ≡ two → (one && two) ≡ false → ⊥
    each true true below above both = true≢false both
    each true false below above both = grind (arith, nat_tests, above, second.0, first.1)
    each false two below above both = grind (arith, nat_tests, below, first.0, second.1)

-- what holds of all ranges holds of a match that was put among them, and of the others
out_of_placed : (P : Span → Type 0) (m : Span) (ranges : List Span) → AllByRecursion P (placed_among m ranges)
    → P m × AllByRecursion P ranges
unfolding placed_among
out_of_placed P m [] all = (all.0, tt)
out_of_placed P m (range ∷ ranges) all = each (out_of_placed P m ranges) (is_lower range m) all
  where
    each : (AllByRecursion P (placed_among m ranges) → P m × AllByRecursion P ranges) → (test : Bool)
        → AllByRecursion P (cond test (range ∷ placed_among m ranges) (m ∷ range ∷ ranges))
        → P m × AllByRecursion P (range ∷ ranges)
    each go true these = let rest = go these.1 in (rest.0, (these.0, rest.1))
    each go false these = (these.0, these.1)

-- ---- a member's tries

module _ (text : List ℕ) (place : ℕ) (inside : place ≤ length text) where
  -- the ranges so far lie in the text
  abbrev Within : List Span → Type 0
  Within ranges = AllByRecursion (EndsBy (length text)) ranges

  advances : (vars : Variables) (ranges : List Span) (check : Check) → Within ranges
      → Advances (looked text vars check 0) ranges (length text)
  advances vars ranges check ends from m range within is lower =
      let lies : MetLies from (length text) (Ok m) =
      subst (MetLies from (length text)) is (looked_lies text vars check 0 from within) in
      let moved : (m.span.from < range.to) × (range.to ≤ length text) =
      subst (λ found. IfSome found (λ r. (m.span.from < r.to) × (r.to ≤ length text))) lower
      (low_range (length text) m.span ranges ends) in
      (omega (arith, lies.0, moved.0), moved.1)

  chain : (vars : Variables) (ranges : List Span) (check : Check) → Within ranges
      → (starts : List ℕ) × IsChain (looked text vars check 0) ranges place starts (placed text vars ranges check place)
  chain vars ranges check ends =
      tries_chain (looked text vars check 0) ranges (length text) (length text - place) place
      (advances vars ranges check ends) inside (omega (arith, inside))

  -- the last of a chain lies in the text, and overlaps no range
  last_lies : (vars : Variables) (ranges : List Span) (check : Check) (from : ℕ) (starts : List ℕ)
      (met : Result Met FaultKind) → Within ranges → from ≤ length text
      → IsChain (looked text vars check 0) ranges from starts met → IfOk met (λ m. m.span.to ≤ length text)
  last_lies vars ranges check from [] (Err kind) ends within is = tt
  last_lies vars ranges check from [] (Ok m) ends within is =
      let lies : MetLies from (length text) (Ok m) =
      subst (MetLies from (length text)) (sym is.0) (looked_lies text vars check 0 from within) in lies.1
  last_lies vars ranges check from (next ∷ starts) met ends within (m, range, found, lower, goes, later, rest) =
      let moved = advances vars ranges check ends from m range within found lower in
      last_lies vars ranges check next starts met ends (subst (λ n. n ≤ length text) (sym goes) moved.1) rest

  placed_lies : (vars : Variables) (ranges : List Span) (check : Check) → Within ranges
      → IfOk (placed text vars ranges check place) (λ m. m.span.to ≤ length text)
  placed_lies vars ranges check ends =
      let all = chain vars ranges check ends in
      last_lies vars ranges check place all.0 (placed text vars ranges check place) ends inside all.1

  placed_apart : (vars : Variables) (ranges : List Span) (check : Check) → Within ranges
      → IfOk (placed text vars ranges check place) (λ m. AllByRecursion (λ r. overlaps m.span r ≡ false) ranges)
  placed_apart vars ranges check ends =
      let all = chain vars ranges check ends in
      chain_apart (looked text vars check 0) ranges place all.0 (placed text vars ranges check place) all.1

  -- ---- the members

  tried_each : (checks : List Check) (vars : Variables) (ranges : List Span) → Within ranges
      → AreTried text place vars ranges checks
  tried_each [] vars ranges ends = tt
  tried_each (check ∷ checks) vars ranges ends = (
    chain vars ranges check ends,
    ok_more _ _ (placed text vars ranges check place)
        (λ m lies. tried_each checks (bound_all vars m.fresh) (placed_among m.span ranges)
        (ends_each (length text) m.span ranges lies ends)) (placed_lies vars ranges check ends),
  )

  -- matches overlap none of some ranges
  abbrev Clear : List Span → List Met → Type 0
  Clear ranges ms = AllByRecursion (λ (m : Met). AllByRecursion (λ r. overlaps m.span r ≡ false) ranges) ms

  -- what is clear of a match put among ranges shares no byte with it, and is clear of the ranges
  clear_of_one : (m : Met) (ranges : List Span) (ms : List Met) → Clear (placed_among m.span ranges) ms
      → AllByRecursion (λ (other : Met). ShareNone m.span other.span) ms × Clear ranges ms
  clear_of_one m ranges [] clear = (tt, tt)
  clear_of_one m ranges (other ∷ ms) clear =
      let both = out_of_placed (λ r. overlaps other.span r ≡ false) m.span ranges clear.0 in
      let rest = clear_of_one m ranges ms clear.1 in
      ((share_none other.span m.span both.0, rest.0), (both.1, rest.1))

  apart_from : (checks : List Check) (vars : Variables) (ranges : List Span) → Within ranges
      → Clear ranges (members text place vars ranges checks) × AreApart (members text place vars ranges checks)
  apart_from [] vars ranges ends = (tt, tt)
  apart_from (check ∷ checks) vars ranges ends =
      each (λ m lies. apart_from checks (bound_all vars m.fresh) (placed_among m.span ranges)
      (ends_each (length text) m.span ranges lies ends))
      (placed text vars ranges check place) (placed_lies vars ranges check ends) (placed_apart vars ranges check ends)
    where
      later : Met → List Met
      later m = members text place (bound_all vars m.fresh) (placed_among m.span ranges) checks

      each : ((m : Met) → m.span.to ≤ length text → Clear (placed_among m.span ranges) (later m) × AreApart (later m))
          → (met : Result Met FaultKind) → IfOk met (λ m. m.span.to ≤ length text)
          → IfOk met (λ m. AllByRecursion (λ r. overlaps m.span r ≡ false) ranges)
          → Clear ranges (and_members met later) × AreApart (and_members met later)
      each go (Err kind) lies clear = (tt, tt)
      each go (Ok m) lies clear =
          let rest = go m lies in
          let split = clear_of_one m ranges (later m) rest.0 in
          ((clear, split.1), (split.0, rest.1))

pub no_two_share_bytes : NoTwoShareBytes
no_two_share_bytes text place vars checks inside = (apart_from text place inside checks vars [] tt).1

pub each_try_begins_behind : EachTryBeginsBehind
each_try_begins_behind text place vars checks inside = tried_each text place inside checks vars [] tt

-- ---- the group

-- what some members that are left come to, where so much was reached before them, and their matches
record Comes (came : Came) (reached : Matched) (count : ℕ) (ms : List Met) : Type 0 where
  changes : came.changes ≡ map (λ (m : Met). binds m.fresh) ms
  each : IfOk came.outcome (λ m. length ms ≡ count)
  grows : IfOk came.outcome (λ m. (m.from ≤ reached.from) × (reached.to ≤ m.to))
  spans : IfOk came.outcome (λ m. AllByRecursion (LiesWithin m) ms)

-- the same behind a member, by what it comes to
comes_met : (check : Check) (reached : Matched) (count : ℕ) (met : Result Met FaultKind) (rest : Met → Came)
    (later : Met → List Met) → ((m : Met) → Comes (rest m) (reach reached m.span) count (later m))
    → Comes (if_met check met (λ m. behind m.fresh (rest m))) reached (suc count) (and_members met later)
comes_met check reached count (Err kind) rest later go = record { changes = refl; each = tt; grows = tt; spans = tt }
comes_met check reached count (Ok m) rest later go =
    let next = go m in
    let outcome = (rest m).outcome in
    record {
      changes = ap (λ cs. binds m.fresh ∷ cs) next.changes;
      each = ok_more _ _ outcome (λ x same. ap suc same) next.each;
      grows = ok_more _ _ outcome (λ x wide. (omega (arith, wide.0), omega (arith, wide.1))) next.grows;
      spans = ok_more _ _ outcome (λ x both. ((omega (arith, both.0.0), omega (arith, both.0.1)), both.1))
          (ok_both _ _ outcome next.grows next.spans);
    }

comes_from : (text : List ℕ) (place : ℕ) (checks : List Check) (vars : Variables) (ranges : List Span)
    (reached : Matched)
    → Comes (group text place vars ranges reached checks) reached (length checks) (members text place vars ranges checks)
unfolding group
comes_from text place [] vars ranges reached =
    record { changes = refl; each = refl; grows = (omega arith, omega arith); spans = tt }
comes_from text place (check ∷ checks) vars ranges reached =
    comes_met check reached (length checks) (placed text vars ranges check place)
    (λ m. group text place (bound_all vars m.fresh) (placed_among m.span ranges) (reach reached m.span) checks)
    (λ m. members text place (bound_all vars m.fresh) (placed_among m.span ranges) checks)
    (λ m. comes_from text place checks (bound_all vars m.fresh) (placed_among m.span ranges) (reach reached m.span))

pub groups_are_members : GroupsAreMembers
groups_are_members text place vars checks =
    let all = comes_from text place checks vars [] (record { from = length text; to = place }) in
    record { changes = all.changes; each = all.each; spans = all.spans }
