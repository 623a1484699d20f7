-- One more member of the same text.
-- Shown: where a member was placed, the tries of one more of the same text come to what they come to from behind that match.
-- Idea: all its tries up to there overlap the same ranges as before. The hard ones are `lowest_kept` and `resumed`.
use Rattle.std.proofs.Common.{◌≡◌, ℕ, zero, suc, ◌+◌, ◌-◌, ◌<◌, ◌≤◌, ◌⊎◌, ⊎_elim, Bool, true, false, cond, ◌&&◌, List, [], ◌∷◌, length, get_or, Option, Some, None, IfSome, Result, Ok, Err, IfOk, refl, sym, ◌∙◌, ap, subst, arith, All}
use Rattle.std.specs.List.{AllByRecursion}
use Rattle.std.proofs.Math.Nat.{le_refl}
use Rattle.std.proofs.lemmas.Bool.{lt-ltb}
use Rattle.std.proofs.lemmas.List.Elements.{recursion_from_All}
use Rattle.pattern_scan.specs.Seek.{IsWithin, sought}
use Rattle.pattern_scan.specs.declared.sought.Sought.{Sought}
use Rattle.pattern_scan.specs.declared.sought.Sought.TheVariants.{Found, Absent, UndefinedNames, Range, ZeroDivisor, Unreadable}
use Rattle.pattern_scan.proofs.SeekLemmas.{pattern_within, plain_alike}
use Rattle.tt_base.specs.declared.place.Span.{Span}
use Rattle.check_group.specs.Changes.{Variables}
use Rattle.check_group.specs.Matches.{answered, looked}
use Rattle.check_group.specs.declared.answer.Met.{Met}
use Rattle.check_group.specs.declared.directive.Check.{Check}
use Rattle.check_group.specs.declared.fault.FaultKind.{FaultKind}
use Rattle.check_group.specs.declared.fault.FaultKind.TheVariants as fault
use Rattle.check_group.specs.Group.{AreInOrder, AreSameText, EndsBy, IsTriedFrom, is_lower, lowest, moved_on, overlaps, placed, placed_among, settled, tried}
use Rattle.check_group.proofs.OrderLemmas.{free_of, lower_if, lowest_has, lowest_past}

-- ---- the ranges with one more

overlaps_itself : (m : Span) → m.from < m.to → overlaps m m ≡ true
overlaps_itself m some = (λ n. lt-ltb m.from m.to some n && lt-ltb m.from m.to some n)

itself_cond : (m range : Span) (ranges : List Span) (test : Bool) → m.from < m.to → overlaps m range ≡ false
    → lowest m (placed_among m ranges) ≡ Some m → lowest m (cond test (range ∷ placed_among m ranges) (m ∷ range ∷ ranges)) ≡ Some m
unfolding lowest
itself_cond m range ranges true some free later =
    ap (λ b. cond b (Some range) (lowest m (placed_among m ranges))) free ∙ later
itself_cond m range ranges false some free later =
    ap (λ b. cond b (Some m) (lowest m (range ∷ ranges))) (overlaps_itself m some)

-- a match is the lowest that it overlaps, once it stands among ranges of which it overlaps none
found_itself : (m : Span) (ranges : List Span) → m.from < m.to → lowest m ranges ≡ None → lowest m (placed_among m ranges) ≡ Some m
unfolding lowest placed_among
found_itself m [] some free = ap (λ b. cond b (Some m) None) (overlaps_itself m some)
found_itself m (range ∷ ranges) some free =
    let both = free_of m range ranges free in
    itself_cond m range ranges (is_lower range m) some both.0 (found_itself m ranges some both.1)

ended_cond : (test : Bool) (one range : Span) (rest : Option Span) → cond test (Some one) rest ≡ Some range
    → (rest ≡ Some range → one.to ≤ range.to) → one.to ≤ range.to
ended_cond true one range rest is later = subst (λ o. IfSome o (λ x. one.to ≤ x.to)) is (le_refl one.to)
ended_cond false one range rest is later = later is

kept_cond : (test : Bool) (one range : Span) (rest more : Option Span) → cond test (Some one) rest ≡ Some range
    → (rest ≡ Some range → more ≡ Some range) → cond test (Some one) more ≡ Some range
kept_cond true one range rest more is later = is
kept_cond false one range rest more is later = later is

-- another match overlaps the same one as before, if that ends where the first begins or before
lowest_kept : (other m range : Span) (ranges : List Span) → m.from < m.to → AreInOrder ranges → range.to ≤ m.from
    → lowest other ranges ≡ Some range → lowest other (placed_among m ranges) ≡ Some range
unfolding lowest placed_among
lowest_kept other m range [] some order low is = cc
lowest_kept other m range (one ∷ ranges) some order low is =
    let ended : one.to ≤ range.to =
    ended_cond (overlaps other one) one range (lowest other ranges) is
    (λ later. let behind = lowest_has (λ x. one.to ≤ x.from) other range ranges order.0 later in omega (arith, behind, range.ordered)) in
    ap (λ b. lowest other (cond b (one ∷ placed_among m ranges) (m ∷ one ∷ ranges))) (lower_if one m (omega (arith, ended, low)) some)
    ∙ kept_cond (overlaps other one) one range (lowest other ranges) (lowest other (placed_among m ranges)) is
    (λ later. lowest_kept other m range ranges some order.1 low later)

-- ---- the tries

module _ (try : ℕ → Result Met FaultKind) (ranges : List Span) (to : ℕ) (m : Met)
    (lies : (from : ℕ) → from ≤ to → IfOk (try from) (λ n. (from ≤ n.span.from) × (n.span.to ≤ to)))
    (order : AreInOrder ranges) (ends : AllByRecursion (EndsBy to) ranges) (some : m.span.from < m.span.to) (free : lowest m.span ranges ≡ None) where
  -- a chain from an offset that came to the match goes, with one range more, as one from behind the match
  abbrev pub Resumed : ℕ → ℕ → Type 0
  Resumed left from = (from ≤ m.span.from) × (fewer : ℕ) × (to ≤ m.span.to + fewer)
      × (tried try (placed_among m.span ranges) fewer m.span.to ≡ tried try (placed_among m.span ranges) left from)

  moved : (left from : ℕ) (n : Met) (low : Option Span) → try from ≡ Ok n → lowest n.span ranges ≡ low → from ≤ to → to ≤ from + suc left
      → moved_on n low (tried try ranges left) ≡ Ok m
      → ((next : ℕ) → next ≤ to → to ≤ next + left → tried try ranges left next ≡ Ok m → Resumed left next)
      → Resumed (suc left) from
  unfolding tried
  moved left from n None is none within enough last on =
      let more = placed_among m.span ranges in
      let found : try from ≡ Ok m = is ∙ last in
      let fits = subst (λ r. IfOk r (λ n. (from ≤ n.span.from) × (n.span.to ≤ to))) found (lies from within) in (
        fits.0,
        left,
        omega (arith, enough, fits.0, some),
        sym (ap (λ r. settled more r (tried try more left)) found
            ∙ ap (λ o. moved_on m o (tried try more left)) (found_itself m.span ranges some free)),
      )
  moved left from n (Some range) is lower within enough last on =
      let more = placed_among m.span ranges in
      let fits = subst (λ r. IfOk r (λ n. (from ≤ n.span.from) × (n.span.to ≤ to))) is (lies from within) in
      let past : n.span.from < range.to = lowest_past n.span range ranges lower in
      let inside : range.to ≤ to = lowest_has (EndsBy to) n.span range ranges ends lower in
      let rest = on range.to inside (omega (arith, enough, fits.0, past)) last in (
        omega (arith, fits.0, past, rest.0),
        rest.1,
        rest.2,
        rest.3 ∙ sym (ap (λ r. settled more r (tried try more left)) is
            ∙ ap (λ o. moved_on n o (tried try more left)) (lowest_kept n.span m.span range ranges some order rest.0 lower)),
      )

  settles : (left from : ℕ) (met : Result Met FaultKind) → try from ≡ met → from ≤ to → to ≤ from + suc left
      → settled ranges met (tried try ranges left) ≡ Ok m
      → ((next : ℕ) → next ≤ to → to ≤ next + left → tried try ranges left next ≡ Ok m → Resumed left next)
      → Resumed (suc left) from
  settles left from (Err kind) is within enough last on = cc
  settles left from (Ok n) is within enough last on = moved left from n (lowest n.span ranges) is refl within enough last on

  pub resumed : (left from : ℕ) → from ≤ to → to ≤ from + left → tried try ranges left from ≡ Ok m → Resumed left from
  unfolding tried
  resumed zero from within enough last =
      let fits = subst (λ r. IfOk r (λ n. (from ≤ n.span.from) × (n.span.to ≤ to))) last (lies from within) in
      absurd (omega (arith, within, enough, fits.0, fits.1, some))
  resumed (suc left) from within enough last =
      settles left from (try from) refl within enough last (λ next low enough is. resumed left next low enough is)

-- ---- the members of a group

-- the tries of one more member of a member's text may begin behind
abbrev pub Resumes : List ℕ → Variables → List Span → ℕ → Check → ℕ → Type 0
Resumes text vars ranges place prev behind =
    (next : Check) → AreSameText prev next → (place ≤ behind) × (behind ≤ length text) × IsTriedFrom text vars ranges next place behind

same_looked : (text : List ℕ) (vars vars' : Variables) (one other : Check) (from : ℕ) → AreSameText one other
    → looked text vars one 0 from ≡ looked text vars' other 0 from
same_looked text vars vars' one other from same =
    ap (λ answer. answered answer (fault.NotFound from 0))
    (plain_alike vars vars' one.line other.line one.pattern other.pattern same.0 text from same.1 same.2)

met_lies : (answer : Sought) (absent : FaultKind) (from to : ℕ) → IsWithin from to answer
    → IfOk (answered answer absent) (λ n. (from ≤ n.span.from) × (n.span.to ≤ to))
met_lies (Found span fresh) absent from to lies = lies
met_lies Absent absent from to lies = tt
met_lies (UndefinedNames names) absent from to lies = tt
met_lies Range absent from to lies = tt
met_lies ZeroDivisor absent from to lies = tt
met_lies (Unreadable span) absent from to lies = tt

looked_lies : (text : List ℕ) (vars : Variables) (check : Check) (from : ℕ) → from ≤ length text
    → IfOk (looked text vars check 0 from) (λ n. (from ≤ n.span.from) × (n.span.to ≤ length text))
looked_lies text vars check from within =
    met_lies (sought check.pattern vars text from check.line) (fault.NotFound from 0) from (length text)
    (pattern_within check.pattern vars text from check.line within)

-- from the place itself they always may
pub resumes_here : (text : List ℕ) (vars : Variables) (ranges : List Span) (place : ℕ) (next : Check) → place ≤ length text
    → (place ≤ place) × (place ≤ length text) × IsTriedFrom text vars ranges next place place
resumes_here text vars ranges place next here = (le_refl place, here, (length text - place, omega (arith, here), refl))

pub resumes_behind : (text : List ℕ) (vars vars' : Variables) (ranges : List Span) (place : ℕ) (prev : Check) (m : Met) → place ≤ length text
    → AreInOrder ranges → All (EndsBy (length text)) ranges → m.span.from < m.span.to → m.span.to ≤ length text → lowest m.span ranges ≡ None
    → Ok m ≡ placed text vars ranges prev place → Resumes text vars' (placed_among m.span ranges) place prev m.span.to
resumes_behind text vars vars' ranges place prev m here order ends some high free is next same =
    let all = resumed (looked text vars prev 0) ranges (length text) m (looked_lies text vars prev) order
    (recursion_from_All (EndsBy (length text)) ranges ends) some free (length text - place) place here (omega (arith, here)) (sym is) in (
      omega (arith, all.0, some),
      high,
      (
        all.1,
        all.2,
        subst (λ try. tried try (placed_among m.span ranges) all.1 m.span.to
            ≡ tried try (placed_among m.span ranges) (length text - place) place) (λ n from. same_looked text vars vars' prev next from same n) all.3,
      ),
    )

-- behind a match that was placed
pub resumes_on : (text : List ℕ) (vars vars' : Variables) (ranges ranges' : List Span) (place : ℕ) (prev : Check) (m : Met) (behind : ℕ)
    → place ≤ length text → AreInOrder ranges → All (EndsBy (length text)) ranges → m.span.to ≤ length text → lowest m.span ranges ≡ None
    → Ok m ≡ placed text vars ranges prev place → ranges' ≡ placed_among m.span ranges
    → (behind ≡ place) ⊎ ((behind ≡ m.span.to) × (m.span.from < m.span.to)) → Resumes text vars' ranges' place prev behind
resumes_on text vars vars' ranges ranges' place prev m behind here order ends high free is more tried_next =
    subst (λ rs. Resumes text vars' rs place prev behind) (sym more)
    (⊎_elim
    (λ (at : behind ≡ place). subst (Resumes text vars' (placed_among m.span ranges) place prev) (sym at)
    (λ next same. resumes_here text vars' (placed_among m.span ranges) place next here))
    (λ (past : (behind ≡ m.span.to) × (m.span.from < m.span.to)).
    subst (Resumes text vars' (placed_among m.span ranges) place prev) (sym past.0)
    (resumes_behind text vars vars' ranges place prev m here order ends past.1 high free is))
    tried_next)

-- where the tries of a member begin they may
pub begins_well : (text : List ℕ) (vars : Variables) (ranges : List Span) (place behind start : ℕ) (checks : List Check) (index : ℕ) (one : Check)
    → place ≤ length text → one ≡ get_or checks index one
    → (start ≡ place) ⊎ ((start ≡ behind) × (0 < index)
    × ((any : Check) → AreSameText (get_or checks (index - 1) any) (get_or checks index any)))
    → ((any : Check) → 0 < index → Resumes text vars ranges place (get_or checks (index - 1) any) behind)
    → (place ≤ start) × (start ≤ length text) × IsTriedFrom text vars ranges one place start
begins_well text vars ranges place behind start checks index one here is begun resumes =
    ⊎_elim
    (λ (at : start ≡ place). subst (λ from. (place ≤ from) × (from ≤ length text) × IsTriedFrom text vars ranges one place from) (sym at)
    (resumes_here text vars ranges place one here))
    (λ (past : (start ≡ behind) × (0 < index) × ((any : Check) → AreSameText (get_or checks (index - 1) any) (get_or checks index any))).
    subst (λ from. (place ≤ from) × (from ≤ length text) × IsTriedFrom text vars ranges one place from) (sym past.0)
    (resumes one past.1 one (subst (AreSameText (get_or checks (index - 1) one)) (sym is) (past.2 one))))
    begun

get_any : (checks : List Check) (k : ℕ) (one other : Check) → k < length checks → get_or checks k one ≡ get_or checks k other
get_any [] k one other low = absurd (omega (arith, low))
get_any (check ∷ checks) zero one other low = refl
get_any (check ∷ checks) (suc k) one other low = get_any checks k one other (omega (arith, low))

-- the member before the next one is this one
pub member_before : (checks : List Check) (index : ℕ) (this one : Check) → index < length checks → this ≡ get_or checks index this
    → this ≡ get_or checks (index + 1 - 1) one
member_before checks index this one low is =
    let back : index ≡ index + 1 - 1 = omega arith in
    is ∙ get_any checks index this one low ∙ ap (λ k. get_or checks k one) back
