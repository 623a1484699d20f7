-- Shown: a group goes on with a member that is placed, and ends at one that fails or behind the last.
-- Idea: what is left of the members decides what is left of the group.
-- The hard one is `group_goes_on`.
use Rattle.std.proofs.Common.{◌≡◌, ℕ, suc, ◌+◌, ◌<◌, ◌≤◌, List, [], ◌∷◌, Ok, Err, length, get_or, drop, sym, ◌∙◌, ap, drop-cons, add-one, arith}
use Rattle.std.proofs.lemmas.List.{drop_all}
use Rattle.tt_base.specs.declared.place.Span.{Span}
use Rattle.check_group.specs.declared.answer.Met.{Met}
use Rattle.check_group.specs.declared.answer.Matched.{Matched}
use Rattle.check_group.specs.declared.directive.Check.{Check}
use Rattle.check_group.specs.declared.fault.FaultKind.{FaultKind}
use Rattle.pattern_vars.specs.Vars.{bound_all}
use Rattle.check_group.specs.Changes.{Variables}
use Rattle.check_group.specs.Matches.{Came, behind, fails, if_met}
use Rattle.check_group.specs.Continues.{Comes, Continues, LiesIn}
use Rattle.check_group.proofs.ContinuesLemmas.{continues_behind, continues_end}
use Rattle.check_group.specs.Group.{group, placed, placed_among, reach}

-- what a group spans stays within
pub reach_lies : (from to : ℕ) (reached : Matched) (m : Span) → LiesIn from to reached → from ≤ m.from → m.to ≤ to → LiesIn from to (reach reached m)
reach_lies from to reached m lies low high =
    (omega (arith, lies.0, low), omega (arith, lies.1), omega (arith, lies.2, high))

module _ (text : List ℕ) (place : ℕ) (vars : Variables) (ranges : List Span) (reached : Matched) (checks : List Check) (index : ℕ) where
  group-drop : (one : Check) → index < length checks → one ≡ get_or checks index one
      → group text place vars ranges reached (drop index checks)
      ≡ if_met one (placed text vars ranges one place) (λ m. behind m.fresh (group text place (bound_all vars m.fresh) (placed_among m.span ranges) (reach reached m.span) (drop (index + 1) checks)))
  unfolding group
  group-drop one within is =
      ap (group text place vars ranges reached) (drop-cons checks index one within ∙ ap (λ d. d ∷ drop (suc index) checks) (sym is)
      ∙ ap (λ n. one ∷ drop n checks) (sym (add-one index)))

  -- a member that is placed
  pub group_on : (one : Check) (m : Met) → index < length checks → one ≡ get_or checks index one → Ok m ≡ placed text vars ranges one place
      → group text place vars ranges reached (drop index checks)
      ≡ behind m.fresh (group text place (bound_all vars m.fresh) (placed_among m.span ranges) (reach reached m.span) (drop (index + 1) checks))
  group_on one m within is met =
      group-drop one within is
      ∙ ap (λ r. if_met one r (λ m. behind m.fresh (group text place (bound_all vars m.fresh) (placed_among m.span ranges) (reach reached m.span) (drop (index + 1) checks)))) (sym met)

  -- one that isn't
  pub group_fails : (one : Check) (kind : FaultKind) → index < length checks → one ≡ get_or checks index one → Err kind ≡ placed text vars ranges one place
      → group text place vars ranges reached (drop index checks) ≡ fails one kind
  group_fails one kind within is met =
      group-drop one within is
      ∙ ap (λ r. if_met one r (λ m. behind m.fresh (group text place (bound_all vars m.fresh) (placed_among m.span ranges) (reach reached m.span) (drop (index + 1) checks)))) (sym met)

  -- none is left
  pub group_end : length checks ≤ index → group text place vars ranges reached (drop index checks) ≡ record { outcome = Ok reached; changes = [] }
  unfolding group
  group_end ends = ap (group text place vars ranges reached) (drop_all index checks ends)

  -- behind a member that is placed the loop goes on
  pub group_goes_on : (whole : Came) (old vars' : Variables) (ranges' : List Span) (reached' : Matched) (one : Check) (m : Met) → index < length checks → one ≡ get_or checks index one
      → Ok m ≡ placed text vars ranges one place → vars' ≡ bound_all vars m.fresh → ranges' ≡ placed_among m.span ranges → reached' ≡ reach reached m.span
      → Continues whole (group text place vars ranges reached (drop index checks)) old vars
      → Continues whole (group text place vars' ranges' reached' (drop (index + 1) checks)) old vars'
  group_goes_on whole old vars' ranges' reached' one m within is met bound_now placed_now reached_now on =
      let rest = drop (index + 1) checks in
      continues_behind whole _ _ old vars vars' m.fresh on
      (group_on one m within is met
      ∙ ap (λ v. behind m.fresh (group text place v (placed_among m.span ranges) (reach reached m.span) rest)) (sym bound_now)
      ∙ ap (λ r. behind m.fresh (group text place vars' r (reach reached m.span) rest)) (sym placed_now)
      ∙ ap (λ r. behind m.fresh (group text place vars' ranges' r rest)) (sym reached_now))
      bound_now

  -- a member that isn't placed ends it
  pub group_ends_failed : (whole : Came) (old : Variables) (one : Check) (kind : FaultKind) → index < length checks → one ≡ get_or checks index one
      → Err kind ≡ placed text vars ranges one place
      → Continues whole (group text place vars ranges reached (drop index checks)) old vars
      → Comes whole old (Err (record { directive = one.number; kind = kind })) vars
  group_ends_failed whole old one kind within is met on =
      let failed = group_fails one kind within is met in
      continues_end whole _ old vars _ on (ap (λ c. c.changes) failed) (sym (ap (λ c. c.outcome) failed))

  -- the last member ends it
  pub group_ends : (whole : Came) (old : Variables) → length checks ≤ index
      → Continues whole (group text place vars ranges reached (drop index checks)) old vars
      → Comes whole old (Ok reached) vars
  group_ends whole old ends on =
      let all = group_end ends in
      continues_end whole _ old vars _ on (ap (λ c. c.changes) all) (sym (ap (λ c. c.outcome) all))
