-- The matches of a directive, one by one, by what is done and what is left.
use Rattle.std.proofs.Common.{◌≡◌, ℕ, suc, ◌+◌, ◌-◌, ◌<◌, ◌≤◌, List, Ok, Err, sym, ◌∙◌, ap, arith}
use Rattle.pattern_vars.specs.Vars.{bound_all}
use Rattle.check_group.specs.Alone.{began_at, counted, met}
use Rattle.check_group.specs.Changes.{Variables}
use Rattle.check_group.specs.Continues.{Comes, Continues}
use Rattle.check_group.specs.Matches.{Came, behind, fails, if_met}
use Rattle.check_group.specs.declared.answer.Met.{Met}
use Rattle.check_group.specs.declared.directive.Check.{Check}
use Rattle.check_group.specs.declared.fault.FaultKind.{FaultKind}
use Rattle.check_group.proofs.ContinuesLemmas.{continues_behind, continues_end}

module _ (text : List ℕ) (check : Check) (n done : ℕ) (vars : Variables) (first at : ℕ) (whole : Came) (old : Variables)
    (on : Continues whole (counted text check (n - done) done vars first at) old vars) where
  opened : done < n → counted text check (n - done) done vars first at
      ≡ if_met check (met text vars check done at check.demand.rule) (λ m. behind m.fresh
      (counted text check (n - (done + 1)) (done + 1) (bound_all vars m.fresh) (began_at done m.span.from first) m.span.to))
  unfolding counted
  opened more =
      let left : n - done ≡ suc (n - (done + 1)) = omega (arith, more) in
      ap (λ left. counted text check left done vars first at) left

  -- one that is found
  pub count_on : (m : Met) (new : Variables) (first' : ℕ) → done < n → Ok m ≡ met text vars check done at check.demand.rule
      → new ≡ bound_all vars m.fresh → first' ≡ began_at done m.span.from first
      → Continues whole (counted text check (n - (done + 1)) (done + 1) new first' m.span.to) old new
  count_on m new first' more found bound_now began =
      continues_behind whole _ _ old vars new m.fresh on
      (opened more
      ∙ ap (λ r. if_met check r (λ m. behind m.fresh
      (counted text check (n - (done + 1)) (done + 1) (bound_all vars m.fresh) (began_at done m.span.from first) m.span.to)))
      (sym found)
      ∙ ap (λ v. behind m.fresh (counted text check (n - (done + 1)) (done + 1) v (began_at done m.span.from first) m.span.to))
      (sym bound_now)
      ∙ ap (λ f. behind m.fresh (counted text check (n - (done + 1)) (done + 1) new f m.span.to)) (sym began))
      bound_now

  -- one that isn't
  pub count_fails : (kind : FaultKind) → done < n → Err kind ≡ met text vars check done at check.demand.rule
      → Comes whole old (Err (record { directive = check.number; kind = kind })) vars
  count_fails kind more found =
      let failed : counted text check (n - done) done vars first at ≡ fails check kind =
      opened more
      ∙ ap (λ r. if_met check r (λ m. behind m.fresh
      (counted text check (n - (done + 1)) (done + 1) (bound_all vars m.fresh) (began_at done m.span.from first) m.span.to)))
      (sym found) in
      continues_end whole _ old vars _ on (ap (λ c. c.changes) failed) (sym (ap (λ c. c.outcome) failed))

  -- none is left
  pub count_ends : n ≤ done → Comes whole old (Ok (record { from = first; to = at })) vars
  unfolding counted
  count_ends ends =
      let none : n - done ≡ 0 = omega (arith, ends) in
      let all = ap (λ left. counted text check left done vars first at) none in
      continues_end whole _ old vars _ on (ap (λ c. c.changes) all) (sym (ap (λ c. c.outcome) all))
