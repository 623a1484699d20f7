-- Loops over directives, by what is done and what is left.
-- Shown: a loop begins, binds, ends and is left with its part of the changes. Idea: changes behind changes are one list.
-- The hard one is `continues_behind`, where a match binds.
use Rattle.std.proofs.Common.{◌≡◌, List, [], ◌∷◌, ◌++◌, Result, Ok, Err, OnErr, refl, sym, ◌∙◌, ap, append_assoc, subst}
use Rattle.std.proofs.lemmas.List.{append-nil}
use Rattle.pattern_vars.specs.declared.binding.Binding.{Binding}
use Rattle.check_group.specs.declared.answer.Matched.{Matched}
use Rattle.check_group.specs.declared.fault.Fault.{Fault}
use Rattle.pattern_vars.specs.Vars.{bound_all}
use Rattle.pattern_vars.proofs.VarsLemmas.{have_places_bound, have_places_forgotten}
use Rattle.pattern_scan.specs.Seek.{names_of}
use Rattle.check_group.specs.Changes.{Change, IsPartWay, IsReady, Variables, binds, changed, changed_once, forgets}
use Rattle.check_group.specs.declared.directive.Check.{Check}
use Rattle.check_group.specs.Matches.{Came, behind}
use Rattle.check_group.specs.Continues.{Comes, Continues}

-- ---- changed

pub changed_append : (vars : Variables) (xs ys : List Change) → changed vars (xs ++ ys) ≡ changed (changed vars xs) ys
unfolding changed
changed_append vars [] ys = refl
changed_append vars (change ∷ xs) ys = changed_append (changed_once vars change) xs ys

pub changed_none : (vars : Variables) → vars ≡ changed vars []
unfolding changed
changed_none vars = refl

pub changed_binds : (vars : Variables) (fresh : List Binding) → bound_all vars fresh ≡ changed vars (binds fresh ∷ [])
unfolding changed
changed_binds vars fresh = refl

pub none_changed : (changes : List Change) (vars : Variables) → IsPartWay changes vars vars
none_changed changes vars = ([], changes, refl, changed_none vars)

-- what can be sought and bound can be so behind changes
ready_once : (vars : Variables) (change : Change) (check : Check) → IsReady vars check → IsReady (changed_once vars change) check
ready_once vars (binds fresh) check is =
    record { searchable = is.searchable; placed = have_places_bound vars fresh (names_of check.pattern) is.placed }
ready_once vars forgets check is =
    record { searchable = is.searchable; placed = have_places_forgotten vars (names_of check.pattern) is.placed }

pub ready_still : (vars : Variables) (changes : List Change) (check : Check) → IsReady vars check → IsReady (changed vars changes) check
unfolding changed
ready_still vars [] check is = is
ready_still vars (change ∷ changes) check is = ready_still (changed_once vars change) changes check (ready_once vars change check is)

-- ---- Continues

-- nothing is done
pub continues_whole : (whole : Came) (vars : Variables) → Continues whole whole vars vars
continues_whole whole vars = record { done = []; vars = changed_none vars; outcome = refl; changes = refl }

-- a match was bound
pub continues_behind : (whole rest rest' : Came) (old now now' : Variables) (fresh : List Binding) → Continues whole rest old now
    → rest ≡ behind fresh rest' → now' ≡ bound_all now fresh → Continues whole rest' old now'
continues_behind whole rest rest' old now now' fresh on is binds_now = record {
  done = on.done ++ binds fresh ∷ [];
  vars = binds_now ∙ ap (λ v. bound_all v fresh) on.vars ∙ changed_binds (changed old on.done) fresh ∙ sym (changed_append old on.done (binds fresh ∷ []));
  outcome = ap (λ c. c.outcome) (sym is) ∙ on.outcome;
  changes = append_assoc on.done (binds fresh ∷ []) rest'.changes ∙ ap (λ c. on.done ++ c.changes) (sym is) ∙ on.changes;
}

-- nothing more changes
pub continues_end : (whole rest : Came) (old now : Variables) (outcome : Result Matched Fault) → Continues whole rest old now → rest.changes ≡ []
    → outcome ≡ rest.outcome → Comes whole old outcome now
continues_end whole rest old now outcome on none is = record {
  outcome = is ∙ on.outcome;
  vars = on.vars ∙ ap (changed old) (sym (append-nil on.done) ∙ ap (λ c. on.done ++ c) (sym none) ∙ on.changes);
}

-- a fault that is made in a call
pub comes_told : (whole : Came) (old new : Variables) (told fault : Fault) → told ≡ fault → Comes whole old (Err fault) new
    → Comes whole old (Err told) new
comes_told whole old new told fault is comes = record { outcome = ap Err is ∙ comes.outcome; vars = comes.vars }

-- memory runs out
pub continues_part_way : (whole rest : Came) (old now : Variables) → Continues whole rest old now → IsPartWay whole.changes old now
continues_part_way whole rest old now on = (on.done, rest.changes, on.changes, on.vars)

pub part_way_any : {A E : Type 0} (result : Result A E) {P : Type 0} → P → OnErr result P
part_way_any (Ok value) holds = tt
part_way_any (Err fault) holds = holds

-- what can be sought and bound still can
pub continues_ready : (whole rest : Came) (old now : Variables) (check : Check) → Continues whole rest old now → IsReady old check
    → IsReady now check
continues_ready whole rest old now check on is = subst (λ v. IsReady v check) (sym on.vars) (ready_still old on.done check is)
