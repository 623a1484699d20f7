-- Loops over parts and over blocks, by what is done and what is left.
-- Shown: steps behind steps are steps, an end behind steps is an end, and so is a way part of which was gone. Idea: changes
-- behind changes are one list, and so are faults. The hard one is `runs_trans`.
use Rattle.std.proofs.Common.{◌≡◌, ℕ, List, [], ◌++◌, All, Result, Ok, Err, refl, sym, ◌∙◌, ap, append_assoc, subst, get_or}
use Rattle.tt_base.specs.declared.memory.NoMemory.{NoMemory}
use Rattle.check_group.specs.Changes.{Change, IsPartWay, IsReady, Variables, changed}
use Rattle.check_group.specs.declared.directive.Check.{Check}
use Rattle.check_group.proofs.ContinuesLemmas.{changed_append, changed_none, ready_still}
use Rattle.check_scan.specs.Block.{End, after}
use Rattle.check_scan.specs.Runs.{Ends, Finishes, Runs, Turns}
use Rattle.check_scan.specs.declared.progress.Progress.{Progress}
use Rattle.check_scan.specs.declared.progress.Going.{Going}
use Rattle.check_scan.specs.declared.progress.Going.TheVariants.{On, Over}

-- nothing is done
pub runs_whole : (whole : End) (at : Progress) → Runs whole whole at at
runs_whole whole at = record { done = []; vars = changed_none at.vars; faults = refl; changes = refl }

-- changes alone are done
pub runs_after : (changes : List Change) (end : End) (old new : Progress) → new.vars ≡ changed old.vars changes → new.faults ≡ old.faults
    → Runs (after changes end) end old new
runs_after changes end old new is same = record { done = changes; vars = is; faults = ap (λ fs. fs ++ end.faults) same; changes = refl }

module _ (whole rest : End) (old now : Progress) (on : Runs whole rest old now) where
  -- more is done
  pub runs_trans : (left : End) (new : Progress) → Runs rest left now new → Runs whole left old new
  runs_trans left new more = record {
    done = on.done ++ more.done;
    vars = more.vars ∙ ap (λ v. changed v more.done) on.vars ∙ sym (changed_append old.vars on.done more.done);
    faults = more.faults ∙ on.faults;
    changes = append_assoc on.done more.done left.changes ∙ ap (λ c. on.done ++ c) more.changes ∙ on.changes;
  }

  -- the rest ends
  pub runs_ends : (new : Progress) → Ends rest now new → Ends whole old new
  runs_ends new more = record {
    faults = more.faults ∙ on.faults;
    vars = more.vars ∙ ap (λ v. changed v rest.changes) on.vars ∙ sym (changed_append old.vars on.done rest.changes)
        ∙ ap (changed old.vars) on.changes;
  }

  -- memory runs out in the rest
  pub runs_part_way : (new : Variables) → IsPartWay rest.changes now.vars new → IsPartWay whole.changes old.vars new
  runs_part_way new (front, left, split, vars) = (
    on.done ++ front,
    left,
    append_assoc on.done front left ∙ ap (λ c. on.done ++ c) split ∙ on.changes,
    vars ∙ ap (λ v. changed v front) on.vars ∙ sym (changed_append old.vars on.done front),
  )

  -- what can be sought and bound still can
  pub runs_ready : (checks : List Check) → All (IsReady old.vars) checks → All (IsReady now.vars) checks
  runs_ready checks each = λ k d low.
      subst (λ v. IsReady v (get_or checks k d)) (sym on.vars) (ready_still old.vars on.done (get_or checks k d) (each k d low))

-- part of the first changes is part of all
pub part_way_front : (xs ys : List Change) (old new : Variables) → IsPartWay xs old new → IsPartWay (xs ++ ys) old new
part_way_front xs ys old new (front, left, split, vars) =
    (front, left ++ ys, sym (append_assoc front left ys) ∙ ap (λ c. c ++ ys) split, vars)

pub changed_ready : (changes : List Change) (old new : Variables) (checks : List Check) → new ≡ changed old changes
    → All (IsReady old) checks → All (IsReady new) checks
changed_ready changes old new checks is each = λ k d low.
    subst (λ v. IsReady v (get_or checks k d)) (sym is) (ready_still old changes (get_or checks k d) (each k d low))

-- what follows from what a call came to
pub finishes : (whole rest : End) (old now new : Progress) (result : Result (Unit {0}) NoMemory) → Runs whole rest old now
    → Finishes rest now new result → Finishes whole old new result
finishes whole rest old now new (Ok done) on holds = runs_ends whole rest old now on new holds
finishes whole rest old now new (Err want) on holds = runs_part_way whole rest old now on new.vars holds

pub turns_behind : (whole step : (ℕ → Variables → End) → End) (old now new : Progress) (result : Result Going NoMemory)
    → ((rest : ℕ → Variables → End) → Runs (whole rest) (step rest) old now) → Turns step now new result → Turns whole old new result
turns_behind whole step old now new (Ok On) on holds = λ rest.
    runs_trans _ _ old now (on rest) (rest new.place new.vars) new (holds rest)
turns_behind whole step old now new (Ok Over) on holds = λ rest. runs_ends _ _ old now (on rest) new (holds rest)
turns_behind whole step old now new (Err want) on holds = λ rest. runs_part_way _ _ old now (on rest) new.vars (holds rest)
