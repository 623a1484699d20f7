use Rattle.std.proofs.Common.{List, subst, inl, inr}
use Rattle.std.proofs.lemmas.List.Elements.{Contains-push_cases}
use Rattle.std.specs.List.{Contains}
use Rattle.ere_tree.specs.View.{view}
use Rattle.ere_tree.specs.declared.ere.Ere.{Ere}
use Rattle.ere_relaxed.specs.CopiesView.{copies_of}
use Rattle.ere_relaxed.specs.Freed.{StandsFor}
use Rattle.ere_relaxed.proofs.FreedLemmas.{stands_for}
use Rattle.ere_relaxed.proofs.freed.by_groups.Goals as goal

pub loop-number-preserved : goal.loop-number-preserved
loop-number-preserved c = λ one at.
    let made = c.in_ok-freed_by.field-0 in
    elim (Contains-push_cases c.loop-number.all.items made one
    (subst (λ (all : List Ere). Contains all one) c.in_ok-push.ensures.items at)) [
      | inl was ↦ c.loop-number.invariant one was
      | inr is ↦
          subst (λ (e : Ere). StandsFor (view c.args.ere.now) (view e)) is
          (stands_for (copies_of c.in_ok-copies.copies.items) (view c.args.ere.now) (view made) c.in_ok-copies.ensures
          (rw c.as_slice.ensures.value at c.in_ok-freed_by.ensures))
    ]
