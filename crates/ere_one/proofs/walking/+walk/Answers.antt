-- The walk along an expression: what is told of each form is what the lemmas on leaves and on walks say of it.
-- The loop over parts tells of those from a place of the list on, and each turn joins one part to them.
-- The long goal is `walk_all-loop-index-preserved`.
use Rattle.std.proofs.Common.{◌≡◌, sym, ap, ◌∙◌, subst}
use Rattle.ere_tree.specs.Tree.{Tree, plain, group}
use Rattle.ere_tree.specs.View.{view}
use Rattle.ere_tree.proofs.ViewLemmas.{view_Empty, view_Plain, view_Set, view_LineStart, view_LineEnd, view_Group}
use Rattle.ere_one.specs.Walk.{Tells}
use Rattle.ere_one.specs.declared.walking.Walked.TheVariants.{Ends, Nowhere}
use Rattle.ere_one.proofs.LeafLemmas.{told_empty}
use Rattle.ere_one.proofs.WalkLemmas.{told_group, one_more, none_there, none_left, end_within, span_of}
use Rattle.ere_one.proofs.walking.+walk.Goals as goal

pub walk_all-returns-in-Nowhere : goal.walk_all-returns-in-Nowhere
walk_all-returns-in-Nowhere t c =
    c.loop-index.invariant.rest Nowhere
    (none_there c.args.slice.now c.args.parts.now c.loop-index.index c.index-parts-index.result c.args.follow
    c.behind-this.result c.loop-index.place c.loop-index-test.true c.index-parts-index.is c.in-Nowhere.ensures)

pub walk_all-loop-index-preserved : goal.walk_all-loop-index-preserved
walk_all-loop-index-preserved t c = record {
  within =
      let s = c.args.slice.now in
      let one = view c.index-parts-index.result in
      (end_within s one c.loop-index.place c.in-Ends.end
      (span_of s one c.loop-index.place c.in-Ends.end c.in-Ends.ensures.spans)).1;
  rest = λ r told. c.loop-index.invariant.rest r
      (one_more c.args.slice.now c.args.parts.now c.loop-index.index c.index-parts-index.result c.args.follow
      c.behind-this.result c.loop-index.place c.in-Ends.end r c.loop-index-test.true c.index-parts-index.is
      (rw c.split_at.ensures.back at c.behind-this.ensures) c.in-Ends.ensures told);
}

pub walk_all-returns : goal.walk_all-returns
walk_all-returns t c =
    c.loop-index.invariant.rest (Ends c.loop-index.place)
    (none_left c.args.slice.now c.args.parts.now c.loop-index.index c.args.follow c.loop-index.place
    c.loop-index-test.false c.loop-index.invariant.within)

pub walk_before-returns-in-Empty : goal.walk_before-returns-in-Empty
walk_before-returns-in-Empty t c =
    subst (λ (t : Tree). Tells c.args.slice.now t c.args.follow c.args.at (Ends c.args.at))
    (sym (ap view c.in-Empty.is ∙ view_Empty)) (told_empty c.args.slice.now c.args.at c.args.follow c.requires)

pub walk_before-returns-in-Plain : goal.walk_before-returns-in-Plain
walk_before-returns-in-Plain t c =
    subst (λ (t : Tree). Tells c.args.slice.now t c.args.follow c.args.at c.walk_bytes.result)
    (ap plain c.as_slice.ensures ∙ sym (ap view c.in-Plain.is ∙ view_Plain c.in-Plain.run'))
    (c.walk_bytes.ensures c.args.follow)

pub walk_before-returns-in-Set : goal.walk_before-returns-in-Set
walk_before-returns-in-Set t c =
    subst (λ (t : Tree). Tells c.args.slice.now t c.args.follow c.args.at c.walk_set.result)
    (sym (ap view c.in-Set.is ∙ view_Set c.in-Set.set)) (c.walk_set.ensures c.args.follow)

pub walk_before-returns-in-LineStart : goal.walk_before-returns-in-LineStart
walk_before-returns-in-LineStart t c =
    subst (λ (t : Tree). Tells c.args.slice.now t c.args.follow c.args.at c.walk_line_start.result)
    (sym (ap view c.in-LineStart.is ∙ view_LineStart)) (c.walk_line_start.ensures c.args.follow)

pub walk_before-returns-in-LineEnd : goal.walk_before-returns-in-LineEnd
walk_before-returns-in-LineEnd t c =
    subst (λ (t : Tree). Tells c.args.slice.now t c.args.follow c.args.at c.walk_line_end.result)
    (sym (ap view c.in-LineEnd.is ∙ view_LineEnd)) (c.walk_line_end.ensures c.args.follow)

pub walk_before-returns-in-Group : goal.walk_before-returns-in-Group
walk_before-returns-in-Group t c =
    let number = c.in-Group.number in
    let tree : group number (view c.deref-in-Group.result.now) ≡ view c.args.ere.now =
    ap (λ x. group number (view x)) c.deref-in-Group.ensures
    ∙ sym (ap view c.in-Group.is ∙ view_Group number c.in-Group.inner) in
    subst (λ x. Tells c.args.slice.now x c.args.follow c.args.at c.walk_before.result) tree
    (told_group c.args.slice.now number (view c.deref-in-Group.result.now) c.args.follow c.args.at c.walk_before.result
    c.walk_before.ensures)
