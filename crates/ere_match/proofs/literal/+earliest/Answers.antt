use Rattle.std.proofs.Common.{◌≡◌, map, sym, ap, ◌∙◌, subst, arith, below_more, slice_index_or, true≢false}
use Rattle.std.proofs.lemmas.Bool.{not-true}
use Rattle.std.proofs.lemmas.List.{get_or_default}
use Rattle.ere_tree.specs.Tree.{group, cat, trees_of}
use Rattle.ere_tree.specs.View.{view}
use Rattle.ere_tree.proofs.ViewLemmas.{view_Group}
use Rattle.ere_tree.specs.declared.ere.Ere as kind
use Rattle.ere_match.specs.Begins.{NoneBefore, may_hold_newline}
use Rattle.ere_match.proofs.BeginsLemmas.{group_begins, nowhere, first_begins, line_begins}
use Rattle.ere_match.proofs.literal.+earliest.Goals as goal
use Rattle.ere_match.proofs.literal.+earliest.Goals.{earliest_of_all-then-index-eq0, earliest_of_all-else-index-eq0+then-in_line, earliest_of_all-else-index-eq0+else-in_line, earliest_of_all-then-in_line-2, earliest_of_all-else-in_line-2}

pub earliest-returns-in-Group : goal.earliest-returns-in-Group
earliest-returns-in-Group t c =
    let number = c.in-Group.number in
    let tree : group number (view c.deref.result.now) ≡ view c.args.ere.now =
    ap (λ x. group number (view x)) c.deref.ensures
    ∙ sym (ap view c.in-Group.is ∙ view_Group number c.in-Group.inner) in
    subst (λ x. NoneBefore c.args.slice.now x c.earliest.result) tree
    (group_begins c.args.slice.now (view c.deref.result.now) number c.earliest.result c.earliest.ensures)

pub earliest_of_all-returns-then-place-slice : goal.earliest_of_all-returns-then-place-slice
earliest_of_all-returns-then-place-slice t c =
    nowhere c.args.slice.now c.args.parts.now c.loop-index.index c.earliest-place.result c.index-parts-index.result
    (omega arith) c.index-parts-index.is c.earliest-place.ensures (omega arith)

pub earliest_of_all-loop-index-preserved : goal.earliest_of_all-loop-index-preserved
earliest_of_all-loop-index-preserved t c =
    let s = c.args.slice.now in
    let xs = c.args.parts.now in
    let i = c.loop-index.index in
    let one = c.index-parts-index.result in
    let is = c.index-parts-index.is in
    let place = c.earliest-place.result in
    let old = c.loop-index.invariant in
    record {
      none = elim c.if-index-eq0.branch [
        | earliest_of_all-then-index-eq0 w ↦
            let first : one ≡ slice_index_or xs 0 one = is ∙ ap (λ k. slice_index_or xs k one) w.if-index-eq0.true in
            subst (NoneBefore s (cat (trees_of (map view xs)))) (sym w.begin-is)
            (first_begins s xs place one (omega arith) (subst (λ e. NoneBefore s (view e) place) first c.earliest-place.ensures))
        | earliest_of_all-else-index-eq0+then-in_line w ↦
            subst (NoneBefore s (cat (trees_of (map view xs)))) (sym w.begin-is)
            (line_begins s xs i c.loop-index.begin place w.line_start-begin.result one (omega arith) is c.earliest-place.ensures
            (old.line w.if-in_line.true) old.none w.line_start-begin.ensures)
        | earliest_of_all-else-index-eq0+else-in_line w ↦
            subst (NoneBefore s (cat (trees_of (map view xs)))) (sym w.begin-is) old.none
      ];
      line = elim c.if-in_line-2.branch [
        | earliest_of_all-then-in_line-2 w ↦ λ on. below_more _ _ (old.line w.if-in_line-2.true)
            (ap (λ e. may_hold_newline (view e)) (sym (is ∙ get_or_default xs i one kind.Empty (omega arith)))
            ∙ sym w.may_hold_newline.ensures ∙ not-true w.may_hold_newline.result (sym w.in_line-is ∙ on))
        | earliest_of_all-else-in_line-2 w ↦ λ on. absurd (true≢false (sym on ∙ w.in_line-is ∙ w.if-in_line-2.false))
      ];
    }
