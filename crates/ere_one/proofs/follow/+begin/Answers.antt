use Rattle.std.proofs.Common.{◌≡◌, List, map, sym, ap, ◌∙◌, subst}
use Rattle.ere_tree.specs.Tree.{group, cat, trees_of}
use Rattle.ere_tree.specs.View.{view}
use Rattle.ere_tree.proofs.ViewLemmas.{view_Group}
use Rattle.ere_tree.specs.declared.ere.Ere.{Ere}
use Rattle.ere_one.specs.Walk.{BeginsAs}
use Rattle.ere_one.proofs.WalkLemmas.{group_begins, cat_begins}
use Rattle.ere_one.proofs.follow.+begin.Goals as goal

pub begin_of-returns-in-Group : goal.begin_of-returns-in-Group
begin_of-returns-in-Group t c =
    let number = c.in-Group.number in
    let tree : group number (view c.deref.result.now) ≡ view c.args.ere.now =
    ap (λ x. group number (view x)) c.deref.ensures
    ∙ sym (ap view c.in-Group.is ∙ view_Group number c.in-Group.inner) in
    subst (BeginsAs c.begin_of.result) tree
    (group_begins number (view c.deref.result.now) c.begin_of.result c.begin_of.ensures)

pub begin_of_all-returns-in-Some : goal.begin_of_all-returns-in-Some
begin_of_all-returns-in-Some t c =
    let list = c.in-Some.ensures.cases.0 in
    subst (λ (xs : List Ere). BeginsAs c.begin_of.result (cat (trees_of (map view xs)))) (sym list)
    (cat_begins (view c.in-Some.part.now) _ c.begin_of.result
    c.begin_of.ensures)
