use Rattle.std.proofs.Common.{map, ap, sym, ◌∙◌}
use Rattle.std.proofs.lemmas.List.{take_all}
use Rattle.ere_tree.specs.Folded.{folded}
use Rattle.ere_tree.specs.Tree.{trees_of}
use Rattle.ere_tree.specs.View.{view}
use Rattle.ere_tree.proofs.FoldedLemmas.{all_folded_map}
use Rattle.ere_tree.proofs.ere.+fold.Goals as goal

pub EreList::in_both_cases-returns : goal.EreList::in_both_cases-returns
EreList::in_both_cases-returns t c =
    let items = c.deref-one-items.result.now in
    ap trees_of (c.loop-one.invariant
    ∙ ap (λ xs. map folded (map view xs)) (take_all c.loop-one.one-index items c.loop-one-test.false
    ∙ c.deref-one-items.ensures.value))
    ∙ sym (all_folded_map (map view c.args.self.now.held.items))
