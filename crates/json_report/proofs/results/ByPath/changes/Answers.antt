use Rattle.std.proofs.Common.{◌≡◌, ◌++◌, Some, ap, append-nil, filter, map, sym, subst, ◌∙◌}
use Rattle.std.proofs.lemmas.List.Elements.{recursion_from_All}
use Rattle.std.specs.List.{AllByRecursion}
use Rattle.json_report.specs.Changes.{both_at, by_paths, differs}
use Rattle.json_report.proofs.BothLemmas.{change_of, changes_agree, each_under}
use Rattle.json_report.proofs.results.ByPath.changes.Goals as goal

pub returns : goal.returns
returns c old new both agrees =
    let held = c.self.inside.held.entries in
    sym (append-nil c.loop-path.found)
    ∙ sym (ap (λ rest. c.loop-path.found ++ filter (λ change. differs change.old change.new) (map change_of (by_paths rest))) c.in-None.ensures.steps.0)
    ∙ c.loop-path.invariant
    ∙ changes_agree c.args.self.now old new both agrees
    (subst (λ known. AllByRecursion (λ e. both_at known e.0 ≡ Some e.1) known) c.self.view_is
    (each_under held held (recursion_from_All _ _ c.into_iter-path-iterator.ensures.into_iter_gives.6)))
