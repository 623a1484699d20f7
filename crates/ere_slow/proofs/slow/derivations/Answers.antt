use Rattle.std.proofs.Common.{◌≡◌, map, ap, ◌∙◌}
use Rattle.std.proofs.lemmas.Result.{IfOk-weaker}
use Rattle.std.specs.FinMap.{empty}
use Rattle.ere_tree.specs.View.{view}
use Rattle.ere_slow.specs.WayView.{captures_of}
use Rattle.ere_slow.specs.Listing.{found_of, all_ways}
use Rattle.ere_slow.specs.Slow.{AreAllDerivations}
use Rattle.ere_slow.proofs.SlowLemmas.{derived_are_listed}
use Rattle.ere_slow.proofs.slow.derivations.Goals as goal

pub returns-clause-complete : goal.returns-clause-complete
returns-clause-complete c =
    let s = c.args.text.now in
    let t = view c.args.ere.now in
    let i = c.args.from in
    IfOk-weaker c.ways_of.result (λ ds. map found_of ds.items ≡ all_ways s t i (captures_of c.none-unset.result))
    (λ ds. AreAllDerivations s t i empty ds.items)
    (λ ds e. derived_are_listed s t i empty ds.items (e ∙ ap (all_ways s t i) c.none-unset.ensures))
    c.ways_of.ensures
