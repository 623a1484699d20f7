use Rattle.std.proofs.Common.{◌∷◌, map, arith}
use Rattle.std.proofs.lemmas.Result.{IfOk-weaker}
use Rattle.ere_tree.specs.View.{view}
use Rattle.ere_captures.proofs.EndsLemmas.{all_lead, in_set, greatest_is_end}
use Rattle.ere_captures.proofs.WalkLemmas.{all_is_part}
use Rattle.ere_captures.proofs.ends.part_end.Goals as goal

pub fill-requires-clause-order : goal.fill-requires-clause-order
fill-requires-clause-order c =
    let lies = all_is_part c.args.input.now.text.now (view c.args.first.now ∷ map view c.args.others.now) c.args.from c.args.input.now.to
    c.requires.span in omega (arith, lies.0, c.requires.order)

pub fill-requires-clause-within : goal.fill-requires-clause-within
fill-requires-clause-within c =
    (all_is_part c.args.input.now.text.now (view c.args.first.now ∷ map view c.args.others.now) c.args.from c.args.input.now.to
    c.requires.span).1

pub greatest_end-requires-clause-order : goal.greatest_end-requires-clause-order
greatest_end-requires-clause-order c =
    (all_is_part c.args.input.now.text.now (view c.args.first.now ∷ map view c.args.others.now) c.args.from c.args.input.now.to
    c.requires.span).0

pub greatest_end-requires-clause-within : goal.greatest_end-requires-clause-within
greatest_end-requires-clause-within c =
    (all_is_part c.args.input.now.text.now (view c.args.first.now ∷ map view c.args.others.now) c.args.from c.args.input.now.to
    c.requires.span).1

pub greatest_end-requires-clause-some : goal.greatest_end-requires-clause-some
greatest_end-requires-clause-some c =
    let s = c.args.input.now.text.now in
    let lead = all_lead s c.args.others.now c.args.input.now.from c.args.input.now.to c.fill.new.held c.index.result.now
    c.in_ok-fill.ensures.held c.in_ok-fill.ensures.long c.index.ensures in
    in_set s (view c.args.first.now) (map view c.args.others.now) c.args.input.now.from c.args.from c.args.input.now.to c.index.result.now
    lead c.requires.order c.requires.span

pub returns-clause-end : goal.returns-clause-end
returns-clause-end c =
    let s = c.args.input.now.text.now in
    let lead = all_lead s c.args.others.now c.args.input.now.from c.args.input.now.to c.fill.new.held c.index.result.now
    c.in_ok-fill.ensures.held c.in_ok-fill.ensures.long c.index.ensures in
    IfOk-weaker c.greatest_end.result _ _ (greatest_is_end s (view c.args.first.now) (map view c.args.others.now)
    c.args.input.now.from c.args.from c.args.input.now.to c.index.result.now lead c.requires.order) c.greatest_end.ensures
