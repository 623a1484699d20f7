use Rattle.std.proofs.Common.{◌==◌, ◌∙◌, ap, rules, tests}
use Rattle.std.specs.List.{fold}
use Rattle.std.proofs.lemmas.Iterator.Consumers.{YieldsList-at}
use Rattle.std.proofs.lemmas.Iterator.Splits.{YieldsList-from_slice_split}
use Rattle.lit_paths.specs.Paths.{with_part}
use Rattle.lit_paths.proofs.PartLemmas.{all_yielded}
use Rattle.lit_paths.proofs.reading.add_parts.Goals as goal

pub returns : goal.returns
returns c =
    c.loop-part.invariant
    ∙ ap (fold with_part c.args.path.now.items)
    (all_yielded (λ part. part.now) _ c.loop-part.yielded _ c.loop-part.yielded_by _ _ c.in-None.is c.next.ensures.steps
    (YieldsList-at c.into_iter-part-iterator.ensures.into_iter_gives
    (YieldsList-from_slice_split _ (λ byte. byte == 47) c.args.text.now c.split-part-items.ensures.rest
    c.split-part-items.ensures.done c.split-part-items.ensures.closure (λ x r q k. search (rules, tests)))))
